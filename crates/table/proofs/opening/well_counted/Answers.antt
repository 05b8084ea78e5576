use Rattle.std.proofs.Math.Bool.{and_assoc}
use Rattle.table.specs.Tests.{counts}
use Rattle.table.proofs.opening.well_counted.Goals as goal

pub returns : goal.returns
unfolding counts
returns c = simp and_assoc cc
