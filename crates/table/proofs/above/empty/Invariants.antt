use Rattle.table.specs.Nearest.{Vacant}
use Rattle.table.proofs.above.empty.Given as goal

abbrev pub invariant-loop-n : goal.invariant-loop-n
invariant-loop-n l = Vacant l.n l.initial.work l.work
