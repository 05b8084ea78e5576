use Rattle.std.proofs.Common.{arith}
use Rattle.std.proofs.lemmas.Grind.{common_steps}
use Rattle.table.specs.Tests.{unless}
use Rattle.table.proofs.Headers.{counted}
use Rattle.table.proofs.chain.run_tests.Goals as goal

pub formless-requires : goal.formless-requires
unfolding unless
formless-requires c = counted _ (grind (arith, common_steps))
