use Rattle.table.proofs.Chains.{Descent}
use Rattle.table.proofs.above.find_above.Given as goal

abbrev pub invariant-loop-n : goal.invariant-loop-n
invariant-loop-n l = Descent l.file l.n l.initial.work l.work
