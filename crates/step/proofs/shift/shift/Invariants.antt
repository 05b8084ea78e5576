use Rattle.step.proofs.Leaves.{Moving}
use Rattle.step.proofs.shift.shift.Given as goal

abbrev pub invariant-loop-i : goal.invariant-loop-i
invariant-loop-i l = Moving l.initial.tree l.from l.to l.i l.tree
