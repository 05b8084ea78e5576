use Rattle.step.specs.Picture.{Copied}
use Rattle.step.proofs.picture.copy_entries.Given as goal

abbrev pub invariant-loop-i : goal.invariant-loop-i
invariant-loop-i l = Copied l.initial.work l.from l.to l.i l.work
