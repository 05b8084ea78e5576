use Rattle.std.specs.Prelude.{Ok}
use Rattle.step.specs.Lent.{held, SameLent}
use Rattle.rule.specs.Going.{NamesIn}
use Rattle.checker.proofs.Turns.{rank, left, Going}
use Rattle.checker.proofs.+check_perform_run_synthesize.Given as goal

abbrev pub decreases-check : goal.decreases-check
decreases-check l = rank l.file.now l.k.0 1

abbrev pub decreases-perform : goal.decreases-perform
decreases-perform l = rank l.file.now l.k.0 0

abbrev pub decreases-run : goal.decreases-run
decreases-run l = rank l.file.now l.k.0 2

abbrev pub decreases-synthesize : goal.decreases-synthesize
decreases-synthesize l = rank l.file.now l.k.0 1

-- what the term goes on with, in the rooms that it was begun in and those of now; and a rest that it asks with names a rule
abbrev pub invariant-perform-loop-next : goal.invariant-perform-loop-next
invariant-perform-loop-next l =
    Going l.file (held l.fn.lent) l.fn.k l.f.want l.fn.st (held l.lent) l.next × (SameLent l.fn.lent l.lent × NamesIn (Ok l.next))

abbrev pub decreases-perform-loop-next : goal.decreases-perform-loop-next
decreases-perform-loop-next l = left l.file l.fn.k.0 l.next
