use Rattle.context.proofs.Laws.{Decides}
use Rattle.context.proofs.identifier_context.get_by_name.Given as goal

abbrev pub invariant-loop-i : goal.invariant-loop-i
invariant-loop-i l = Decides l.work l.len l.name.0 l.i
