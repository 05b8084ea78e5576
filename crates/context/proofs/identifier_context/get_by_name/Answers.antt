use Rattle.context.proofs.Laws.{decides_past, latest_here, latest_none}
use Rattle.context.proofs.identifier_context.get_by_name.Goals as goal

pub returns-then-eq : goal.returns-then-eq
returns-then-eq c = search latest_here

pub loop-i-preserved : goal.loop-i-preserved
loop-i-preserved c = search decides_past

pub returns : goal.returns
returns c = search latest_none
