use Rattle.table.proofs.Chains.{descent_start, descent_fits, descent_step}
use Rattle.table.proofs.above.find_above.Goals as goal

pub loop-n-init : goal.loop-n-init
loop-n-init c = search descent_start

pub note_children-requires : goal.note_children-requires
note_children-requires c = search descent_fits

pub loop-n-preserved : goal.loop-n-preserved
loop-n-preserved c = search descent_step
