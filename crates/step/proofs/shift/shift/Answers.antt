use Rattle.step.proofs.Leaves.{moving_none, moving_read, moving_write, moving_more, moving_done}
use Rattle.step.proofs.shift.shift.Goals as goal

pub loop-i-init : goal.loop-i-init
loop-i-init c = search moving_none

pub record_at-r-requires : goal.record_at-r-requires
record_at-r-requires c = search moving_read

pub put-requires : goal.put-requires
put-requires c = search moving_write

pub loop-i-preserved : goal.loop-i-preserved
loop-i-preserved c = search moving_more

pub returns : goal.returns
returns c = search moving_done
