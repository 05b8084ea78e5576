use Rattle.step.proofs.Taking.{copied_none, copied_read, copied_write, copied_more}
use Rattle.step.proofs.picture.copy_entries.Goals as goal

pub loop-i-init : goal.loop-i-init
loop-i-init c = search copied_none

pub entry_at-e-requires : goal.entry_at-e-requires
entry_at-e-requires c = search copied_read

pub insert-requires : goal.insert-requires
insert-requires c = search copied_write

pub loop-i-preserved : goal.loop-i-preserved
loop-i-preserved c = search copied_more
