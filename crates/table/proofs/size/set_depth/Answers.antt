use Rattle.table.proofs.Heights.{used_within, deepened_one}
use Rattle.table.proofs.size.set_depth.Goals as goal

pub bounds-work-child : goal.bounds-work-child
bounds-work-child c = let a = c.args in used_within a.child a.used a.work.now c.requires c.if-used.true

pub returns-then-used : goal.returns-then-used
returns-then-used c = let a = c.args in deepened_one a.child a.d a.used a.work.now c.requires c.if-used.true
