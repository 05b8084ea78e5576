use Rattle.rule.proofs.Settles.{settle_base, settle_apart, settle_equal, settle_shift, settle_inner, settle_put, settle_alpha}
use Rattle.step.proofs.Bounds.{base_count}
use Rattle.rule.proofs.check.hold.Goals as goal

pub returns-in-Equal : goal.returns-in-Equal
returns-in-Equal c = λ z. settle_equal z c.requires.k_value _ (rw c.held.ensures.room at c.compare_types.ensures) c.in-Equal.is

pub returns-in-Alpha : goal.returns-in-Alpha
returns-in-Alpha c = λ z. settle_alpha z c.requires.k_value _ (rw c.held.ensures.room at c.compare_types.ensures) c.in-Alpha.is _ c.shift.ensures _ _ c.node-top.ensures c.put_node.ensures _ c.inner.ensures

pub returns-in-Apart : goal.returns-in-Apart
returns-in-Apart c = λ z. settle_apart z c.requires.k_value _ (rw c.held.ensures.room at c.compare_types.ensures) c.in-Apart.is _ c.at.ensures

pub shift-requires-clause-to_in_bounds : goal.shift-requires-clause-to_in_bounds
shift-requires-clause-to_in_bounds c =
    settle_shift c.requires.ended c.requires.k_value _ (rw c.held.ensures.room at c.compare_types.ensures) c.in-Alpha.is

pub put_node-requires : goal.put_node-requires
put_node-requires c = settle_put c.requires.ended c.requires.k_value _ (rw c.held.ensures.room at c.compare_types.ensures) c.in-Alpha.is _ c.shift.ensures

pub inner-requires : goal.inner-requires
inner-requires c = settle_inner c.requires.ended c.requires.k_value _ (rw c.held.ensures.room at c.compare_types.ensures) c.in-Alpha.is

pub held-requires-clause-st_bound : goal.held-requires-clause-st_bound
held-requires-clause-st_bound c = base_count (settle_base c.requires.ended c.requires.k_value)
