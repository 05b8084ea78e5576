use native.Mathlib.Omega.{arith}
use Rattle.table.proofs.Heights.{body_high, left_high, right_high, leaf_height, body_height, two_height}
use Rattle.table.proofs.size.height_of.Goals as goal

pub bounds-work-r : goal.bounds-work-r
bounds-work-r c = (body_high c.args.r c.args.work.now _ c.prop_shape-s.ensures c.requires c.in-1.is).0

pub overflow_add-result : goal.overflow_add-result
overflow_add-result c = omega (arith, body_high c.args.r c.args.work.now _ c.prop_shape-s.ensures c.requires c.in-1.is)

pub bounds-work-r-in_default : goal.bounds-work-r-in_default
bounds-work-r-in_default c = (left_high c.args.r c.args.work.now _ c.prop_shape-s.ensures c.requires (omega arith)).0

pub bounds-work-r-in_default-2 : goal.bounds-work-r-in_default-2
bounds-work-r-in_default-2 c = (right_high c.args.r c.args.work.now _ c.prop_shape-s.ensures c.requires (omega arith)).0

pub overflow_add-result-in_default : goal.overflow_add-result-in_default
overflow_add-result-in_default c =
    omega (arith, left_high c.args.r c.args.work.now _ c.prop_shape-s.ensures c.requires (omega arith), right_high c.args.r c.args.work.now _ c.prop_shape-s.ensures c.requires (omega arith))

pub returns-in-0 : goal.returns-in-0
returns-in-0 c = leaf_height _ _ _ c.prop_shape-s.ensures c.in-0.is

pub returns-in-1 : goal.returns-in-1
returns-in-1 c = body_height _ _ _ c.prop_shape-s.ensures c.in-1.is

pub returns-in_default : goal.returns-in_default
returns-in_default c = two_height _ _ _ c.prop_shape-s.ensures (omega arith) _ c.max.ensures
