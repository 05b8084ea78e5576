use mathlib.Core.Path.{refl}
use native.Mathlib.Omega.{arith}
use Rattle.step.specs.Rooms.{rooms}
use Rattle.filling.specs.Fill.{lent}
use Rattle.filling.proofs.Overs.{exact_kept}
use Rattle.filling.proofs.Stages.{filling_refused, filling_good, goal_missing, goal_found, hole_at, hole_fillable}
use Rattle.filling.proofs.fill_goal.Goals as goal

pub returns-in-Err-clause-done : goal.returns-in-Err-clause-done
returns-in-Err-clause-done c =
    let tested = c.test_table in
    filling_refused c.args.old.now c.args.filling.now c.args.goal (lent c.args.lent.now.tree.now c.args.lent.now.goals.now c.args.lent.now.props.now c.args.lent.now.work.now c.args.edited.now) (lent c.args.lent.now.tree.now c.args.lent.now.goals.now c.args.lent.now.props.now c.test_table.new.work c.args.edited.now) _ c.requires.exact_all (exact_kept c.requires.exact_all refl refl refl tested.auto.work refl) tested.result _ tested.ensures _ _ c.in-Err.is c.refuse.ensures.done

pub returns-then-count-goal-clause-done : goal.returns-then-count-goal-clause-done
returns-then-count-goal-clause-done c =
    let tested = c.test_table in
    goal_missing c.args.old.now c.args.filling.now c.args.goal (lent c.args.lent.now.tree.now c.args.lent.now.goals.now c.args.lent.now.props.now c.args.lent.now.work.now c.args.edited.now) (lent c.args.lent.now.tree.now c.args.lent.now.goals.now c.args.lent.now.props.now c.test_table.new.work c.args.edited.now) _ c.requires.exact_all (exact_kept c.requires.exact_all refl refl refl tested.auto.work refl) tested.result _ tested.ensures _ c.in_default.is c.args.count c.requires.old_ran c.if-count-goal.true _ c.of-e.ensures c.refuse-then-count-goal.ensures.done

pub fill_hole-requires : goal.fill_hole-requires
fill_hole-requires c =
    let old = c.requires.old_ran in
    let tested = c.test_table in
    let there = c.if-count-goal.false in
    let hole = hole_at c.args.old.now c.args.filling.now (rooms c.args.lent.now.tree.now c.args.lent.now.goals.now c.args.lent.now.props.now c.args.lent.now.work.now) c.args.count c.args.goal old (omega (arith, there)) c.goal_in.result c.goal_in.ensures in
    let good = filling_good c.args.filling.now c.args.lent.now.work.now _ tested.result c.requires.exact_all.rooms.work tested.ensures c.in_default.is in
    record {
      fillable = hole_fillable c.args.old.now c.args.filling.now c.args.goal _ old.good good hole;
      hole_at = hole;
      exact_all = exact_kept c.requires.exact_all refl refl refl tested.auto.work refl;
    }

pub returns-clause-done : goal.returns-clause-done
returns-clause-done c =
    let tested = c.test_table in
    goal_found c.args.old.now c.args.filling.now c.args.goal (lent c.args.lent.now.tree.now c.args.lent.now.goals.now c.args.lent.now.props.now c.args.lent.now.work.now c.args.edited.now) (lent c.args.lent.now.tree.now c.args.lent.now.goals.now c.args.lent.now.props.now c.test_table.new.work c.args.edited.now) _ c.requires.exact_all (exact_kept c.requires.exact_all refl refl refl tested.auto.work refl) tested.result _ tested.ensures _ c.in_default.is c.args.count c.requires.old_ran (omega (arith, c.if-count-goal.false)) c.fill_hole.ensures.done
