use mathlib.Core.Path.{refl}
use Rattle.entry.specs.Mark.{table_run}
use Rattle.step.specs.Rooms.{rooms}
use Rattle.filling.specs.Fill.{lent}
use Rattle.filling.proofs.Overs.{exact_kept}
use Rattle.filling.proofs.Stages.{old_refused, old_accepted, old_ran}
use Rattle.filling.proofs.fill_table.Goals as goal

pub fill_goal-requires : goal.fill_goal-requires
fill_goal-requires c =
    let first = c.check_table in
    record {
      old_ran = old_ran c.args.old.now (rooms c.args.lent.now.tree.now c.args.lent.now.goals.now c.args.lent.now.props.now c.args.lent.now.work.now) _ first.result c.in-Ok.counts c.in-Ok.is (table_run c.args.old.now) refl first.ensures.marked;
      exact_all = exact_kept c.requires first.ensures.same_rooms.tree_long first.ensures.same_rooms.goals_long first.ensures.same_rooms.props_long first.ensures.same_rooms.work_long refl;
    }

pub returns-in-Err-clause-done : goal.returns-in-Err-clause-done
returns-in-Err-clause-done c =
    let first = c.check_table in
    old_refused c.args.old.now c.args.filling.now c.args.goal (lent c.args.lent.now.tree.now c.args.lent.now.goals.now c.args.lent.now.props.now c.args.lent.now.work.now c.args.edited.now) (lent first.new.lent.tree.now first.new.lent.goals.now first.new.lent.props.now first.new.lent.work.now c.args.edited.now) _ c.requires (exact_kept c.requires first.ensures.same_rooms.tree_long first.ensures.same_rooms.goals_long first.ensures.same_rooms.props_long first.ensures.same_rooms.work_long refl) first.result _ _ c.in-Err.is (table_run c.args.old.now) first.ensures.marked c.refuse.ensures.done

pub returns-in-Ok-clause-done : goal.returns-in-Ok-clause-done
returns-in-Ok-clause-done c =
    let first = c.check_table in
    old_accepted c.args.old.now c.args.filling.now c.args.goal (lent c.args.lent.now.tree.now c.args.lent.now.goals.now c.args.lent.now.props.now c.args.lent.now.work.now c.args.edited.now) (lent first.new.lent.tree.now first.new.lent.goals.now first.new.lent.props.now first.new.lent.work.now c.args.edited.now) _ c.requires (exact_kept c.requires first.ensures.same_rooms.tree_long first.ensures.same_rooms.goals_long first.ensures.same_rooms.props_long first.ensures.same_rooms.work_long refl) first.result _ c.in-Ok.counts c.in-Ok.is (table_run c.args.old.now) refl first.ensures.marked c.fill_goal.ensures.done
