use mathlib.Core.Path.{sym}
use borrow.Author.Rules.{rules}
use lib.Seq.{length-take-le}
use Rattle.rules.specs.State.{limit}
use Rattle.filling.specs.Fill.{lent}
use Rattle.filling.proofs.Overs.{long_true, long_false, tree_long, goals_long, props_long, work_long, edited_long, firsts_exact, fills_long, fills_short, left_refused}
use Rattle.filling.proofs.fill.Goals as goal

pub slice_bounds-fill_rooms-end : goal.slice_bounds-fill_rooms-end
slice_bounds-fill_rooms-end c = search tree_long

pub slice_bounds-fill_rooms-end-then-all_long : goal.slice_bounds-fill_rooms-end-then-all_long
slice_bounds-fill_rooms-end-then-all_long c = sym (length-take-le _ c.args.tree.now (search tree_long))

pub slice_bounds-fill_rooms-end-then-all_long-2 : goal.slice_bounds-fill_rooms-end-then-all_long-2
slice_bounds-fill_rooms-end-then-all_long-2 c = search goals_long

pub slice_bounds-fill_rooms-end-then-all_long-3 : goal.slice_bounds-fill_rooms-end-then-all_long-3
slice_bounds-fill_rooms-end-then-all_long-3 c = sym (length-take-le _ c.args.goals.now (search goals_long))

pub slice_bounds-fill_rooms-end-then-all_long-4 : goal.slice_bounds-fill_rooms-end-then-all_long-4
unfolding limit
slice_bounds-fill_rooms-end-then-all_long-4 c = search props_long

pub slice_bounds-fill_rooms-end-then-all_long-5 : goal.slice_bounds-fill_rooms-end-then-all_long-5
unfolding limit
slice_bounds-fill_rooms-end-then-all_long-5 c = sym (length-take-le _ c.args.props.now (search props_long))

pub slice_bounds-fill_rooms-end-then-all_long-6 : goal.slice_bounds-fill_rooms-end-then-all_long-6
slice_bounds-fill_rooms-end-then-all_long-6 c = search work_long

pub slice_bounds-fill_rooms-end-then-all_long-7 : goal.slice_bounds-fill_rooms-end-then-all_long-7
slice_bounds-fill_rooms-end-then-all_long-7 c = sym (length-take-le _ c.args.work.now (search work_long))

pub slice_bounds-fill_rooms-end-then-all_long-8 : goal.slice_bounds-fill_rooms-end-then-all_long-8
slice_bounds-fill_rooms-end-then-all_long-8 c = search edited_long

pub slice_bounds-fill_rooms-end-then-all_long-9 : goal.slice_bounds-fill_rooms-end-then-all_long-9
slice_bounds-fill_rooms-end-then-all_long-9 c = sym (length-take-le _ c.args.edited.now (search edited_long))

pub fill_rooms-requires : goal.fill_rooms-requires
unfolding limit
fill_rooms-requires c = firsts_exact (lent c.args.tree.now c.args.goals.now c.args.props.now c.args.work.now c.args.edited.now) (search long_true)

pub returns-then-all_long : goal.returns-then-all_long
unfolding limit
returns-then-all_long c =
    let done = c.fill_rooms in
    fills_long (lent c.args.tree.now c.args.goals.now c.args.props.now c.args.work.now c.args.edited.now) (search long_true) (lent done.new.tree done.new.goals done.new.props done.new.work done.new.edited) c.args.old.now c.args.filling.now c.args.goal _ done.ensures

pub returns-else-all_long : goal.returns-else-all_long
returns-else-all_long c =
    let S = lent c.args.tree.now c.args.goals.now c.args.props.now c.args.work.now c.args.edited.now in
    let done = c.refuse in
    fills_short S _ c.args.old.now c.args.filling.now c.args.goal _ _ (search long_false) c.of-e.ensures
    (left_refused {S = S} {t = done.new.lent.tree.now} {g = done.new.lent.goals.now} {p = done.new.lent.props.now} {w = done.new.lent.work.now} (search rules) (search rules) (search rules) (search rules) done.ensures.done)
