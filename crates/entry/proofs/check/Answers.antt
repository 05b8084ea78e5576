use mathlib.Core.Path.{sym}
use borrow.Author.Rules.{rules}
use lib.Seq.{length-take-le}
use Rattle.rules.specs.State.{limit}
use Rattle.step.specs.Rooms.{rooms}
use Rattle.entry.proofs.Marks.{tree_long, goals_long, props_long, work_long, long_true, long_false, firsts_exact, marks_long, marks_short, left_short}
use Rattle.entry.proofs.check.Goals as goal

pub slice_bounds-check_rooms-end : goal.slice_bounds-check_rooms-end
slice_bounds-check_rooms-end c = search tree_long

pub slice_bounds-check_rooms-end-then-long_enough : goal.slice_bounds-check_rooms-end-then-long_enough
slice_bounds-check_rooms-end-then-long_enough c = sym (length-take-le _ c.args.tree.now (search tree_long))

pub slice_bounds-check_rooms-end-then-long_enough-2 : goal.slice_bounds-check_rooms-end-then-long_enough-2
slice_bounds-check_rooms-end-then-long_enough-2 c = search goals_long

pub slice_bounds-check_rooms-end-then-long_enough-3 : goal.slice_bounds-check_rooms-end-then-long_enough-3
slice_bounds-check_rooms-end-then-long_enough-3 c = sym (length-take-le _ c.args.goals.now (search goals_long))

pub slice_bounds-check_rooms-end-then-long_enough-4 : goal.slice_bounds-check_rooms-end-then-long_enough-4
unfolding limit
slice_bounds-check_rooms-end-then-long_enough-4 c = search props_long

pub slice_bounds-check_rooms-end-then-long_enough-5 : goal.slice_bounds-check_rooms-end-then-long_enough-5
unfolding limit
slice_bounds-check_rooms-end-then-long_enough-5 c = sym (length-take-le _ c.args.props.now (search props_long))

pub slice_bounds-check_rooms-end-then-long_enough-6 : goal.slice_bounds-check_rooms-end-then-long_enough-6
slice_bounds-check_rooms-end-then-long_enough-6 c = search work_long

pub slice_bounds-check_rooms-end-then-long_enough-7 : goal.slice_bounds-check_rooms-end-then-long_enough-7
slice_bounds-check_rooms-end-then-long_enough-7 c = sym (length-take-le _ c.args.work.now (search work_long))

pub check_rooms-requires : goal.check_rooms-requires
unfolding limit
check_rooms-requires c =
    firsts_exact (rooms c.args.tree.now c.args.goals.now c.args.props.now c.args.work.now) (search long_true)

pub returns-then-long_enough : goal.returns-then-long_enough
unfolding limit
returns-then-long_enough c =
    let done = c.check_rooms in
    marks_long c.args.file.now _ (rooms c.args.tree.now c.args.goals.now c.args.props.now c.args.work.now) (rooms done.new.tree done.new.goals done.new.props done.new.work) (search long_true) done.ensures

pub returns-else-long_enough : goal.returns-else-long_enough
returns-else-long_enough c =
    let R = rooms c.args.tree.now c.args.goals.now c.args.props.now c.args.work.now in
    let done = c.refuse in
    rw done.ensures.answer
    (left_short {t = done.new.lent.tree.now} {g = done.new.lent.goals.now} {p = done.new.lent.props.now} {w = done.new.lent.work.now} (search rules) (search rules) (search rules) (search rules) c.args.file.now R _ (marks_short c.args.file.now R _ _ (search long_false) done.ensures.emptied c.of.ensures))
