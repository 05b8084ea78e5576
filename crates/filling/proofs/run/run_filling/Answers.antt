use Rattle.filling.proofs.Running.{few_nodes, hole_ready, hole_meets, hole_fits, run_from}
use mathlib.Core.Path.{◌≡◌, refl, ap, sym}
use mathlib.Core.List.{◌++◌}
use native.Mathlib.Omega.{arith}
use lib.ListN.{length, take, drop}
use lib.Seq.{length-take-le}
use Rattle.table.proofs.Passing.{good_passed}
use Rattle.step.specs.Rooms.{rooms}
use Rattle.filling.specs.Fill.{lent}
use Rattle.filling.proofs.Overs.{exact_kept}
use Rattle.filling.proofs.Parts.{room_same}
use Rattle.filling.proofs.run.run_filling.Goals as goal

pub slice_bounds-reach-end-2 : goal.slice_bounds-reach-end-2
slice_bounds-reach-end-2 c = sym (length-take-le c.args.size c.args.edited.now c.requires.size_in_bounds.0)

pub reach-start-requires-clause-fillable : goal.reach-start-requires-clause-fillable
reach-start-requires-clause-fillable c =
    c.requires.fillable

pub reach-start-requires-clause-hole_at : goal.reach-start-requires-clause-hole_at
reach-start-requires-clause-hole_at c =
    c.requires.hole_at

pub reach-start-requires-clause-edited : goal.reach-start-requires-clause-edited
reach-start-requires-clause-edited c =
    (c.requires.size_in_bounds.1, (good_passed c.requires.good).counted)

pub reach-start-requires-clause-exact : goal.reach-start-requires-clause-exact
reach-start-requires-clause-exact c =
    c.requires.exact_all.rooms

pub slice_bounds-check-end : goal.slice_bounds-check-end
slice_bounds-check-end c =
    let fit = c.requires.size_in_bounds.0 in
    let reached = c.reach-start in
    let whole : (reached.new.table ++ drop c.args.size c.args.edited.now) ≡ c.args.edited.now = room_same c.args.size c.args.edited.now reached.new.table reached.ensures.done.0 in
    omega (arith, fit, ap length whole)

pub slice_bounds-check-end-2 : goal.slice_bounds-check-end-2
slice_bounds-check-end-2 c =
    let fit = c.requires.size_in_bounds.0 in
    let reached = c.reach-start in
    let whole : (reached.new.table ++ drop c.args.size c.args.edited.now) ≡ c.args.edited.now = room_same c.args.size c.args.edited.now reached.new.table reached.ensures.done.0 in
    sym (length-take-le c.args.size (reached.new.table ++ drop c.args.size c.args.edited.now) (omega (arith, fit, ap length whole)))

pub check-answer-requires : goal.check-answer-requires
check-answer-requires c =
    let fit = c.requires.size_in_bounds.0 in
    let reached = c.reach-start in
    let whole : (reached.new.table ++ drop c.args.size c.args.edited.now) ≡ c.args.edited.now = room_same c.args.size c.args.edited.now reached.new.table reached.ensures.done.0 in
    let same : (take c.args.size (reached.new.table ++ drop c.args.size c.args.edited.now)) ≡ (take c.args.size c.args.edited.now) = ap (take c.args.size) whole in
    let all = hole_ready c.args.old.now c.args.goal c.args.hole.0 c.requires.hole_at (take c.args.size c.args.edited.now) (take c.args.size (reached.new.table ++ drop c.args.size c.args.edited.now)) same (rooms reached.new.lent.tree.now reached.new.lent.goals.now reached.new.lent.props.now reached.new.lent.work.now) reached.result reached.ensures.done.1 in
    record { ready = all.0; type_in = all.1 }

pub finish-requires : goal.finish-requires
finish-requires c =
    let fit = c.requires.size_in_bounds.0 in
    let reached = c.reach-start in
    let whole : (reached.new.table ++ drop c.args.size c.args.edited.now) ≡ c.args.edited.now = room_same c.args.size c.args.edited.now reached.new.table reached.ensures.done.0 in
    let x = c.requires.exact_all in
    let same : (take c.args.size (reached.new.table ++ drop c.args.size c.args.edited.now)) ≡ (take c.args.size c.args.edited.now) = ap (take c.args.size) whole in
    let y = exact_kept x reached.ensures.same_rooms.tree_long reached.ensures.same_rooms.goals_long reached.ensures.same_rooms.props_long reached.ensures.same_rooms.work_long (ap length whole) in
    let ran = c.check-answer in
    let few = few_nodes c.requires.fillable c.requires.size_in_bounds.1 in
    let z = exact_kept y ran.ensures.same_rooms.tree_long ran.ensures.same_rooms.goals_long ran.ensures.same_rooms.props_long ran.ensures.same_rooms.work_long refl in
    let long = length-take-le c.args.size c.args.edited.now fit in
    record {
      exact_all = z;
      fitting = hole_fits c.args.old.now c.args.goal c.args.hole.0 c.requires.hole_at (take c.args.size c.args.edited.now) (take c.args.size (reached.new.table ++ drop c.args.size c.args.edited.now)) same (rooms reached.new.lent.tree.now reached.new.lent.goals.now reached.new.lent.props.now reached.new.lent.work.now) reached.result reached.ensures.done.1 y.rooms few (rooms ran.new.lent.tree.now ran.new.lent.goals.now ran.new.lent.props.now ran.new.lent.work.now) ran.result ran.ensures.done c.args.size (omega (arith, long, c.requires.size_in_bounds.1.size)) z.rooms;
      size_in_bounds = omega (arith, fit, ap length whole);
    }

pub returns-clause-done : goal.returns-clause-done
returns-clause-done c =
    let fit = c.requires.size_in_bounds.0 in
    let reached = c.reach-start in
    let whole : (reached.new.table ++ drop c.args.size c.args.edited.now) ≡ c.args.edited.now = room_same c.args.size c.args.edited.now reached.new.table reached.ensures.done.0 in
    let x = c.requires.exact_all in
    let same : (take c.args.size (reached.new.table ++ drop c.args.size c.args.edited.now)) ≡ (take c.args.size c.args.edited.now) = ap (take c.args.size) whole in
    let y = exact_kept x reached.ensures.same_rooms.tree_long reached.ensures.same_rooms.goals_long reached.ensures.same_rooms.props_long reached.ensures.same_rooms.work_long (ap length whole) in
    let ran = c.check-answer in
    let few = few_nodes c.requires.fillable c.requires.size_in_bounds.1 in
    let z = exact_kept y ran.ensures.same_rooms.tree_long ran.ensures.same_rooms.goals_long ran.ensures.same_rooms.props_long ran.ensures.same_rooms.work_long refl in
    run_from c.args.old.now c.args.goal (take c.args.size c.args.edited.now) (take c.args.size (reached.new.table ++ drop c.args.size c.args.edited.now)) same (lent c.args.lent.now.tree.now c.args.lent.now.goals.now c.args.lent.now.props.now c.args.lent.now.work.now c.args.edited.now) _ _ x z _ ran.result _ c.finish.ensures.done (λ g goal. hole_meets c.args.old.now c.args.goal c.args.hole.0 c.requires.hole_at (take c.args.size c.args.edited.now) (take c.args.size (reached.new.table ++ drop c.args.size c.args.edited.now)) same (rooms reached.new.lent.tree.now reached.new.lent.goals.now reached.new.lent.props.now reached.new.lent.work.now) reached.result reached.ensures.done.1 y.rooms few (rooms ran.new.lent.tree.now ran.new.lent.goals.now ran.new.lent.props.now ran.new.lent.work.now) ran.result ran.ensures.done g goal)
