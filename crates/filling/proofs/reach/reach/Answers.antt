use mathlib.Core.Path.{ap, ◌∙◌}
use native.Mathlib.Omega.{arith}
use Rattle.step.specs.Rooms.{rooms}
use Rattle.filling.proofs.Reaching.{goal_same, loadable, term_inside, old_inside, waiting, waiting_inside, table_back, wants, ready_waiting, few_pictured, reached}
use Rattle.rules.specs.Tree.{Gap}
use Rattle.entry.specs.Ran.{Exact}
use Rattle.filling.proofs.reach.reach.Goals as goal

pub load-requires : goal.load-requires
load-requires c =
    let (E, counted) = c.requires.edited in
    let p = loadable c.requires.fillable E counted in
    record {
      counted = p.0;
      formed = p.1.0;
      well_linked = p.1.1;
      test_room_in_bounds = (omega (arith, c.requires.exact.work), omega (arith, counted.propositions, c.requires.exact.props));
    }

pub term_record-root-requires : goal.term_record-root-requires
term_record-root-requires c = term_inside c.requires.fillable c.requires.edited.0 c.requires.edited.1

pub term_record-requires : goal.term_record-requires
term_record-requires c = old_inside c.requires.fillable c.requires.edited.0 c.requires.edited.1

pub put_term-requires : goal.put_term-requires
put_term-requires c = term_inside c.requires.fillable c.requires.edited.0 c.requires.edited.1

pub expected_field-requires : goal.expected_field-requires
expected_field-requires c = omega (arith, c.put_term.ensures.size, c.requires.edited.0.size)

pub check-requires : goal.check-requires
check-requires c =
    let h = c.requires.fillable in
    let (E, counted) = c.requires.edited in
    let x = c.requires.exact in
    let loaded = c.load in
    let J = waiting h E counted _ _ c.term_record.ensures c.put_term.ensures in
    let y : Exact (rooms c.args.lent.now.tree.now c.args.lent.now.goals.now loaded.new.props loaded.new.work) =
    record { tree = x.tree; goals = x.goals; props = loaded.auto.props ∙ x.props; work = loaded.auto.work ∙ x.work } in
    record {
      ready = ready_waiting h E counted J c.args.goal (rooms c.args.lent.now.tree.now c.args.lent.now.goals.now loaded.new.props loaded.new.work) y loaded.ensures;
      type_in = wants h E counted J c.args.goal c.expected_field.result.0 c.expected_field.ensures;
    }

pub put_term-requires-2 : goal.put_term-requires-2
put_term-requires-2 c =
    let h = c.requires.fillable in
    let (E, counted) = c.requires.edited in
    waiting_inside h E counted (waiting h E counted _ _ c.term_record.ensures c.put_term.ensures)

pub recall-requires : goal.recall-requires
recall-requires c =
    let h = c.requires.fillable in
    let (E, counted) = c.requires.edited in
    let x = c.requires.exact in
    let loaded = c.load in
    let J = waiting h E counted _ _ c.term_record.ensures c.put_term.ensures in
    let y : Exact (rooms c.args.lent.now.tree.now c.args.lent.now.goals.now loaded.new.props loaded.new.work) =
    record { tree = x.tree; goals = x.goals; props = loaded.auto.props ∙ x.props; work = loaded.auto.work ∙ x.work } in
    let field = c.expected_field in
    let checked = c.check in
    let R' = rooms checked.new.lent.tree.now checked.new.lent.goals.now checked.new.lent.props.now checked.new.lent.work.now in
    let hole = c.requires.hole_at in
    (omega (arith, checked.ensures.same_rooms.work_long, y.work), few_pictured h E counted J c.args.goal (rooms c.args.lent.now.tree.now c.args.lent.now.goals.now loaded.new.props loaded.new.work) y loaded.ensures R' checked.result field.result.0 field.ensures checked.ensures.done hole.gap hole.goal)

pub returns-clause-done : goal.returns-clause-done
returns-clause-done c =
    let h = c.requires.fillable in
    let (E, counted) = c.requires.edited in
    let x = c.requires.exact in
    let loaded = c.load in
    let J = waiting h E counted _ _ c.term_record.ensures c.put_term.ensures in
    let y : Exact (rooms c.args.lent.now.tree.now c.args.lent.now.goals.now loaded.new.props loaded.new.work) =
    record { tree = x.tree; goals = x.goals; props = loaded.auto.props ∙ x.props; work = loaded.auto.work ∙ x.work } in
    let field = c.expected_field in
    let checked = c.check in
    let R' = rooms checked.new.lent.tree.now checked.new.lent.goals.now checked.new.lent.props.now checked.new.lent.work.now in
    let hole = c.requires.hole_at in
    let back = c.recall in (
      table_back h E counted J _ _ c.term_record-root.ensures c.put_term-2.ensures (λ i. omega (arith, c.slice_known-1.given i)) (λ i. omega (arith, c.type_inv.table i)),
      λ g goal. reached h E counted J c.args.goal (rooms c.args.lent.now.tree.now c.args.lent.now.goals.now loaded.new.props loaded.new.work) y loaded.ensures R' checked.result field.result.0 field.ensures checked.ensures.done g goal (ap (λ (g : Gap). g.term) (goal_same goal hole.goal) ∙ hole.here) back.result back.new.work back.ensures.0 back.ensures.1 back.ensures.2,
    )
