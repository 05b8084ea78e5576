use mathlib.Core.Path.{◌∙◌}
use native.Mathlib.Omega.{arith}
use Rattle.std.proofs.lemmas.Result.{err_from_is_err_and}
use Rattle.step.specs.Rooms.{rooms}
use Rattle.step.specs.Lent.{held}
use Rattle.entry.proofs.Marks.{tests_refuse, tests_pass}
use Rattle.entry.proofs.Runs.{loadable, header_there, few_props, goal_there, ready, ran}
use Rattle.entry.proofs.run.Goals as goal

pub returns-in_err-test_table-clause-ran : goal.returns-in_err-test_table-clause-ran
returns-in_err-test_table-clause-ran c =
    let p = err_from_is_err_and c.from_residual.result c.from_residual.ensures.1 in
    rw (p.1, p.2) (tests_refuse _ _ _ _ c.requires.work c.in_err-test_table.ensures)

pub load-requires : goal.load-requires
load-requires c =
    let good = tests_pass _ _ _ c.requires.work c.in_ok-test_table.ensures in
    let p = loadable c.args.file.now good in
    record {
      counted = p.0;
      formed = p.1.0;
      well_linked = p.1.1;
      test_room_in_bounds = (omega (arith, c.requires.work, c.test_table.auto.work), omega (arith, few_props c.args.file.now good, c.requires.props));
    }

pub expected_field-requires : goal.expected_field-requires
expected_field-requires c = header_there _ (tests_pass _ _ _ c.requires.work c.in_ok-test_table.ensures)

pub check-requires : goal.check-requires
check-requires c =
    let good = tests_pass _ _ _ c.requires.work c.in_ok-test_table.ensures in
    let loaded = c.load in
    record {
      ready = ready c.args.file.now good _ (rooms c.args.lent.now.tree.now c.args.lent.now.goals.now loaded.new.props loaded.new.work) (record { tree = c.requires.tree; goals = c.requires.goals; props = loaded.auto.props ∙ c.requires.props; work = loaded.auto.work ∙ c.test_table.auto.work ∙ c.requires.work }) loaded.ensures;
      type_in = goal_there c.args.file.now good c.expected_field.result.0 c.expected_field.ensures;
    }

pub returns-clause-ran : goal.returns-clause-ran
returns-clause-ran c =
    let good = tests_pass _ _ _ c.requires.work c.in_ok-test_table.ensures in
    let loaded = c.load in
    let checked = c.check in
    ran c.args.file.now good _ (rooms c.args.lent.now.tree.now c.args.lent.now.goals.now loaded.new.props loaded.new.work) (record { tree = c.requires.tree; goals = c.requires.goals; props = loaded.auto.props ∙ c.requires.props; work = loaded.auto.work ∙ c.test_table.auto.work ∙ c.requires.work }) loaded.ensures
    (held checked.new.lent) checked.result c.expected_field.result.0
    c.expected_field.ensures checked.ensures.done
