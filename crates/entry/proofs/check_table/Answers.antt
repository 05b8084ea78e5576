use mathlib.Core.Path.{◌∙◌}
use Rattle.entry.specs.Mark.{table_run}
use Rattle.step.specs.Lent.{held}
use Rattle.entry.proofs.Answers.{table_ok}
use Rattle.entry.proofs.Runs.{header_there}
use Rattle.entry.proofs.Marks.{finish_refused, finish_accepted, marked_over}
use Rattle.entry.proofs.check_table.Goals as goal

pub count-count-requires-clause-in_bounds : goal.count-count-requires-clause-in_bounds
count-count-requires-clause-in_bounds c = header_there _ (table_ok _ _ _ c.in-Ok.ensures.ran.accepts).0

pub returns-in-Ok-clause-marked : goal.returns-in-Ok-clause-marked
returns-in-Ok-clause-marked c =
    let run = c.run in
    rw c.from.ensures
    (marked_over c.args.file.now (held c.args.lent.now) (held run.new.lent) _ _ c.requires
    (record { tree = run.ensures.same_rooms.tree_long ∙ c.requires.tree; goals = run.ensures.same_rooms.goals_long ∙ c.requires.goals; props = run.ensures.same_rooms.props_long ∙ c.requires.props; work = run.ensures.same_rooms.work_long ∙ c.requires.work })
    (table_run c.args.file.now) (finish_accepted _ _ _ _ c.in-Ok.answer.state _ c.count-count.ensures c.in-Ok.ensures.ran c.clear_rest.ensures.rest))

pub returns-in-Err-clause-marked : goal.returns-in-Err-clause-marked
returns-in-Err-clause-marked c =
    let run = c.run in
    marked_over c.args.file.now (held c.args.lent.now) (held run.new.lent) _ _ c.requires
    (record { tree = run.ensures.same_rooms.tree_long ∙ c.requires.tree; goals = run.ensures.same_rooms.goals_long ∙ c.requires.goals; props = run.ensures.same_rooms.props_long ∙ c.requires.props; work = run.ensures.same_rooms.work_long ∙ c.requires.work })
    (table_run c.args.file.now) (finish_refused _ _ _ _ _ c.in-Err.ensures.ran c.clear_rooms.ensures.emptied)
