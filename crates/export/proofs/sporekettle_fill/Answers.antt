use mathlib.Core.Path.{refl}
use Rattle.filling.specs.Fill.{lent, Filled, Fills}
use Rattle.export.specs.Answer.{filled_record}
use Rattle.export.proofs.Returning.{returns_short, returns_written}
use Rattle.export.proofs.sporekettle_fill.Goals as goal

pub returns-then-answer-lt-ANSWER : goal.returns-then-answer-lt-ANSWER
returns-then-answer-lt-ANSWER c =
    returns_short Filled (Fills (lent c.args.tree.now c.args.goals.now c.args.props.now c.args.work.now c.args.edited.now) (lent c.args.tree.now c.args.goals.now c.args.props.now c.args.work.now c.args.edited.now) c.args.old.now c.args.filling.now c.args.goal) filled_record _ c.args.answer.now c.if-answer-lt-ANSWER.true (refl {a = lent c.args.tree.now c.args.goals.now c.args.props.now c.args.work.now c.args.edited.now})

pub returns : goal.returns
returns c =
    let run = c.fill-filled in
    returns_written Filled (Fills (lent c.args.tree.now c.args.goals.now c.args.props.now c.args.work.now c.args.edited.now) (lent run.new.tree run.new.goals run.new.props run.new.work run.new.edited) c.args.old.now c.args.filling.now c.args.goal) filled_record _ c.args.answer.now _ run.result _ c.if-answer-lt-ANSWER.false run.ensures c.of_filled.ensures c.put.ensures
