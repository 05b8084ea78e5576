use mathlib.Core.Path.{refl}
use Rattle.entry.specs.Mark.{Mark, Marks}
use Rattle.step.specs.Rooms.{rooms}
use Rattle.export.specs.Answer.{mark_record}
use Rattle.export.proofs.Returning.{returns_short, returns_written}
use Rattle.export.proofs.sporekettle_check.Goals as goal

pub returns-then-answer-lt-ANSWER : goal.returns-then-answer-lt-ANSWER
returns-then-answer-lt-ANSWER c =
    returns_short Mark (Marks c.args.file.now (rooms c.args.tree.now c.args.goals.now c.args.props.now c.args.work.now) (rooms c.args.tree.now c.args.goals.now c.args.props.now c.args.work.now)) mark_record _ c.args.answer.now c.if-answer-lt-ANSWER.true refl

pub returns : goal.returns
returns c =
    let run = c.check-mark in
    returns_written Mark (Marks c.args.file.now (rooms c.args.tree.now c.args.goals.now c.args.props.now c.args.work.now) (rooms run.new.tree run.new.goals run.new.props run.new.work)) mark_record _ c.args.answer.now _ run.result _ c.if-answer-lt-ANSWER.false run.ensures c.of_mark.ensures c.put.ensures
