use mathlib.Core.Path.{refl}
use Rattle.table.specs.Tests.{Tested}
use Rattle.export.specs.Answer.{Verdict, verdict_record}
use Rattle.export.proofs.Returning.{returns_short, returns_written}
use Rattle.export.proofs.test.Goals as goal

pub returns-then-answer-lt-ANSWER : goal.returns-then-answer-lt-ANSWER
returns-then-answer-lt-ANSWER c =
    returns_short Verdict (Tested c.args.purpose c.args.file.now c.args.work.now c.args.work.now) verdict_record _ c.args.answer.now c.if-answer-lt-ANSWER.true refl

pub returns : goal.returns
returns c =
    let run = c.test_table-verdict in
    returns_written Verdict (Tested c.args.purpose c.args.file.now c.args.work.now run.new.work) verdict_record _ c.args.answer.now _ run.result _ c.if-answer-lt-ANSWER.false run.ensures c.of_verdict.ensures c.put.ensures
