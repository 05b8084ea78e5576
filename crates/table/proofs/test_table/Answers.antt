use Rattle.table.specs.Tests.{test_room}
use mathlib.Core.Path.{◌∙◌}
use lib.Seq.{length-take-le}
use Rattle.table.proofs.Verdicts.{tested_short, tested_long}
use Rattle.table.proofs.test_table.Goals as goal

pub returns-then-work-lt-ROOM : goal.returns-then-work-lt-ROOM
returns-then-work-lt-ROOM c =
    let a = c.args in
    tested_short a.purpose a.file.now a.work.now _ _ c.if-work-lt-ROOM.true c.clear.ensures c.of.ensures

pub returns : goal.returns
returns c =
    let a = c.args in
    let r = c.run_tests-answer in
    tested_long a.purpose a.file.now a.work.now r.new.work _ r.result c.if-work-lt-ROOM.false r.ensures (r.auto.work ∙ length-take-le test_room c.args.work.now c.if-work-lt-ROOM.false)
    c.clear-2.ensures
