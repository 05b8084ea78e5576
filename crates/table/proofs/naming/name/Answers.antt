use borrow.Author.Rules.{rules}
use Rattle.table.proofs.Namings.{name_past, name_note}
use Rattle.table.proofs.naming.name.Goals as goal
use Rattle.table.proofs.naming.name.Goals.{else-used-via-then-used+else-m-bound, else-used-via-else-used}

pub returns-then-m-bound : goal.returns-then-m-bound
returns-then-m-bound c =
    let a = c.args in
    name_note a.base a.bound a.m a.used a.work.now c.note.new.work c.if-used.true c.if-m-bound.true c.requires.0 c.note.ensures

pub returns-else-used : goal.returns-else-used
returns-else-used c =
    let a = c.args in
    elim c.else-used.branch [
      | else-used-via-then-used+else-m-bound w ↦ name_past a.base a.bound a.m a.used a.work.now w.if-used.true w.if-m-bound.false
      | else-used-via-else-used w ↦ search rules
    ]
