use Rattle.numbers.specs.declared.record.Record.{Record}
use Rattle.editing.specs.Copied.{ChangesRow, Copied}
use Rattle.editing.proofs.copy.Given as goal

abbrev pub invariant-loop-i : goal.invariant-loop-i
invariant-loop-i g l = (f : Record → Record) → ChangesRow (goal.F-post g l.change) f l.source l.first l.n → Copied f l.source l.first l.i l.initial.table l.to l.table
