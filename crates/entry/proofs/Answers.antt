-- What an answer of the rules says of the table. Assumes nothing.
use mathlib.Core.Path.{◌≡◌, refl}
use mathlib.Core.Bool.{Bool, true, false, ◌&&◌, false≢true}
use mathlib.Core.List.{List}
use Prim.Native.Nat.{ℕ}
use Rattle.std.specs.Prelude.{Result, ⊤, Ok, Err}
use Rattle.numbers.specs.declared.refusal.Refusal.{Refusal}
use Rattle.rules.specs.State.{St}
use Rattle.rules.specs.Step.{Out, ok, Answer}
use Rattle.table.specs.declared.Purpose.TheVariants.{Check}
use Rattle.table.specs.Tests.{tests}
use Rattle.table.specs.Passing.{Good}
use Rattle.entry.specs.Mark.{root_run, unless_refused, table_run}

pub both_true : (a b : Bool) → a && b ≡ true → (a ≡ true) × (b ≡ true)
both_true true b h = (refl, h)
both_true false b h = absurd (false≢true h)

-- one run has one answer
pub same_answer : {o : Out Answer} {a b : Answer} {st su : St} → o ≡ ok a st → o ≡ ok b su → a ≡ b
same_answer e f = cc

-- a table that is accepted passed its tests
pub table_ok : (l : List ℕ) (a : Answer) (st : St) → table_run l ≡ ok a st → Good Check l × (root_run l ≡ ok a st)
unfolding unless_refused
table_ok l a st h = at (tests Check l) refl h
  where
    at : (v : Result ⊤ Refusal) → tests Check l ≡ v → unless_refused v (root_run l) ≡ ok a st → Good Check l × (root_run l ≡ ok a st)
    at (Err r) e h = cc
    at (Ok u) e h = (e, h)
