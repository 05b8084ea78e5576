-- What a caller in C gets: an answer, written as one record of the answer room. Assumes nothing.
use Rattle.std.specs.Prelude.{◌≡◌, Bool, true, false, List, [], ◌∷◌, ℕ, length, leb, ⊤, Result, Ok, Err}
use Rattle.numbers.specs.declared.record.Record.{Record}
use Rattle.numbers.specs.declared.refusal.Refusal.{Refusal}
use Rattle.numbers.specs.Records.{Put}
use Rattle.table.specs.declared.Purpose.{Purpose}
use Rattle.table.specs.Tests.{Tested}
use Rattle.step.specs.Rooms.{Rooms}
use Rattle.entry.specs.declared.Counts.{Counts}
use Rattle.entry.specs.Mark.{Mark, Marks}
use Rattle.filling.specs.declared.answer.Which.{Which}
use Rattle.filling.specs.declared.answer.Which.TheVariants.{Old, Filling, Edit}
use Rattle.filling.specs.Fill.{Lent, Filled, Fills}

-- THE ANSWER ROOM: one record is written, and nothing behind it
abbrev pub answer_bytes : ℕ
answer_bytes = 16

-- WHAT A CALL RETURNS
abbrev pub answered : ℕ
answered = 0

abbrev pub no_room : ℕ
no_room = 1

-- THE RECORD. An acceptance: zeros, and at its end the counts of records, goals, serials and propositions made
unfoldable pub accepted_record : Counts → Record
accepted_record n = record { kind = 0; count = 0; a = 0; b = 0; c = 0; parameters = n.records ∷ n.goals ∷ n.serials ∷ n.made ∷ [] }

-- a refusal: 1, its number, its place, and the table that the place is in
unfoldable pub refused_record : Refusal → ℕ → Record
refused_record r t = record { kind = 1; count = r.number; a = r.place; b = t; c = 0; parameters = 0 ∷ 0 ∷ 0 ∷ 0 ∷ [] }

abbrev pub no_counts : Counts
no_counts = record { records = 0; goals = 0; serials = 0; made = 0 }

unfoldable pub table_number : Which → ℕ
table_number Old = 0
table_number Filling = 1
table_number Edit = 2

abbrev pub Verdict : Type 0
Verdict = Result ⊤ Refusal

unfoldable pub verdict_record : Verdict → Record
verdict_record (Ok u) = accepted_record no_counts
verdict_record (Err r) = refused_record r 0

unfoldable pub mark_record : Mark → Record
mark_record (Ok n) = accepted_record n
mark_record (Err r) = refused_record r 0

unfoldable pub filled_record : Filled → Record
filled_record (Ok n) = accepted_record n
filled_record (Err e) = refused_record e.refusal (table_number e.which)

-- A RIGHT ANSWER stands as a record in the answer room, which is a before and a' after
pub record Written (A : Type 0) (Right : A → Type 0) (form : A → Record) (a a' : List ℕ) : Type 0 where
  pub answer : A
  pub right : Right answer
  pub written : Put a 0 (form answer) a'

-- A CALL: with an answer room that is too short nothing is done, and the lent rooms are the same as before
abbrev pub ReturnsAs : Bool → (A : Type 0) → (A → Type 0) → (A → Record) → Type 0 → (a a' : List ℕ) → ℕ → Type 0
ReturnsAs true A Right form Same a a' r = (r ≡ answered) × Written A Right form a a'
ReturnsAs false A Right form Same a a' r = (r ≡ no_room) × (a' ≡ a) × Same

abbrev pub Returns : (A : Type 0) → (A → Type 0) → (A → Record) → Type 0 → (a a' : List ℕ) → ℕ → Type 0
Returns A Right form Same a a' r = ReturnsAs (leb answer_bytes (length a)) A Right form Same a a' r

-- THE CALLS
abbrev pub TestReturns : Purpose → (l work left a a' : List ℕ) → ℕ → Type 0
TestReturns p l work left a a' r = Returns Verdict (Tested p l work left) verdict_record (left ≡ work) a a' r

abbrev pub CheckReturns : (l : List ℕ) → (R R' : Rooms) → (a a' : List ℕ) → ℕ → Type 0
CheckReturns l R R' a a' r = Returns Mark (Marks l R R') mark_record (R' ≡ R) a a' r

abbrev pub FillReturns : (S S' : Lent) → (l f : List ℕ) → ℕ → (a a' : List ℕ) → ℕ → Type 0
FillReturns S S' l f k a a' r = Returns Filled (Fills S S' l f k) filled_record (S' ≡ S) a a' r
