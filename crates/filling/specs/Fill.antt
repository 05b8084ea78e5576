-- The answer to filling a goal, in any rooms, by cases on what document 01 says of the two tables and the goal's number ("Tree, goals, filling";
-- the tests are in its order). Assumes nothing.
use Rattle.std.specs.Prelude.{◌≡◌, Bool, true, false, ◌&&◌, List, ℕ, ◌-◌, length, take, leb, ltb, Result, Ok, Err, ⊤}
use Rattle.numbers.specs.declared.refusal.Refusal.{Refusal}
use Rattle.numbers.specs.Refusals.{refusal_at}
use Rattle.numbers.specs.Rooms.{cleared}
use Rattle.rules.specs.State.{St}
use Rattle.rules.specs.Tree.{Gap, records, holes}
use Rattle.rules.specs.Step.{Out, stop, ok, Answer}
use Rattle.rules.specs.Filling.{At, before, at_goal}
use Rattle.table.specs.declared.Purpose.TheVariants as purpose
use Rattle.table.specs.Tests.{tests}
use Rattle.table.specs.Reading.{term_at}
use Rattle.editing.specs.Edited.{edited_bytes, Bytes, Edited, edited_tests}
use Rattle.step.specs.declared.lent.Lent.{Lent as Four}
use Rattle.step.specs.Lent.{held}
use Rattle.step.specs.Rooms.{Rooms, rooms}
use Rattle.step.specs.Contract.{told}
use Rattle.entry.specs.declared.Counts.{Counts}
use Rattle.entry.specs.Mark.{long_enough, table_run, Emptied, Kept}
use Rattle.filling.specs.declared.answer.Which.{Which}
use Rattle.filling.specs.declared.answer.Which.TheVariants.{Old, Filling, Edit}
use Rattle.filling.specs.declared.answer.Rejection.{Rejection}

-- THE LENT ROOMS: a check's four, and one for the edited table
pub record Lent : Type 0 where
  pub rooms : Rooms
  pub edited : List ℕ

abbrev pub lent : (tree goals props work edited : List ℕ) → Lent
lent t g p w e = record { rooms = rooms t g p w; edited = e }

abbrev pub beside : Four → List ℕ → Lent
beside l e = record { rooms = held l; edited = e }

unfoldable pub all_long : Lent → Bool
all_long S = long_enough S.rooms && leb edited_bytes (length S.edited)

-- WHAT FILLING ANSWERS: what was made, or why nothing was
abbrev pub Filled : Type 0
Filled = Result Counts Rejection

-- A REFUSAL, with the table that its place is in
pub record Refuses (S S' : Lent) (z : Refusal) (w : Which) (r : Filled) : Type 0 where
  pub answer : r ≡ Err (record { refusal = z; which = w })
  pub rooms : Emptied S.rooms S'.rooms
  pub edited : S'.edited ≡ cleared edited_bytes S.edited

-- AN ACCEPTANCE: tree and goals of the filling alone, all propositions that were made until it was done, and the edited table e
abbrev pub counts_from : Gap → Answer → St → Counts
counts_from g b st = record { records = records b.tree; goals = holes b.tree; serials = st.serials - g.state.serials; made = st.made }

pub record Accepts (S S' : Lent) (e : List ℕ) (g : Gap) (b : Answer) (st : St) (r : Filled) : Type 0 where
  pub answer : r ≡ Ok (counts_from g b st)
  pub rooms : Kept e S.rooms S'.rooms b st
  pub table : take (length e) S'.edited ≡ e
  pub rest : cleared (length e) S'.edited ≡ cleared edited_bytes S.edited

-- 6. THE FILLING'S RUN, from the context and the counts reached at the hole
abbrev pub RunAs : (S S' : Lent) → (e : List ℕ) → Gap → Filled → Out Answer → Type 0
RunAs S S' e g r (stop z) = Refuses S S' (told z) Edit r
RunAs S S' e g r (ok b st) = Accepts S S' e g b st r

-- 5. THE EDITED TABLE'S TESTS 3 and 6
abbrev pub EditedAs : (S S' : Lent) → (e : List ℕ) → Gap → Filled → Result ⊤ Refusal → Type 0
EditedAs S S' e g r (Err z) = Refuses S S' z Edit r
EditedAs S S' e g r (Ok u) = RunAs S S' e g r (at_goal (term_at e g.term) g)

-- 4. THE GOAL k of the old run, if there is one: g, which stands at p with k goals before it; and the table edited at its Sorry record, of which there is but
-- one that is a list of bytes
pub record Goal (S S' : Lent) (l f : List ℕ) (k : ℕ) (a : Answer) (r : Filled) : Type 0 where
  pub goal : Gap
  pub stands : At goal a.tree
  pub number : length (before stands) ≡ k
  pub table : List ℕ
  pub bytes : Bytes table
  pub edited : Edited l f goal.term table
  pub answer : EditedAs S S' table goal r (edited_tests table)

abbrev pub GoalAs : (S S' : Lent) → (l f : List ℕ) → ℕ → Answer → Filled → Bool → Type 0
GoalAs S S' l f k a r false = Refuses S S' (refusal_at 31 0) Old r
GoalAs S S' l f k a r true = Goal S S' l f k a r

-- 3. THE FILLING'S TESTS 2 to 6
abbrev pub FillingAs : (S S' : Lent) → (l f : List ℕ) → ℕ → Answer → Filled → Result ⊤ Refusal → Type 0
FillingAs S S' l f k a r (Err z) = Refuses S S' z Filling r
FillingAs S S' l f k a r (Ok u) = GoalAs S S' l f k a r (ltb k (holes a.tree))

-- 2. THE OLD TABLE'S TESTS AND RUN
abbrev pub OldAs : (S S' : Lent) → (l f : List ℕ) → ℕ → Filled → Out Answer → Type 0
OldAs S S' l f k r (stop z) = Refuses S S' (told z) Old r
OldAs S S' l f k r (ok a st) = FillingAs S S' l f k a r (tests purpose.Filling f)

-- 1. THE ROOMS
abbrev pub RoomsAs : (S S' : Lent) → (l f : List ℕ) → ℕ → Filled → Bool → Type 0
RoomsAs S S' l f k r false = Refuses S S' (refusal_at 1 0) Old r
RoomsAs S S' l f k r true = OldAs S S' l f k r (table_run l)

-- THE ANSWER r to filling goal k of table l with table f
abbrev pub Fills : (S S' : Lent) → (l f : List ℕ) → ℕ → Filled → Type 0
Fills S S' l f k r = RoomsAs S S' l f k r (all_long S)
