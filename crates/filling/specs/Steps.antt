-- What the steps of a filling know and promise, in rooms of just the listed sizes. Assumes nothing.
use Rattle.std.specs.Prelude.{◌≡◌, List, ℕ, ◌*◌, ◌<◌, ◌≤◌, length, Result, Ok, Err}
use Rattle.numbers.specs.declared.refusal.Refusal.{Refusal}
use Rattle.numbers.specs.Records.{record_at}
use Rattle.layout.specs.File.{props}
use Rattle.rules.specs.State.{St}
use Rattle.rules.specs.Tree.{Gap, holes}
use Rattle.rules.specs.Step.{Out, ok, Answer}
use Rattle.rules.specs.Filling.{At, before, at_goal}
use Rattle.table.specs.declared.Purpose.TheVariants as purpose
use Rattle.table.specs.Tests.{tests}
use Rattle.table.specs.Reading.{term_at}
use Rattle.table.specs.Passing.{Good}
use Rattle.editing.specs.Edited.{edited_bytes}
use Rattle.arena.specs.Copy.{most_records}
use Rattle.arena.specs.Load.{loaded_record}
use Rattle.step.specs.declared.picture.Start.{Start}
use Rattle.step.specs.declared.state.Answer.{Answer as Answered}
use Rattle.step.specs.Rooms.{Rooms, count_of}
use Rattle.step.specs.Picture.{StartsAt}
use Rattle.step.specs.Contract.{Ready}
use Rattle.entry.specs.Mark.{tree_bytes, goals_bytes, root_run, Holds}
use Rattle.entry.specs.Ran.{Exact, RanAs}
use Rattle.filling.specs.Fill.{Lent, Filled, RunAs, Goal, FillingAs}

pub record ExactAll (S : Lent) : Type 0 where
  pub rooms : Exact S.rooms
  pub edited : length S.edited ≡ edited_bytes

-- THE OLD RUN was accepted, and the rooms hold its tree; it has so many goals
pub record OldRan (l : List ℕ) (R : Rooms) (count : ℕ) : Type 0 where
  pub good : Good purpose.Check l
  pub answer : Answer
  pub state : St
  pub accepts : root_run l ≡ ok answer state
  pub holds : Holds l R answer state
  pub goals : count ≡ holes answer.tree

-- g IS GOAL k of that run
pub record GoalOf (l : List ℕ) (k : ℕ) (g : Gap) : Type 0 where
  pub answer : Answer
  pub state : St
  pub accepts : root_run l ≡ ok answer state
  pub stands : At g answer.tree
  pub number : length (before stands) ≡ k

-- goal k is the Sorry record q
pub record HoleAt (l : List ℕ) (k q : ℕ) : Type 0 where
  pub gap : Gap
  pub goal : GoalOf l k gap
  pub here : gap.term ≡ q

-- THE HOLE IS REACHED: the edited table e is loaded, the context of goal k of the old table l is back, and s is what the filling's run begins with
pub record ReachedFor (e : List ℕ) (R : Rooms) (s : Start) (g : Gap) : Type 0 where
  pub starts : StartsAt e R.props R.work g s.wanted s.state
  pub no_records : s.state.records ≡ 0
  pub no_goals : s.state.goals ≡ 0
  pub ready : Ready e R g.term s.state
  pub table : (n : ℕ) → n < props e → record_at R.props n ≡ loaded_record e n

abbrev pub Reached : (l : List ℕ) → (k : ℕ) → (e : List ℕ) → Rooms → Start → Type 0
Reached l k e R s = (g : Gap) → GoalOf l k g → ReachedFor e R s g

-- AFTER THE FILLING'S RUN over e, which has so many bytes: the counts are within the rooms, and serials were only added
abbrev pub Fitting : (e : List ℕ) → (size serials : ℕ) → Rooms → Result Answered Refusal → Type 0
Fitting e size serials R (Err r) = Unit {0}
Fitting e size serials R (Ok a) =
    (16 ≤ size) × (count_of e a.state ≤ most_records) × (16 * a.state.records ≤ tree_bytes) × (8 * a.state.goals ≤ goals_bytes) × (serials ≤ a.state.serials)

-- WHAT EACH STEP PROMISES, from the last to the first: the run's answer, for whatever run it was of
abbrev pub Finishes : (S S' : Lent) → (e : List ℕ) → (serials : ℕ) → Result Answered Refusal → Filled → Type 0
Finishes S S' e serials answer r = (g : Gap) (o : Out Answer) → g.state.serials ≡ serials → RanAs e o S.rooms answer → RunAs S S' e g r o

-- the filling's run at goal k of l
abbrev pub RunsFilling : (S S' : Lent) → (l : List ℕ) → (k : ℕ) → (e : List ℕ) → Filled → Type 0
RunsFilling S S' l k e r = (g : Gap) → GoalOf l k g → RunAs S S' e g r (at_goal (term_at e g.term) g)

-- the goal's number, and the filling's tests
abbrev pub FillsHole : (S S' : Lent) → (l f : List ℕ) → ℕ → Filled → Type 0
FillsHole S S' l f k r = (a : Answer) (st : St) → root_run l ≡ ok a st → Goal S S' l f k a r

abbrev pub FillsGoal : (S S' : Lent) → (l f : List ℕ) → ℕ → Filled → Type 0
FillsGoal S S' l f k r = (a : Answer) (st : St) → root_run l ≡ ok a st → FillingAs S S' l f k a r (tests purpose.Filling f)
