-- What a tester asks of a mark, as statements about `Marks` alone; proved in proofs/Promises.antt. Assumes nothing.
use Rattle.std.specs.Prelude.{◌≡◌, true, List, [], ◌⊎◌, ℕ, zero, suc, ◌<◌, ◌≤◌, length, get_or, Ok, Err}
use Rattle.numbers.specs.declared.record.Record.{Record}
use Rattle.numbers.specs.Records.{record_at}
use Rattle.layout.specs.File.{props, expected}
use Rattle.rules.specs.State.{St}
use Rattle.rules.specs.Term.{Term, sorries}
use Rattle.rules.specs.Step.{ok, Answer}
use Rattle.rules.specs.Meaning.{Structure, Env, Holds}
use Rattle.table.specs.declared.Purpose.TheVariants.{Check}
use Rattle.table.specs.Passing.{Good}
use Rattle.table.specs.Reading.{prop_at, term_at}
use Rattle.prop.specs.Room.{room_at}
use Rattle.step.specs.declared.node.Goal.{Goal}
use Rattle.step.specs.Rooms.{Rooms}
use Rattle.step.specs.Trees.{goal_at}
use Rattle.entry.specs.declared.Counts.{Counts}
use Rattle.entry.specs.Mark.{long_enough, root_run, counts_of, Mark, Marks}

-- ACCEPTED EXACTLY WHEN THE RULES ACCEPT: the rooms are long enough, the table passes its tests, and the rules check its root
pub record Accepted (l : List ℕ) (R : Rooms) (c : Counts) : Type 0 where
  pub long : long_enough R ≡ true
  pub good : Good Check l
  pub answer : Answer
  pub state : St
  pub accepts : root_run l ≡ ok answer state
  pub counts : c ≡ counts_of answer state

abbrev pub OnlyThen : Type 0
OnlyThen = (l : List ℕ) (R R' : Rooms) (c : Counts) → Marks l R R' (Ok c) → Accepted l R c

abbrev pub AlwaysThen : Type 0
AlwaysThen = (l : List ℕ) (R R' : Rooms) (m : Mark) → Marks l R R' m → (c : Counts) → Accepted l R c → m ≡ Ok c

-- ACCEPTED WITH NO GOALS, the proposition that the file expects holds in every structure
abbrev pub AcceptedHolds : Type 1
AcceptedHolds =
    (l : List ℕ) (R R' : Rooms) (c : Counts) → Marks l R R' (Ok c) → c.goals ≡ 0
    → (M : Structure) (ρ : Env M) → Holds M ρ [] (prop_at l (expected l))

-- EACH SORRY of the term t IS ONE GOAL, from left to right
pub record Sorries (t : Term) (R' : Rooms) (c : Counts) : Type 0 where
  pub count : c.goals ≡ length (sorries t)
  pub each : (i : ℕ) → i < c.goals → (goal_at R'.goals i).term.0 ≡ get_or (sorries t) i 0

abbrev pub GoalsAreSorries : Type 0
GoalsAreSorries = (l : List ℕ) (R R' : Rooms) (c : Counts) → Marks l R R' (Ok c) → Sorries (term_at l 0) R' c

-- TWO RUNS ON THE SAME BYTES AGREE, whatever the rooms held. Under tag 0 two numbers stand for propositions: they read alike, each in its own room ps
-- or qs, and are equal unless both are of made ones. Under another tag they are datatypes, and are equal
abbrev pub Agree : (l ps qs : List ℕ) → (tag m n : ℕ) → Type 0
Agree l ps qs zero m n = (room_at (props l) ps m ≡ room_at (props l) qs n) × ((m ≡ n) ⊎ ((props l ≤ m) × (props l ≤ n)))
Agree l ps qs (suc t) m n = m ≡ n

pub record AgreeNode (l ps qs : List ℕ) (r s : Record) : Type 0 where
  pub kind : r.kind ≡ s.kind
  pub tag : r.count ≡ s.count
  pub term : r.a ≡ s.a
  pub number : Agree l ps qs r.count r.b s.b
  pub first : r.c ≡ s.c
  pub others : r.parameters ≡ s.parameters

-- a goal's record has no tag, so this says only that its numbers agree under one. Its leaf's record has the same number (`Marks`), and there the tag stands
pub record AgreeGoal (l ps qs : List ℕ) (g h : Goal) : Type 0 where
  pub term : g.term ≡ h.term
  pub tag : ℕ
  pub number : Agree l ps qs tag g.proposition.0 h.proposition.0
  pub context : g.context ≡ h.context
  pub zero : g.zero ≡ h.zero

pub record SameTree (l : List ℕ) (R' S' : Rooms) (c : Counts) : Type 0 where
  pub tree : (i : ℕ) → i < c.records → AgreeNode l R'.props S'.props (record_at R'.tree i) (record_at S'.tree i)
  pub goals : (i : ℕ) → i < c.goals → AgreeGoal l R'.props S'.props (goal_at R'.goals i) (goal_at S'.goals i)
  pub table : (n : ℕ) → n < props l → record_at R'.props n ≡ record_at S'.props n

abbrev pub SameIf : (l : List ℕ) → (R' S' : Rooms) → Mark → Type 0
SameIf l R' S' (Ok c) = SameTree l R' S' c
SameIf l R' S' (Err r) = Unit {0}

abbrev pub TwoRunsAgree : Type 0
TwoRunsAgree =
    (l : List ℕ) (R R' S S' : Rooms) (m n : Mark) → Marks l R R' m → Marks l S S' n → long_enough R ≡ long_enough S → (m ≡ n) × SameIf l R' S' m
