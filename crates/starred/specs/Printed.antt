-- An answer and the rooms it leaves, held to a mark of `rules`, which is what the program prints.
-- Assumes nothing.
use Rattle.std.specs.Prelude.{◌≡◌, true, List, [], ◌∷◌, ℕ, ◌+◌, length, Ok, Err}
use Rattle.numbers.specs.declared.record.Record.{Record}
use Rattle.numbers.specs.Records.{record_at}
use Rattle.numbers.specs.Refusals.{refusal_at}
use Rattle.rules.specs.Cases.{Line, line, Goal, goal, Mark, no, yes}
use Rattle.step.specs.declared.node.Goal as declared
use Rattle.step.specs.Rooms.{Rooms}
use Rattle.step.specs.Trees.{first_serial, second_serial, goal_at}
use Rattle.entry.specs.declared.Counts.{Counts}
use Rattle.entry.specs.Mark.{Mark as Answered, long_enough, Marks}

-- a tree record and its line; a goal record and its line
abbrev pub LineIs : Record → Line → Type 0
LineIs r (line rule term is premises) =
    (r.kind ≡ rule) × (r.a ≡ term) × (r.c ≡ first_serial is) × (r.parameters ≡ second_serial is ∷ premises ∷ 0 ∷ 0 ∷ [])

abbrev pub GoalIs : declared.Goal → Goal → Type 0
GoalIs g (goal term context) = (g.term.0 ≡ term) × (g.context ≡ context) × (g.zero ≡ 0)

-- from record n on, from goal m on
abbrev pub LinesAre : List ℕ → ℕ → List Line → Type 0
LinesAre tree n [] = Unit {0}
LinesAre tree n (x ∷ xs) = LineIs (record_at tree n) x × LinesAre tree (n + 1) xs

abbrev pub GoalsAre : List ℕ → ℕ → List Goal → Type 0
GoalsAre goals m [] = Unit {0}
GoalsAre goals m (x ∷ xs) = GoalIs (goal_at goals m) x × GoalsAre goals (m + 1) xs

-- AN ANSWER a that left the rooms R, as the program prints it
pub record Yes (R : Rooms) (ls : List Line) (gs : List Goal) (c : Counts) : Type 0 where
  pub records : c.records ≡ length ls
  pub goals : c.goals ≡ length gs
  pub tree : LinesAre R.tree 0 ls
  pub goal_lines : GoalsAre R.goals 0 gs

abbrev pub Prints : Rooms → Mark → Answered → Type 0
Prints R (no n p) a = a ≡ Err (refusal_at n p)
Prints R (yes ls gs) (Ok c) = Yes R ls gs c
Prints R (yes ls gs) (Err e) = ⊥

-- A TABLE l IS MARKED m by every call, whatever its rooms held
abbrev pub MarkedBy : List ℕ → Mark → Type 0
MarkedBy l m = (R R' : Rooms) (a : Answered) → long_enough R ≡ true → Marks l R R' a → Prints R' m a
