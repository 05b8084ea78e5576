-- The mark of any bytes in any rooms, by cases on what document 01 says of them. Assumes nothing.
use Rattle.std.specs.Prelude.{◌≡◌, Bool, ◌&&◌, cond, List, [], ℕ, ◌+◌, ◌*◌, ◌<◌, ◌≤◌, length, leb, Result, Ok, Err, ⊤}
use Rattle.numbers.specs.declared.refusal.Refusal.{Refusal}
use Rattle.numbers.specs.Records.{record_at}
use Rattle.numbers.specs.Rooms.{cleared}
use Rattle.layout.specs.File.{props, expected}
use Rattle.rules.specs.Prop.{prop}
use Rattle.rules.specs.Context.{Ctx}
use Rattle.rules.specs.State.{St, start}
use Rattle.rules.specs.Tree.{records, holes}
use Rattle.rules.specs.Step.{check, Out, stop, refused, ok, Answer}
use Rattle.rules.specs.Rules.{run}
use Rattle.table.specs.declared.Purpose.TheVariants.{Check}
use Rattle.table.specs.Tests.{tests}
use Rattle.table.specs.Reading.{prop_at, term_at}
use Rattle.prop.specs.Room.{Arena}
use Rattle.arena.specs.Copy.{most_records}
use Rattle.arena.specs.Load.{loaded_record}
use Rattle.step.specs.Rooms.{Rooms, most_nodes, most_goals}
use Rattle.step.specs.Contract.{refusal_of, told}
use Rattle.step.specs.Trees.{TreesAre}
use Rattle.entry.specs.declared.Counts.{Counts}

-- THE LENT ROOMS ("Refusal numbers"): so many bytes of each are written, and none behind them
abbrev pub tree_bytes : ℕ
tree_bytes = 16 * most_nodes

abbrev pub goals_bytes : ℕ
goals_bytes = 8 * most_goals

abbrev pub props_bytes : ℕ
props_bytes = 16 * most_records

abbrev pub work_bytes : ℕ
work_bytes = 65536

unfoldable pub long_enough : Rooms → Bool
long_enough R =
    leb tree_bytes (length R.tree) && (leb goals_bytes (length R.goals) && (leb props_bytes (length R.props) && leb work_bytes (length R.work)))

-- WHERE A RUN OF THE TABLE STARTS: in the empty context, with nothing made
abbrev pub context_of : List ℕ → Ctx
context_of l = []

abbrev pub start_of : List ℕ → St
start_of l = start

-- WHAT THE RULES SAY: the root, held to the expected proposition from there
abbrev pub root_run : List ℕ → Out Answer
root_run l = run (term_at l 0) (check (prop (prop_at l (expected l)))) (context_of l) (start_of l)

-- WHAT DOCUMENT 01 SAYS of these bytes: the rooms first, then the table's tests, then the rules
unfoldable pub unless_refused : Result ⊤ Refusal → Out Answer → Out Answer
unless_refused (Err r) o = stop (refusal_of r)
unless_refused (Ok u) o = o

abbrev pub table_run : List ℕ → Out Answer
table_run l = unless_refused (tests Check l) (root_run l)

unfoldable pub outcome : List ℕ → Rooms → Out Answer
outcome l R = cond (long_enough R) (table_run l) (refused 1 0)

-- A REFUSAL leaves zeros, as far as a short room goes
pub record Emptied (R R' : Rooms) : Type 0 where
  pub tree : R'.tree ≡ cleared tree_bytes R.tree
  pub goals : R'.goals ≡ cleared goals_bytes R.goals
  pub props : R'.props ≡ cleared props_bytes R.props
  pub work : R'.work ≡ cleared work_bytes R.work

-- AN ACCEPTANCE leaves the rules' tree with its goals, the table's propositions and the made ones
pub record Holds (l : List ℕ) (R : Rooms) (a : Answer) (st : St) : Type 0 where
  pub trees : TreesAre l R (props l + st.made) 0 0 a.tree
  pub table : (n : ℕ) → n < props l → record_at R.props n ≡ loaded_record l n
  pub made : Arena R.props (props l + st.made)
  pub tree_room : 16 * records a.tree ≤ length R.tree
  pub goals_room : 8 * holes a.tree ≤ length R.goals

-- and, but for the bytes of these, zeros as a refusal does
pub record Kept (l : List ℕ) (R R' : Rooms) (a : Answer) (st : St) : Type 0 where
  pub holds : Holds l R' a st
  pub tree : cleared (16 * records a.tree) R'.tree ≡ cleared tree_bytes R.tree
  pub goals : cleared (8 * holes a.tree) R'.goals ≡ cleared goals_bytes R.goals
  pub props : cleared (16 * (props l + st.made)) R'.props ≡ cleared props_bytes R.props
  pub work : R'.work ≡ cleared work_bytes R.work

abbrev pub counts_of : Answer → St → Counts
counts_of a st = record { records = records a.tree; goals = holes a.tree; serials = st.serials; made = st.made }

-- THE MARK: what was made, or why there is none
abbrev pub Mark : Type 0
Mark = Result Counts Refusal

abbrev pub MarkedAs : (l : List ℕ) → (R R' : Rooms) → Out Answer → Mark → Type 0
MarkedAs l R R' (stop s) m = (m ≡ Err (told s)) × Emptied R R'
MarkedAs l R R' (ok a st) m = (m ≡ Ok (counts_of a st)) × Kept l R R' a st

abbrev pub Marks : (l : List ℕ) → (R R' : Rooms) → Mark → Type 0
Marks l R R' m = MarkedAs l R R' (outcome l R) m
