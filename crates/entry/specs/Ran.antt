-- The rooms after a run, before they are cleaned. Assumes nothing.
use Rattle.std.specs.Prelude.{◌≡◌, List, ℕ, length, Result, Ok, Err}
use Rattle.numbers.specs.declared.refusal.Refusal.{Refusal}
use Rattle.rules.specs.Tree.{records, holes}
use Rattle.rules.specs.Step.{Out, ok, Answer}
use Rattle.step.specs.declared.state.State.{State}
use Rattle.step.specs.declared.state.Answer.{Answer as Answered}
use Rattle.step.specs.Rooms.{Rooms, st_of}
use Rattle.step.specs.Contract.{Refuses}
use Rattle.entry.specs.declared.Counts.{Counts}
use Rattle.entry.specs.Mark.{tree_bytes, goals_bytes, props_bytes, work_bytes, Holds}

-- what a state counts, as a mark tells it
abbrev pub counted_in : State → Counts
counted_in st = record { records = st.records; goals = st.goals; serials = st.serials; made = st.made }

-- rooms of just the listed sizes
pub record Exact (R : Rooms) : Type 0 where
  pub tree : length R.tree ≡ tree_bytes
  pub goals : length R.goals ≡ goals_bytes
  pub props : length R.props ≡ props_bytes
  pub work : length R.work ≡ work_bytes

-- a run of the rules that came to o: it accepts, and R holds its tree
pub record Ran (l : List ℕ) (o : Out Answer) (R : Rooms) (st : State) : Type 0 where
  pub answer : Answer
  pub accepts : o ≡ ok answer (st_of st)
  pub holds : Holds l R answer (st_of st)
  pub records : st.records ≡ records answer.tree
  pub goals : st.goals ≡ holes answer.tree

abbrev pub RanAs : List ℕ → Out Answer → Rooms → Result Answered Refusal → Type 0
RanAs l o R (Ok a) = Ran l o R a.state
RanAs l o R (Err r) = Refuses o r
