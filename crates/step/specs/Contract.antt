-- What `check` and `synthesize` ask and promise, by cases on the answer. Assumes nothing.
use Rattle.std.specs.Prelude.{◌≡◌, List, ℕ, ◌+◌, ◌*◌, ◌<◌, ◌≤◌, length, Bool, ◌||◌, eqb, Result, Ok, Err}
use Rattle.numbers.specs.declared.Sort.{Sort}
use Rattle.numbers.specs.declared.refusal.Refusal.{Refusal}
use Rattle.numbers.specs.Records.{Same}
use Rattle.numbers.specs.Refusals.{refusal_at}
use Rattle.layout.specs.File.{terms}
use Rattle.rules.specs.Term.{nodes}
use Rattle.rules.specs.Tree.{Trees, records, holes}
use Rattle.rules.specs.Step.{Want as Mode, Refusal as Fault, refusal, Out, stop, ok, Answer}
use Rattle.rules.specs.Rules.{run}
use Rattle.table.specs.Reading.{term_at}
use Rattle.prop.specs.Room.{Arena}
use Rattle.context.specs.Context.{SameEntries}
use Rattle.step.specs.declared.state.State.{State}
use Rattle.step.specs.declared.state.Want.{Want}
use Rattle.step.specs.declared.state.Answer.{Answer as Answered}
use Rattle.step.specs.Rooms.{Rooms, Base, Stands, ctx_of, st_of, count_of, most_nodes, most_goals, serials_cap, entries_cap}
use Rattle.step.specs.Modes.{mode}
use Rattle.step.specs.Trees.{SameGoals, TreesAre}
use Rattle.step.specs.Picture.{SamePicture, PicturesAre}

-- BEFORE: the rooms have space for all that the term can come to; the table's other terms gave at most two serials and two entries each
pub record Ready (l : List ℕ) (R : Rooms) (k : ℕ) (st : State) : Type 0 where
  pub base : Base l R st
  pub here : k < terms l
  pub records : st.records + 2 * nodes (term_at l k) ≤ most_nodes
  pub goals : st.goals + nodes (term_at l k) ≤ most_goals
  pub serials : st.serials + 2 * nodes (term_at l k) ≤ serials_cap l
  pub context : st.context + 2 * nodes (term_at l k) ≤ entries_cap l

-- THE FRAME: there are now d propositions; the first c of them, r tree records, g goals (and the picture, if of goal a < g) and n entries are kept
pub record Grown (R R' : Rooms) (c d r g n a : ℕ) : Type 0 where
  pub arena : Arena R'.props d
  pub more : c ≤ d
  pub props : Same c R.props R'.props
  pub tree : Same r R.tree R'.tree
  pub goals : SameGoals g R.goals R'.goals
  pub work : SameEntries n R.work R'.work
  pub picture : a < g → SamePicture R.work R'.work
  pub props_long : length R'.props ≡ length R.props
  pub tree_long : length R'.tree ≡ length R.tree
  pub goals_long : length R'.goals ≡ length R.goals
  pub work_long : length R'.work ≡ length R.work

-- AFTER: from the old counts up to the new ones stand these trees, the context is as long as before, and the same picture is asked for
pub record Left (l : List ℕ) (R R' : Rooms) (st st' : State) (ts : Trees) : Type 0 where
  pub records : st'.records ≡ st.records + records ts
  pub goals : st'.goals ≡ st.goals + holes ts
  pub context : st'.context ≡ st.context
  pub asked : st'.asked ≡ st.asked
  pub trees : TreesAre l R' (count_of l st') st.records st.goals ts
  pub pictures : PicturesAre l R'.props R'.work st.asked (count_of l st') st.goals ts
  pub grown : Grown R R' (count_of l st) (count_of l st') st.records st.goals st.context st.asked

-- the rules accept, with these counts, and their tree is left
pub record Accepts (l : List ℕ) (R R' : Rooms) (st st' : State) (o : Out Answer) : Type 0 where
  pub answer : Answer
  pub accepts : o ≡ ok answer (st_of st')
  pub left : Left l R R' st st' answer.tree

pub record Answers (l : List ℕ) (R R' : Rooms) (st st' : State) (T : Sort) (o : Out Answer) : Type 0 where
  pub accepted : Accepts l R R' st st' o
  pub type : Stands l R'.props (count_of l st') T accepted.answer.ty

-- the run of term k
abbrev pub run_of : (l : List ℕ) → Rooms → ℕ → Mode → State → Out Answer
run_of l R k w st = run (term_at l k) w (ctx_of l R.props R.work st.context) (st_of st)

-- a refusal, as the rules have it, and one of theirs, as the code tells it
abbrev pub refusal_of : Refusal → Fault
refusal_of r = refusal r.number r.place

abbrev pub told : Fault → Refusal
told s = refusal_at s.number s.place

abbrev pub Refuses : {X : Type 0} → Out X → Refusal → Type 0
Refuses o r = o ≡ stop (refusal_of r)

-- THE CONTRACT of check and of synthesize: term k, run as it is wanted from the rooms R and the counts st, has come to this
abbrev pub RanAs : (l : List ℕ) → (R R' : Rooms) → ℕ → Want → State → Result Answered Refusal → Type 0
RanAs l R R' k w st (Ok a) = Answers l R R' st a.state a.typ (run_of l R k (mode l R.props w) st)
RanAs l R R' k w st (Err r) = Refuses (run_of l R k (mode l R.props w) st) r

-- the kinds whose check is a comparison: Ident, projections, Application
unfoldable pub synthesizes : ℕ → Bool
synthesizes k = eqb k 0 || (eqb k 2 || (eqb k 3 || eqb k 5))
