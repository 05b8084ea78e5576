-- What a run carries along and what its rooms hold, read as the rules see it. Assumes nothing.
use Rattle.std.specs.Prelude.{◌≡◌, List, ℕ, ◌+◌, ◌*◌, ◌<◌, ◌≤◌, length}
use Rattle.numbers.specs.declared.Sort.{Sort}
use Rattle.numbers.specs.Limits.{most_terms, none}
use Rattle.layout.specs.File.{props, terms}
use Rattle.rules.specs.Prop.{Ty}
use Rattle.rules.specs.Context.{Ctx}
use Rattle.rules.specs.State.{St, limit}
use Rattle.table.specs.Reading.{prop_at}
use Rattle.table.specs.Passing.{Counted, Formed, Directed}
use Rattle.prop.specs.Room.{room_at, type_at, TypeIn, Arena}
use Rattle.arena.specs.Copy.{most_records}
use Rattle.context.specs.Context.{entry_at, ctx_at, most_entries}
use Rattle.step.specs.declared.state.State.{State}

-- WHAT A RUN MAY COME TO: no term gives more than two tree records (its own and an AlphaEq), two serials, one goal
abbrev pub most_nodes : ℕ
most_nodes = 2 * most_terms

abbrev pub most_goals : ℕ
most_goals = most_terms

abbrev pub most_serials : ℕ
most_serials = 2 * most_terms

-- HOW MANY A RUN OF THIS TABLE CAN COME TO: no term gives more than two serials and two entries
abbrev pub serials_cap : List ℕ → ℕ
serials_cap l = 2 * terms l

abbrev pub entries_cap : List ℕ → ℕ
entries_cap l = 2 * terms l

-- THE WORK ROOM: the context's entries, and behind them a goal's picture (Picture.antt), whose own entries come after a head of two entries' worth
abbrev pub first_pictured : ℕ
first_pictured = most_entries + 2

abbrev pub run_room : ℕ
run_room = 8 * (first_pictured + most_entries)

-- THE COUNTS
abbrev pub st_of : State → St
st_of st = record { serials = st.serials; made = st.made }

-- how many propositions there are
abbrev pub count_of : List ℕ → State → ℕ
count_of l st = props l + st.made

-- one record further
abbrev pub inner : State → State
inner st = record { records = st.records + 1; goals = st.goals; serials = st.serials; made = st.made; context = st.context; asked = st.asked }

-- from where a filling starts: nothing of its own yet, and no picture is asked for
abbrev pub starting : State → State
starting st = record { records = 0; goals = 0; serials = st.serials; made = st.made; context = st.context; asked = none }

-- with so many entries
abbrev pub leaving : State → ℕ → State
leaving st n = record { records = st.records; goals = st.goals; serials = st.serials; made = st.made; context = n; asked = st.asked }

-- with one serial more
abbrev pub numbered : State → State
numbered st = record { records = st.records; goals = st.goals; serials = st.serials + 1; made = st.made; context = st.context; asked = st.asked }

-- with one entry more
abbrev pub deeper : State → State
deeper st = record { records = st.records; goals = st.goals; serials = st.serials; made = st.made; context = st.context + 1; asked = st.asked }

-- with c more propositions made
abbrev pub making : ℕ → State → State
making c st = record { records = st.records; goals = st.goals; serials = st.serials; made = st.made + c; context = st.context; asked = st.asked }

-- THE ROOMS
pub record Rooms : Type 0 where
  pub tree : List ℕ
  pub goals : List ℕ
  pub props : List ℕ
  pub work : List ℕ

abbrev pub rooms : (tree goals props work : List ℕ) → Rooms
rooms t g p w = record { tree = t; goals = g; props = p; work = w }

-- what a type stands for in a propositions room, and what the first n entries of a work room are to the rules; l is the table
abbrev pub reads : (l ps : List ℕ) → Sort → Ty
reads l ps = type_at (props l) ps

abbrev pub ctx_of : (l ps work : List ℕ) → ℕ → Ctx
ctx_of l ps work n = ctx_at (reads l ps) work n

-- a number that stands for a type, among the first c propositions
pub record Stands (l ps : List ℕ) (c : ℕ) (T : Sort) (A : Ty) : Type 0 where
  pub among : TypeIn c T
  pub means : reads l ps T ≡ A

-- entries whose types are all among the first c propositions
abbrev pub Entries : List ℕ → ℕ → ℕ → Type 0
Entries work n c = (i : ℕ) → i < n → TypeIn c (entry_at work i).typ

-- a table that passed tests 3 and 4, and of 5 that its links go the right way
pub record Table (l : List ℕ) : Type 0 where
  pub counted : Counted l
  pub formed : Formed l
  pub directed : Directed l

-- a propositions room of c propositions, the table's first
pub record Loaded (l ps : List ℕ) (c : ℕ) : Type 0 where
  pub arena : Arena ps c
  pub first : props l ≤ c
  pub table : (m : ℕ) → m < props l → room_at (props l) ps m ≡ prop_at l m
  pub long : 16 * most_records ≤ length ps

-- what holds of the table and the rooms, with the counts of st
pub record Base (l : List ℕ) (R : Rooms) (st : State) : Type 0 where
  pub table : Table l
  pub loaded : Loaded l R.props (count_of l st)
  pub entries : Entries R.work st.context (count_of l st)
  pub made : st.made ≤ limit
  pub tree_room : 16 * most_nodes ≤ length R.tree
  pub goals_room : 8 * most_goals ≤ length R.goals
  pub work_room : run_room ≤ length R.work
