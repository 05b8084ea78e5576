-- What `count_of`, `inner` and `object_of` ask, from what a run begins with. Assumes nothing.
use mathlib.Core.Path.{◌≡◌}
use mathlib.Core.List.{List}
use Prim.Native.Nat.{ℕ, ◌+◌, ◌*◌, ◌<◌, ◌≤◌}
use native.Mathlib.Omega.{arith}
use lib.ListN.{length}
use Rattle.numbers.specs.Limits.{largest}
use Rattle.table.specs.Reading.{term_at}
use Rattle.arena.specs.Copy.{most_records}
use Rattle.context.specs.Context.{most_entries}
use Rattle.step.specs.declared.state.State.{State}
use Rattle.step.specs.Rooms.{Rooms, count_of, Base}
use Rattle.step.specs.Contract.{Ready}
use Rattle.step.proofs.Doing.{nodes_some}

-- the room has no more propositions than may be
pub base_count : {l : List ℕ} {R : Rooms} {st : State} → Base l R st → count_of l st ≤ most_records
base_count b = omega (arith, b.table.counted.propositions, b.made)

-- one record more can be counted, also where propositions were made
pub ready_inner : {l : List ℕ} {R : Rooms} {k : ℕ} {st : State} → Ready l R k st → (s : State) → s.records ≡ st.records → s.records < largest
ready_inner {l} {k = k} rd s e = omega (arith, rd.records, nodes_some (term_at l k))

-- the context has no more entries than may be
pub ready_context : {l : List ℕ} {R : Rooms} {k : ℕ} {st : State} → Ready l R k st → st.context ≤ most_entries
ready_context rd = omega (arith, rd.context, rd.base.table.counted.few)

-- a record, and a goal, has its place
pub ready_tree : {l : List ℕ} {R : Rooms} {k : ℕ} {st : State} → Ready l R k st → 16 * st.records + 16 ≤ length R.tree
ready_tree {l} {k = k} rd = omega (arith, rd.records, nodes_some (term_at l k), rd.base.tree_room)

pub ready_goals : {l : List ℕ} {R : Rooms} {k : ℕ} {st : State} → Ready l R k st → 8 * st.goals + 8 ≤ length R.goals
ready_goals {l} {k = k} rd = omega (arith, rd.goals, nodes_some (term_at l k), rd.base.goals_room)

pub ready_goal : {l : List ℕ} {R : Rooms} {k : ℕ} {st : State} → Ready l R k st → st.goals < largest
ready_goal {l} {k = k} rd = omega (arith, rd.goals, nodes_some (term_at l k))
