-- A table that passes its tests, with its propositions loaded and nothing made: the root may be run. Assumes nothing.
use mathlib.Core.Path.{◌≡◌}
use mathlib.Core.List.{List}
use Prim.Native.Nat.{ℕ, ◌*◌, ◌<◌, ◌≤◌}
use native.Mathlib.Omega.{arith}
use lib.ListN.{length}
use Rattle.table.specs.declared.Purpose.TheVariants.{Check}
use Rattle.rules.specs.Term.{nodes}
use Rattle.layout.specs.File.{terms}
use Rattle.table.specs.Passing.{Good}
use Rattle.table.specs.Reading.{term_at}
use Rattle.table.proofs.Links.{directed}
use Rattle.table.proofs.Counting.{nodes_root}
use Rattle.table.proofs.Passing.{good_passed}
use Rattle.step.specs.declared.state.State.{State}
use Rattle.step.specs.Rooms.{Rooms, Loaded, count_of, most_nodes, most_goals, run_room}
use Rattle.step.specs.Contract.{Ready}

-- nothing made yet, and goal a's picture is to be taken
abbrev pub beginning : ℕ → State
beginning a = record { records = 0; goals = 0; serials = 0; made = 0; context = 0; asked = a }

pub ready_root : {l : List ℕ} (R : Rooms) (a : ℕ) → Good Check l → Loaded l R.props (count_of l (beginning a)) → 16 * most_nodes ≤ length R.tree → 8 * most_goals ≤ length R.goals
    → run_room ≤ length R.work → Ready l R 0 (beginning a)
ready_root {l} R a good loaded tree goals work =
    let p = good_passed good in
    let some : 0 < terms l = omega (arith, p.counted.some) in
    let all : nodes (term_at l 0) ≡ terms l = nodes_root p.formed p.linked some in
    record {
      base =
          record {
            table = record { counted = p.counted; formed = p.formed; directed = directed p.linked };
            loaded = loaded;
            entries = λ i h. absurd (omega arith);
            made = omega arith;
            tree_room = tree;
            goals_room = goals;
            work_room = work;
          };
      here = some;
      records = omega (arith, all, p.counted.few);
      goals = omega (arith, all, p.counted.few);
      serials = omega (arith, all, p.counted.few);
      context = omega (arith, all, p.counted.few);
    }
