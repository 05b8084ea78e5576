-- The goals of a run's trees by their numbers: where each stands, its record, its picture in another table, and the run that starts there. Assumes nothing.
use mathlib.Core.Path.{◌≡◌, refl, ap, sym, subst⁻¹, ◌∙◌}
use mathlib.Core.List.{List}
use Prim.Native.Nat.{ℕ, ◌+◌, ◌*◌, ◌<◌, ◌≤◌}
use native.Mathlib.Omega.{arith}
use lib.ListN.{length, length-append}
use Rattle.numbers.specs.declared.Sort.{Sort}
use Rattle.layout.specs.File.{props, terms}
use Rattle.rules.specs.State.{St, start}
use Rattle.rules.specs.Term.{nodes}
use Rattle.rules.specs.Tree.{Gap, Trees, goals, records, holes}
use Rattle.rules.specs.Filling.{At, here, past_gap, past_node, within, before}
use Rattle.rules.proofs.Demand.{place_at_goal}
use Rattle.rules.proofs.Spent.{holes_goals, Reached}
use Rattle.table.specs.Reading.{term_at}
use Rattle.prop.specs.Room.{type_at, TypeIn}
use Rattle.context.proofs.Laws.{ctx_length}
use Rattle.step.specs.declared.node.Goal.{Goal}
use Rattle.step.specs.declared.state.State.{State}
use Rattle.step.specs.Rooms.{Rooms, Table, Loaded, reads, count_of, most_nodes, most_goals, run_room}
use Rattle.step.specs.Trees.{goal_at, TreesAre}
use Rattle.step.specs.Picture.{pictured_state, pictured_type, pictured_at, pictured_ctx, PictureIs, StartsAt}
use Rattle.step.specs.Contract.{Ready}

-- A GOAL'S NUMBER is below the number of gaps
pub few_goals : {g : Gap} {ts : Trees} (p : At g ts) → length (before p) < holes ts
unfolding before holes
few_goals here = omega arith
few_goals (past_gap p) = omega (arith, few_goals p)
few_goals (past_node {ps = us} p) = omega (arith, few_goals p, holes_goals us, length-append (goals us) (before p))
few_goals (within p) = omega (arith, few_goals p)

-- and each number below it is that of a gap
pub goal_place : (k : ℕ) (ts : Trees) → k < holes ts → (g : Gap) × (p : At g ts) × (length (before p) ≡ k)
goal_place k ts h = place_at_goal k ts (omega (arith, holes_goals ts))

-- of one only
pub goal_unique : {g g' : Gap} {ts : Trees} (p : At g ts) (p' : At g' ts) → length (before p) ≡ length (before p') → g ≡ g'
unfolding before
goal_unique here here e = refl
goal_unique here (past_gap q) e = absurd (omega arith)
goal_unique (past_gap p) here e = absurd (omega arith)
goal_unique (past_gap p) (past_gap q) e = goal_unique p q (omega arith)
goal_unique (past_node {ps = us} p) (past_node q) e = goal_unique p q (omega (arith, length-append (goals us) (before p), length-append (goals us) (before q)))
goal_unique (past_node {ps = us} p) (within q) e = absurd (omega (arith, few_goals q, holes_goals us, length-append (goals us) (before p)))
goal_unique (within {ps = us} p) (past_node q) e = absurd (omega (arith, few_goals p, holes_goals us, length-append (goals us) (before q)))
goal_unique (within p) (within q) e = goal_unique p q e

-- ITS RECORD names its term
abbrev named_at : Rooms → ℕ → ℕ
named_at R i = (goal_at R.goals i).term.0

module _ (l : List ℕ) (R : Rooms) (c : ℕ) where
  pub goal_term : {g : Gap} (n m : ℕ) {ts : Trees} (p : At g ts) → TreesAre l R c n m ts → (goal_at R.goals (m + length (before p))).term.0 ≡ g.term
  unfolding TreesAre before
  goal_term n m (here {ts = ts}) h = ap (named_at R) (omega arith) ∙ ap (λ (x : Goal). x.term.0) h.0.goal
  goal_term n m (past_gap p) h = ap (named_at R) (omega arith) ∙ goal_term (n + 1) (m + 1) p h.1
  goal_term n m (past_node {ps = us} p) h =
      ap (named_at R) (omega (arith, holes_goals us, length-append (goals us) (before p))) ∙ goal_term (n + 1 + records us) (m + holes us) p h.2
  goal_term n m (within p) h = goal_term (n + 1) m p h.1

-- ITS PICTURE is one in every table with the same counts
pub picture_moved : {l l' ps w : List ℕ} {c : ℕ} {g : Gap} → PictureIs l ps w c g → props l' ≡ props l → terms l' ≡ terms l → PictureIs l' ps w c g
picture_moved {l} {l'} {ps} {w} {c} {g} p e k =
    let m = (pictured_state w).made in
    record {
      counts = p.counts;
      wanted =
          record {
            among = subst⁻¹ (λ (n : ℕ). TypeIn (n + m) (pictured_type w)) e p.wanted.among;
            means = ap (λ (n : ℕ). type_at n ps (pictured_type w)) e ∙ p.wanted.means;
          };
      entries = λ i h. subst⁻¹ (λ (n : ℕ). TypeIn (n + m) (pictured_at w i).typ) e (p.entries i h);
      context = ap (λ (n : ℕ). pictured_ctx (type_at n ps) w (pictured_state w).context) e ∙ p.context;
      still = omega (arith, e, p.still);
      few_made = p.few_made;
      few_serials = omega (arith, k, p.few_serials);
      few_entries = omega (arith, k, p.few_entries);
    }

-- THE RUN OF A FILLING, whose root is term q of the edited table e: the script, of n nodes, reached the hole with so many serials and entries, and all
-- of the table's terms are nodes of the two, but for the Sorry
pub ready_hole : {e : List ℕ} (R : Rooms) (q n : ℕ) {g : Gap} {T : Sort} {st : State} → Table e → Loaded e R.props (count_of e st) → StartsAt e R.props R.work g T st
    → 16 * most_nodes ≤ length R.tree → 8 * most_goals ≤ length R.goals → run_room ≤ length R.work → st.records ≡ 0 → st.goals ≡ 0 → q < terms e
    → nodes (term_at e q) + n ≡ terms e + 1 → Reached n 0 start g → Ready e R q st
ready_hole {e} R q n {g} {T} {st} table loaded starts tree_room goals_room work_room none no_goals inside all reached =
    let s : st.serials ≡ g.state.serials = ap (λ (x : St). x.serials) starts.counts in
    let c : st.context ≡ length g.ctx = sym (ctx_length (reads e R.props) R.work st.context) ∙ ap length starts.context in
    record {
      base =
          record {
            table = table;
            loaded = loaded;
            entries = starts.entries;
            made = starts.few_made;
            tree_room = tree_room;
            goals_room = goals_room;
            work_room = work_room;
          };
      here = inside;
      records = omega (arith, table.counted.few, reached.serials);
      goals = omega (arith, table.counted.few, reached.serials);
      serials = omega (arith, reached.serials);
      context = omega (arith, reached.entries);
    }
