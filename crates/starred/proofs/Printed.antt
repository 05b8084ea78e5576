-- Every call prints the mark that `rules` gives the table.
-- Assumes nothing.
use mathlib.Core.Path.{◌≡◌, refl, ap, sym, subst, ◌∙◌}
use mathlib.Core.Bool.{Bool, cond}
use mathlib.Core.List.{List, [], ◌∷◌, ◌++◌, map}
use Prim.Native.Nat.{ℕ, suc, ◌+◌}
use native.Mathlib.Omega.{arith}
use lib.ListN.{length, length-append, length-map}
use Rattle.numbers.specs.declared.record.Record.{Record}
use Rattle.rules.specs.Tree.{Gap, Trees, end, gap, node, goals, records, holes}
use Rattle.rules.specs.Tree as tree
use Rattle.rules.specs.Step.{Out, stop, refused, ok, Answer}
use Rattle.rules.specs.Cases.{Line, goal, width, lines, mark}
use Rattle.rules.proofs.Spent.{holes_goals}
use Rattle.step.specs.declared.node.Goal as declared
use Rattle.step.specs.Rooms.{Rooms}
use Rattle.step.specs.Trees.{second_serial, TreesAre}
use Rattle.entry.specs.declared.Counts.{Counts}
use Rattle.entry.specs.Mark.{Mark as Answered, table_run, outcome, counts_of, MarkedAs}
use Rattle.starred.specs.Printed.{LinesAre, GoalsAre, Yes, Prints, MarkedBy}

same_width : (ts : Trees) → tree.width ts ≡ width ts
unfolding tree.width width
same_width end = refl
same_width (gap g ts) = ap suc (same_width ts)
same_width (node n ps ts) = ap suc (same_width ts)

lines_length : (ts : Trees) → length (lines ts) ≡ records ts
unfolding lines records
lines_length end = refl
lines_length (gap g ts) = omega (arith, lines_length ts)
lines_length (node n ps ts) = omega (arith, length-append (lines ps) (lines ts), lines_length ps, lines_length ts)

lines_join : (w : List ℕ) (n : ℕ) (xs ys : List Line) → LinesAre w n xs → LinesAre w (n + length xs) ys → LinesAre w n (xs ++ ys)
lines_join w n [] ys h k = subst (λ (i : ℕ). LinesAre w i ys) (omega arith) k
lines_join w n (x ∷ xs) ys h k = (h.0, lines_join w (n + 1) xs ys h.1 (subst (λ (i : ℕ). LinesAre w i ys) (omega arith) k))

goals_join : (w : List ℕ) (n : ℕ) (xs ys : List Gap) → GoalsAre w n (map (λ g. goal g.term (length g.ctx)) xs) → GoalsAre w (n + length xs) (map (λ g. goal g.term (length g.ctx)) ys)
    → GoalsAre w n (map (λ g. goal g.term (length g.ctx)) (xs ++ ys))
goals_join w n [] ys h k = subst (λ (i : ℕ). GoalsAre w i (map (λ g. goal g.term (length g.ctx)) ys)) (omega arith) k
goals_join w n (x ∷ xs) ys h k =
    (h.0, goals_join w (n + 1) xs ys h.1 (subst (λ (i : ℕ). GoalsAre w i (map (λ g. goal g.term (length g.ctx)) ys)) (omega arith) k))

module _ (l : List ℕ) (R : Rooms) (c : ℕ) where
  tree_lines : (n m : ℕ) (ts : Trees) → TreesAre l R c n m ts → LinesAre R.tree n (lines ts)
  unfolding TreesAre lines
  tree_lines n m end h = tt
  tree_lines n m (gap g ts) h =
      let e = h.0.leaf in ((ap (λ (r : Record). r.kind) e, ap (λ (r : Record). r.a) e, ap (λ (r : Record). r.c) e, ap (λ (r : Record). r.parameters) e), tree_lines (n + 1) (m + 1) ts h.1)
  tree_lines n m (node nd ps ts) h =
      let e = h.0.is in (
        (
          ap (λ (r : Record). r.kind) e,
          ap (λ (r : Record). r.a) e,
          ap (λ (r : Record). r.c) e,
          ap (λ (r : Record). r.parameters) e ∙ ap (λ (w : ℕ). second_serial nd.serials ∷ w ∷ 0 ∷ 0 ∷ []) (same_width ps),
        ),
        lines_join R.tree (n + 1) (lines ps) (lines ts) (tree_lines (n + 1) m ps h.1)
            (subst (λ (i : ℕ). LinesAre R.tree i (lines ts)) (omega (arith, lines_length ps)) (tree_lines (n + 1 + records ps) (m + holes ps) ts h.2)),
      )

  goal_lines : (n m : ℕ) (ts : Trees) → TreesAre l R c n m ts → GoalsAre R.goals m (map (λ g. goal g.term (length g.ctx)) (goals ts))
  unfolding TreesAre goals
  goal_lines n m end h = tt
  goal_lines n m (gap g ts) h =
      let e = h.0.goal in ((ap (λ (x : declared.Goal). x.term.0) e, ap (λ (x : declared.Goal). x.context) e, ap (λ (x : declared.Goal). x.zero) e), goal_lines (n + 1) (m + 1) ts h.1)
  goal_lines n m (node nd ps ts) h =
      goals_join R.goals m (goals ps) (goals ts) (goal_lines (n + 1) m ps h.1)
      (subst (λ (i : ℕ). GoalsAre R.goals i (map (λ g. goal g.term (length g.ctx)) (goals ts))) (omega (arith, holes_goals ps)) (goal_lines (n + 1 + records ps) (m + holes ps) ts h.2))

-- the trees of an answer in their room, with counts that say how many they are
pub tree_printed : (l : List ℕ) (R : Rooms) (n : ℕ) (ts : Trees) (c : Counts) → c.records ≡ records ts → c.goals ≡ holes ts → TreesAre l R n 0 0 ts
    → Yes R (lines ts) (map (λ g. goal g.term (length g.ctx)) (goals ts)) c
tree_printed l R n ts c many few h =
    record {
      records = many ∙ sym (lines_length ts);
      goals = few ∙ holes_goals ts ∙ sym (length-map (goals ts) (λ (g : Gap). goal g.term (length g.ctx)));
      tree = tree_lines l R n 0 0 ts h;
      goal_lines = goal_lines l R n 0 0 ts h;
    }

by_outcome : (l : List ℕ) (R R' : Rooms) (a : Answered) (o : Out Answer) → MarkedAs l R R' o a → Prints R' (mark o) a
unfolding mark
by_outcome l R R' a (stop r) x = x.0
by_outcome l R R' a (ok b st) x = subst (Prints R' (mark (ok b st))) (sym x.0) (tree_printed l R' _ b.tree (counts_of b st) refl refl x.1.holds.trees)

pub printed : (l : List ℕ) → MarkedBy l (mark (table_run l))
unfolding outcome
printed l R R' a long x =
    subst (λ (b : Bool). Prints R' (mark (cond b (table_run l) (refused 1 0))) a) long (by_outcome l R R' a (outcome l R) x)
