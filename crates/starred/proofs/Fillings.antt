-- Case 13 as files: the edited tables byte by byte, and what every call of `fill` answers.
-- Assumes nothing.
use mathlib.Core.Path.{◌≡◌, refl, sym, subst, ◌∙◌}
use mathlib.Core.Bool.{Bool, true, false, ◌&&◌}
use mathlib.Core.List.{List, [], ◌∷◌}
use Prim.Native.Nat.{ℕ, zero, suc, ◌<◌}
use native.Mathlib.Omega.{arith}
use native.Mathlib.Nat.{le_of_suc-le-suc, not-suc-le-zero}
use lib.Dec.{ltb, T, leb→le}
use lib.ListN.{length}
use Rattle.std.specs.Prelude.{Ok}
use Rattle.rules.specs.State.{St}
use Rattle.rules.specs.Tree.{Gap, holes}
use Rattle.rules.specs.Term.{plug}
use Rattle.rules.specs.Step.{Out, stop, ok, Answer}
use Rattle.rules.specs.Filling.{At, here, within, before, at_goal}
use Rattle.rules.specs.Cases.{line, no, yes, mark, ident, unit}
use Rattle.table.specs.declared.Purpose.TheVariants.{Filling}
use Rattle.table.specs.Tests.{tests}
use Rattle.table.specs.Reading.{term_at}
use Rattle.table.proofs.Passing.{good_passed}
use Rattle.editing.specs.Edited.{Bytes, Edited, edited_from_sizes, edited_tests}
use Rattle.editing.proofs.Edits.{goal_fillable}
use Rattle.editing.proofs.Alike.{edited_unique}
use Rattle.step.proofs.Goals.{goal_unique}
use Rattle.entry.specs.Mark.{table_run}
use Rattle.entry.proofs.Answers.{table_ok}
use Rattle.filling.specs.Fill.{Lent, all_long, Filled, counts_from, RunAs, EditedAs, Goal, GoalAs, FillingAs, OldAs, RoomsAs, Fills}
use Rattle.starred.specs.Bytes.{case_1, case_13, case_13_unit, by_h, by_unit}
use Rattle.starred.specs.Tables.{h, read}
use Rattle.starred.specs.Fillings.{hole, with_hole, one_serial, Edits, FillPrints, FilledBy, NoGoal}
use Rattle.starred.proofs.Printed.{tree_printed}

-- A FINITE STATEMENT, from each of its cases
abbrev Each : ℕ → (ℕ → Type 0) → Type 0
Each zero F = Unit {0}
Each (suc n) F = F 0 × Each n (λ i. F (suc i))

each_below : (n : ℕ) (F : ℕ → Type 0) → Each n F → (i : ℕ) → i < n → F i
each_below zero F x i k = absurd (not-suc-le-zero k)
each_below (suc n) F x zero k = x.0
each_below (suc n) F x (suc i) k = each_below n (λ i. F (suc i)) x.1 i (le_of_suc-le-suc k)

-- a list of bytes, by computation
abbrev all_bytes : List ℕ → Bool
all_bytes [] = true
all_bytes (b ∷ bs) = ltb b 256 && all_bytes bs

both : (a b : Bool) → T (a && b) → T a × T b
both true b t = (tt, t)
both false b t = absurd t

bytes : (l : List ℕ) → T (all_bytes l) → Bytes l
bytes [] t i = leb→le 1 256 tt
bytes (b ∷ bs) t zero = leb→le (suc b) 256 (both (ltb b 256) (all_bytes bs) t).0
bytes (b ∷ bs) t (suc i) = bytes bs (both (ltb b 256) (all_bytes bs) t).1 i

-- A FILLING whose goal and edited table are known: the answer is that of the filling's run
known_edit : (l f : List ℕ) (k : ℕ) (a : Answer) (st : St) (g : Gap) (e : List ℕ) → table_run l ≡ ok a st → tests Filling f ≡ Ok tt → ltb k (holes a.tree) ≡ true
    → (p : At g a.tree) → length (before p) ≡ k → Bytes e → Edited l f g.term e → edited_tests e ≡ Ok tt
    → (S S' : Lent) (r : Filled) → all_long S ≡ true → Fills S S' l f k r → RunAs S S' e g r (at_goal (term_at e g.term) g)
known_edit l f k a st g e run fills few p number bytes edited passes S S' r long x =
    let x₀ : RoomsAs S S' l f k r true = subst (RoomsAs S S' l f k r) long x in
    let x₁ : OldAs S S' l f k r (ok a st) = subst (OldAs S S' l f k r) run x₀ in
    let x₂ : FillingAs S S' l f k a r (Ok tt) = subst (FillingAs S S' l f k a r) fills x₁ in
    let z : Goal S S' l f k a r = subst (GoalAs S S' l f k a r) few x₂ in
    let y = table_ok l a st run in
    let here = goal_fillable l f y.0 fills a st y.1 g p in
    let same : z.goal ≡ g = goal_unique z.stands p (z.number ∙ sym number) in
    let one : z.table ≡ e =
    edited_unique here.inside (good_passed fills).counted.some (subst (λ (g : Gap). Edited l f g.term z.table) same z.edited) edited z.bytes bytes in
    subst (EditedAs S S' e g r) passes
    (subst (λ (e : List ℕ). EditedAs S S' e g r (edited_tests e)) one (subst (λ (g : Gap). EditedAs S S' z.table g r (edited_tests z.table)) same z.answer))

pub run_13 : table_run case_13 ≡ ok with_hole one_serial
unfolding case_13 read
run_13 = refl

pub edits_h : Edits case_13 by_h 1 (ident 1 h) case_1
unfolding plug edited_from_sizes edited_tests case_1 case_13 by_h read
edits_h =
    record {
      fills = refl;
      edited =
          record {
            size = refl;
            head = refl;
            old_prop = each_below 3 _ (refl, (refl, (refl, tt)));
            added_prop = λ j k. absurd (not-suc-le-zero k);
            old_term = each_below 2 _ ((λ _. refl), ((λ no. absurd (no refl)), tt));
            here = refl;
            added_term = λ i p k. let z : i < 1 = k in absurd (omega arith);
          };
      passes = refl;
      hole = refl;
      root = refl;
    }

pub edits_unit : Edits case_13 by_unit 1 (unit 1) case_13_unit
unfolding plug edited_from_sizes edited_tests case_13_unit case_13 by_unit read
edits_unit =
    record {
      fills = refl;
      edited =
          record {
            size = refl;
            head = refl;
            old_prop = each_below 3 _ (refl, (refl, (refl, tt)));
            added_prop = λ j k. absurd (not-suc-le-zero k);
            old_term = each_below 2 _ ((λ _. refl), ((λ no. absurd (no refl)), tt));
            here = refl;
            added_term = λ i p k. let z : i < 1 = k in absurd (omega arith);
          };
      passes = refl;
      hole = refl;
      root = refl;
    }

-- what the filling's run says is what is printed
run_printed : (S S' : Lent) (e : List ℕ) (g : Gap) (r : Filled) (o : Out Answer) → RunAs S S' e g r o → FillPrints e S' (mark o) r
unfolding mark
run_printed S S' e g r (stop z) x = x.answer
run_printed S S' e g r (ok b st) x =
    subst (FillPrints e S' (mark (ok b st))) (sym x.answer) (tree_printed e S'.rooms _ b.tree (counts_from g b st) refl refl x.rooms.holds.trees, x.table)

-- 13 with h: the edited table is case 1, byte by byte
pub filled_with_h : FilledBy case_13 by_h 0 case_1 (yes (line 0 1 (0 ∷ []) 0 ∷ []) [])
unfolding before holes case_1 read
filled_with_h S S' r long x =
    run_printed S S' case_1 hole r (at_goal (term_at case_1 1) hole)
    (known_edit case_13 by_h 0 with_hole one_serial hole case_1 run_13 edits_h.fills refl (within here) refl (bytes case_1 tt) edits_h.edited edits_h.passes S S' r long x)

-- 13 with unit: 11 at 1 of the edited table
pub filled_with_unit : FilledBy case_13 by_unit 0 case_13_unit (no 11 1)
unfolding before holes case_13_unit read
filled_with_unit S S' r long x =
    run_printed S S' case_13_unit hole r (at_goal (term_at case_13_unit 1) hole)
    (known_edit case_13 by_unit 0 with_hole one_serial hole case_13_unit run_13 edits_unit.fills refl (within here) refl (bytes case_13_unit tt) edits_unit.edited edits_unit.passes S S' r long x)

-- 13 has no goal 1
pub no_goal_1 : NoGoal case_13 by_unit 1
unfolding holes
no_goal_1 S S' r long x =
    let x₀ : RoomsAs S S' case_13 by_unit 1 r true = subst (RoomsAs S S' case_13 by_unit 1 r) long x in
    let x₁ : OldAs S S' case_13 by_unit 1 r (ok with_hole one_serial) = subst (OldAs S S' case_13 by_unit 1 r) run_13 x₀ in
    let x₂ : GoalAs S S' case_13 by_unit 1 with_hole r false = subst (FillingAs S S' case_13 by_unit 1 with_hole r) edits_unit.fills x₁ in
    x₂.answer
