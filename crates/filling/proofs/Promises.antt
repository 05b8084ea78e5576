-- The statements of specs/Promises.antt, from `Fills`. Assumes nothing.
use mathlib.Core.Path.{◌≡◌, refl, ap, sym, subst, subst⁻¹, ◌∙◌}
use mathlib.Core.Bool.{Bool, true, false}
use mathlib.Core.Logic.{◌⊎◌, inl, inr}
use mathlib.Core.List.{List}
use Prim.Native.Nat.{ℕ, ◌<◌}
use native.Mathlib.Omega.{arith}
use lib.ListN.{length, get_or, take, length-map}
use lib.Dec.{ltb}
use Rattle.numbers.specs.declared.refusal.Refusal.{Refusal}
use Rattle.numbers.specs.Refusals.{refusal_at}
use Rattle.rules.specs.State.{St}
use Rattle.rules.specs.Term.{sorries}
use Rattle.rules.specs.Tree.{Gap, goals, holes}
use Rattle.rules.specs.Step.{Out, stop, ok, Answer}
use Rattle.rules.specs.Filling.{before, at_goal}
use Rattle.rules.proofs.Goals.{goals_in_order}
use Rattle.rules.proofs.Spent.{holes_goals}
use Rattle.table.specs.declared.Purpose.TheVariants.{Check, Filling}
use Rattle.table.specs.Tests.{tests}
use Rattle.table.specs.Passing.{Good}
use Rattle.table.specs.Reading.{term_at}
use Rattle.table.proofs.Passing.{good_passed}
use Rattle.editing.specs.Edited.{edited_size, Fillable, Edited, edited_tests}
use Rattle.editing.specs.Renumbered.{StandsFor}
use Rattle.editing.proofs.Edits.{goal_fillable, edited_good}
use Rattle.editing.proofs.Alike.{edited_unique}
use Rattle.editing.proofs.Renumbered.{edited_stands_for}
use Rattle.step.specs.Contract.{told}
use Rattle.step.proofs.Goals.{few_goals, goal_unique}
use Rattle.entry.specs.declared.Counts.{Counts}
use Rattle.entry.specs.Mark.{root_run, table_run}
use Rattle.entry.specs.Promises.{Sorries, SameTree}
use Rattle.entry.proofs.Answers.{table_ok}
use Rattle.entry.proofs.Promises.{gap_term, sorries_are, same_tree}
use Rattle.filling.specs.declared.answer.Which.{Which}
use Rattle.filling.specs.declared.answer.Which.TheVariants as which
use Rattle.std.specs.Prelude.{Ok, Err, Result, ⊤}
use Rattle.filling.specs.Fill.{Lent, Filled, all_long, Refuses, counts_from, RunAs, EditedAs, Goal, GoalAs, FillingAs, OldAs, RoomsAs}
use Rattle.filling.specs.Promises.{left_table, sorry_of, LeftEdited, LeavesEdited, FilledSorries, SameIfFilled, TwoFillingsAgree}

-- THE FIRST FOUR STAGES do not look at what the rooms hold. They refuse every filling of goal k with f alike, or find that goal in the old run
abbrev Stage : Type 1
Stage = Lent → Lent → Filled → Type 0

record Refused (F : Stage) : Type 0 where
  refusal : Refusal
  in_table : Which
  so : (S S' : Lent) (r : Filled) → F S S' r → Refuses S S' refusal in_table r

module _ (l f : List ℕ) (k : ℕ) where
  record Found (F : Stage) : Type 0 where
    old_good : Good Check l
    good : Good Filling f
    answer : Answer
    state : St
    run : root_run l ≡ ok answer state
    so : (S S' : Lent) (r : Filled) → F S S' r → Goal S S' l f k answer r

  abbrev Alike : Stage → Type 0
  Alike F = Refused F ⊎ Found F

  by_number : Good Check l → Good Filling f → (a : Answer) (st : St) → root_run l ≡ ok a st → (b : Bool) → Alike (λ S S' r. GoalAs S S' l f k a r b)
  by_number good fills a st run false = inl record { refusal = refusal_at 31 0; in_table = which.Old; so = λ S S' r x. x }
  by_number good fills a st run true = inr record { old_good = good; good = fills; answer = a; state = st; run = run; so = λ S S' r x. x }

  by_filling : Good Check l → (a : Answer) (st : St) → root_run l ≡ ok a st → (v : Result ⊤ Refusal) → tests Filling f ≡ v → Alike (λ S S' r. FillingAs S S' l f k a r v)
  by_filling good a st run (Err u) e = inl record { refusal = u; in_table = which.Filling; so = λ S S' r x. x }
  by_filling good a st run (Ok u) e = by_number good e a st run (ltb k (holes a.tree))

  by_old : (o : Out Answer) → table_run l ≡ o → Alike (λ S S' r. OldAs S S' l f k r o)
  by_old (stop s) e = inl record { refusal = told s; in_table = which.Old; so = λ S S' r x. x }
  by_old (ok a st) e = let z = table_ok l a st e in by_filling z.0 a st z.1 (tests Filling f) refl

  by_rooms : (b : Bool) → Alike (λ S S' r. RoomsAs S S' l f k r b)
  by_rooms false = inl record { refusal = refusal_at 1 0; in_table = which.Old; so = λ S S' r x. x }
  by_rooms true = by_old (table_run l) refl

-- THE TABLE e that an acceptance leaves
table_left : (l f e : List ℕ) (S : Lent) → length e ≡ edited_size l f → take (length e) S.edited ≡ e → left_table l f S ≡ e
table_left l f e S size h = ap (λ (n : ℕ). take n S.edited) (sym size) ∙ h

-- AN ACCEPTED FILLING
abbrev goals_in : Counts → Filled → ℕ
goals_in d (Ok c) = c.goals
goals_in d (Err e) = d.goals

module _ (l f : List ℕ) (k : ℕ) (S S' : Lent) (c : Counts) where
  not_refused : {A : Type 0} {u : Refusal} {w : Which} → Refuses S S' u w (Ok c) → A
  not_refused x = absurd (let y = x.answer in let z : ◌≡◌ {A = ℕ} 0 1 = cc in omega arith)

  kept_run : (e : List ℕ) (g : Gap) (o : Out Answer) → RunAs S S' e g (Ok c) o → take (length e) S'.edited ≡ e
  kept_run e g (stop s) x = not_refused x
  kept_run e g (ok b st) x = x.table

  kept : (e : List ℕ) (g : Gap) (v : Result ⊤ Refusal) → EditedAs S S' e g (Ok c) v → (v ≡ Ok tt) × (take (length e) S'.edited ≡ e)
  kept e g (Err u) x = not_refused x
  kept e g (Ok u) x = (refl, kept_run e g (at_goal (term_at e g.term) g) x)

  sorries_run : (e : List ℕ) (g : Gap) (o : Out Answer) → at_goal (term_at e g.term) g ≡ o → RunAs S S' e g (Ok c) o → Sorries (term_at e g.term) S'.rooms c
  sorries_run e g (stop s) h x = not_refused x
  sorries_run e g (ok b st) h x =
      sorries_are e S'.rooms _ (term_at e g.term) b.tree c (goals_in_order (term_at e g.term) _ _ _ b st h) (ap (goals_in c) x.answer) x.rooms.holds.trees

  sorries_edit : (e : List ℕ) (g : Gap) (v : Result ⊤ Refusal) → EditedAs S S' e g (Ok c) v → Sorries (term_at e g.term) S'.rooms c
  sorries_edit e g (Err u) x = not_refused x
  sorries_edit e g (Ok u) x = sorries_run e g (at_goal (term_at e g.term) g) refl x

  module _ (a : Answer) (st : St) (run : root_run l ≡ ok a st) (z : Goal S S' l f k a (Ok c)) where
    there : k < length (sorries (term_at l 0))
    there =
        let order = ap length (goals_in_order (term_at l 0) _ _ _ a st run) in
        omega (arith, few_goals z.stands, z.number, holes_goals a.tree, length-map (goals a.tree) (λ (g : Gap). g.term), order)

    sorry_is : z.goal.term ≡ sorry_of l k
    sorry_is =
        sym (gap_term z.stands)
        ∙ ap (λ (ts : List ℕ). get_or ts (length (before z.stands)) 0) (goals_in_order (term_at l 0) _ _ _ a st run)
        ∙ ap (λ (n : ℕ). get_or (sorries (term_at l 0)) n 0) z.number

    left : Fillable l f z.goal.term → LeftEdited l f k (left_table l f S')
    left h =
        let y = kept z.table z.goal (edited_tests z.table) z.answer in
        subst⁻¹ (LeftEdited l f k) (table_left l f z.table S' z.edited.size y.1)
        record {
          there = there;
          bytes = z.bytes;
          edited = subst (λ (q : ℕ). Edited l f q z.table) sorry_is z.edited;
          good = edited_good h z.edited y.0;
          means = subst (λ (q : ℕ). StandsFor l f q z.table) sorry_is (edited_stands_for l f z.goal.term z.table h z.edited);
        }

    sorries_left : Sorries (term_at (left_table l f S') (sorry_of l k)) S'.rooms c
    sorries_left =
        let y = kept z.table z.goal (edited_tests z.table) z.answer in
        let e = table_left l f z.table S' z.edited.size y.1 in
        subst⁻¹ (λ (e : List ℕ). Sorries (term_at e (sorry_of l k)) S'.rooms c) e
        (subst (λ (q : ℕ). Sorries (term_at z.table q) S'.rooms c) sorry_is (sorries_edit z.table z.goal (edited_tests z.table) z.answer))

pub filled_sorries : FilledSorries
filled_sorries l f k S S' c x = at (by_rooms l f k (all_long S))
  where
    at : Alike l f k (λ T T' r. RoomsAs T T' l f k r (all_long S)) → Sorries (term_at (left_table l f S') (sorry_of l k)) S'.rooms c
    at (inl y) = not_refused l f k S S' c (y.so S S' (Ok c) x)
    at (inr y) = sorries_left l f k S S' c y.answer y.state y.run (y.so S S' (Ok c) x)

pub leaves_edited : LeavesEdited
leaves_edited l f k S S' c x = at (by_rooms l f k (all_long S))
  where
    at : Alike l f k (λ T T' r. RoomsAs T T' l f k r (all_long S)) → LeftEdited l f k (left_table l f S')
    at (inl y) = not_refused l f k S S' c (y.so S S' (Ok c) x)
    at (inr y) =
        let z = y.so S S' (Ok c) x in
        left l f k S S' c y.answer y.state y.run z (goal_fillable l f y.old_good y.good y.answer y.state y.run z.goal z.stands)

-- TWO FILLINGS, each stage on one finding of both
module _ (l f : List ℕ) (k : ℕ) (S S' Z Z' : Lent) (r s : Filled) where
  abbrev Same : Type 0
  Same = (r ≡ s) × SameIfFilled l f S' Z' r

  both_refuse : {u : Refusal} {w : Which} → Refuses S S' u w r → Refuses Z Z' u w s → Same
  both_refuse x y = (x.answer ∙ sym y.answer, subst⁻¹ (SameIfFilled l f S' Z') x.answer tt)

  -- with one edited table and one goal
  module _ (e : List ℕ) (size : length e ≡ edited_size l f) (g : Gap) where
    same_run : (o : Out Answer) → RunAs S S' e g r o → RunAs Z Z' e g s o → Same
    same_run (stop q) x y = both_refuse x y
    same_run (ok b st) x y =
        let c = counts_from g b st in
        let a = table_left l f e S' size x.table in (
          x.answer ∙ sym y.answer,
          subst⁻¹ (SameIfFilled l f S' Z') x.answer
              record {
                table = a ∙ sym (table_left l f e Z' size y.table);
                trees = subst⁻¹ (λ (e : List ℕ). SameTree e S'.rooms Z'.rooms c) a (same_tree e S'.rooms Z'.rooms b st st c refl refl x.rooms.holds y.rooms.holds);
              },
        )

    same_edit : (v : Result ⊤ Refusal) → EditedAs S S' e g r v → EditedAs Z Z' e g s v → Same
    same_edit (Err u) x y = both_refuse x y
    same_edit (Ok u) x y = same_run (at_goal (term_at e g.term) g) x y

  -- the goals and the edited tables are one
  same_goal : (a : Answer) (x : Goal S S' l f k a r) → Goal Z Z' l f k a s → Fillable l f x.goal.term → Same
  same_goal a x y h =
      let g : y.goal ≡ x.goal = goal_unique y.stands x.stands (y.number ∙ sym x.number) in
      let e : y.table ≡ x.table =
      edited_unique h.inside (good_passed h.good).counted.some (subst (λ (g : Gap). Edited l f g.term y.table) g y.edited) x.edited y.bytes x.bytes in
      same_edit x.table x.edited.size x.goal (edited_tests x.table) x.answer
      (subst (λ (e : List ℕ). EditedAs Z Z' e x.goal s (edited_tests e)) e (subst (λ (g : Gap). EditedAs Z Z' y.table g s (edited_tests y.table)) g y.answer))

pub two_fillings_agree : TwoFillingsAgree
two_fillings_agree l f k S S' Z Z' r s x y e = at (by_rooms l f k (all_long S))
  where
    y' : RoomsAs Z Z' l f k s (all_long S)
    y' = subst⁻¹ (RoomsAs Z Z' l f k s) e y

    at : Alike l f k (λ T T' r. RoomsAs T T' l f k r (all_long S)) → (r ≡ s) × SameIfFilled l f S' Z' r
    at (inl w) = both_refuse l f k S S' Z Z' r s (w.so S S' r x) (w.so Z Z' s y')
    at (inr w) =
        let z = w.so S S' r x in
        same_goal l f k S S' Z Z' r s w.answer z (w.so Z Z' s y') (goal_fillable l f w.old_good w.good w.answer w.state w.run z.goal z.stands)
