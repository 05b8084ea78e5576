-- The stages of a filling's answer, each from what its step found. Assumes nothing.
use mathlib.Core.Path.{◌≡◌, ap, sym, subst, subst⁻¹, ◌∙◌}
use mathlib.Core.Bool.{true, false}
use mathlib.Core.List.{List}
use Prim.Native.Nat.{ℕ, ◌+◌, ◌<◌, ◌≤◌}
use native.Mathlib.Omega.{arith}
use borrow.Author.Tests.{lt-ltb, le-ltb}
use lib.ListN.{length}
use lib.Dec.{ltb}
use Rattle.numbers.specs.declared.refusal.Refusal.{Refusal}
use Rattle.numbers.specs.Refusals.{refusal_at}
use Rattle.rules.specs.State.{St}
use Rattle.rules.specs.Tree.{Gap, holes}
use Rattle.rules.specs.Step.{Out, stop, ok, Answer}
use Rattle.rules.specs.Filling.{At, before, at_goal}
use Rattle.table.specs.declared.Purpose.TheVariants as purpose
use Rattle.table.specs.Tests.{tests, Tested}
use Rattle.table.specs.Passing.{Good}
use Rattle.table.specs.Reading.{term_at}
use Rattle.editing.specs.Edited.{Bytes, Fillable, Edited, edited_tests}
use Rattle.editing.proofs.Edits.{goal_fillable}
use Rattle.step.specs.declared.node.Goal.{Goal as GoalRecord}
use Rattle.step.specs.Rooms.{Rooms}
use Rattle.step.specs.Trees.{goal_at}
use Rattle.step.proofs.Goals.{goal_term, goal_place}
use Rattle.entry.specs.declared.Counts.{Counts}
use Rattle.std.specs.Prelude.{Ok, Err, Result, ⊤}
use Rattle.entry.specs.Mark.{work_bytes, root_run, table_run, counts_of, Mark, MarkedAs}
use Rattle.entry.proofs.Answers.{same_answer, table_ok}
use Rattle.entry.proofs.Marks.{verdict_is}
use Rattle.filling.specs.declared.answer.Which.TheVariants.{Old, Filling, Edit}
use Rattle.filling.specs.Fill.{Lent, Filled, Refuses, EditedAs, Goal, GoalAs, FillingAs, OldAs}
use Rattle.filling.specs.Steps.{ExactAll, OldRan, GoalOf, HoleAt, RunsFilling, FillsHole, FillsGoal}
use Rattle.filling.proofs.Overs.{carries_over, run_on, goal_on, filling_on}

-- 2. THE OLD TABLE
module _ (l f : List ℕ) (k : ℕ) (S S₁ S' : Lent) (x : ExactAll S) (y : ExactAll S₁) (m : Mark) (r : Filled) where
  pub old_refused : (u : Refusal) → m ≡ Err u → (o : Out Answer) → MarkedAs l S.rooms S₁.rooms o m → Refuses S₁ S' u Old r → OldAs S S' l f k r o
  old_refused u e (stop s) h z = subst (λ (u : Refusal). Refuses S S' u Old r) (let e = sym e ∙ h.0 in cc) ((carries_over S S₁ S' x y).refuses z)
  old_refused u e (ok a st) h z = cc

  pub old_accepted : (c : Counts) → m ≡ Ok c → (o : Out Answer) → o ≡ table_run l → MarkedAs l S.rooms S₁.rooms o m
      → FillsGoal S₁ S' l f k r → OldAs S S' l f k r o
  old_accepted c e (stop s) t h z = cc
  old_accepted c e (ok a st) t h z = filling_on (carries_over S S₁ S' x y) l f k a r (tests purpose.Filling f) (z a st (table_ok l a st (sym t)).1)

pub old_ran : (l : List ℕ) (R R₁ : Rooms) (m : Mark) (c : Counts) → m ≡ Ok c → (o : Out Answer) → o ≡ table_run l → MarkedAs l R R₁ o m → OldRan l R₁ c.goals
old_ran l R R₁ m c e (stop s) t h = cc
old_ran l R R₁ m c e (ok a st) t h =
    let z = table_ok l a st (sym t) in
    record { good = z.0; answer = a; state = st; accepts = z.1; holds = h.1.holds; goals = let e : c ≡ counts_of a st = cc in ap (λ (c : Counts). c.goals) e }

-- 3. THE FILLING'S TESTS
pub filling_good : (f work left : List ℕ) (v : Result ⊤ Refusal) → length work ≡ work_bytes → Tested purpose.Filling f work left v → v ≡ Ok tt → Good purpose.Filling f
filling_good f work left v x t e = sym (verdict_is purpose.Filling f work left v x t) ∙ e

module _ (l f : List ℕ) (k : ℕ) (S S₁ S' : Lent) (x : ExactAll S) (y : ExactAll S₁) (v : Result ⊤ Refusal) (left : List ℕ) (t : Tested purpose.Filling f S.rooms.work left v) (r : Filled) where
  verdict_of : v ≡ tests purpose.Filling f
  verdict_of = verdict_is purpose.Filling f S.rooms.work left v x.rooms.work t

  pub filling_refused : (u : Refusal) → v ≡ Err u → Refuses S₁ S' u Filling r → FillsGoal S S' l f k r
  filling_refused u e z a st h = subst (FillingAs S S' l f k a r) (sym e ∙ verdict_of) ((carries_over S S₁ S' x y).refuses z)

  -- 4. THE GOAL
  module _ (e : v ≡ Ok tt) (count : ℕ) (old : OldRan l S.rooms count) where
    count_is : (a : Answer) (st : St) → root_run l ≡ ok a st → count ≡ holes a.tree
    count_is a st h = old.goals ∙ ap (λ (a : Answer). holes a.tree) (same_answer old.accepts h)

    pub goal_missing : count ≤ k → (u : Refusal) → u ≡ refusal_at 31 0 → Refuses S₁ S' u Old r → FillsGoal S S' l f k r
    goal_missing few u eu z a st h =
        let c = count_is a st h in
        let b : ltb k (holes a.tree) ≡ false = le-ltb k (holes a.tree) (omega arith) in
        subst (FillingAs S S' l f k a r) (sym e ∙ verdict_of) (subst⁻¹ (GoalAs S S' l f k a r) b (subst (λ (u : Refusal). Refuses S S' u Old r) eu ((carries_over S S₁ S' x y).refuses z)))

    pub goal_found : k < count → FillsHole S₁ S' l f k r → FillsGoal S S' l f k r
    goal_found there z a st h =
        let c = count_is a st h in
        let b : ltb k (holes a.tree) ≡ true = lt-ltb k (holes a.tree) (omega arith) in
        subst (FillingAs S S' l f k a r) (sym e ∙ verdict_of) (subst⁻¹ (GoalAs S S' l f k a r) b (goal_on (carries_over S S₁ S' x y) l f k a r (z a st h)))

-- the hole's number is in the goal's record
module _ (l f : List ℕ) (R : Rooms) (count k : ℕ) (old : OldRan l R count) (there : k < count) where
  spot : (g : Gap) × (p : At g old.answer.tree) × (length (before p) ≡ k)
  spot = goal_place k old.answer.tree (omega (arith, old.goals))

  term_is : (goal_at R.goals k).term.0 ≡ spot.0.term
  term_is =
      let n : 0 + length (before spot.1) ≡ k = omega (arith, spot.2) in
      ap (λ (i : ℕ). (goal_at R.goals i).term.0) (sym n) ∙ goal_term l R _ 0 0 spot.1 old.holds.trees

  pub hole_at : (g : GoalRecord) → g ≡ goal_at R.goals k → HoleAt l k g.term.0
  hole_at g e =
      record {
        gap = spot.0;
        goal = record { answer = old.answer; state = old.state; accepts = old.accepts; stands = spot.1; number = spot.2 };
        here = sym (ap (λ (g : GoalRecord). g.term.0) e ∙ term_is);
      }

pub hole_fillable : (l f : List ℕ) (k q : ℕ) → Good purpose.Check l → Good purpose.Filling f → HoleAt l k q → Fillable l f q
hole_fillable l f k q good fills h =
    subst (Fillable l f) h.here (goal_fillable l f good fills h.goal.answer h.goal.state h.goal.accepts h.gap h.goal.stands)

-- 5. THE EDITED TABLE e
module _ (l f : List ℕ) (k q : ℕ) (h : HoleAt l k q) (S S₁ S' : Lent) (x : ExactAll S) (y : ExactAll S₁) (e : List ℕ) (bytes : Bytes e) (edited : Edited l f q e) (v : Result ⊤ Refusal) (t : v ≡ edited_tests e) (r : Filled) where
  as_goal : ((g : Gap) → GoalOf l k g → EditedAs S S' e g r (edited_tests e)) → FillsHole S S' l f k r
  as_goal z a st c =
      let same : h.goal.answer ≡ a = same_answer h.goal.accepts c in
      subst (λ (a : Answer). Goal S S' l f k a r) same
      (record {
        goal = h.gap;
        stands = h.goal.stands;
        number = h.goal.number;
        table = e;
        bytes = bytes;
        edited = subst⁻¹ (λ (q : ℕ). Edited l f q e) h.here edited;
        answer = z h.gap h.goal;
      })

  pub edited_refused : (u : Refusal) → v ≡ Err u → Refuses S₁ S' u Edit r → FillsHole S S' l f k r
  edited_refused u w z = as_goal (λ g i. subst (EditedAs S S' e g r) (sym w ∙ t) ((carries_over S S₁ S' x y).refuses z))

  pub edited_run : v ≡ Ok tt → RunsFilling S₁ S' l k e r → FillsHole S S' l f k r
  edited_run w z =
      as_goal (λ g i. subst (EditedAs S S' e g r) (sym w ∙ t) (run_on (carries_over S S₁ S' x y) e g r (at_goal (term_at e g.term) g) (z g i)))
