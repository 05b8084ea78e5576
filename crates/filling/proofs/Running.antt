-- The filling's run over the edited table is the rules' run at the goal. Assumes nothing.
use mathlib.Core.Path.{◌≡◌, ap, sym, subst, subst⁻¹, subst₂, ◌∙◌}
use mathlib.Core.List.{List}
use Prim.Native.Nat.{ℕ, ◌≤◌}
use native.Mathlib.Omega.{arith}
use Rattle.numbers.specs.Limits.{most_terms}
use Rattle.rules.specs.Prop.{Ty}
use Rattle.rules.specs.Context.{Ctx}
use Rattle.rules.specs.State.{St}
use Rattle.rules.specs.Term.{nodes}
use Rattle.rules.specs.Tree.{Gap}
use Rattle.rules.specs.Step.{check, Out, ok, Answer}
use Rattle.rules.specs.Rules.{run}
use Rattle.rules.specs.Filling.{at_goal}
use Rattle.rules.proofs.Spent.{Spent, run_spends}
use Rattle.table.specs.Reading.{term_at}
use Rattle.table.proofs.Passing.{good_passed}
use Rattle.editing.specs.Edited.{Fillable, Edited}
use Rattle.editing.proofs.Edits.{filling_nodes}
use Rattle.step.specs.declared.picture.Start.{Start}
use Rattle.step.specs.declared.state.State.{State}
use Rattle.step.specs.declared.state.Answer.{Answer as Answered}
use Rattle.std.specs.Prelude.{Result, Ok, Err}
use Rattle.numbers.specs.declared.refusal.Refusal.{Refusal}
use Rattle.step.specs.declared.state.Want.TheVariants as want
use Rattle.step.specs.Rooms.{Rooms, reads, ctx_of, st_of, count_of}
use Rattle.prop.specs.Room.{TypeIn}
use Rattle.step.specs.Contract.{Ready, Accepts, RanAs as Meets, run_of}
use Rattle.step.specs.Trees.{TreesAre}
use Rattle.entry.specs.Ran.{Exact, Ran, RanAs}
use Rattle.filling.specs.Steps.{ExactAll, GoalOf, HoleAt, ReachedFor, Reached, Fitting, Finishes, RunsFilling}
use Rattle.filling.specs.Fill.{Filled, Lent, RunAs}
use Rattle.filling.proofs.Overs.{carries_over, run_on}
use Rattle.filling.proofs.Reaching.{goal_same}

module _ (e : List ℕ) (q : ℕ) (R R' : Rooms) (s : Start) (g : Gap) (x : Exact R) (h : ReachedFor e R s g) (here : g.term ≡ q) (few : nodes (term_at e q) ≤ most_terms) where
  run_is : run_of e R q (check (reads e R.props s.wanted)) s.state ≡ at_goal (term_at e g.term) g
  run_is =
      ap (λ (t : ℕ). run (term_at e t) (check (reads e R.props s.wanted)) (ctx_of e R.props R.work s.state.context) (st_of s.state)) (sym here)
      ∙ ap (λ (A : Ty). run (term_at e g.term) (check A) (ctx_of e R.props R.work s.state.context) (st_of s.state)) h.starts.wanted.means
      ∙ ap (λ (Γ : Ctx). run (term_at e g.term) (check g.wanted) Γ (st_of s.state)) h.starts.context
      ∙ ap (λ (st : St). run (term_at e g.term) (check g.wanted) g.ctx st) h.starts.counts

  spent : (st : State) (a : Answer) → at_goal (term_at e g.term) g ≡ ok a (st_of st) → Spent (nodes (term_at e q)) g.state a (st_of st)
  spent st a k = subst (λ (t : ℕ). Spent (nodes (term_at e t)) g.state a (st_of st)) here (run_spends (term_at e g.term) _ _ _ a (st_of st) k)

  fits : (st : State) → Accepts e R R' s.state st (at_goal (term_at e g.term) g) → Ran e (at_goal (term_at e g.term) g) R' st
  fits st k =
      let left = k.left in
      let z = spent st k.answer k.accepts in
      let n = h.no_records in
      let m = h.no_goals in
      record {
        answer = k.answer;
        accepts = k.accepts;
        holds =
            record {
              trees = subst₂ (λ (i j : ℕ). TreesAre e R' (count_of e st) i j k.answer.tree) n m left.trees;
              table = λ i y. left.grown.props i (omega (arith, h.ready.base.loaded.first)) ∙ h.table i y;
              made = left.grown.arena;
              tree_room = omega (arith, z.records, few, left.grown.tree_long, x.tree);
              goals_room = omega (arith, z.holes, few, left.grown.goals_long, x.goals);
            };
        records = omega (arith, left.records, n);
        goals = omega (arith, left.goals, m);
      }

  pub hole_ran : (r : Result Answered Refusal) → Meets e R R' q (want.Check s.wanted) s.state r → RanAs e (at_goal (term_at e g.term) g) R' r
  hole_ran (Ok a) k = fits a.state (subst (λ (o : Out Answer). Accepts e R R' s.state a.state o) run_is k.accepted)
  hole_ran (Err x) k = sym run_is ∙ k

  pub hole_fitting : (size : ℕ) → 16 ≤ size → Exact R' → (r : Result Answered Refusal) → Meets e R R' q (want.Check s.wanted) s.state r → Fitting e size s.state.serials R' r
  hole_fitting size long y r k = at r (hole_ran r k)
    where
      at : (r : Result Answered Refusal) → RanAs e (at_goal (term_at e g.term) g) R' r → Fitting e size s.state.serials R' r
      at (Err x) k = tt
      at (Ok a) k =
          let z = spent a.state k.answer k.accepts in
          let same : s.state.serials ≡ g.state.serials = ap (λ (st : St). st.serials) h.starts.counts in (
            long,
            omega (arith, k.holds.made.room, y.props),
            omega (arith, k.records, k.holds.tree_room, y.tree),
            omega (arith, k.goals, k.holds.goals_room, y.goals),
            omega (arith, z.serials_grow, same),
          )

-- the filling has no more nodes than a table may have terms
pub few_nodes : {l f : List ℕ} {q : ℕ} {e : List ℕ} → Fillable l f q → Edited l f q e → nodes (term_at e q) ≤ most_terms
few_nodes h E = omega (arith, filling_nodes h E, (good_passed h.good).counted.few)

-- THE TABLE stands where it stood before, and goal k is at q
module _ (l : List ℕ) (k q : ℕ) (hole : HoleAt l k q) (e e₁ : List ℕ) (same : e₁ ≡ e) (R : Rooms) (s : Start) (at-hole : Reached l k e R s) where
  pub hole_ready : Ready e₁ R q s.state × TypeIn (count_of e₁ s.state) s.wanted
  hole_ready =
      let r = at-hole hole.gap hole.goal in
      subst⁻¹ (λ (e : List ℕ). Ready e R q s.state × TypeIn (count_of e s.state) s.wanted) same
      (subst (λ (q : ℕ). Ready e R q s.state) hole.here r.ready, r.starts.wanted.among)

  module _ (x : Exact R) (few : nodes (term_at e q) ≤ most_terms) (R' : Rooms) (r : Result Answered Refusal) (meets : Meets e₁ R R' q (want.Check s.wanted) s.state r) where
    over_e : Meets e R R' q (want.Check s.wanted) s.state r
    over_e = subst (λ (e : List ℕ). Meets e R R' q (want.Check s.wanted) s.state r) same meets

    pub hole_fits : (size : ℕ) → 16 ≤ size → Exact R' → Fitting e₁ size s.state.serials R' r
    hole_fits size long y =
        subst⁻¹ (λ (e : List ℕ). Fitting e size s.state.serials R' r) same
        (hole_fitting e q R R' s hole.gap x (at-hole hole.gap hole.goal) hole.here few size long y r over_e)

    pub hole_meets : (g : Gap) → GoalOf l k g → (g.state.serials ≡ s.state.serials) × RanAs e₁ (at_goal (term_at e g.term) g) R' r
    hole_meets g goal =
        let z = at-hole g goal in
        let here : g.term ≡ q = ap (λ (g : Gap). g.term) (goal_same goal hole.goal) ∙ hole.here in (
          sym (ap (λ (st : St). st.serials) z.starts.counts),
          subst⁻¹ (λ (e₁ : List ℕ). RanAs e₁ (at_goal (term_at e g.term) g) R' r) same (hole_ran e q R R' s g x z here few r over_e),
        )

-- so the answer is that of the rules' run at the goal
pub run_from : (l : List ℕ) (k : ℕ) (e e₁ : List ℕ) → e₁ ≡ e → (S S₁ S' : Lent) → ExactAll S → ExactAll S₁ → (serials : ℕ) (answer : Result Answered Refusal) (r : Filled) → Finishes S₁ S' e₁ serials answer r
    → ((g : Gap) → GoalOf l k g → (g.state.serials ≡ serials) × RanAs e₁ (at_goal (term_at e g.term) g) S₁.rooms answer) → RunsFilling S S' l k e r
run_from l k e e₁ same S S₁ S' x y serials answer r f z g goal =
    let w = z g goal in
    let o = at_goal (term_at e g.term) g in
    subst (λ (e : List ℕ). RunAs S S' e g r o) same (run_on (carries_over S S₁ S' x y) e₁ g r o (f g o w.0 w.1))
