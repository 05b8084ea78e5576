-- The root of a table that passes its tests is run as the rules run it. Assumes nothing.
use mathlib.Core.Path.{◌≡◌, ap, ap₂, sym, subst, subst⁻¹, ◌∙◌}
use mathlib.Core.List.{List}
use Prim.Native.Nat.{ℕ, ◌<◌, ◌≤◌}
use native.Mathlib.Omega.{arith}
use lib.ListN.{length}
use Rattle.numbers.specs.declared.Sort.TheVariants as sort
use Rattle.numbers.specs.Limits.{none}
use Rattle.layout.specs.File.{props, terms, expected}
use Rattle.rules.specs.Prop.{Ty, prop}
use Rattle.rules.specs.Context.{Ctx}
use Rattle.rules.specs.Term.{nodes}
use Rattle.rules.specs.Step.{check, Out, Answer}
use Rattle.rules.specs.Rules.{run}
use Rattle.rules.proofs.Spent.{run_spends}
use Rattle.table.specs.declared.Purpose.TheVariants.{Check}
use Rattle.table.specs.Passing.{Counted, Formed, WellLinked, Good}
use Rattle.table.specs.Reading.{term_at}
use Rattle.table.proofs.Counting.{nodes_root}
use Rattle.table.proofs.Links.{expected_in}
use Rattle.table.proofs.Passing.{good_passed}
use Rattle.prop.specs.Room.{Arena}
use Rattle.context.proofs.Laws.{ctx_none}
use Rattle.arena.specs.Copy.{most_records}
use Rattle.arena.specs.Load as load
use Rattle.step.specs.declared.state.State.{State}
use Rattle.step.specs.declared.state.Answer.{Answer as Answered}
use Rattle.std.specs.Prelude.{⊤, Result, Ok, Err}
use Rattle.numbers.specs.declared.refusal.Refusal.{Refusal}
use Rattle.step.specs.declared.state.Want.TheVariants as want
use Rattle.step.specs.Rooms.{Rooms, reads, st_of, count_of, Loaded}
use Rattle.step.specs.Contract.{Ready, Accepts, RanAs as Meets, run_of}
use Rattle.step.proofs.Starts.{beginning, ready_root}
use Rattle.entry.specs.Mark.{start_of, root_run, unless_refused, table_run}
use Rattle.entry.specs.Ran.{Exact, Ran, RanAs}

module _ (l : List ℕ) (good : Good Check l) where
  -- what `load` asks for
  pub loadable : Counted l × (Formed l × WellLinked l)
  loadable =
      let p = good_passed good in
      (p.counted, (p.formed, record { purpose = Check; linked = p.linked }))

  pub header_there : 16 ≤ length l
  header_there = omega (arith, (good_passed good).counted.long)

  pub few_props : props l ≤ most_records
  few_props = omega (arith, (good_passed good).counted.propositions)

  pub goal_there : (n : ℕ) → n ≡ expected l → n < count_of l (beginning none)
  goal_there n e = omega (arith, expected_in (good_passed good).linked)

  module _ (old : List ℕ) (R : Rooms) (e : Exact R) (loaded : load.Loaded l old R.props) where
    first_loaded : Loaded l R.props (count_of l (beginning none))
    first_loaded =
        record {
          arena = subst (λ (c : ℕ). Arena R.props c) (omega arith) loaded.arena;
          first = omega arith;
          table = loaded.means;
          long = omega (arith, e.props);
        }

    pub ready : Ready l R 0 (beginning none)
    ready = ready_root R none good first_loaded (omega (arith, e.tree)) (omega (arith, e.goals)) (omega (arith, e.work))

    -- the code's run is the rules'
    root_is : run_of l R 0 (check (reads l R.props (sort.Proposition (record { 0 = expected l })))) (beginning none) ≡ root_run l
    root_is =
        ap₂ (λ (A : Ty) (Γ : Ctx). run (term_at l 0) (check A) Γ (start_of l)) (ap prop (loaded.means (expected l) (expected_in (good_passed good).linked)))
        (ctx_none (reads l R.props) R.work)

    fits : (R' : Rooms) (st : State) → Accepts l R R' (beginning none) st (root_run l) → Ran l (root_run l) R' st
    fits R' st h =
        let p = good_passed good in
        let a = h.answer in
        let left = h.left in
        let spent = run_spends (term_at l 0) _ _ _ a (st_of st) h.accepts in
        let all : nodes (term_at l 0) ≡ terms l = nodes_root p.formed p.linked (omega (arith, p.counted.some)) in
        record {
          answer = a;
          accepts = h.accepts;
          holds =
              record {
                trees = left.trees;
                table = λ n k. left.grown.props n (omega arith) ∙ loaded.all.records n k;
                made = left.grown.arena;
                tree_room = omega (arith, spent.records, all, p.counted.few, left.grown.tree_long, e.tree);
                goals_room = omega (arith, spent.holes, all, p.counted.few, left.grown.goals_long, e.goals);
              };
          records = omega (arith, left.records);
          goals = omega (arith, left.goals);
        }

    as_ran : (R' : Rooms) (r : Result Answered Refusal) → Meets l R R' 0 (want.Check (sort.Proposition (record { 0 = expected l }))) (beginning none) r → RanAs l (root_run l) R' r
    as_ran R' (Ok a) h = fits R' a.state (subst (λ (o : Out Answer). Accepts l R R' (beginning none) a.state o) root_is h.accepted)
    as_ran R' (Err r) h = sym root_is ∙ h

    -- and what is said of the table, which passed its tests
    pub ran : (R' : Rooms) (r : Result Answered Refusal) (n : ℕ) → n ≡ expected l → Meets l R R' 0 (want.Check (sort.Proposition (record { 0 = n }))) (beginning none) r → RanAs l (table_run l) R' r
    unfolding unless_refused
    ran R' r n e h =
        subst⁻¹ (λ (v : Result ⊤ Refusal). RanAs l (unless_refused v (root_run l)) R' r) good
        (as_ran R' r (subst (λ (n : ℕ). Meets l R R' 0 (want.Check (sort.Proposition (record { 0 = n }))) (beginning none) r) e h))
