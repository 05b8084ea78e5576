-- Demand 3 of the rules applies to every passing table: the number of a goal's Sorry record is that of one gap in the table's term.
-- Assumes nothing.
use mathlib.Core.Path.{◌≡◌, refl}
use mathlib.Core.Bool.{Bool, true, false}
use mathlib.Core.Logic.{◌⊎◌, inl, inr}
use mathlib.Core.List.{List, []}
use Prim.Native.Nat.{ℕ, ◌<◌, ◌≤◌}
use native.Mathlib.Omega.{arith}
use borrow.Author.Tests.{eq-eqb, ltb-true, ltb-false}
use lib.Dec.{ltb}
use Rattle.rules.specs.Prop.{prop}
use Rattle.rules.specs.Context.{older_ctx}
use Rattle.rules.specs.State.{St, start}
use Rattle.rules.specs.Term.{Term, place, gaps, plug}
use Rattle.rules.specs.Tree.{Gap, Trees, tally}
use Rattle.rules.specs.Step.{check, ok, Answer}
use Rattle.rules.specs.Rules.{run}
use Rattle.rules.specs.Filling.{At, here, past_gap, past_node, within, filled, RunsAfter, Follows, at_goal}
use Rattle.rules.proofs.Goals.{tally_run}
use Rattle.rules.proofs.Demand.{demand_3}
use Rattle.layout.specs.File.{terms, expected, term_record, Kind, Ident, Pair, ProjectFst, ProjectSnd, Function, Application, LetIn, OrLeft, OrRight, Case, Abort, TheUnit, TypeAscription, Sorry, Strange, kind_of}
use Rattle.table.specs.declared.Purpose.TheVariants.{Check}
use Rattle.table.specs.Reading.{prop_at, term_at}
use Rattle.table.specs.Passing.{Good}
use Rattle.table.proofs.Counting.{gaps_one, gaps_none}
use Rattle.table.proofs.Passing.{good_passed, prop_old}

-- a gap that stands in a tree is counted there
counted_there : {g : Gap} {ts : Trees} → At g ts → 1 ≤ tally g.term ts
unfolding tally
counted_there {g} here = rw (eq-eqb g.term g.term refl) (omega arith)
counted_there (past_gap p) = omega (arith, counted_there p)
counted_there (past_node p) = omega (arith, counted_there p)
counted_there (within p) = omega (arith, counted_there p)

abbrev Either : Kind → Type 0
Either K = (K ≡ Sorry) ⊎ (K ≡ Sorry → ⊥)

sorry_or_not : (K : Kind) → Either K
sorry_or_not Ident = inr (λ e. let z : ◌≡◌ {A = ℕ} 0 1 = cc in omega arith)
sorry_or_not Pair = inr (λ e. let z : ◌≡◌ {A = ℕ} 0 1 = cc in omega arith)
sorry_or_not ProjectFst = inr (λ e. let z : ◌≡◌ {A = ℕ} 0 1 = cc in omega arith)
sorry_or_not ProjectSnd = inr (λ e. let z : ◌≡◌ {A = ℕ} 0 1 = cc in omega arith)
sorry_or_not Function = inr (λ e. let z : ◌≡◌ {A = ℕ} 0 1 = cc in omega arith)
sorry_or_not Application = inr (λ e. let z : ◌≡◌ {A = ℕ} 0 1 = cc in omega arith)
sorry_or_not LetIn = inr (λ e. let z : ◌≡◌ {A = ℕ} 0 1 = cc in omega arith)
sorry_or_not OrLeft = inr (λ e. let z : ◌≡◌ {A = ℕ} 0 1 = cc in omega arith)
sorry_or_not OrRight = inr (λ e. let z : ◌≡◌ {A = ℕ} 0 1 = cc in omega arith)
sorry_or_not Case = inr (λ e. let z : ◌≡◌ {A = ℕ} 0 1 = cc in omega arith)
sorry_or_not Abort = inr (λ e. let z : ◌≡◌ {A = ℕ} 0 1 = cc in omega arith)
sorry_or_not TheUnit = inr (λ e. let z : ◌≡◌ {A = ℕ} 0 1 = cc in omega arith)
sorry_or_not TypeAscription = inr (λ e. let z : ◌≡◌ {A = ℕ} 0 1 = cc in omega arith)
sorry_or_not Sorry = inl refl
sorry_or_not Strange = inr (λ e. let z : ◌≡◌ {A = ℕ} 0 1 = cc in omega arith)

-- a number that is some gap's is a Sorry record's, and one gap's
sorry_of : (l : List ℕ) (q : ℕ) → Good Check l → 1 ≤ gaps q (term_at l 0) → (q < terms l) × (kind_of (term_record l q).kind ≡ Sorry)
sorry_of l q good some = at (ltb q (terms l)) refl (sorry_or_not (kind_of (term_record l q).kind))
  where
    at : (b : Bool) → ltb q (terms l) ≡ b → Either (kind_of (term_record l q).kind) → (q < terms l) × (kind_of (term_record l q).kind ≡ Sorry)
    at true e (inl k) = (ltb-true q (terms l) e, k)
    at true e (inr k) =
        let r = good_passed good in
        absurd (omega (arith, gaps_none r.formed r.linked r.counted.some q (λ _ s. k s)))
    at false e k =
        let r = good_passed good in
        let past : terms l ≤ q = ltb-false q (terms l) e in
        absurd (omega (arith, gaps_none r.formed r.linked r.counted.some q (λ h _. omega arith)))

one_gap : (l : List ℕ) (q : ℕ) → Good Check l → 1 ≤ gaps q (term_at l 0) → gaps q (term_at l 0) ≡ 1
one_gap l q good some =
    let r = good_passed good in
    let s = sorry_of l q good some in
    gaps_one r.formed r.linked r.counted.some q s.0 s.1

-- A GOAL of a passing table's run stands at a gap of its term
goal_seen : (l : List ℕ) (a : Answer) (st : St) → run (term_at l 0) (check (prop (prop_at l (expected l)))) [] start ≡ ok a st → (g : Gap) → At g a.tree → 1 ≤ gaps g.term (term_at l 0)
goal_seen l a st accepted g p = omega (arith, counted_there p, rw accepted at (tally_run g.term (term_at l 0) (check (prop (prop_at l (expected l)))) [] start))

-- at a Sorry record, then
pub goal_sorry : (l : List ℕ) → Good Check l → (a : Answer) (st : St) → run (term_at l 0) (check (prop (prop_at l (expected l)))) [] start ≡ ok a st → (g : Gap) → At g a.tree
    → (g.term < terms l) × (kind_of (term_record l g.term).kind ≡ Sorry)
goal_sorry l good a st accepted g p = sorry_of l g.term good (goal_seen l a st accepted g p)

-- DEMAND 3 for the term of a passing table, checked from the empty context: see `Demand3` of the rules
pub table_fills : (l : List ℕ) → Good Check l → (a : Answer) (st : St) → run (term_at l 0) (check (prop (prop_at l (expected l)))) [] start ≡ ok a st
    → (u : Term) (g : Gap) (p : At g a.tree) → place u ≡ g.term
    → Follows (λ x. RunsAfter g.term x (term_at l 0)) g (filled g a p) st (run (plug g.term u (term_at l 0)) (check (prop (prop_at l (expected l)))) [] start) (at_goal u g)
unfolding older_ctx
table_fills l good a st accepted u g p root =
    demand_3 (term_at l 0) u (prop (prop_at l (expected l))) [] start a st accepted (omega arith) tt (prop_old l (expected l)) g p
    (one_gap l g.term good (goal_seen l a st accepted g p)) root
