-- The kinds by their numbers, as the two matches tell them apart. Assumes nothing.
use mathlib.Core.Path.{◌≡◌, refl, ap, sym, subst, ◌∙◌}
use mathlib.Core.Logic.{◌⊎◌, inl, inr}
use mathlib.Core.Bool.{false, false≢true}
use mathlib.Core.List.{List}
use Prim.Native.Nat.{ℕ, zero, suc, ◌+◌, ◌<◌, ◌≤◌}
use native.Mathlib.Nat.{eq-or-lt_of_le}
use native.Mathlib.Omega.{arith}
use Rattle.numbers.specs.declared.refusal.Refusal.{Refusal}
use Rattle.layout.specs.declared.record.TermRecord.{TermRecord}
use Rattle.layout.specs.File.{terms, term_record, Kind, Strange, kind_of}
use Rattle.layout.specs.Form.{term_shape}
use Rattle.layout.proofs.Strange.{strange_term}
use Rattle.rules.specs.Term.{Term, Single}
use Rattle.rules.specs.Tree.{end}
use Rattle.rules.specs.Context.{Ctx}
use Rattle.rules.specs.Step.{synth, refusal, obey}
use Rattle.rules.specs.Rules.{single_step, inject_step, abort_step, sorry_run, run}
use Rattle.table.proofs.Reading.{tag_range}
use Rattle.step.specs.declared.state.State.{State}
use Rattle.step.specs.Rooms.{Rooms, Table, ctx_of, st_of}
use Rattle.step.specs.Contract.{Ready, Refuses, run_of, synthesizes}
use Rattle.step.proofs.Programs.{rest_refused}
use Rattle.step.proofs.Terms.{single_begins, is_abort, is_sorry}
use Rattle.rule.proofs.Going.{says}
use Rattle.rule.proofs.Ors.{injects}

-- the kind of the record that was read
pub kind_is : (l : List ℕ) (k : ℕ) (r : TermRecord) (j : ℕ) → r ≡ term_record l k → r.kind ≡ j → (term_record l k).kind ≡ j
kind_is l k r j e f = subst (λ (r : TermRecord). r.kind ≡ j) e f

pub kind_between : (l : List ℕ) (k : ℕ) (r : TermRecord) (low high : ℕ) → r ≡ term_record l k → low < r.kind → r.kind < high → (low < (term_record l k).kind) × ((term_record l k).kind < high)
kind_between l k r low high e f g = subst (λ (r : TermRecord). (low < r.kind) × (r.kind < high)) e (f, g)

-- NUMBERS between those that a match names
above : (m j : ℕ) → m ≤ j → (j ≡ m → ⊥) → m + 1 ≤ j
above m j h n = at (eq-or-lt_of_le h)
  where
    at : (m ≡ j) ⊎ (m < j) → m + 1 ≤ j
    at (inl e) = absurd (n (sym e))
    at (inr l) = omega arith

pub past_twelve : (j : ℕ) → 9 ≤ j → (j ≡ 9 → ⊥) → (j ≡ 10 → ⊥) → (j ≡ 11 → ⊥) → (j ≡ 12 → ⊥) → 12 < j
past_twelve j h a b c d = above 12 j (above 11 j (above 10 j (above 9 j h a) b) c) d

-- NO OTHER KIND is in a table
pub kind_known : {l : List ℕ} → Table l → (k : ℕ) → k < terms l → (term_record l k).kind < 14
unfolding term_shape
kind_known {l} table k h = at
  where
    past : 14 ≤ (term_record l k).kind → ⊥
    past g =
        let r = tag_range table.formed k h in
        let s : kind_of (term_record l k).kind ≡ Strange = strange_term (term_record l k).kind g in
        let lo : 1 ≤ (term_record l k).tag = subst (λ (K : Kind). (term_shape K).least ≤ (term_record l k).tag) s r.0 in
        let hi : (term_record l k).tag ≤ 0 = subst (λ (K : Kind). (term_record l k).tag ≤ (term_shape K).most) s r.1 in
        omega arith

    at : (term_record l k).kind < 14
    at = let p = past in omega arith

-- so the last arm of a match is never taken: the kinds below 6 that it is left with are compared
low_kinds : (j : ℕ) → j < 6 → synthesizes j ≡ false → (j ≡ 1 → ⊥) → (j ≡ 4 → ⊥) → ⊥
unfolding synthesizes
low_kinds zero h s a b = false≢true (sym s)
low_kinds (suc zero) h s a b = a refl
low_kinds (suc (suc zero)) h s a b = false≢true (sym s)
low_kinds (suc (suc (suc zero))) h s a b = false≢true (sym s)
low_kinds (suc (suc (suc (suc zero)))) h s a b = b refl
low_kinds (suc (suc (suc (suc (suc zero))))) h s a b = false≢true (sym s)
low_kinds (suc (suc (suc (suc (suc (suc j)))))) h s a b = omega arith

pub kind_other : {l : List ℕ} {R : Rooms} {k : ℕ} {st : State} → Ready l R k st → synthesizes (term_record l k).kind ≡ false → (r : TermRecord) → r ≡ term_record l k → (r.kind ≡ 1 → ⊥) → (r.kind ≡ 4 → ⊥) → (r.kind ≡ 9 → ⊥) → (r.kind ≡ 10 → ⊥)
    → (r.kind ≡ 11 → ⊥) → (r.kind ≡ 12 → ⊥) → (r.kind ≡ 13 → ⊥) → (r.kind < 6) ⊎ (9 ≤ r.kind) → ⊥
kind_other {l} {k = k} rd s r er n1 n4 n9 n10 n11 n12 n13 came = at came
  where
    kind : (term_record l k).kind ≡ r.kind
    kind = ap (λ (r : TermRecord). r.kind) (sym er)

    at : (r.kind < 6) ⊎ (9 ≤ r.kind) → ⊥
    at (inl h) = low_kinds r.kind h (subst (λ (j : ℕ). synthesizes j ≡ false) kind s) n1 n4
    at (inr h) =
        let past : 14 ≤ r.kind = above 13 r.kind (past_twelve r.kind h n9 n10 n11 n12) n13 in
        omega (arith, kind_known rd.base.table k rd.here, kind)

-- WHAT DOES NOT SYNTHESIZE
module _ {l : List ℕ} {R : Rooms} {k : ℕ} {st : State} (rd : Ready l R k st) (r : TermRecord) (er : r ≡ term_record l k) where
  abbrev Γ : Ctx
  Γ = ctx_of l R.props R.work st.context

  abbrev c₁ : ℕ
  c₁ = (term_record l k).child1.0

  pub inject_not : 6 < r.kind → r.kind < 9 → (e : Refusal) → e ≡ record { number = 25; place = k } → Refuses (run_of l R k synth st) e
  unfolding inject_step obey
  inject_not a b e ee = says 25 k ee (injects rd (kind_between l k r 6 9 er a b) synth ∙ rest_refused synth end (refusal 25 k))

  pub abort_not : r.kind ≡ 10 → (e : Refusal) → e ≡ record { number = 25; place = k } → Refuses (run_of l R k synth st) e
  unfolding single_step abort_step obey
  abort_not h e ee = says 25 k ee (single_begins l k R synth st Single.abort c₁ (is_abort rd.base.table rd.here (kind_is l k r 10 er h)) ∙ rest_refused synth end (refusal 25 k))

  pub sorry_not : 12 < r.kind → (e : Refusal) → e ≡ record { number = 25; place = k } → Refuses (run_of l R k synth st) e
  unfolding run sorry_run
  sorry_not h e ee =
      let low : 12 < (term_record l k).kind = subst (λ (r : TermRecord). 12 < r.kind) er h in
      let known = kind_known rd.base.table k rd.here in
      says 25 k ee (ap (λ (t : Term). run t synth Γ (st_of st)) (is_sorry rd.base.table rd.here (omega arith)))
