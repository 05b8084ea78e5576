-- The lowest number that passes a test, as a loop finds it and as a fact about all numbers.
-- Assumes nothing.
use Rattle.std.specs.Prelude.{Option, Some, None}
use mathlib.Core.Path.{◌≡◌, refl, ap, sym, ◌∙◌}
use mathlib.Core.Bool.{Bool, true, false, cond}
use mathlib.Core.Logic.{◌⊎◌, inl, inr}
use Prim.Native.Nat.{ℕ, zero, suc, ◌+◌, ◌-◌, ◌<◌, ◌≤◌}
use native.Mathlib.Nat.{sub-zero, eq-or-lt_of_le}
use native.Mathlib.Numerals.{add-one}
use native.Mathlib.Omega.{arith}
use Rattle.table.specs.Reading.{first_from, first}
use Rattle.table.specs.Tests.{or_term}

-- STEPS of a loop over i, up to n
pub first_start : (t : ℕ → Bool) (n : ℕ) → first t n ≡ first_from t 0 (n - 0)
first_start t n = ap (first_from t 0) (sym (sub-zero n))

pub first_here : (t : ℕ → Bool) (i n : ℕ) → i < n → t i ≡ true → first_from t i (n - i) ≡ Some i
unfolding first_from
first_here t i n h e = let q : n - i ≡ suc (n - suc i) = omega arith in rw (q, e)

pub first_past : (t : ℕ → Bool) (i n : ℕ) → i < n → t i ≡ false → first_from t i (n - i) ≡ first_from t (i + 1) (n - (i + 1))
unfolding first_from
first_past t i n h e = let q : n - i ≡ suc (n - (i + 1)) = omega arith in rw (q, e, add-one i)

pub first_none : (t : ℕ → Bool) (i n : ℕ) → n ≤ i → first_from t i (n - i) ≡ None
unfolding first_from
first_none t i n h = let q : n - i ≡ 0 = omega arith in rw q

-- FACTS: what a search from i over k numbers found
record Found (t : ℕ → Bool) (i k j : ℕ) : Type 0 where
  from : i ≤ j
  below : j < i + k
  passes : t j ≡ true
  least : (m : ℕ) → i ≤ m → m < j → t m ≡ false

found : (t : ℕ → Bool) (i k j : ℕ) → first_from t i k ≡ Some j → Found t i k j
unfolding first_from
found t i zero j e = absurd (let z : ◌≡◌ {A = ℕ} 0 1 = cc in omega arith)
found t i (suc k) j e = at (t i) refl e (found t (suc i) k j)
  where
    at : (b : Bool) → t i ≡ b → cond b (Some i) (first_from t (suc i) k) ≡ Some j → (first_from t (suc i) k ≡ Some j → Found t (suc i) k j) → Found t i (suc k) j
    at true h e rest =
        let q : i ≡ j = cc in
        record { from = omega arith; below = omega arith; passes = ap t (sym q) ∙ h; least = λ m a b. absurd (omega arith) }
    at false h e rest =
        let r = rest e in
        record { from = omega arith; below = omega arith; passes = r.passes; least = λ m a b. before m r (eq-or-lt_of_le a) b }
      where
        before : (m : ℕ) → Found t (suc i) k j → (i ≡ m) ⊎ (i < m) → m < j → t m ≡ false
        before m r (inl q) b = ap t (sym q) ∙ h
        before m r (inr l) b = r.least m l b

pub first_at : (t : ℕ → Bool) (n i : ℕ) → first t n ≡ Some i → (i < n) × (t i ≡ true) × ((m : ℕ) → m < i → t m ≡ false)
first_at t n i e = let r = found t 0 n i e in (omega arith, r.passes, λ m l. r.least m (omega arith) l)

clear : (t : ℕ → Bool) (i k : ℕ) → first_from t i k ≡ None → (m : ℕ) → i ≤ m → m < i + k → t m ≡ false
unfolding first_from
clear t i zero e m a b = absurd (omega arith)
clear t i (suc k) e m a b = at (t i) refl e (λ q l. clear t (suc i) k q m l (omega arith)) (eq-or-lt_of_le a)
  where
    at : (b : Bool) → t i ≡ b → cond b (Some i) (first_from t (suc i) k) ≡ None → (first_from t (suc i) k ≡ None → i < m → t m ≡ false) → (i ≡ m) ⊎ (i < m) → t m ≡ false
    at true h e rest c = absurd (let z : ◌≡◌ {A = ℕ} 0 1 = cc in omega arith)
    at false h e rest (inl q) = ap t (sym q) ∙ h
    at false h e rest (inr l) = rest e l

pub first_clear : (t : ℕ → Bool) (n : ℕ) → first t n ≡ None → (i : ℕ) → i < n → t i ≡ false
first_clear t n e i h = clear t 0 n e i (omega arith) (omega arith)

-- and what it finds, from what is known of all numbers: nobody, or the only one
pub first_nobody : (t : ℕ → Bool) (n : ℕ) → ((i : ℕ) → i < n → t i ≡ false) → first t n ≡ None
first_nobody t n h = at (first t n) refl
  where
    at : (g : Option ℕ) → first t n ≡ g → first t n ≡ None
    at (Some i) e = let r = first_at t n i e in absurd (let q : t i ≡ false = h i r.0 in let p : t i ≡ true = r.1 in let z : ◌≡◌ {A = ℕ} 0 1 = cc in omega arith)
    at None e = e

pub first_only : (t : ℕ → Bool) (n i : ℕ) → i < n → t i ≡ true → ((j : ℕ) → j < n → t j ≡ true → j ≡ i) → first t n ≡ Some i
first_only t n i h p only = at (first t n) refl
  where
    at : (g : Option ℕ) → first t n ≡ g → first t n ≡ Some i
    at (Some j) e = let r = first_at t n j e in e ∙ ap Some (only j r.0 r.1)
    at None e = absurd (let q : t i ≡ false = first_clear t n e i h in let z : ◌≡◌ {A = ℕ} 0 1 = cc in omega arith)

-- among propositions and then terms
pub or_nobody : (g h : Option ℕ) (p : ℕ) → or_term g p h ≡ None → (g ≡ None) × (h ≡ None)
unfolding or_term
or_nobody (Some n) h p e = absurd (let z : ◌≡◌ {A = ℕ} 0 1 = cc in omega arith)
or_nobody None (Some t) p e = absurd (let z : ◌≡◌ {A = ℕ} 0 1 = cc in omega arith)
or_nobody None None p e = (refl, refl)
