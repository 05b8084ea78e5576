-- Sums over the numbers below n, and how often a number stands in a list.
-- Assumes nothing.
use mathlib.Core.Path.{◌≡◌, refl, ap₂, ap, sym, ◌∙◌}
use mathlib.Core.Bool.{Bool, true, false, cond, and-eq-true_iff}
use mathlib.Core.List.{List, [], ◌∷◌}
use mathlib.Core.Logic.{◌⊎◌, inl, inr}
use Prim.Native.Nat.{ℕ, zero, suc, ◌+◌, ◌<◌, ◌≤◌}
use native.Mathlib.Nat.{eq-or-lt_of_le}
use native.Mathlib.Omega.{arith}
use lib.Dec.{eqb}
use borrow.Author.Tests.{eqb-true, eq-eqb}
use Rattle.table.specs.Links.{all_links, hits, sum}

-- SUMS
pub sum_same : (f g : ℕ → ℕ) (n : ℕ) → ((i : ℕ) → i < n → f i ≡ g i) → sum f n ≡ sum g n
unfolding sum
sum_same f g zero h = refl
sum_same f g (suc n) h = ap₂ ◌+◌ (h n (omega arith)) (sum_same f g n (λ i l. h i (omega arith)))

pub sum_add : (f g : ℕ → ℕ) (n : ℕ) → sum (λ i. f i + g i) n ≡ sum f n + sum g n
unfolding sum
sum_add f g zero = refl
sum_add f g (suc n) = omega (arith, sum_add f g n)

pub sum_zero : (f : ℕ → ℕ) (n : ℕ) → ((i : ℕ) → i < n → f i ≡ 0) → sum f n ≡ 0
unfolding sum
sum_zero f zero h = refl
sum_zero f (suc n) h = omega (arith, h n (omega arith), sum_zero f n (λ i l. h i (omega arith)))

pub sum_one : (f : ℕ → ℕ) (i n : ℕ) → i < n → f i ≤ sum f n
unfolding sum
sum_one f i zero h = absurd (omega arith)
sum_one f i (suc n) h = at (eq-or-lt_of_le (omega arith)) (sum_one f i n)
  where
    at : (i ≡ n) ⊎ (i < n) → (i < n → f i ≤ sum f n) → f i ≤ f n + sum f n
    at (inl e) rest = let q : f i ≡ f n = ap f e in omega arith
    at (inr l) rest = omega (arith, rest l)

pub sum_two : (f : ℕ → ℕ) (i j n : ℕ) → i < j → j < n → f i + f j ≤ sum f n
unfolding sum
sum_two f i j zero h k = absurd (omega arith)
sum_two f i j (suc n) h k = at (eq-or-lt_of_le (omega arith)) (sum_two f i j n h)
  where
    at : (j ≡ n) ⊎ (j < n) → (j < n → f i + f j ≤ sum f n) → f i + f j ≤ f n + sum f n
    at (inl e) rest = let q : f j ≡ f n = ap f e in omega (arith, sum_one f i n (omega arith))
    at (inr l) rest = omega (arith, rest l)

-- a sum that is not 0 has a part that is not
pub sum_some : (f : ℕ → ℕ) (n : ℕ) → 0 < sum f n → (i : ℕ) × (i < n) × (0 < f i)
unfolding sum
sum_some f zero h = absurd (omega arith)
sum_some f (suc n) h = at (eq-or-lt_of_le {n = 0} {m = f n} (omega arith)) (sum_some f n)
  where
    at : (0 ≡ f n) ⊎ (0 < f n) → (0 < sum f n → (i : ℕ) × (i < n) × (0 < f i)) → (i : ℕ) × (i < suc n) × (0 < f i)
    at (inl e) rest = let r = rest (omega arith) in (r.0, omega arith, r.2)
    at (inr l) rest = (n, omega arith, l)

-- HITS
pub hit_here : (m : ℕ) (ms : List ℕ) → 0 < hits m (m ∷ ms)
unfolding hits
hit_here m ms = rw (eq-eqb m m refl) (omega arith)

pub hit_later : (m k : ℕ) (ms : List ℕ) → 0 < hits m ms → 0 < hits m (k ∷ ms)
unfolding hits
hit_later m k ms h = omega arith

pub hit_either : (m k : ℕ) (ms : List ℕ) → 0 < hits m (k ∷ ms) → (k ≡ m) ⊎ (0 < hits m ms)
unfolding hits
hit_either m k ms h = at (eqb k m) refl h
  where
    at : (b : Bool) → eqb k m ≡ b → 0 < cond b 1 0 + hits m ms → (k ≡ m) ⊎ (0 < hits m ms)
    at true e h = inl (eqb-true k m e)
    at false e h = inr (omega arith)

pub hit_not : (m : ℕ) → 0 < hits m [] → ⊥
unfolding hits
hit_not m h = omega arith

-- what holds of all links holds of one
pub hit_ok : (ok : ℕ → Bool) (m : ℕ) (ms : List ℕ) → all_links ok ms ≡ true → 0 < hits m ms → ok m ≡ true
unfolding all_links
hit_ok ok m [] e h = absurd (hit_not m h)
hit_ok ok m (k ∷ ms) e h = at (hit_either m k ms h) (hit_ok ok m ms ((and-eq-true_iff (ok k) (all_links ok ms)).0 e).1)
  where
    at : (k ≡ m) ⊎ (0 < hits m ms) → (0 < hits m ms → ok m ≡ true) → ok m ≡ true
    at (inl q) rest = ap ok (sym q) ∙ ((and-eq-true_iff (ok k) (all_links ok ms)).0 e).0
    at (inr l) rest = rest l
