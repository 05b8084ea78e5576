-- Where each number but 0 is named once, what is counted at 0 is counted once for each record. So the root's term has every record's node once.
-- Assumes nothing.
use mathlib.Core.Path.{◌≡◌, refl, ap, ap₂, sym, ◌∙◌}
use mathlib.Core.Bool.{Bool, true, false, cond}
use mathlib.Core.List.{List, [], ◌∷◌}
use mathlib.Core.Logic.{◌⊎◌, inl, inr}
use mathlib.Core.Option.{Option}
use Prim.Native.Nat.{ℕ, zero, suc, ◌+◌, ◌*◌, ◌<◌, ◌≤◌}
use native.Mathlib.Nat.{mul-add, mul-one, mul-zero, eq-or-lt_of_le}
use native.Mathlib.Omega.{arith}
use lib.Dec.{eqb, ltb}
use borrow.Author.Tests.{ltb-true, ltb-false, eqb-true, eqb-false, eq-eqb, ne_eqb}
use Rattle.rules.specs.Prop.{Ty}
use Rattle.rules.specs.Term.{Term, nodes, gaps}
use Rattle.table.specs.declared.Purpose.{Purpose}
use Rattle.layout.specs.File.{terms, term_record, Kind, Ident, Pair, ProjectFst, ProjectSnd, Function, Application, LetIn, OrLeft, OrRight, Case, Abort, TheUnit, TypeAscription, Sorry, Strange, kind_of}
use Rattle.table.specs.Links.{term_links, hits, sum}
use Rattle.table.specs.Reading.{term_at}
use Rattle.table.specs.Passing.{Formed, Linked}
use Rattle.table.proofs.Sums.{sum_same, sum_add, sum_zero, hit_here, hit_later}
use Rattle.table.proofs.Links.{directed, term_child, term_once, root_never}
use Rattle.table.proofs.Reading.{is_gap, View, view_leaf, view_single, view_double, view_triple, view_gap, term_view}

-- a sum over a list
unfoldable pub over : (ℕ → ℕ) → List ℕ → ℕ
over f [] = 0
over f (c ∷ cs) = f c + over f cs

abbrev bit : Bool → ℕ
bit b = cond b 1 0

-- SUMS OF SUMS
sum_scale : (k : ℕ) (f : ℕ → ℕ) (n : ℕ) → sum (λ i. k * f i) n ≡ k * sum f n
unfolding sum
sum_scale k f zero = sym (mul-zero k)
sum_scale k f (suc n) = omega (arith, sum_scale k f n, mul-add k (f n) (sum f n))

sum_swap : (f : ℕ → ℕ → ℕ) (n m : ℕ) → sum (λ i. sum (f i) m) n ≡ sum (λ j. sum (λ i. f i j) n) m
unfolding sum
sum_swap f zero m = sym (sum_zero (λ j. 0) m (λ j k. refl))
sum_swap f (suc n) m = omega (arith, sum_swap f n m, sum_add (f n) (λ j. sum (λ i. f i j) n) m)

-- one number of all
sum_past : (f : ℕ → ℕ) (c n : ℕ) → n ≤ c → sum (λ j. f j * bit (eqb c j)) n ≡ 0
sum_past f c n h = sum_zero (λ j. f j * bit (eqb c j)) n (λ j k. rw (ne_eqb c j (omega arith)) (mul-zero (f j)))

sum_point : (f : ℕ → ℕ) (c n : ℕ) → c < n → sum (λ j. f j * bit (eqb c j)) n ≡ f c
unfolding sum
sum_point f c zero h = absurd (omega arith)
sum_point f c (suc n) h = at (eq-or-lt_of_le (omega arith)) (sum_point f c n)
  where
    at : (c ≡ n) ⊎ (c < n) → (c < n → sum (λ j. f j * bit (eqb c j)) n ≡ f c) → f n * bit (eqb c n) + sum (λ j. f j * bit (eqb c j)) n ≡ f c
    at (inl e) rest =
        let a : f n * bit (eqb c n) ≡ f n = rw (eq-eqb c n e) (mul-one (f n)) in
        let b : f c ≡ f n = ap f e in
        omega (arith, sum_past f c n (omega arith))
    at (inr l) rest = let a : f n * bit (eqb c n) ≡ 0 = rw (ne_eqb c n (omega arith)) (mul-zero (f n)) in omega (arith, rest l)

-- a sum over a list of numbers below n is one over all of them, each as often as it stands there
over_hits : (f : ℕ → ℕ) (n : ℕ) (cs : List ℕ) → ((c : ℕ) → 0 < hits c cs → c < n) → over f cs ≡ sum (λ j. f j * hits j cs) n
unfolding over hits
over_hits f n [] h = sym (sum_zero (λ j. f j * 0) n (λ j k. mul-zero (f j)))
over_hits f n (c ∷ cs) h =
    ap₂ ◌+◌ (sym (sum_point f c n (h c (hit_here c cs)))) (over_hits f n cs (λ d x. h d (hit_later d c cs x)))
    ∙ sym (sum_add (λ j. f j * bit (eqb c j)) (λ j. f j * hits j cs) n) ∙ sum_same _ _ n (λ j k. sym (mul-add (f j) (bit (eqb c j)) (hits j cs)))

-- all but the first, once each
but_first : (f g : ℕ → ℕ) (n : ℕ) → 0 < n → g 0 ≡ 0 → ((j : ℕ) → 0 < j → j < n → g j ≡ 1) → f 0 + sum (λ j. f j * g j) n ≡ sum f n
unfolding sum
but_first f g zero h z o = absurd (omega arith)
but_first f g (suc zero) h z o = let e : f 0 * g 0 ≡ 0 = rw z (mul-zero (f 0)) in omega arith
but_first f g (suc (suc n)) h z o =
    let e : f (suc n) * g (suc n) ≡ f (suc n) = rw (o (suc n) (omega arith) (omega arith)) (mul-one (f (suc n))) in
    omega (arith, but_first f g (suc n) (omega arith) z (λ j l k. o j l (omega arith)))

-- THE COUNT at 0 of what every record has (w) and its children count
pub count_root : (links : ℕ → List ℕ) (f w : ℕ → ℕ) (n : ℕ) → 0 < n → ((t : ℕ) → t < n → f t ≡ w t + over f (links t))
    → ((t c : ℕ) → t < n → 0 < hits c (links t) → c < n) → sum (λ t. hits 0 (links t)) n ≡ 0 → ((c : ℕ) → 0 < c → c < n → sum (λ t. hits c (links t)) n ≡ 1) → f 0 ≡ sum w n
count_root links f w n pos step inside never once =
    let a : sum f n ≡ sum w n + sum (λ t. over f (links t)) n = sum_same f (λ t. w t + over f (links t)) n step ∙ sum_add w (λ t. over f (links t)) n in
    let b : sum (λ t. over f (links t)) n ≡ sum (λ t. sum (λ c. f c * hits c (links t)) n) n = sum_same _ _ n (λ t k. over_hits f n (links t) (λ c x. inside t c k x)) in
    let c : sum (λ t. sum (λ c. f c * hits c (links t)) n) n ≡ sum (λ c. f c * sum (λ t. hits c (links t)) n) n =
    sum_swap (λ t c. f c * hits c (links t)) n n ∙ sum_same _ _ n (λ c k. sum_scale (f c) (λ t. hits c (links t)) n) in
    omega (arith, but_first f (λ c. sum (λ t. hits c (links t)) n) n pos never once)

-- THE NODES of a term
module _ {t : ℕ} {A : Option Ty} {sub : ℕ → Term} where
  nodes_view : {g : Bool} {cs : List ℕ} {u : Term} → View t A sub g cs u → nodes u ≡ 1 + over (λ c. nodes (sub c)) cs
  unfolding nodes over
  nodes_view (view_leaf k) = refl
  nodes_view (view_single k a x) = omega arith
  nodes_view (view_double k a b) = omega arith
  nodes_view (view_triple k a b c) = omega arith
  nodes_view view_gap = refl

  gaps_view : (q : ℕ) {g : Bool} {cs : List ℕ} {u : Term} → View t A sub g cs u → gaps q u ≡ bit g * bit (eqb t q) + over (λ c. gaps q (sub c)) cs
  unfolding gaps over
  gaps_view q (view_leaf k) = omega arith
  gaps_view q (view_single k a x) = omega arith
  gaps_view q (view_double k a b) = omega arith
  gaps_view q (view_triple k a b c) = omega arith
  gaps_view q view_gap = omega arith

eqb_swap : (a b : ℕ) → eqb a b ≡ eqb b a
eqb_swap a b = at (eqb a b) refl
  where
    at : (c : Bool) → eqb a b ≡ c → eqb a b ≡ eqb b a
    at true e = e ∙ sym (eq-eqb b a (sym (eqb-true a b e)))
    at false e = e ∙ sym (ne_eqb b a (λ q. eqb-false a b e (sym q)))

ones : (n : ℕ) → sum (λ t. 1) n ≡ n
unfolding sum
ones zero = refl
ones (suc n) = omega (arith, ones n)

not_gap : (K : Kind) → (K ≡ Sorry → ⊥) → is_gap K ≡ false
unfolding is_gap
not_gap Ident h = refl
not_gap Pair h = refl
not_gap ProjectFst h = refl
not_gap ProjectSnd h = refl
not_gap Function h = refl
not_gap Application h = refl
not_gap LetIn h = refl
not_gap OrLeft h = refl
not_gap OrRight h = refl
not_gap Case h = refl
not_gap Abort h = refl
not_gap TheUnit h = refl
not_gap TypeAscription h = refl
not_gap Sorry h = absurd (h refl)
not_gap Strange h = refl

module _ {p : Purpose} {l : List ℕ} (f : Formed l) (h : Linked p l) (pos : 0 < terms l) where
  abbrev links : ℕ → List ℕ
  links t = term_links (term_record l t)

  root_count : (μ w : ℕ → ℕ) → ((t : ℕ) → t < terms l → μ t ≡ w t + over μ (links t)) → μ 0 ≡ sum w (terms l)
  root_count μ w step = count_root links μ w (terms l) pos step (λ t c k x. (term_child (directed h) t c k x).1) (root_never (directed h)) (term_once h)

  pub nodes_root : nodes (term_at l 0) ≡ terms l
  nodes_root = root_count (λ t. nodes (term_at l t)) (λ t. 1) (λ t k. nodes_view (term_view f (directed h) t k)) ∙ ones (terms l)

  abbrev sorry_at : ℕ → Bool
  sorry_at q = is_gap (kind_of (term_record l q).kind)

  gaps_sum : (q : ℕ) → gaps q (term_at l 0) ≡ sum (λ t. bit (sorry_at t) * bit (eqb q t)) (terms l)
  gaps_sum q =
      root_count (λ t. gaps q (term_at l t)) (λ t. bit (sorry_at t) * bit (eqb t q)) (λ t k. gaps_view q (term_view f (directed h) t k))
      ∙ sum_same _ _ (terms l) (λ t k. ap (λ b. bit (sorry_at t) * bit b) (eqb_swap t q))

  -- a Sorry record is one gap
  pub gaps_one : (q : ℕ) → q < terms l → kind_of (term_record l q).kind ≡ Sorry → gaps q (term_at l 0) ≡ 1
  unfolding is_gap
  gaps_one q k e = gaps_sum q ∙ sum_point (λ t. bit (sorry_at t)) q (terms l) k ∙ ap (λ K. bit (is_gap K)) e

  -- and no other number is
  pub gaps_none : (q : ℕ) → (q < terms l → kind_of (term_record l q).kind ≡ Sorry → ⊥) → gaps q (term_at l 0) ≡ 0
  gaps_none q e = at (ltb q (terms l)) refl
    where
      at : (b : Bool) → ltb q (terms l) ≡ b → gaps q (term_at l 0) ≡ 0
      at true x = let k = ltb-true q (terms l) x in gaps_sum q ∙ sum_point (λ t. bit (sorry_at t)) q (terms l) k ∙ ap bit (not_gap (kind_of (term_record l q).kind) (e k))
      at false x = gaps_sum q ∙ sum_past (λ t. bit (sorry_at t)) q (terms l) (ltb-false q (terms l) x)
