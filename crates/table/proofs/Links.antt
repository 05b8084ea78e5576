-- What test 5 gives: where children stand, that each record is named once, and by whom.
-- Assumes nothing.
use Rattle.std.specs.Prelude.{Option, Some, None}
use mathlib.Core.Path.{◌≡◌, refl, sym}
use mathlib.Core.Bool.{Bool, true, false, ◌&&◌, ◌||◌, not, and-eq-true_iff}
use mathlib.Core.List.{List, []}
use mathlib.Core.Logic.{◌⊎◌, inl, inr}
use Prim.Native.Nat.{ℕ, zero, suc, ◌+◌, ◌<◌, ◌≤◌}
use native.Mathlib.Nat.{eq-or-lt_of_le}
use native.Mathlib.Omega.{arith}
use lib.Dec.{eqb, ltb}
use borrow.Author.Tests.{ltb-true, ltb-false, lt-ltb, le-ltb, eqb-true, ne_eqb, not-false}
use Rattle.table.specs.declared.Purpose.{Purpose}
use Rattle.table.specs.declared.Purpose.TheVariants.{Check}
use Rattle.layout.specs.File.{props, terms, expected, prop_record, term_record}
use Rattle.table.specs.Links.{prop_links, term_links, annotation, prop_links_ok, term_links_ok, all_links, hits, sum, prop_named, term_named, badly_linked_prop, badly_linked_term}
use Rattle.table.specs.Reading.{first, parent}
use Rattle.table.specs.Size.{holder}
use Rattle.table.specs.Passing.{Linked, Directed}
use Rattle.table.proofs.Firsts.{first_at, first_clear, first_nobody, first_only}
use Rattle.table.proofs.Sums.{sum_one, sum_two, sum_zero, sum_some, hit_here, hit_ok}

-- WHO NAMES m, among n records with these links
module _ (links : ℕ → List ℕ) (n m : ℕ) where
  abbrev names : ℕ → Bool
  names i = ltb 0 (hits m (links i))

  abbrev named : ℕ
  named = sum (λ i. hits m (links i)) n

  owner_only : named ≤ 1 → (i : ℕ) → i < n → 0 < hits m (links i) → first names n ≡ Some i
  owner_only h i l k = first_only names n i l (lt-ltb 0 (hits m (links i)) k) only
    where
      only : (j : ℕ) → j < n → names j ≡ true → j ≡ i
      only j q e = at (ltb j i) refl (ltb-true 0 (hits m (links j)) e)
        where
          above : (i ≡ j) ⊎ (i < j) → 0 < hits m (links j) → j ≡ i
          above (inl e) x = sym e
          above (inr g) x = absurd (omega (arith, sum_two (λ i. hits m (links i)) i j n g q))

          at : (b : Bool) → ltb j i ≡ b → 0 < hits m (links j) → j ≡ i
          at true e x = absurd (omega (arith, sum_two (λ i. hits m (links i)) j i n (ltb-true j i e) l))
          at false e x = above (eq-or-lt_of_le (ltb-false j i e)) x

  owner_none : named ≡ 0 → first names n ≡ None
  owner_none h = first_nobody names n (λ i l. le-ltb 0 (hits m (links i)) (omega (arith, sum_one (λ i. hits m (links i)) i n l)))

  owner_at : (i : ℕ) → first names n ≡ Some i → (i < n) × (0 < hits m (links i))
  owner_at i e = let r = first_at names n i e in (r.0, ltb-true 0 (hits m (links i)) r.1)

  owner_some : 0 < named → (i : ℕ) × (first names n ≡ Some i)
  owner_some h = at (first names n) refl
    where
      at : (g : Option ℕ) → first names n ≡ g → (i : ℕ) × (first names n ≡ Some i)
      at (Some i) e = (i, e)
      at None e =
          let r = sum_some (λ i. hits m (links i)) n h in
          absurd (omega (arith, ltb-false 0 (hits m (links r.0)) (first_clear names n e r.0 r.1), r.2))

-- WHAT TEST 5 SAYS
both : (a b : Bool) → not (a && b) ≡ false → (a ≡ true) × (b ≡ true)
both a b e = (and-eq-true_iff a b).0 (not-false (a && b) e)

module _ {p : Purpose} {l : List ℕ} (h : Linked p l) where
  prop_ok : (n : ℕ) → n < props l → (prop_links_ok l n ≡ true) × (eqb (prop_named p l n) 1 ≡ true)
  unfolding badly_linked_prop
  prop_ok n k = both (prop_links_ok l n) (eqb (prop_named p l n) 1) (h.prop n k)

  term_ok : (t : ℕ) → t < terms l → (term_links_ok l t ≡ true) × (eqb t 0 || eqb (term_named l t) 1 ≡ true)
  unfolding badly_linked_term
  term_ok t k = both (term_links_ok l t) (eqb t 0 || eqb (term_named l t) 1) (h.term t k)

  pub directed : Directed l
  directed = record { prop = λ n k. (prop_ok n k).0; term = λ t k. (term_ok t k).0 }

-- THE RIGHT WAY
module _ {l : List ℕ} (d : Directed l) where
  term_in : (t : ℕ) → t < terms l → (all_links (λ m. ltb t m && ltb m (terms l)) (term_links (term_record l t)) ≡ true) × (all_links (λ m. ltb m (props l)) (annotation (term_record l t)) ≡ true)
  term_in t k = (and-eq-true_iff (all_links (λ m. ltb t m && ltb m (terms l)) (term_links (term_record l t))) (all_links (λ m. ltb m (props l)) (annotation (term_record l t)))).0 (d.term t k)

  -- children of propositions have smaller numbers
  pub child_below : (n m : ℕ) → n < props l → 0 < hits m (prop_links (prop_record l n)) → m < n
  child_below n m k x = ltb-true m n (hit_ok (λ m. ltb m n) m (prop_links (prop_record l n)) (d.prop n k) x)

  -- children of terms larger ones
  pub term_child : (t m : ℕ) → t < terms l → 0 < hits m (term_links (term_record l t)) → (t < m) × (m < terms l)
  term_child t m k x =
      let b = (and-eq-true_iff (ltb t m) (ltb m (terms l))).0 (hit_ok (λ m. ltb t m && ltb m (terms l)) m (term_links (term_record l t)) (term_in t k).0 x) in
      (ltb-true t m b.0, ltb-true m (terms l) b.1)

  pub annotation_in : (t m : ℕ) → t < terms l → 0 < hits m (annotation (term_record l t)) → m < props l
  annotation_in t m k x = ltb-true m (props l) (hit_ok (λ m. ltb m (props l)) m (annotation (term_record l t)) (term_in t k).1 x)

  pub root_never : term_named l 0 ≡ 0
  root_never = sum_zero (λ s. hits 0 (term_links (term_record l s))) (terms l) (λ s k. none s k (eq-or-lt_of_le (omega arith)))
    where
      none : (s : ℕ) → s < terms l → (0 ≡ hits 0 (term_links (term_record l s))) ⊎ (0 < hits 0 (term_links (term_record l s))) → hits 0 (term_links (term_record l s)) ≡ 0
      none s k (inl e) = sym e
      none s k (inr x) = absurd (omega (arith, (term_child s 0 k x).0))

  pub parent_above : (n m : ℕ) → parent l m ≡ Some n → (n < props l) × (0 < hits m (prop_links (prop_record l n))) × (m < n)
  unfolding parent
  parent_above n m e = let r = owner_at (λ i. prop_links (prop_record l i)) (props l) m n e in (r.0, r.1, child_below n m r.0 r.1)

  pub holder_above : (t c : ℕ) → holder l c ≡ Some t → (t < terms l) × (0 < hits c (term_links (term_record l t))) × (t < c)
  unfolding holder
  holder_above t c e = let r = owner_at (λ i. term_links (term_record l i)) (terms l) c t e in (r.0, r.1, (term_child t c r.0 r.1).0)

-- NAMED ONCE
module _ {p : Purpose} {l : List ℕ} (h : Linked p l) where
  pub prop_once : (n : ℕ) → n < props l → prop_named p l n ≡ 1
  prop_once n k = eqb-true (prop_named p l n) 1 (prop_ok h n k).1

  pub term_once : (t : ℕ) → 0 < t → t < terms l → term_named l t ≡ 1
  term_once t z k = eqb-true (term_named l t) 1 (rw (ne_eqb t 0 (omega arith)) at (term_ok h t k).1)

  -- BY WHOM: a child by its parent; the expected proposition and an annotation by no proposition
  pub parent_child : (n m : ℕ) → n < props l → 0 < hits m (prop_links (prop_record l n)) → parent l m ≡ Some n
  unfolding parent
  parent_child n m k x = owner_only (λ i. prop_links (prop_record l i)) (props l) m (omega (arith, prop_once m (omega (arith, child_below (directed h) n m k x)))) n k x

  pub parent_annotation : (t m : ℕ) → t < terms l → 0 < hits m (annotation (term_record l t)) → parent l m ≡ None
  unfolding parent
  parent_annotation t m k x =
      owner_none (λ i. prop_links (prop_record l i)) (props l) m
      (omega (arith, prop_once m (annotation_in (directed h) t m k x), sum_one (λ t. hits m (annotation (term_record l t))) t (terms l) k))

  pub holder_child : (t c : ℕ) → t < terms l → 0 < hits c (term_links (term_record l t)) → holder l c ≡ Some t
  unfolding holder
  holder_child t c k x =
      let r = term_child (directed h) t c k x in
      owner_only (λ i. term_links (term_record l i)) (terms l) c (omega (arith, term_once c (omega arith) r.1)) t k x

  pub holder_some : (c : ℕ) → 0 < c → c < terms l → (t : ℕ) × (holder l c ≡ Some t)
  unfolding holder
  holder_some c z k = owner_some (λ i. term_links (term_record l i)) (terms l) c (omega (arith, term_once c z k))

-- a table to check
pub expected_in : {l : List ℕ} → Linked Check l → expected l < props l
expected_in {l} h = ltb-true (expected l) (props l) h.goal

pub parent_goal : {l : List ℕ} → Linked Check l → parent l (expected l) ≡ None
unfolding parent
parent_goal {l} h =
    owner_none (λ i. prop_links (prop_record l i)) (props l) (expected l) (omega (arith, prop_once h (expected l) (expected_in h), hit_here (expected l) []))

-- INDUCTION from the children
module _ {l : List ℕ} (d : Directed l) (F : ℕ → Type 0) where
  pub prop_induction : ((n : ℕ) → n < props l → ((m : ℕ) → 0 < hits m (prop_links (prop_record l n)) → F m) → F n) → (n : ℕ) → n < props l → F n
  prop_induction step n k = go (suc n) n (omega arith) k
    where
      go : (f n : ℕ) → n < f → n < props l → F n
      go zero n a k = absurd (omega arith)
      go (suc f) n a k = step n k (λ m x. let c = child_below d n m k x in go f m (omega arith) (omega arith))

  pub term_induction : ((t : ℕ) → t < terms l → ((c : ℕ) → 0 < hits c (term_links (term_record l t)) → F c) → F t) → (t : ℕ) → t < terms l → F t
  term_induction step t k = go (terms l) t (omega arith) k
    where
      go : (f t : ℕ) → terms l ≤ t + f → t < terms l → F t
      go zero t a k = absurd (omega arith)
      go (suc f) t a k = step t k (λ c x. let r = term_child d t c k x in go f c (omega arith) r.1)
