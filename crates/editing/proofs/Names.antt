-- In the edited table each record is named once: an old one by old records alone, a moved one by moved ones; the Sorry record, which goes, named nobody.
-- Assumes nothing.
use mathlib.Core.Path.{◌≡◌, refl, ap, ap₂, subst, ◌∙◌}
use mathlib.Core.Bool.{false, ◌||◌, not}
use mathlib.Core.List.{List, [], ◌∷◌, map}
use mathlib.Core.Logic.{◌⊎◌, inl, inr}
use Prim.Native.Nat.{ℕ, zero, suc, ◌+◌, ◌-◌, ◌<◌, ◌≤◌}
use native.Mathlib.Omega.{arith}
use lib.Dec.{eqb}
use borrow.Author.Tests.{eq-eqb, ne_eqb, lt-ltb}
use Rattle.numbers.specs.declared.record.Record.{Record}
use Rattle.layout.specs.File.{props, terms, expected, prop_record, term_record, as_term, Kind, Sorry, kind_of}
use Rattle.layout.specs.Form.{term_shape}
use Rattle.table.specs.declared.Purpose.TheVariants.{Check, Filling}
use Rattle.table.specs.Links.{prop_links, term_children, term_links, annotation_links, annotation, hits, sum, prop_named, term_named, badly_linked_prop, badly_linked_term}
use Rattle.table.specs.Passing.{Formed, Linked, Directed}
use Rattle.table.proofs.Sums.{sum_same, sum_zero, hit_either, hit_not}
use Rattle.table.proofs.Links.{directed, child_below, term_child, annotation_in, prop_once, term_once, expected_in}
use Rattle.table.proofs.Reading.{tag_range}
use Rattle.editing.specs.Edited.{new_prop, new_term, moved_term, term_bytes, Edited}
use Rattle.editing.proofs.Moves.{hits_none, hit_moved, hits_moved, prop_links_moved, term_links_moved, annotation_moved}
use Rattle.editing.proofs.Joins.{same_or, props_joined, terms_joined, expected_joined, prop_cases, term_cases}

-- SUMS over two parts
sum_split : (f : ℕ → ℕ) (a b : ℕ) → sum f (a + b) ≡ sum f a + sum (λ i. f (a + i)) b
unfolding sum
sum_split f a zero = let q : a + 0 ≡ a = omega arith in ap (sum f) q ∙ omega arith
sum_split f a (suc b) = let q : a + suc b ≡ suc (a + b) = omega arith in ap (sum f) q ∙ omega (arith, sum_split f a b)

-- over numbers of which q alone has a new part, where it had none
sum_but : (w u : ℕ → ℕ) (q n : ℕ) → q < n → ((t : ℕ) → t < n → (t ≡ q → ⊥) → w t ≡ u t) → u q ≡ 0 → sum w n ≡ sum u n + w q
unfolding sum
sum_but w u q zero k same z = absurd (omega arith)
sum_but w u q (suc n) k same z = at (same_or n q) (λ l. sum_but w u q n l (λ t x. same t (omega arith)) z)
  where
    at : (n ≡ q) ⊎ (n ≡ q → ⊥) → (q < n → sum w n ≡ sum u n + w q) → w n + sum w n ≡ u n + sum u n + w q
    at (inl e) rest =
        let a : w n ≡ w q = ap w e in
        let b : u n ≡ u q = ap u e in
        omega (arith, sum_same w u n (λ t x. same t (omega arith) (λ y. omega arith)))
    at (inr d) rest =
        let l : q < n = omega arith in
        omega (arith, rest l, same n (omega arith) d)

-- over the terms of the edited table, t old ones and those of a filling of s terms, whose root takes the place of q
sum_edited : (w u v : ℕ → ℕ) (q t s : ℕ) → q < t → 0 < s → ((i : ℕ) → i < t → (i ≡ q → ⊥) → w i ≡ u i) → u q ≡ 0 → w q ≡ v 0
    → ((i : ℕ) → 0 < i → i < s → w (new_term t i) ≡ v i) → sum w (t + s - 1) ≡ sum u t + sum v s
unfolding sum
sum_edited w u v q t s k pos same z root added =
    let c : ℕ = s - 1 in
    let x : t + s - 1 ≡ t + c = omega arith in
    let y : s ≡ 1 + c = omega arith in
    let a : sum w (t + s - 1) ≡ sum w (t + c) = ap (sum w) x in
    let b : sum v s ≡ sum v (1 + c) = ap (sum v) y in
    let m : sum (λ i. w (t + i)) c ≡ sum (λ i. v (1 + i)) c =
    sum_same (λ i. w (t + i)) (λ i. v (1 + i)) c (λ i l. let j : t + i ≡ new_term t (1 + i) = omega arith in ap w j ∙ added (1 + i) (omega arith) (omega arith)) in
    omega (arith, sum_split w t c, sum_split v 1 c, sum_but w u q t k same z)

-- HOW OFTEN A NUMBER STANDS IN MOVED LINKS
below_moved : (p n : ℕ) (ms : List ℕ) → n < p → hits n (map (new_prop p) ms) ≡ 0
below_moved p n ms k = hits_none n (map (new_prop p) ms) (λ x. let z = hit_moved (new_prop p) n ms x in omega (arith, z.1))

prop_moved : (p j : ℕ) (ms : List ℕ) → hits (new_prop p j) (map (new_prop p) ms) ≡ hits j ms
prop_moved p j ms = hits_moved (new_prop p) j ms (λ m x e. omega arith)

below_terms : (t n : ℕ) (ms : List ℕ) → n < t → ((m : ℕ) → 0 < hits m ms → 0 < m) → hits n (map (new_term t) ms) ≡ 0
below_terms t n ms k h = hits_none n (map (new_term t) ms) (λ x. let z = hit_moved (new_term t) n ms x in omega (arith, z.1, h z.0 z.2))

term_moved : (t i : ℕ) (ms : List ℕ) → 0 < i → ((m : ℕ) → 0 < hits m ms → 0 < m) → hits (new_term t i) (map (new_term t) ms) ≡ hits i ms
term_moved t i ms k h = hits_moved (new_term t) i ms (λ m x e. omega (arith, h m x))

-- A SORRY RECORD names nobody
module _ {l : List ℕ} (formed : Formed l) (q : ℕ) (k : q < terms l) (gap : kind_of (term_record l q).kind ≡ Sorry) where
  sorry_links : term_links (term_record l q) ≡ []
  unfolding term_children term_shape
  sorry_links = ap (λ (K : Kind). term_children (term_shape K).children (term_record l q)) gap

  sorry_type : annotation (term_record l q) ≡ []
  unfolding annotation_links term_shape
  sorry_type =
      let low : (term_record l q).tag ≤ 0 = subst (λ (K : Kind). (term_record l q).tag ≤ (term_shape K).most) gap (tag_range formed q k).1 in
      let untyped : (term_record l q).tag ≡ 0 = omega arith in
      ap (λ (tag : ℕ). annotation_links tag (term_record l q).typ) untyped

module _ {old f : List ℕ} {q : ℕ} {e : List ℕ} (E : Edited old f q e) (k : q < terms old) (pos : 0 < terms f) (formed : Formed old) (gap : kind_of (term_record old q).kind ≡ Sorry) where
  -- ALL LINKS: the old ones, and the filling's moved
  props_sum : (n : ℕ) → sum (λ m. hits n (prop_links (prop_record e m))) (props e)
      ≡ sum (λ m. hits n (prop_links (prop_record old m))) (props old) + sum (λ j. hits n (map (new_prop (props old)) (prop_links (prop_record f j)))) (props f)
  props_sum n =
      ap (sum (λ m. hits n (prop_links (prop_record e m)))) (props_joined E)
      ∙ sum_split (λ m. hits n (prop_links (prop_record e m))) (props old) (props f)
      ∙ ap₂ ◌+◌ (sum_same _ _ (props old) (λ m x. ap (λ (r : Record). hits n (prop_links r)) (E.old_prop m x)))
      (sum_same _ _ (props f) (λ j x. ap (λ (r : Record). hits n (prop_links r)) (E.added_prop j x) ∙ ap (hits n) (prop_links_moved (props old) (prop_record f j))))

  types_sum : (n : ℕ) → sum (λ t. hits n (annotation (term_record e t))) (terms e)
      ≡ sum (λ t. hits n (annotation (term_record old t))) (terms old) + sum (λ i. hits n (map (new_prop (props old)) (annotation (term_record f i)))) (terms f)
  unfolding hits
  types_sum n =
      ap (sum (λ t. hits n (annotation (term_record e t)))) (terms_joined E)
      ∙ sum_edited (λ t. hits n (annotation (term_record e t))) (λ t. hits n (annotation (term_record old t))) (λ i. hits n (map (new_prop (props old)) (annotation (term_record f i)))) q (terms old) (terms f) k pos
      (λ t x z. ap (λ (r : Record). hits n (annotation (as_term r))) (E.old_term t x z)) (ap (hits n) (sorry_type formed q k gap)) (moved 0 q E.here)
      (λ i x y. moved i (new_term (terms old) i) (E.added_term i x y))
    where
      moved : (i t : ℕ) → term_bytes e t ≡ moved_term (props old) (terms old) (term_bytes f i) → hits n (annotation (term_record e t)) ≡ hits n (map (new_prop (props old)) (annotation (term_record f i)))
      moved i t z = ap (λ (r : Record). hits n (annotation (as_term r))) z ∙ ap (hits n) (annotation_moved (props old) (terms old) (term_bytes f i))

  terms_sum : (n : ℕ) → term_named e n ≡ term_named old n + sum (λ i. hits n (map (new_term (terms old)) (term_links (term_record f i)))) (terms f)
  unfolding hits
  terms_sum n =
      ap (sum (λ t. hits n (term_links (term_record e t)))) (terms_joined E)
      ∙ sum_edited (λ t. hits n (term_links (term_record e t))) (λ t. hits n (term_links (term_record old t))) (λ i. hits n (map (new_term (terms old)) (term_links (term_record f i)))) q (terms old) (terms f) k pos
      (λ t x z. ap (λ (r : Record). hits n (term_links (as_term r))) (E.old_term t x z)) (ap (hits n) (sorry_links formed q k gap)) (moved 0 q E.here)
      (λ i x y. moved i (new_term (terms old) i) (E.added_term i x y))
    where
      moved : (i t : ℕ) → term_bytes e t ≡ moved_term (props old) (terms old) (term_bytes f i) → hits n (term_links (term_record e t)) ≡ hits n (map (new_term (terms old)) (term_links (term_record f i)))
      moved i t z = ap (λ (r : Record). hits n (term_links (as_term r))) z ∙ ap (hits n) (term_links_moved (props old) (terms old) (term_bytes f i))

  module _ (h : Linked Check old) (g : Linked Filling f) where
    -- PROPOSITIONS: an old one
    old_prop_once : (n : ℕ) → n < props old → prop_named Check e n ≡ 1
    old_prop_once n x =
        let a : hits n (expected e ∷ []) ≡ hits n (expected old ∷ []) = ap (λ (m : ℕ). hits n (m ∷ [])) (expected_joined E) in
        omega (
          arith,
          prop_once h n x,
          props_sum n,
          types_sum n,
          sum_zero (λ j. hits n (map (new_prop (props old)) (prop_links (prop_record f j)))) (props f) (λ j _. below_moved (props old) n (prop_links (prop_record f j)) x),
          sum_zero (λ i. hits n (map (new_prop (props old)) (annotation (term_record f i)))) (terms f) (λ i _. below_moved (props old) n (annotation (term_record f i)) x),
        )

    -- a moved one
    new_prop_once : (j : ℕ) → j < props f → prop_named Check e (new_prop (props old) j) ≡ 1
    unfolding hits
    new_prop_once j x =
        let n : ℕ = new_prop (props old) j in
        let a : hits n (expected e ∷ []) ≡ 0 = hits_none n (expected e ∷ []) (λ y. goal (hit_either n (expected e) [] y)) in
        omega (
          arith,
          prop_once g j x,
          props_sum n,
          types_sum n,
          sum_zero (λ m. hits n (prop_links (prop_record old m))) (props old) (λ m y. hits_none n (prop_links (prop_record old m)) (λ z. omega (arith, child_below (directed h) m n y z))),
          sum_zero (λ t. hits n (annotation (term_record old t))) (terms old) (λ t y. hits_none n (annotation (term_record old t)) (λ z. omega (arith, annotation_in (directed h) t n y z))),
          sum_same (λ i. hits n (map (new_prop (props old)) (prop_links (prop_record f i)))) (λ i. hits j (prop_links (prop_record f i))) (props f) (λ i _. prop_moved (props old) j (prop_links (prop_record f i))),
          sum_same (λ i. hits n (map (new_prop (props old)) (annotation (term_record f i)))) (λ i. hits j (annotation (term_record f i))) (terms f) (λ i _. prop_moved (props old) j (annotation (term_record f i))),
        )
      where
        goal : (expected e ≡ new_prop (props old) j) ⊎ (0 < hits (new_prop (props old) j) []) → ⊥
        goal (inl z) = omega (arith, expected_joined E, expected_in h)
        goal (inr z) = hit_not (new_prop (props old) j) z

    -- TERMS: an old one
    positive : (i : ℕ) → i < terms f → (m : ℕ) → 0 < hits m (term_links (term_record f i)) → 0 < m
    positive i x m y = omega (arith, (term_child (directed g) i m x y).0)

    old_term_once : (t : ℕ) → t < terms old → 0 < t → term_named e t ≡ 1
    old_term_once t x y =
        omega (
          arith,
          term_once h t y x,
          terms_sum t,
          sum_zero (λ i. hits t (map (new_term (terms old)) (term_links (term_record f i)))) (terms f) (λ i z. below_terms (terms old) t (term_links (term_record f i)) x (positive i z)),
        )

    -- a moved one
    new_term_once : (i : ℕ) → 0 < i → i < terms f → term_named e (new_term (terms old) i) ≡ 1
    new_term_once i x y =
        let n : ℕ = new_term (terms old) i in
        omega (
          arith,
          term_once g i x y,
          terms_sum n,
          sum_zero (λ t. hits n (term_links (term_record old t))) (terms old) (λ t z. hits_none n (term_links (term_record old t)) (λ w. omega (arith, (term_child (directed h) t n z w).1))),
          sum_same (λ j. hits n (map (new_term (terms old)) (term_links (term_record f j)))) (λ j. hits i (term_links (term_record f j))) (terms f)
              (λ j z. term_moved (terms old) i (term_links (term_record f j)) x (positive j z)),
        )

    -- TEST 5
    pub edited_linked : Directed e → Linked Check e
    unfolding badly_linked_prop badly_linked_term
    edited_linked d =
        record {
          goal = lt-ltb (expected e) (props e) (omega (arith, expected_joined E, props_joined E, expected_in h));
          prop = λ n x. rw (d.prop n x, eq-eqb (prop_named Check e n) 1 (prop_cases E (λ n _. prop_named Check e n ≡ 1) old_prop_once new_prop_once n x)) refl;
          term = λ t x. rw (d.term t x) (at t (same_or t 0) (term_cases E k pos (λ t _. 0 < t → term_named e t ≡ 1) (λ t y _. old_term_once t y) (old_term_once q k) (λ i y z _. new_term_once i y z) t x));
        }
      where
        at : (t : ℕ) → (t ≡ 0) ⊎ (t ≡ 0 → ⊥) → (0 < t → term_named e t ≡ 1) → not (eqb t 0 || eqb (term_named e t) 1) ≡ false
        at t (inl z) once = rw (eq-eqb t 0 z)
        at t (inr z) once = rw (ne_eqb t 0 z, eq-eqb (term_named e t) 1 (once (omega arith)))
