-- A table joined with a filling, record by record: where each stands, and that tests 3, 4 and the links of 5 hold of the whole as they do of both parts.
-- Assumes nothing.
use mathlib.Core.Path.{◌≡◌, refl, ap, subst, subst⁻¹, ◌∙◌}
use mathlib.Core.Bool.{Bool, true, false, ◌&&◌, and-eq-true_iff}
use mathlib.Core.List.{List}
use mathlib.Core.Logic.{◌⊎◌, inl, inr}
use Prim.Native.Nat.{ℕ, ◌+◌, ◌-◌, ◌<◌, ◌≤◌}
use native.Mathlib.Omega.{arith}
use lib.ListN.{get_or}
use lib.Dec.{eqb, ltb}
use borrow.Author.Tests.{ltb-true, ltb-false, lt-ltb, eqb-true, eqb-false}
use Rattle.numbers.specs.declared.record.Record.{Record}
use Rattle.numbers.specs.Limits.{most_propositions, most_terms}
use Rattle.numbers.specs.Records.{record_at}
use Rattle.layout.specs.File.{props, terms, expected, prop_record, term_record, as_term}
use Rattle.layout.specs.Form.{prop_form, term_form}
use Rattle.table.specs.Links.{prop_links, term_links, annotation, all_links, hits}
use Rattle.table.specs.Passing.{Counted, Formed, Directed}
use Rattle.table.proofs.Links.{child_below, term_child, annotation_in}
use Rattle.editing.specs.Edited.{new_prop, new_term, moved_prop, moved_term, all_props, all_terms, term_bytes, Joined}
use Rattle.editing.proofs.Moves.{all_so, hit_moved, prop_links_moved, term_links_moved, annotation_moved, prop_form_moved, term_form_moved}

-- below a bound, or so much above it
pub below_or : (n b c : ℕ) → n < b + c → (n < b) ⊎ ((j : ℕ) × (j < c) × (n ≡ b + j))
below_or n b c h = at (ltb n b) refl
  where
    at : (x : Bool) → ltb n b ≡ x → (n < b) ⊎ ((j : ℕ) × (j < c) × (n ≡ b + j))
    at true e = inl (ltb-true n b e)
    at false e = let k = ltb-false n b e in inr (n - b, omega arith, omega arith)

pub same_or : (t q : ℕ) → (t ≡ q) ⊎ (t ≡ q → ⊥)
same_or t q = at (eqb t q) refl
  where
    at : (x : Bool) → eqb t q ≡ x → (t ≡ q) ⊎ (t ≡ q → ⊥)
    at true e = inl (eqb-true t q e)
    at false e = inr (eqb-false t q e)

-- THE RECORD r MAY STAND AS TERM t in a table of p propositions and k terms
pub record Sits (p k t : ℕ) (r : Record) : Type 0 where
  pub form : term_form (as_term r) ≡ true
  pub links : (m : ℕ) → 0 < hits m (term_links (as_term r)) → (t < m) × (m < k)
  pub typ : (m : ℕ) → 0 < hits m (annotation (as_term r)) → m < p

sits_linked : (p k t : ℕ) (r : Record) → Sits p k t r → (all_links (λ m. ltb t m && ltb m k) (term_links (as_term r)) && all_links (λ m. ltb m p) (annotation (as_term r))) ≡ true
sits_linked p k t r s =
    (and-eq-true_iff (all_links (λ m. ltb t m && ltb m k) (term_links (as_term r))) (all_links (λ m. ltb m p) (annotation (as_term r)))).1 (
      all_so (λ m. ltb t m && ltb m k) (term_links (as_term r)) (λ m x. let l = s.links m x in (and-eq-true_iff (ltb t m) (ltb m k)).1 (lt-ltb t m l.0, lt-ltb m k l.1)),
      all_so (λ m. ltb m p) (annotation (as_term r)) (λ m x. lt-ltb m p (s.typ m x)),
    )

-- so may the records of the old table, and the filling's, moved
pub old_sits : (old f : List ℕ) → Formed old → Directed old → 0 < terms f → (t : ℕ) → t < terms old → Sits (all_props old f) (all_terms old f) t (term_bytes old t)
old_sits old f formed d pos t k =
    record {
      form = formed.term t k;
      links = λ m x. let c = term_child d t m k x in (c.0, omega arith);
      typ = λ m x. omega (arith, annotation_in d t m k x);
    }

pub added_sits : (old f : List ℕ) → Formed f → Directed f → 0 < terms old → (i t : ℕ) → i < terms f → t < terms old + i
    → Sits (all_props old f) (all_terms old f) t (moved_term (props old) (terms old) (term_bytes f i))
added_sits old f formed d pos i t k h =
    record {
      form = term_form_moved (props old) (terms old) (term_bytes f i) ∙ formed.term i k;
      links = λ m x. link m (hit_moved (new_term (terms old)) m (term_links (term_record f i)) (subst (λ ms. 0 < hits m ms) (term_links_moved (props old) (terms old) (term_bytes f i)) x));
      typ = λ m x. typ m (hit_moved (new_prop (props old)) m (annotation (term_record f i)) (subst (λ ms. 0 < hits m ms) (annotation_moved (props old) (terms old) (term_bytes f i)) x));
    }
  where
    link : (m : ℕ) → (c : ℕ) × (m ≡ new_term (terms old) c) × (0 < hits c (term_links (term_record f i))) → (t < m) × (m < all_terms old f)
    link m z = let c = term_child d i z.0 k z.2 in (omega (arith, z.1), omega (arith, z.1))

    typ : (m : ℕ) → (j : ℕ) × (m ≡ new_prop (props old) j) × (0 < hits j (annotation (term_record f i))) → m < all_props old f
    typ m z = omega (arith, z.1, annotation_in d i z.0 k z.2)

module _ {old f : List ℕ} {q : ℕ} {r : Record} {e : List ℕ} (J : Joined old f q r e) where
  -- THE HEADER'S NUMBERS
  pub props_joined : props e ≡ all_props old f
  unfolding record_at
  props_joined = ap (λ (h : Record). h.c) J.head

  pub terms_joined : terms e ≡ all_terms old f
  unfolding record_at
  terms_joined = ap (λ (h : Record). get_or h.parameters 0 0) J.head

  pub expected_joined : expected e ≡ expected old
  unfolding record_at
  expected_joined = ap (λ (h : Record). get_or h.parameters 1 0) J.head

  -- WHAT HOLDS OF EACH RECORD, from its part of the table
  pub prop_cases : (F : ℕ → Record → Type 0) → ((n : ℕ) → n < props old → F n (prop_record old n)) → ((j : ℕ) → j < props f → F (new_prop (props old) j) (moved_prop (props old) (prop_record f j)))
      → (n : ℕ) → n < props e → F n (prop_record e n)
  prop_cases F a b n k = at (below_or n (props old) (props f) (omega (arith, props_joined)))
    where
      at : (n < props old) ⊎ ((j : ℕ) × (j < props f) × (n ≡ props old + j)) → F n (prop_record e n)
      at (inl x) = subst⁻¹ (F n) (J.old_prop n x) (a n x)
      at (inr z) = subst⁻¹ (λ n. F n (prop_record e n)) z.2 (subst⁻¹ (F (props old + z.0)) (J.added_prop z.0 z.1) (b z.0 z.1))

  module _ (k : q < terms old) (pos : 0 < terms f) where
    pub term_cases : (F : ℕ → Record → Type 0) → ((t : ℕ) → t < terms old → (t ≡ q → ⊥) → F t (term_bytes old t)) → F q r
        → ((i : ℕ) → 0 < i → i < terms f → F (new_term (terms old) i) (moved_term (props old) (terms old) (term_bytes f i))) → (t : ℕ) → t < terms e → F t (term_bytes e t)
    term_cases F a h b t x = at (below_or t (terms old) (terms f - 1) (omega (arith, terms_joined))) (same_or t q)
      where
        at : (t < terms old) ⊎ ((j : ℕ) × (j < terms f - 1) × (t ≡ terms old + j)) → (t ≡ q) ⊎ (t ≡ q → ⊥) → F t (term_bytes e t)
        at s (inl z) = subst⁻¹ (λ t. F t (term_bytes e t)) z (subst⁻¹ (F q) J.here h)
        at (inl y) (inr z) = subst⁻¹ (F t) (J.old_term t y z) (a t y z)
        at (inr y) (inr z) =
            let i : ℕ = y.0 + 1 in
            let so : t ≡ new_term (terms old) i = omega (arith, y.2) in
            subst⁻¹ (λ t. F t (term_bytes e t)) so (subst⁻¹ (F (new_term (terms old) i)) (J.added_term i (omega arith) (omega (arith, y.1))) (b i (omega arith) (omega (arith, y.1))))

    module _ (old-formed : Formed old) (formed : Formed f) (old-directed : Directed old) (directed : Directed f) (root : Sits (all_props old f) (all_terms old f) q r) where
      pub joined_sits : (t : ℕ) → t < terms e → Sits (all_props old f) (all_terms old f) t (term_bytes e t)
      joined_sits =
          term_cases (Sits (all_props old f) (all_terms old f)) (λ t y _. old_sits old f old-formed old-directed pos t y) root
          (λ i x y. added_sits old f formed directed (omega arith) i (new_term (terms old) i) y (omega arith))

      -- TEST 4
      pub joined_formed : Formed e
      joined_formed =
          record {
            prop =
                prop_cases (λ n r. prop_form r ≡ true) (λ n x. old-formed.prop n x)
                (λ j x. prop_form_moved (props old) (prop_record f j) ∙ formed.prop j x);
            term = λ t x. (joined_sits t x).form;
          }

      -- OF TEST 5 the links
      pub joined_directed : Directed e
      joined_directed =
          record {
            prop = prop_cases (λ n r. all_links (λ m. ltb m n) (prop_links r) ≡ true) (λ n x. old-directed.prop n x) (λ j x. all_so _ _ (λ m y. lt-ltb m _ (child j x m y)));
            term = λ t x.
                sits_linked (props e) (terms e) t (term_bytes e t)
                (subst⁻¹ (λ p. Sits p (terms e) t (term_bytes e t)) props_joined (subst⁻¹ (λ k. Sits (all_props old f) k t (term_bytes e t)) terms_joined (joined_sits t x)));
          }
        where
          child : (j : ℕ) → j < props f → (m : ℕ) → 0 < hits m (prop_links (moved_prop (props old) (prop_record f j))) → m < new_prop (props old) j
          child j x m y =
              let z = hit_moved (new_prop (props old)) m (prop_links (prop_record f j)) (subst (λ ms. 0 < hits m ms) (prop_links_moved (props old) (prop_record f j)) y) in
              omega (arith, z.1, child_below directed j z.0 x z.2)

    -- TEST 3
    pub joined_counted : all_props old f ≤ most_propositions → all_terms old f ≤ most_terms → Counted e
    joined_counted a b =
        record {
          propositions = omega (arith, props_joined);
          some = omega (arith, terms_joined);
          few = omega (arith, terms_joined);
          long = J.size ∙ omega (arith, props_joined, terms_joined);
        }
