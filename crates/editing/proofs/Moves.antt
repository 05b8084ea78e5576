-- A filling's records with their links moved: the links are the old ones moved, and the form is as it was.
-- Assumes nothing.
use mathlib.Core.Path.{◌≡◌, refl, ap, ap₂, sym, ◌∙◌}
use mathlib.Core.Bool.{Bool, true, false, ◌&&◌, cond, and-eq-true_iff}
use mathlib.Core.List.{List, [], ◌∷◌, map}
use mathlib.Core.Logic.{◌⊎◌, inl, inr}
use Prim.Native.Nat.{ℕ, zero, suc, ◌+◌, ◌<◌}
use native.Mathlib.Nat.{eq-or-lt_of_le}
use native.Mathlib.Omega.{arith}
use lib.Dec.{eqb, ltb, leb}
use lib.ListN.{get_or}
use borrow.Author.Tests.{lt-ltb, eqb-true, eqb-false, eq-eqb, ne_eqb}
use Rattle.numbers.specs.declared.record.Record.{Record}
use Rattle.layout.specs.declared.form.TermShape.{TermShape}
use Rattle.layout.specs.File.{as_term, PropKind, constant, linked, quantified, atomic, strange, prop_kind, kind_of}
use Rattle.layout.specs.Form.{fits, prop_shape, in_prop_shape, prop_form, term_shape, in_term_shape, term_form}
use Rattle.table.specs.Links.{prop_children, prop_links, term_children, term_links, annotation_links, annotation, all_links, hits}
use Rattle.table.proofs.Sums.{hit_here, hit_later, hit_either, hit_not}
use Rattle.editing.specs.Edited.{new_prop, new_term, moved_children, moved_prop, moved_subterms, moved_term}

-- LISTS OF LINKS. All are so if each is
pub all_so : (ok : ℕ → Bool) (ms : List ℕ) → ((m : ℕ) → 0 < hits m ms → ok m ≡ true) → all_links ok ms ≡ true
unfolding all_links
all_so ok [] h = refl
all_so ok (m ∷ ms) h = (and-eq-true_iff (ok m) (all_links ok ms)).1 (h m (hit_here m ms), all_so ok ms (λ k x. h k (hit_later k m ms x)))

pub hits_none : (n : ℕ) (ms : List ℕ) → (0 < hits n ms → ⊥) → hits n ms ≡ 0
hits_none n ms h = at (eq-or-lt_of_le {n = 0} {m = hits n ms} (omega arith))
  where
    at : (0 ≡ hits n ms) ⊎ (0 < hits n ms) → hits n ms ≡ 0
    at (inl e) = sym e
    at (inr x) = absurd (h x)

-- who stands in a moved list was moved there
pub hit_moved : (g : ℕ → ℕ) (m : ℕ) (ms : List ℕ) → 0 < hits m (map g ms) → (i : ℕ) × (m ≡ g i) × (0 < hits i ms)
hit_moved g m [] x = absurd (hit_not m x)
hit_moved g m (k ∷ ms) x = at (hit_either m (g k) (map g ms) x) (hit_moved g m ms)
  where
    at : (g k ≡ m) ⊎ (0 < hits m (map g ms)) → (0 < hits m (map g ms) → (i : ℕ) × (m ≡ g i) × (0 < hits i ms)) → (i : ℕ) × (m ≡ g i) × (0 < hits i (k ∷ ms))
    at (inl e) rest = (k, sym e, hit_here k ms)
    at (inr y) rest = let r = rest y in (r.0, r.1, hit_later r.0 k ms r.2)

-- and stands there as often as before, if nobody else was moved to his place
pub hits_moved : (g : ℕ → ℕ) (i : ℕ) (ms : List ℕ) → ((m : ℕ) → 0 < hits m ms → g m ≡ g i → m ≡ i) → hits (g i) (map g ms) ≡ hits i ms
unfolding hits
hits_moved g i [] h = refl
hits_moved g i (k ∷ ms) h =
    ap₂ (λ (b : Bool) (n : ℕ). cond b 1 0 + n) (at (eqb k i) refl) (hits_moved g i ms (λ m x. h m (hit_later m k ms x)))
  where
    at : (b : Bool) → eqb k i ≡ b → eqb (g k) (g i) ≡ eqb k i
    at true e = eq-eqb (g k) (g i) (ap g (eqb-true k i e)) ∙ sym e
    at false e = ne_eqb (g k) (g i) (λ q. eqb-false k i e (h k (hit_here k ms) q)) ∙ sym e

-- LINKS of a moved record
children_moved : (k p : ℕ) (r : Record) → prop_children k (moved_children k p r) ≡ map (new_prop p) (prop_children k r)
unfolding prop_children
children_moved zero p r = refl
children_moved (suc zero) p r = refl
children_moved (suc (suc k)) p r = rw (lt-ltb 1 (suc (suc k)) (omega arith))

pub prop_links_moved : (p : ℕ) (r : Record) → prop_links (moved_prop p r) ≡ map (new_prop p) (prop_links r)
prop_links_moved p r = children_moved (prop_shape (prop_kind r.kind)).children p r

subterms_moved : (k p t : ℕ) (r : Record) → term_children k (as_term (moved_subterms k p t r)) ≡ map (new_term t) (term_children k (as_term r))
unfolding term_children
subterms_moved zero p t r = refl
subterms_moved (suc zero) p t r = refl
subterms_moved (suc (suc zero)) p t r = refl
subterms_moved (suc (suc (suc k))) p t r =
    rw (lt-ltb 0 (suc (suc (suc k))) (omega arith), lt-ltb 1 (suc (suc (suc k))) (omega arith), lt-ltb 2 (suc (suc (suc k))) (omega arith))

pub term_links_moved : (p t : ℕ) (r : Record) → term_links (as_term (moved_term p t r)) ≡ map (new_term t) (term_links (as_term r))
term_links_moved p t r = subterms_moved (term_shape (kind_of r.kind)).children p t r

type_moved : (p tag m : ℕ) → annotation_links tag (cond (eqb tag 1) (new_prop p m) m) ≡ map (new_prop p) (annotation_links tag m)
unfolding annotation_links
type_moved p tag m = at (eqb tag 1)
  where
    at : (b : Bool) → cond b (cond b (new_prop p m) m ∷ []) [] ≡ map (new_prop p) (cond b (m ∷ []) [])
    at true = refl
    at false = refl

pub annotation_moved : (p t : ℕ) (r : Record) → annotation (as_term (moved_term p t r)) ≡ map (new_prop p) (annotation (as_term r))
annotation_moved p t r = type_moved p r.count r.a

-- FORM of a moved record: only fields move that the kind uses
pub prop_form_moved : (p : ℕ) (r : Record) → prop_form (moved_prop p r) ≡ prop_form r
unfolding prop_form prop_shape
prop_form_moved p r = at (prop_kind r.kind)
  where
    at : (K : PropKind) → in_prop_shape (prop_shape K) (moved_children (prop_shape K).children p r) ≡ in_prop_shape (prop_shape K) r
    at (constant b) = refl
    at (linked h) = refl
    at (quantified q) = refl
    at atomic = refl
    at strange = refl

fits_moved : (used : Bool) (x y : ℕ) → fits used (cond used x y) ≡ fits used y
fits_moved true x y = refl
fits_moved false x y = refl

type_fits : (p tag m : ℕ) → fits (ltb 0 tag) (cond (eqb tag 1) (new_prop p m) m) ≡ fits (ltb 0 tag) m
type_fits p zero m = refl
type_fits p (suc tag) m = rw (lt-ltb 0 (suc tag) (omega arith))

pub term_form_moved : (p t : ℕ) (r : Record) → term_form (as_term (moved_term p t r)) ≡ term_form (as_term r)
unfolding term_form
term_form_moved p t r = at (term_shape (kind_of r.kind))
  where
    at : (s : TermShape) → in_term_shape s (as_term (moved_subterms s.children p t r)) ≡ in_term_shape s (as_term r)
    at s =
        λ i. (leb s.least r.count && (leb r.count s.most && type_fits p r.count r.a i))
        && ((fits (ltb 0 s.names) r.b && fits (ltb 1 s.names) r.c)
        && (fits_moved (ltb 0 s.children) (new_term t (get_or r.parameters 0 0)) (get_or r.parameters 0 0) i
        && (fits_moved (ltb 1 s.children) (new_term t (get_or r.parameters 1 0)) (get_or r.parameters 1 0) i
        && (fits_moved (ltb 2 s.children) (new_term t (get_or r.parameters 2 0)) (get_or r.parameters 2 0) i && eqb (get_or r.parameters 3 0) 0))))
