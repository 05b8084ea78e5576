-- The terms of a table joined with a filling: an old term stands for what it stood for, with what now stands at the Sorry record q in that Sorry's place.
-- Assumes nothing.
use mathlib.Core.Path.{◌≡◌, refl, ap, sym, subst⁻¹, ◌∙◌}
use mathlib.Core.Bool.{Bool, true, false, cond}
use mathlib.Core.List.{List, []}
use mathlib.Core.Logic.{◌⊎◌, inl, inr}
use mathlib.Core.Option.{Option, none, some}
use Prim.Native.Nat.{ℕ, zero, suc, ◌<◌}
use native.Mathlib.Omega.{arith}
use lib.Dec.{eqb}
use borrow.Author.Tests.{eqb-true, eq-eqb, ne_eqb}
use Rattle.numbers.specs.declared.record.Record.{Record}
use Rattle.layout.specs.declared.record.TermRecord.{TermRecord}
use Rattle.layout.specs.File.{terms, term_record, as_term, Kind, Ident, Pair, ProjectFst, ProjectSnd, Function, Application, LetIn, OrLeft, OrRight, Case, Abort, TheUnit, TypeAscription, Sorry, Strange, kind_of}
use Rattle.rules.specs.Prop.{Prop, Ty, prop}
use Rattle.rules.specs.Term.{Term, leaf, single, double, triple, sorry, plug}
use Rattle.table.specs.Links.{term_links, annotation_links, hits}
use Rattle.table.specs.Reading.{prop_at, type_of, ascribed, term_of, annotated, term_at}
use Rattle.table.specs.Passing.{Directed}
use Rattle.table.proofs.Sums.{hit_here}
use Rattle.table.proofs.Links.{annotation_in, term_induction}
use Rattle.table.proofs.Reading.{term_of_same, term_step}
use Rattle.editing.specs.Edited.{Joined}
use Rattle.editing.proofs.Joins.{same_or, terms_joined}
use Rattle.editing.proofs.Propositions.{prop_same}

-- PLUGGING into a record's reading, which is no Sorry record q, is plugging into its children
module _ (q : ℕ) (u : Term) (t : ℕ) (other : t ≡ q → ⊥) where
  plug_other : plug q u (sorry t) ≡ sorry t
  unfolding plug
  plug_other = rw (ne_eqb t q other)

  plug_of : (A : Option Ty) (sub : ℕ → Term) (K : Kind) (r : TermRecord) → plug q u (term_of t A sub K r) ≡ term_of t A (λ c. plug q u (sub c)) K r
  unfolding plug term_of ascribed
  plug_of A sub Ident r = refl
  plug_of A sub Pair r = refl
  plug_of A sub ProjectFst r = refl
  plug_of A sub ProjectSnd r = refl
  plug_of A sub Function r = refl
  plug_of A sub Application r = refl
  plug_of A sub LetIn r = refl
  plug_of A sub OrLeft r = refl
  plug_of A sub OrRight r = refl
  plug_of A sub Case r = refl
  plug_of A sub Abort r = refl
  plug_of A sub TheUnit r = refl
  plug_of none sub TypeAscription r = plug_other
  plug_of (some B) sub TypeAscription r = refl
  plug_of A sub Sorry r = plug_other
  plug_of A sub Strange r = plug_other

plug_here : (q : ℕ) (u : Term) → plug q u (sorry q) ≡ u
unfolding plug
plug_here q u = rw (eq-eqb q q refl)

-- a Sorry in its own place changes nothing
plug_self : (q : ℕ) (t : Term) → plug q (sorry q) t ≡ t
unfolding plug
plug_self q (leaf p k) = refl
plug_self q (single p k a) = ap (single p k) (plug_self q a)
plug_self q (double p k a b) = λ i. double p k (plug_self q a i) (plug_self q b i)
plug_self q (triple p k a b c) = λ i. triple p k (plug_self q a i) (plug_self q b i) (plug_self q c i)
plug_self q (sorry p) = at (eqb p q) refl
  where
    at : (x : Bool) → eqb p q ≡ x → cond x (sorry q) (sorry p) ≡ sorry p
    at true e = ap sorry (sym (eqb-true p q e))
    at false e = refl

-- A SORRY RECORD is a Sorry
pub sorry_at : {l : List ℕ} → Directed l → (t : ℕ) → t < terms l → kind_of (term_record l t).kind ≡ Sorry → term_at l t ≡ sorry t
unfolding term_of
sorry_at {l} d t k e = term_step d t k ∙ ap (λ (K : Kind). term_of t (annotated l t) (term_at l) K (term_record l t)) e

-- an annotation asks for propositions under tag 1 only
type_same : (l l' : List ℕ) (tag m : ℕ) → (tag ≡ 1 → prop_at l m ≡ prop_at l' m) → type_of l tag m ≡ type_of l' tag m
unfolding type_of
type_same l l' zero m h = refl
type_same l l' (suc zero) m h = ap (λ (P : Prop). some (prop P)) (h refl)
type_same l l' (suc (suc k)) m h = refl

module _ {old f : List ℕ} {q : ℕ} {r : Record} {e : List ℕ} (J : Joined old f q r e) (d : Directed old) (de : Directed e) (k : q < terms old) (pos : 0 < terms f)
    (gap : kind_of (term_record old q).kind ≡ Sorry) where
  more : (t : ℕ) → t < terms old → t < terms e
  more t x = omega (arith, terms_joined J)

  annotated_same : (t : ℕ) → t < terms old → (t ≡ q → ⊥) → annotated e t ≡ annotated old t
  unfolding annotation_links
  annotated_same t x z =
      ap (λ (r : Record). type_of e r.count r.a) (J.old_term t x z)
      ∙ type_same e old (term_record old t).tag (term_record old t).typ λ s.
      let m = (term_record old t).typ in
      prop_same J d m (annotation_in d t m x (subst⁻¹ (λ tag. 0 < hits m (annotation_links tag m)) s (hit_here m [])))

  pub term_plugged : (t : ℕ) → t < terms old → term_at e t ≡ plug q (term_at e q) (term_at old t)
  term_plugged = term_induction d (λ t. term_at e t ≡ plug q u (term_at old t)) λ t x ih. at t x ih (same_or t q)
    where
      u : Term
      u = term_at e q

      at : (t : ℕ) → t < terms old → ((c : ℕ) → 0 < hits c (term_links (term_record old t)) → term_at e c ≡ plug q u (term_at old c)) → (t ≡ q) ⊎ (t ≡ q → ⊥) → term_at e t ≡ plug q u (term_at old t)
      at t x ih (inl z) = subst⁻¹ (λ t. term_at e t ≡ plug q u (term_at old t)) z (sym (ap (plug q u) (sorry_at d q k gap) ∙ plug_here q u))
      at t x ih (inr z) =
          let K = kind_of (term_record old t).kind in
          term_step de t (more t x)
          ∙ (λ i. term_of t (annotated_same t x z i) (term_at e) (kind_of (J.old_term t x z i).kind) (as_term (J.old_term t x z i)))
          ∙ term_of_same t (annotated old t) (term_at e) (λ c. plug q u (term_at old c)) K (term_record old t) ih
          ∙ sym (plug_of q u t z (annotated old t) (term_at old) K (term_record old t))
          ∙ ap (plug q u) (sym (term_step d t x))

  -- with a Sorry record at q nothing has changed
  pub term_same : kind_of (as_term r).kind ≡ Sorry → (t : ℕ) → t < terms old → term_at e t ≡ term_at old t
  term_same s t x =
      term_plugged t x
      ∙ ap (λ (u : Term). plug q u (term_at old t)) (sorry_at de q (more q k) (ap (λ (r : Record). kind_of r.kind) J.here ∙ s))
      ∙ plug_self q (term_at old t)
