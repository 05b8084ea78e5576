-- The filling's propositions and terms in the edited table: what they stood for, with the records' new numbers.
-- Assumes nothing.
use Rattle.std.specs.Prelude.{Option as Optional, Some, None}
use mathlib.Core.Path.{◌≡◌, refl, ap, sym, subst⁻¹, ◌∙◌}
use mathlib.Core.Bool.{Bool, false, cond}
use mathlib.Core.List.{List, [], map, map-id}
use mathlib.Core.Logic.{◌⊎◌, inl, inr}
use mathlib.Core.Option.{Option, none, some}
use Prim.Native.Nat.{ℕ, zero, suc, ◌+◌, ◌<◌, ◌≤◌}
use native.Mathlib.Omega.{arith}
use lib.ListN.{take}
use lib.Dec.{eqb, ltb}
use borrow.Author.Tests.{le-ltb, ne_eqb}
use Rattle.numbers.specs.declared.record.Record.{Record}
use Rattle.layout.specs.File.{props, terms, prop_record, term_record, as_term, PropKind, constant, linked, quantified, atomic, strange, prop_kind, Kind, Ident, Pair, ProjectFst, ProjectSnd, Function, Application, LetIn, OrLeft, OrRight, Case, Abort, TheUnit, TypeAscription, Sorry, Strange, kind_of}
use Rattle.layout.specs.Form.{prop_shape, term_shape}
use Rattle.rules.specs.Prop.{Prop, link, quant, atom, table, Ty, prop, walk}
use Rattle.rules.specs.Term.{Single, Double, Triple, Term, single, double, triple, plug}
use Rattle.table.specs.Links.{prop_children, prop_links, term_children, annotation_links, hits}
use Rattle.table.specs.Reading.{first, parent, object, above, binders_within, binders, settled, prop_of, prop_at, type_of, ascribed, term_of, annotated, term_at}
use Rattle.table.specs.Passing.{Directed}
use Rattle.table.proofs.Sums.{hit_here, hit_later}
use Rattle.table.proofs.Firsts.{first_at, first_clear}
use Rattle.table.proofs.Links.{directed, child_below, term_child, annotation_in, parent_above, prop_induction, term_induction}
use Rattle.table.proofs.Reading.{prop_step, binders_enough, term_step}
use Rattle.table.proofs.Passing.{good_passed}
use Rattle.editing.specs.Edited.{new_prop, new_term, moved_children, moved_subterms, moved_term, term_bytes, Joined, Edited}
use Rattle.editing.specs.Renumbered.{renumbered_origin, renumbered_type, renumbered_annotation, renumbered, new_place, filling_in, EditedStandsFor}
use Rattle.editing.proofs.Moves.{hits_none, hits_moved, prop_links_moved}
use Rattle.editing.proofs.Joins.{below_or, props_joined, terms_joined}
use Rattle.editing.proofs.Propositions.{never, least_only}
use Rattle.editing.proofs.Edits.{replaces, whole_prop, whole_directed, filled_term}

-- A SEARCH that finds nobody among the first a numbers
abbrev shifted : ℕ → Optional ℕ → Optional ℕ
shifted a (Some i) = Some (a + i)
shifted a None = None

module _ (t u : ℕ → Bool) (a b : ℕ) (early : (i : ℕ) → i < a → u i ≡ false) (same : (i : ℕ) → i < b → u (a + i) ≡ t i) where
  clear : (n : ℕ) → n ≤ b → ((m : ℕ) → m < n → t m ≡ false) → (m : ℕ) → m < a + n → u m ≡ false
  clear n l z m k = at (below_or m a n k)
    where
      at : (m < a) ⊎ ((j : ℕ) × (j < n) × (m ≡ a + j)) → u m ≡ false
      at (inl x) = early m x
      at (inr (j, x, e)) = ap u e ∙ same j (omega arith) ∙ z j x

  first_later : first u (a + b) ≡ shifted a (first t b)
  first_later = at (first u (a + b)) refl (first t b) refl
    where
      at : (g : Optional ℕ) → first u (a + b) ≡ g → (h : Optional ℕ) → first t b ≡ h → first u (a + b) ≡ shifted a (first t b)
      at (Some i) e (Some j) d =
          let x = first_at u (a + b) i e in
          let y = first_at t b j d in
          e ∙ ap Some (least_only u i (a + j) x.1 (same j y.0 ∙ y.1) x.2 (clear j (omega arith) y.2)) ∙ sym (ap (shifted a) d)
      at (Some i) e None d = let x = first_at u (a + b) i e in absurd (never (u i) x.1 (clear b (omega arith) (first_clear t b d) i x.0))
      at None e (Some j) d =
          let y = first_at t b j d in
          absurd (never (u (a + j)) (same j y.0 ∙ y.1) (first_clear u (a + b) e (a + j) (omega arith)))
      at None e None d = e ∙ sym (ap (shifted a) d)

-- PROPOSITIONS. A moved quantifier keeps its object name
object_moved : (p : ℕ) (K : PropKind) (r : Record) (xs : List ℕ) → object K (moved_children (prop_shape K).children p r).a xs ≡ object K r.a xs
unfolding object prop_shape
object_moved p (constant b) r xs = refl
object_moved p (linked h) r xs = refl
object_moved p (quantified q) r xs = refl
object_moved p atomic r xs = refl
object_moved p strange r xs = refl

abbrev moved_at : ℕ → ℕ → Prop → Prop
moved_at p d P = walk (renumbered_origin p) (λ d x. x) d P

-- a moved record, from what its children stand for
prop_of_moved : (p : ℕ) (e f : List ℕ) (j d : ℕ) (K : PropKind) (r : Record) → binders e (p + j) ≡ binders f j
    → ((m : ℕ) → 0 < hits m (prop_children (prop_shape K).children r) → (d : ℕ) → prop_at e (p + m) ≡ moved_at p d (prop_at f m))
    → prop_of e (p + j) (prop_at e) K (moved_children (prop_shape K).children p r) ≡ moved_at p d (prop_of f j (prop_at f) K r)
unfolding prop_of prop_shape prop_children walk
prop_of_moved p e f j d (constant b) r same ih = refl
prop_of_moved p e f j d (linked h) r same ih = λ i. link (table (p + j)) h (ih r.a (hit_here _ _) d i) (ih r.b (hit_later _ _ _ (hit_here _ [])) d i)
prop_of_moved p e f j d (quantified q) r same ih = λ i. quant (table (p + j)) q r.a r.b (ih r.c (hit_here _ []) (suc d) i)
prop_of_moved p e f j d atomic r same ih =
    let xs = take r.count r.parameters in
    ap (λ (ys : List ℕ). atom (table (p + j)) r.a (map (λ x. settled x 0 ys) xs)) same ∙ sym (ap (atom (table (p + j)) r.a) (map-id (map (λ x. settled x 0 (binders f j)) xs)))
prop_of_moved p e f j d strange r same ih = refl

module _ {old f : List ℕ} {q : ℕ} {r : Record} {e : List ℕ} (J : Joined old f q r e) (d : Directed old) (df : Directed f) (de : Directed e) where
  abbrev p : ℕ
  p = props old

  -- no old proposition names one of the filling, and those of the filling name each other as before
  parent_moved : (j : ℕ) → parent e (p + j) ≡ shifted p (parent f j)
  unfolding parent
  parent_moved j =
      ap (first (λ i. ltb 0 (hits (p + j) (prop_links (prop_record e i))))) (props_joined J)
      ∙ first_later (λ i. ltb 0 (hits j (prop_links (prop_record f i)))) (λ i. ltb 0 (hits (p + j) (prop_links (prop_record e i)))) p (props f)
      (λ i k. le-ltb 0 (hits (p + j) (prop_links (prop_record e i))) (omega (arith, none i k)))
      (λ i k. ap (λ (r : Record). ltb 0 (hits (p + j) (prop_links r))) (J.added_prop i k)
      ∙ ap (λ (ms : List ℕ). ltb 0 (hits (p + j) ms)) (prop_links_moved p (prop_record f i))
      ∙ ap (ltb 0) (hits_moved (new_prop p) j (prop_links (prop_record f i)) (λ m x s. omega arith)))
    where
      none : (i : ℕ) → i < p → hits (p + j) (prop_links (prop_record e i)) ≡ 0
      none i k = ap (λ (r : Record). hits (p + j) (prop_links r)) (J.old_prop i k) ∙ hits_none (p + j) _ (λ x. omega (arith, child_below d i (p + j) k x))

  within_moved : (c j : ℕ) → j < props f → binders_within c e (p + j) ≡ binders_within c f j
  unfolding binders_within above
  within_moved zero j k = refl
  within_moved (suc c) j k = ap (λ (g : Optional ℕ). above e g (binders_within c e)) (parent_moved j) ∙ at (parent f j) refl (within_moved c)
    where
      at : (g : Optional ℕ) → parent f j ≡ g → ((m : ℕ) → m < props f → binders_within c e (p + m) ≡ binders_within c f m) → above e (shifted p g) (binders_within c e) ≡ above f g (binders_within c f)
      at None z rest = refl
      at (Some m) z rest =
          let x : m < props f = (parent_above df m j z).0 in
          (λ i. object (prop_kind (J.added_prop m x i).kind) (J.added_prop m x i).a (rest m x i))
          ∙ object_moved p (prop_kind (prop_record f m).kind) (prop_record f m) (binders_within c f m)

  binders_moved : (j : ℕ) → j < props f → binders e (p + j) ≡ binders f j
  unfolding binders
  binders_moved j k = within_moved (props e) j k ∙ binders_enough df (props e) j (omega (arith, props_joined J))

  prop_moved : (j : ℕ) → j < props f → (d : ℕ) → prop_at e (p + j) ≡ moved_at p d (prop_at f j)
  prop_moved = prop_induction df (λ j. (d : ℕ) → prop_at e (p + j) ≡ moved_at p d (prop_at f j)) λ j k ih d.
      let K = prop_kind (prop_record f j).kind in
      prop_step de (p + j) (omega (arith, props_joined J))
      ∙ (λ i. prop_of e (p + j) (prop_at e) (prop_kind (J.added_prop j k i).kind) (J.added_prop j k i))
      ∙ prop_of_moved p e f j d K (prop_record f j) (binders_moved j k) ih
      ∙ ap (moved_at p d) (sym (prop_step df j k))

  -- ANNOTATIONS
  type_moved : (tag m : ℕ) → (tag ≡ 1 → m < props f) → type_of e tag (cond (eqb tag 1) (p + m) m) ≡ renumbered_annotation p (type_of f tag m)
  unfolding type_of
  type_moved zero m h = refl
  type_moved (suc zero) m h = ap (λ (P : Prop). some (prop P)) (prop_moved m (h refl) 0)
  type_moved (suc (suc k)) m h = rw (ne_eqb (suc (suc k)) 1 (λ z. omega arith))

-- TERMS: a moved record, from what its children stand for
module _ (p t : ℕ) (g : ℕ → ℕ) (i : ℕ) (sub sub' : ℕ → Term) where
  ascribed_moved : (A : Option Ty) (a a' : Term) → a' ≡ renumbered p g a → ascribed (g i) (renumbered_annotation p A) a' ≡ renumbered p g (ascribed i A a)
  unfolding ascribed renumbered
  ascribed_moved none a a' h = refl
  ascribed_moved (some T) a a' h = ap (single (g i) (Single.ascribe (renumbered_type p T))) h

  term_of_moved : (A : Option Ty) (K : Kind) (r : Record)
      → ((c : ℕ) → 0 < hits c (term_children (term_shape K).children (as_term r)) → sub' (new_term t c) ≡ renumbered p g (sub c))
      → term_of (g i) (renumbered_annotation p A) sub' K (as_term (moved_subterms (term_shape K).children p t r)) ≡ renumbered p g (term_of i A sub K (as_term r))
  unfolding term_of term_shape term_children renumbered
  term_of_moved A Ident r ih = refl
  term_of_moved A Pair r ih = λ j. double (g i) Double.pair (ih _ (hit_here _ _) j) (ih _ (hit_later _ _ _ (hit_here _ [])) j)
  term_of_moved A ProjectFst r ih = ap (single (g i) Single.fst) (ih _ (hit_here _ []))
  term_of_moved A ProjectSnd r ih = ap (single (g i) Single.snd) (ih _ (hit_here _ []))
  term_of_moved A Function r ih = ap (single (g i) (Single.fun r.b (renumbered_annotation p A))) (ih _ (hit_here _ []))
  term_of_moved A Application r ih = λ j. double (g i) Double.app (ih _ (hit_here _ _) j) (ih _ (hit_later _ _ _ (hit_here _ [])) j)
  term_of_moved A LetIn r ih = λ j. double (g i) (Double.let_in r.b r.c) (ih _ (hit_here _ _) j) (ih _ (hit_later _ _ _ (hit_here _ [])) j)
  term_of_moved A OrLeft r ih = ap (single (g i) Single.left) (ih _ (hit_here _ []))
  term_of_moved A OrRight r ih = ap (single (g i) Single.right) (ih _ (hit_here _ []))
  term_of_moved A Case r ih =
      λ j. triple (g i) (Triple.case r.b r.c) (ih _ (hit_here _ _) j) (ih _ (hit_later _ _ _ (hit_here _ _)) j) (ih _ (hit_later _ _ _ (hit_later _ _ _ (hit_here _ []))) j)
  term_of_moved A Abort r ih = ap (single (g i) Single.abort) (ih _ (hit_here _ []))
  term_of_moved A TheUnit r ih = refl
  term_of_moved A TypeAscription r ih = ascribed_moved A _ _ (ih _ (hit_here _ []))
  term_of_moved A Sorry r ih = refl
  term_of_moved A Strange r ih = refl

module _ {old f : List ℕ} {q : ℕ} {e : List ℕ} (E : Edited old f q e) (d : Directed old) (df : Directed f) (de : Directed e) (k : q < terms old) where
  abbrev there : ℕ → ℕ
  there = new_place (terms old) q

  later : (i : ℕ) → 0 < i → there i ≡ new_term (terms old) i
  later i x = rw (ne_eqb i 0 (λ z. omega arith))

  record_there : (i : ℕ) → i < terms f → term_bytes e (there i) ≡ moved_term (props old) (terms old) (term_bytes f i)
  record_there zero x = E.here
  record_there (suc i) x = ap (term_bytes e) (later (suc i) (omega arith)) ∙ E.added_term (suc i) (omega arith) x

  inside : (i : ℕ) → i < terms f → there i < terms e
  inside zero x = omega (arith, terms_joined E)
  inside (suc i) x = omega (arith, terms_joined E, later (suc i) (omega arith))

  annotated_there : (i : ℕ) → i < terms f → annotated e (there i) ≡ renumbered_annotation (props old) (annotated f i)
  unfolding annotation_links
  annotated_there i x =
      ap (λ (r : Record). type_of e r.count r.a) (record_there i x)
      ∙ type_moved E d df de (term_record f i).tag (term_record f i).typ λ s.
      let m = (term_record f i).typ in
      annotation_in df i m x (subst⁻¹ (λ tag. 0 < hits m (annotation_links tag m)) s (hit_here m []))

  term_there : (i : ℕ) → i < terms f → term_at e (there i) ≡ renumbered (props old) there (term_at f i)
  term_there = term_induction df (λ i. term_at e (there i) ≡ renumbered (props old) there (term_at f i)) λ i x ih.
      let K = kind_of (term_record f i).kind in
      term_step de (there i) (inside i x)
      ∙ (λ j. term_of (there i) (annotated_there i x j) (term_at e) (kind_of (record_there i x j).kind) (as_term (record_there i x j)))
      ∙ term_of_moved (props old) (terms old) there i (term_at f) (term_at e) (annotated f i) K (term_bytes f i)
      (λ c y. ap (term_at e) (sym (later c (omega (arith, (term_child df i c x y).0)))) ∙ ih c y)
      ∙ ap (renumbered (props old) there) (sym (term_step df i x))

-- THE EDITED TABLE
pub edited_stands_for : EditedStandsFor
edited_stands_for old f q e h E =
    let o = good_passed h.old_good in
    let g = good_passed h.good in
    let d = directed o.linked in
    let df = directed g.linked in
    let de = whole_directed h E (replaces h) in
    let hole : term_at e q ≡ filling_in old f q = term_there E d df de h.inside 0 g.counted.some in
    record {
      root = filled_term h E 0 o.counted.some ∙ ap (λ (u : Term). plug q u (term_at old 0)) hole;
      hole = hole;
      old_prop = whole_prop h E;
      added_prop = λ j x. prop_moved E d df de j x 0;
    }
