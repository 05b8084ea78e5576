-- What a table stands for, one record at a time: the children by the same reading, the quantifiers above by the parent's.
-- Assumes nothing.
use Rattle.std.specs.Prelude.{Option as Optional, Some, None}
use mathlib.Core.Path.{◌≡◌, refl, ap, sym, ◌∙◌, subst, subst₂, subst⁻¹}
use mathlib.Core.List.{List, [], ◌∷◌}
use mathlib.Core.Option.{Option, none, some}
use mathlib.Core.Bool.{Bool, true, false, false≢true}
use Prim.Native.Nat.{ℕ, zero, suc, ◌+◌, ◌-◌, ◌<◌, ◌≤◌}
use native.Mathlib.Omega.{arith}
use lib.Dec.{leb}
use borrow.Author.Tests.{leb-true}
use Rattle.numbers.specs.declared.record.Record.{Record}
use Rattle.rules.specs.Prop.{Prop, link, quant, table, Ty, prop, datatype}
use Rattle.rules.specs.Term.{Leaf, Single, Double, Triple, Term, leaf, single, double, triple, sorry, place, Annotation}
use Rattle.table.specs.declared.Purpose.{Purpose}
use Rattle.layout.specs.declared.record.TermRecord.{TermRecord}
use Rattle.layout.specs.declared.form.PropShape.{PropShape}
use Rattle.layout.specs.declared.form.TermShape.{TermShape}
use Rattle.layout.specs.File.{props, terms, prop_record, term_record, PropKind, constant, linked, quantified, atomic, strange, prop_kind, Kind, Ident, Pair, ProjectFst, ProjectSnd, Function, Application, LetIn, OrLeft, OrRight, Case, Abort, TheUnit, TypeAscription, Sorry, Strange, kind_of}
use Rattle.layout.specs.Form.{prop_shape, in_prop_shape, prop_form, term_shape, in_term_shape, term_form}
use Rattle.table.specs.Links.{prop_children, prop_links, term_children, term_links, hits}
use Rattle.table.specs.Reading.{parent, object, above, binders_within, binders, prop_of, prop_within, prop_at, type_of, ascribed, term_of, annotated, term_within, term_at}
use Rattle.table.specs.Nearest.{nearer, nearest_above, nearest_within, nearest}
use Rattle.table.specs.Passing.{Formed, Linked, Directed}
use Rattle.table.proofs.Sums.{hit_here, hit_later}
use Rattle.table.proofs.Links.{directed, child_below, term_child, parent_child, parent_above}

-- PROPOSITIONS. A record's reading asks only for its children's
pub prop_of_same : (l : List ℕ) (n : ℕ) (sub sub' : ℕ → Prop) (K : PropKind) (r : Record) → ((m : ℕ) → 0 < hits m (prop_children (prop_shape K).children r) → sub m ≡ sub' m)
    → prop_of l n sub K r ≡ prop_of l n sub' K r
unfolding prop_of prop_children prop_shape
prop_of_same l n sub sub' (constant b) r e = refl
prop_of_same l n sub sub' (linked h) r e = λ i. link (table n) h (e r.a (hit_here r.a (r.b ∷ [])) i) (e r.b (hit_later r.b r.a (r.b ∷ []) (hit_here r.b [])) i)
prop_of_same l n sub sub' (quantified q) r e = ap (quant (table n) q r.a r.b) (e r.c (hit_here r.c []))
prop_of_same l n sub sub' atomic r e = refl
prop_of_same l n sub sub' strange r e = refl

module _ {l : List ℕ} (d : Directed l) where
  prop_enough : (f g n : ℕ) → n < f → n < g → n < props l → prop_within f l n ≡ prop_within g l n
  unfolding prop_within
  prop_enough zero g n a b k = absurd (omega arith)
  prop_enough (suc f) zero n a b k = absurd (omega arith)
  prop_enough (suc f) (suc g) n a b k =
      prop_of_same l n (prop_within f l) (prop_within g l) (prop_kind (prop_record l n).kind) (prop_record l n)
      (λ m x. let c = child_below d n m k x in prop_enough f g m (omega arith) (omega arith) (omega arith))

  pub prop_step : (n : ℕ) → n < props l → prop_at l n ≡ prop_of l n (prop_at l) (prop_kind (prop_record l n).kind) (prop_record l n)
  unfolding prop_at prop_within
  prop_step n k =
      prop_of_same l n (prop_within n l) (prop_at l) (prop_kind (prop_record l n).kind) (prop_record l n)
      (λ m x. let c = child_below d n m k x in prop_enough n (suc m) m c (omega arith) (omega arith))

-- TERMS
pub term_of_same : (t : ℕ) (A : Option Ty) (sub sub' : ℕ → Term) (K : Kind) (r : TermRecord) → ((m : ℕ) → 0 < hits m (term_children (term_shape K).children r) → sub m ≡ sub' m)
    → term_of t A sub K r ≡ term_of t A sub' K r
unfolding term_of term_children term_shape
term_of_same t A sub sub' K r e = at K e
  where
    c₁ : ℕ
    c₁ = r.child1.0

    c₂ : ℕ
    c₂ = r.child2.0

    c₃ : ℕ
    c₃ = r.child3.0

    one : (f : Term → Term) → ((m : ℕ) → 0 < hits m (c₁ ∷ []) → sub m ≡ sub' m) → f (sub c₁) ≡ f (sub' c₁)
    one f e = ap f (e c₁ (hit_here c₁ []))

    two : (f : Term → Term → Term) → ((m : ℕ) → 0 < hits m (c₁ ∷ c₂ ∷ []) → sub m ≡ sub' m) → f (sub c₁) (sub c₂) ≡ f (sub' c₁) (sub' c₂)
    two f e = λ i. f (e c₁ (hit_here c₁ _) i) (e c₂ (hit_later c₂ c₁ _ (hit_here c₂ [])) i)

    at : (K : Kind) → ((m : ℕ) → 0 < hits m (term_children (term_shape K).children r) → sub m ≡ sub' m) → term_of t A sub K r ≡ term_of t A sub' K r
    at Ident e = refl
    at Pair e = two (double t Double.pair) e
    at ProjectFst e = one (single t Single.fst) e
    at ProjectSnd e = one (single t Single.snd) e
    at Function e = one (single t (Single.fun r.name1.0 A)) e
    at Application e = two (double t Double.app) e
    at LetIn e = two (double t (Double.let_in r.name1.0 r.name2.0)) e
    at OrLeft e = one (single t Single.left) e
    at OrRight e = one (single t Single.right) e
    at Case e =
        λ i. triple t (Triple.case r.name1.0 r.name2.0) (e c₁ (hit_here c₁ _) i) (e c₂ (hit_later c₂ c₁ _ (hit_here c₂ _)) i)
        (e c₃ (hit_later c₃ c₁ _ (hit_later c₃ c₂ _ (hit_here c₃ []))) i)
    at Abort e = one (single t Single.abort) e
    at TheUnit e = refl
    at TypeAscription e = one (ascribed t A) e
    at Sorry e = refl
    at Strange e = refl

module _ {l : List ℕ} (d : Directed l) where
  term_enough : (f g t : ℕ) → terms l ≤ t + f → terms l ≤ t + g → t < terms l → term_within f l t ≡ term_within g l t
  unfolding term_within
  term_enough zero g t a b k = absurd (omega arith)
  term_enough (suc f) zero t a b k = absurd (omega arith)
  term_enough (suc f) (suc g) t a b k =
      term_of_same t (annotated l t) (term_within f l) (term_within g l) (kind_of (term_record l t).kind) (term_record l t)
      (λ m x. let c = term_child d t m k x in term_enough f g m (omega arith) (omega arith) c.1)

  pub term_step : (t : ℕ) → t < terms l → term_at l t ≡ term_of t (annotated l t) (term_at l) (kind_of (term_record l t).kind) (term_record l t)
  unfolding term_at term_within
  term_step t k = term_enough (terms l) (suc (terms l)) t (omega arith) (omega arith) k

-- A TERM'S PLACE is its record's number
place_of : (t : ℕ) (A : Option Ty) (sub : ℕ → Term) (K : Kind) (r : TermRecord) → place (term_of t A sub K r) ≡ t
unfolding place term_of ascribed
place_of t A sub Ident r = refl
place_of t A sub Pair r = refl
place_of t A sub ProjectFst r = refl
place_of t A sub ProjectSnd r = refl
place_of t A sub Function r = refl
place_of t A sub Application r = refl
place_of t A sub LetIn r = refl
place_of t A sub OrLeft r = refl
place_of t A sub OrRight r = refl
place_of t A sub Case r = refl
place_of t A sub Abort r = refl
place_of t A sub TheUnit r = refl
place_of t none sub TypeAscription r = refl
place_of t (some B) sub TypeAscription r = refl
place_of t A sub Sorry r = refl
place_of t A sub Strange r = refl

pub place_at : (l : List ℕ) (t : ℕ) → place (term_at l t) ≡ t
unfolding term_at place term_within
place_at l t = at (terms l)
  where
    at : (f : ℕ) → place (term_within f l t) ≡ t
    at zero = refl
    at (suc f) = place_of t (annotated l t) (term_within f l) (kind_of (term_record l t).kind) (term_record l t)

-- THE SHAPE OF A TERM. Where a record's tag is in its kind's range, the term is a node over its children, with the record's type if it has one, and a gap if the
-- kind is Sorry
unfoldable pub is_gap : Kind → Bool
is_gap Ident = false
is_gap Pair = false
is_gap ProjectFst = false
is_gap ProjectSnd = false
is_gap Function = false
is_gap Application = false
is_gap LetIn = false
is_gap OrLeft = false
is_gap OrRight = false
is_gap Case = false
is_gap Abort = false
is_gap TheUnit = false
is_gap TypeAscription = false
is_gap Sorry = true
is_gap Strange = false

pub data View (t : ℕ) (A : Option Ty) (sub : ℕ → Term) : Bool → List ℕ → Term → Type 0 where
  view_leaf : (k : Leaf) → View t A sub false [] (leaf t k)
  view_single : (k : Single) (a : ℕ) → Annotation (λ T. A ≡ some T) k → View t A sub false (a ∷ []) (single t k (sub a))
  view_double : (k : Double) (a b : ℕ) → View t A sub false (a ∷ b ∷ []) (double t k (sub a) (sub b))
  view_triple : (k : Triple) (a b c : ℕ) → View t A sub false (a ∷ b ∷ c ∷ []) (triple t k (sub a) (sub b) (sub c))
  view_gap : View t A sub true [] (sorry t)

module _ (l : List ℕ) (t : ℕ) (sub : ℕ → Term) (r : TermRecord) where
  view_function : (A : Option Ty) → View t A sub false (r.child1.0 ∷ []) (single t (Single.fun r.name1.0 A) (sub r.child1.0))
  view_function none = view_single (Single.fun r.name1.0 none) r.child1.0 tt
  view_function (some T) = view_single (Single.fun r.name1.0 (some T)) r.child1.0 refl

  view_ascribed : (tag m : ℕ) → 1 ≤ tag → View t (type_of l tag m) sub false (r.child1.0 ∷ []) (ascribed t (type_of l tag m) (sub r.child1.0))
  unfolding type_of ascribed
  view_ascribed zero m h = absurd (omega arith)
  view_ascribed (suc zero) m h = view_single (Single.ascribe (prop (prop_at l m))) r.child1.0 refl
  view_ascribed (suc (suc k)) m h = view_single (Single.ascribe (datatype m)) r.child1.0 refl

  view_of : (K : Kind) (tag m : ℕ) → (term_shape K).least ≤ tag → tag ≤ (term_shape K).most
      → View t (type_of l tag m) sub (is_gap K) (term_children (term_shape K).children r) (term_of t (type_of l tag m) sub K r)
  unfolding term_of term_children term_shape is_gap
  view_of Ident tag m lo hi = view_leaf (Leaf.ident r.name1.0)
  view_of Pair tag m lo hi = view_double Double.pair r.child1.0 r.child2.0
  view_of ProjectFst tag m lo hi = view_single Single.fst r.child1.0 tt
  view_of ProjectSnd tag m lo hi = view_single Single.snd r.child1.0 tt
  view_of Function tag m lo hi = view_function (type_of l tag m)
  view_of Application tag m lo hi = view_double Double.app r.child1.0 r.child2.0
  view_of LetIn tag m lo hi = view_double (Double.let_in r.name1.0 r.name2.0) r.child1.0 r.child2.0
  view_of OrLeft tag m lo hi = view_single Single.left r.child1.0 tt
  view_of OrRight tag m lo hi = view_single Single.right r.child1.0 tt
  view_of Case tag m lo hi = view_triple (Triple.case r.name1.0 r.name2.0) r.child1.0 r.child2.0 r.child3.0
  view_of Abort tag m lo hi = view_single Single.abort r.child1.0 tt
  view_of TheUnit tag m lo hi = view_leaf Leaf.unit
  view_of TypeAscription tag m lo hi = view_ascribed tag m lo
  view_of Sorry tag m lo hi = view_gap
  view_of Strange tag m lo hi = absurd (omega arith)

-- TEST 4's ranges of parameter counts and tags
count_in : (s : PropShape) (r : Record) → in_prop_shape s r ≡ true → (s.least ≤ r.count) × (r.count ≤ s.most)
count_in s r e = at (leb s.least r.count) refl (leb r.count s.most) refl
  where
    at : (a : Bool) → leb s.least r.count ≡ a → (b : Bool) → leb r.count s.most ≡ b → (s.least ≤ r.count) × (r.count ≤ s.most)
    at true x true y = (leb-true s.least r.count x, leb-true r.count s.most y)
    at true x false y = absurd (false≢true (rw (x, y) at e))
    at false x b y = absurd (false≢true (rw x at e))

pub count_range : {l : List ℕ} → Formed l → (n : ℕ) → n < props l
    → ((prop_shape (prop_kind (prop_record l n).kind)).least ≤ (prop_record l n).count) × ((prop_record l n).count ≤ (prop_shape (prop_kind (prop_record l n).kind)).most)
unfolding prop_form
count_range {l} f n k = count_in (prop_shape (prop_kind (prop_record l n).kind)) (prop_record l n) (f.prop n k)

tag_in : (s : TermShape) (r : TermRecord) → in_term_shape s r ≡ true → (s.least ≤ r.tag) × (r.tag ≤ s.most)
tag_in s r e = at (leb s.least r.tag) refl (leb r.tag s.most) refl
  where
    at : (a : Bool) → leb s.least r.tag ≡ a → (b : Bool) → leb r.tag s.most ≡ b → (s.least ≤ r.tag) × (r.tag ≤ s.most)
    at true x true y = (leb-true s.least r.tag x, leb-true r.tag s.most y)
    at true x false y = absurd (false≢true (rw (x, y) at e))
    at false x b y = absurd (false≢true (rw x at e))

pub tag_range : {l : List ℕ} → Formed l → (t : ℕ) → t < terms l
    → ((term_shape (kind_of (term_record l t).kind)).least ≤ (term_record l t).tag) × ((term_record l t).tag ≤ (term_shape (kind_of (term_record l t).kind)).most)
unfolding term_form
tag_range {l} f t k = tag_in (term_shape (kind_of (term_record l t).kind)) (term_record l t) (f.term t k)

pub term_view : {l : List ℕ} → Formed l → Directed l → (t : ℕ) → t < terms l
    → View t (annotated l t) (term_at l) (is_gap (kind_of (term_record l t).kind)) (term_links (term_record l t)) (term_at l t)
term_view {l} f d t k =
    let r = tag_range f t k in
    subst⁻¹ (View t (annotated l t) (term_at l) (is_gap (kind_of (term_record l t).kind)) (term_links (term_record l t))) (term_step d t k)
    (view_of l t (term_at l) (term_record l t) (kind_of (term_record l t).kind) (term_record l t).tag (term_record l t).typ r.0 r.1)

-- UPWARDS. `up` leads from a record to the next above it, and a rank falls on the way. Then as many steps as the rank are enough
module _ {X : Type 0} (up : ℕ → Optional ℕ) (rank : ℕ → ℕ) (falls : (n m : ℕ) → up n ≡ Some m → rank m < rank n)
    (within : ℕ → ℕ → X) (stop : X) (on : ℕ → X → X) (start : (n : ℕ) → within 0 n ≡ stop)
    (root : (f n : ℕ) → up n ≡ None → within (suc f) n ≡ stop) (next : (f n m : ℕ) → up n ≡ Some m → within (suc f) n ≡ on m (within f m)) where
  pub climb_root : (f n : ℕ) → up n ≡ None → within f n ≡ stop
  climb_root zero n e = start n
  climb_root (suc f) n e = root f n e

  lowest : (n : ℕ) → rank n ≤ 0 → up n ≡ None
  lowest n a = at (up n) refl
    where
      at : (u : Optional ℕ) → up n ≡ u → up n ≡ None
      at (Some m) e = absurd (omega (arith, falls n m e))
      at None e = e

  pub climb_enough : (f g n : ℕ) → rank n ≤ f → rank n ≤ g → within f n ≡ within g n
  climb_enough zero g n a b = start n ∙ sym (climb_root g n (lowest n a))
  climb_enough (suc f) zero n a b = root f n (lowest n b) ∙ sym (start n)
  climb_enough (suc f) (suc g) n a b = at (up n) refl (λ m c. climb_enough f g m (omega arith) (omega arith))
    where
      at : (u : Optional ℕ) → up n ≡ u → ((m : ℕ) → rank m < rank n → within f m ≡ within g m) → within (suc f) n ≡ within (suc g) n
      at (Some m) e rest = next f n m e ∙ ap (on m) (rest m (falls n m e)) ∙ sym (next g n m e)
      at None e rest = root f n e ∙ sym (root g n e)

  pub climb_up : (f g n m : ℕ) → rank n ≤ f → rank m ≤ g → up n ≡ Some m → within f n ≡ on m (within g m)
  climb_up f g n m a b e = climb_enough f (suc f) n a (omega arith) ∙ next f n m e ∙ ap (on m) (climb_enough f g m (omega (arith, falls n m e)) b)

module _ {l : List ℕ} (d : Directed l) where
  abbrev kind_at : ℕ → PropKind
  kind_at n = prop_kind (prop_record l n).kind

  rising : (n m : ℕ) → parent l n ≡ Some m → props l - m < props l - n
  rising n m e = let r = parent_above d m n e in omega arith

  -- the objects of the quantifiers above, from the parent's
  binders_up : (n m : ℕ) → parent l m ≡ Some n → binders l m ≡ object (kind_at n) (prop_record l n).a (binders l n)
  unfolding binders binders_within above
  binders_up n m e =
      climb_up (parent l) (λ n. props l - n) rising (λ f n. binders_within f l n) [] (λ n xs. object (kind_at n) (prop_record l n).a xs)
      (λ n. refl) (λ f n e. rw e) (λ f n m e. rw e) (props l) (props l) m n (omega arith) (omega arith) e

  pub binders_root : (n : ℕ) → parent l n ≡ None → binders l n ≡ []
  unfolding binders binders_within above
  binders_root n e =
      climb_root (parent l) (λ n. props l - n) rising (λ f n. binders_within f l n) [] (λ n xs. object (kind_at n) (prop_record l n).a xs)
      (λ n. refl) (λ f n e. rw e) (λ f n m e. rw e) (props l) n e

  pub binders_enough : (f n : ℕ) → props l ≤ f → binders_within f l n ≡ binders l n
  unfolding binders binders_within above
  binders_enough f n a =
      climb_enough (parent l) (λ n. props l - n) rising (λ f n. binders_within f l n) [] (λ n xs. object (kind_at n) (prop_record l n).a xs)
      (λ n. refl) (λ f n e. rw e) (λ f n m e. rw e) f (props l) n (omega arith) (omega arith)

  -- the nearest of them
  nearest_up : (n m : ℕ) → parent l m ≡ Some n → nearest l m ≡ nearer (kind_at n) n (nearest l n)
  unfolding nearest nearest_within nearest_above
  nearest_up n m e =
      climb_up (parent l) (λ n. props l - n) rising (λ f n. nearest_within f l n) None (λ n g. nearer (kind_at n) n g)
      (λ n. refl) (λ f n e. rw e) (λ f n m e. rw e) (props l) (props l) m n (omega arith) (omega arith) e

  pub nearest_root : (n : ℕ) → parent l n ≡ None → nearest l n ≡ None
  unfolding nearest nearest_within nearest_above
  nearest_root n e =
      climb_root (parent l) (λ n. props l - n) rising (λ f n. nearest_within f l n) None (λ n g. nearer (kind_at n) n g)
      (λ n. refl) (λ f n e. rw e) (λ f n m e. rw e) (props l) n e

  -- with them all
  abbrev Nearest : ℕ → Optional ℕ → List ℕ → Type 0
  Nearest n (Some q) xs = (n < q) × (q < props l) × (xs ≡ (prop_record l q).a ∷ binders l q)
  Nearest n None xs = xs ≡ []

  farther : (n m : ℕ) (g : Optional ℕ) (xs : List ℕ) → n < m → Nearest m g xs → Nearest n g xs
  farther n m (Some q) xs k e = (omega arith, e.1, e.2)
  farther n m None xs k e = e

  nearest_join : (K : PropKind) (n m : ℕ) (g : Optional ℕ) → n < m → m < props l → Nearest m g (binders l m) → Nearest n (nearer K m g) (object K (prop_record l m).a (binders l m))
  unfolding nearer object
  nearest_join (constant b) n m g k x e = farther n m g (binders l m) k e
  nearest_join (linked h) n m g k x e = farther n m g (binders l m) k e
  nearest_join (quantified q) n m g k x e = (k, x, refl)
  nearest_join atomic n m g k x e = farther n m g (binders l m) k e
  nearest_join strange n m g k x e = farther n m g (binders l m) k e

  nearest_top : (n : ℕ) → parent l n ≡ None → Nearest n (nearest l n) (binders l n)
  nearest_top n e = subst₂ (Nearest n) (sym (nearest_root n e)) (sym (binders_root n e)) refl

  binders_from : (f n : ℕ) → props l - n ≤ f → Nearest n (nearest l n) (binders l n)
  binders_from zero n a = at (parent l n) refl
    where
      at : (u : Optional ℕ) → parent l n ≡ u → Nearest n (nearest l n) (binders l n)
      at (Some m) e = absurd (omega (arith, rising n m e))
      at None e = nearest_top n e
  binders_from (suc f) n a = at (parent l n) refl (λ m c. binders_from f m (omega arith))
    where
      at : (u : Optional ℕ) → parent l n ≡ u → ((m : ℕ) → props l - m < props l - n → Nearest m (nearest l m) (binders l m)) → Nearest n (nearest l n) (binders l n)
      at (Some m) e rest =
          let r = parent_above d m n e in
          subst₂ (Nearest n) (sym (nearest_up m n e)) (sym (binders_up m n e)) (nearest_join (kind_at m) n m (nearest l m) r.2 r.0 (rest m (rising n m e)))
      at None e rest = nearest_top n e

  pub binders_none : (n : ℕ) → nearest l n ≡ None → binders l n ≡ []
  binders_none n e = subst (λ g. Nearest n g (binders l n)) e (binders_from (props l) n (omega arith))

  pub binders_at : (n q : ℕ) → nearest l n ≡ Some q → (n < q) × (q < props l) × (binders l n ≡ (prop_record l q).a ∷ binders l q)
  binders_at n q e = subst (λ g. Nearest n g (binders l n)) e (binders_from (props l) n (omega arith))

-- from the parent's, where each record has one
module _ {p : Purpose} {l : List ℕ} (h : Linked p l) where
  pub binders_child : (n m : ℕ) → n < props l → 0 < hits m (prop_links (prop_record l n)) → binders l m ≡ object (prop_kind (prop_record l n).kind) (prop_record l n).a (binders l n)
  binders_child n m k x = binders_up (directed h) n m (parent_child h n m k x)

  pub nearest_child : (n m : ℕ) → n < props l → 0 < hits m (prop_links (prop_record l n)) → nearest l m ≡ nearer (prop_kind (prop_record l n).kind) n (nearest l n)
  nearest_child n m k x = nearest_up (directed h) n m (parent_child h n m k x)
