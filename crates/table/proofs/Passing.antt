-- What a table that passes the tests gives the rules: propositions whose bound parameters have their quantifiers, and no serials; so a run on it may start, and is sound.
-- Assumes nothing.
use Rattle.std.specs.Prelude.{Option as Optional, Some, None, Result, ⊤, Ok}
use mathlib.Core.Path.{◌≡◌, refl, subst}
use mathlib.Core.Bool.{Bool, true, false, not, cond}
use mathlib.Core.Option.{Option, none, some}
use mathlib.Core.List.{List, [], ◌∷◌, map}
use Prim.Native.Nat.{ℕ, zero, suc, ◌+◌, ◌<◌, ◌≤◌, max}
use native.Mathlib.Omega.{arith}
use lib.ListN.{length, take}
use lib.Dec.{T, eqb, lt→ltb}
use borrow.Author.Tests.{ltb-false, not-false}
use Rattle.numbers.specs.Limits.{most_height, most_depth}
use Rattle.numbers.specs.declared.refusal.Refusal.{Refusal}
use Rattle.numbers.specs.declared.record.Record.{Record}
use Rattle.rules.specs.Prop.{bound, Prop, Ty, prop, datatype, each_param, each, older, older_ty, closed}
use Rattle.rules.specs.Term.{Single, Term, leaf, single, double, triple, sorry, Annotation, Annotations}
use Rattle.rules.specs.Meaning.{Structure, Env, Holds, Proper, within, scoped, scoped_ctx}
use Rattle.rules.specs.Context.{older_ctx}
use Rattle.rules.specs.State.{St, start}
use Rattle.rules.specs.Tree.{goals}
use Rattle.rules.specs.Step.{check, ok, Answer}
use Rattle.rules.specs.Rules.{run}
use Rattle.rules.proofs.Sound.{scripts_hold}
use Rattle.rules.proofs.Older.{both}
use Rattle.table.specs.declared.Purpose.{Purpose}
use Rattle.table.specs.declared.Purpose.TheVariants.{Check}
use Rattle.layout.specs.File.{props, terms, expected, prop_record, term_record, PropKind, constant, linked as linking, quantified, atomic, strange, prop_kind}
use Rattle.layout.specs.Form.{prop_shape, prop_form, term_form}
use Rattle.table.specs.Links.{prop_children, prop_links, term_links, annotation_links, annotation, hits, expected_ok, badly_linked_prop, badly_linked_term}
use Rattle.table.specs.Reading.{first, parent, object, binders, settled, prop_of, prop_within, type_of, annotated, prop_at, term_at}
use Rattle.table.specs.Size.{height, too_high, depth, too_deep}
use Rattle.table.specs.Tests.{header, counts, formless, badly_linked, oversized, open_goal, unless, accused, from_goal, from_sizes, from_links, from_expected, from_forms, from_counts, tests}
use Rattle.table.specs.Passing.{Counted, Formed, Linked, Sized, Good}
use Rattle.table.proofs.Firsts.{first_clear, or_nobody}
use Rattle.table.proofs.Sums.{hit_here, hit_later}
use Rattle.table.proofs.Links.{directed, prop_induction, term_induction, parent_annotation, annotation_in, expected_in, parent_goal}
use Rattle.table.proofs.Reading.{prop_step, binders_child, binders_root, View, view_leaf, view_single, view_double, view_triple, view_gap, term_view}
use Rattle.table.proofs.Sizes.{depth_root, depth_child}
use Rattle.table.proofs.Headers.{header_length, counted}

-- A TEST that finds nobody
pub formed : (l : List ℕ) → formless l ≡ None → Formed l
unfolding formless
formed l e =
    let r = or_nobody (first (λ n. not (prop_form (prop_record l n))) (props l)) (first (λ t. not (term_form (term_record l t))) (terms l)) (props l) e in
    record {
      prop = λ n k. not-false (prop_form (prop_record l n)) (first_clear (λ n. not (prop_form (prop_record l n))) (props l) r.0 n k);
      term = λ t k. not-false (term_form (term_record l t)) (first_clear (λ t. not (term_form (term_record l t))) (terms l) r.1 t k);
    }

pub linked : (p : Purpose) (l : List ℕ) → expected_ok p l ≡ true → badly_linked p l ≡ None → Linked p l
unfolding badly_linked
linked p l g e =
    let r = or_nobody (first (badly_linked_prop p l) (props l)) (first (badly_linked_term l) (terms l)) (props l) e in
    record { goal = g; prop = first_clear (badly_linked_prop p l) (props l) r.0; term = first_clear (badly_linked_term l) (terms l) r.1 }

pub sized : (l : List ℕ) → oversized l ≡ None → Sized l
unfolding oversized too_high too_deep
sized l e =
    let r = or_nobody (first (too_high l) (props l)) (first (too_deep l) (terms l)) (props l) e in
    record {
      prop = λ n k. ltb-false most_height (height (prop_at l n)) (first_clear (too_high l) (props l) r.0 n k);
      term = λ t k. ltb-false most_depth (depth l t) (first_clear (too_deep l) (terms l) r.1 t k);
    }

-- THE CHAIN in one line
pub in_order : (p : Purpose) (l : List ℕ)
    → tests p l ≡ unless (header l) 2 (unless (counts l) 3 (accused 4 (formless l) (unless (expected_ok p l) 5 (accused 5 (badly_linked p l) (accused 6 (oversized l) (accused 7 (open_goal p l) (Ok tt)))))))
unfolding tests from_counts from_forms from_expected from_links from_sizes from_goal
in_order p l = refl

-- what the code of the tests leans on
pub ruleset in_turn = (in_order, header_length, counted, formed, linked)

-- ALL TESTS
pub record Passed (p : Purpose) (l : List ℕ) : Type 0 where
  pub marked : header l ≡ true
  pub counted : Counted l
  pub formed : Formed l
  pub linked : Linked p l
  pub sized : Sized l
  pub shut : open_goal p l ≡ None

unless_passes : (ok : Bool) (k : ℕ) (rest : Result ⊤ Refusal) → unless ok k rest ≡ Ok tt → (ok ≡ true) × (rest ≡ Ok tt)
unfolding unless
unless_passes true k rest e = (refl, e)
unless_passes false k rest e = absurd (let z : ◌≡◌ {A = ℕ} 0 1 = cc in omega arith)

accused_passes : (k : ℕ) (g : Optional ℕ) (rest : Result ⊤ Refusal) → accused k g rest ≡ Ok tt → (g ≡ None) × (rest ≡ Ok tt)
unfolding accused
accused_passes k (Some i) rest e = absurd (let z : ◌≡◌ {A = ℕ} 0 1 = cc in omega arith)
accused_passes k None rest e = (refl, e)

pub good_passed : {p : Purpose} {l : List ℕ} → Good p l → Passed p l
unfolding tests from_counts from_forms from_expected from_links from_sizes from_goal
good_passed {p} {l} e =
    let a = unless_passes (header l) 2 _ e in
    let b = unless_passes (counts l) 3 _ a.1 in
    let c = accused_passes 4 (formless l) _ b.1 in
    let d = unless_passes (expected_ok p l) 5 _ c.1 in
    let f = accused_passes 5 (badly_linked p l) _ d.1 in
    let g = accused_passes 6 (oversized l) _ f.1 in
    let h = accused_passes 7 (open_goal p l) _ g.1 in
    record { marked = a.0; counted = counted l b.0; formed = formed l c.0; linked = linked p l d.0 f.0; sized = sized l g.0; shut = h.0 }

pub good_closed : (l : List ℕ) → Good Check l → closed (prop_at l (expected l)) ≡ true
unfolding open_goal
good_closed l e = at (closed (prop_at l (expected l))) (good_passed e).shut
  where
    at : (b : Bool) → cond b None (Some (expected l)) ≡ None → b ≡ true
    at true e = refl
    at false e = absurd (let z : ◌≡◌ {A = ℕ} 0 1 = cc in omega arith)

-- NO SERIALS in what is read, whatever the bytes
settled_old : (x k : ℕ) (ys : List ℕ) → T (older 0 (settled x k ys))
unfolding settled older
settled_old x k [] = tt
settled_old x k (y ∷ ys) = at (eqb x y) (settled_old x (suc k) ys)
  where
    at : (b : Bool) → T (older 0 (settled x (suc k) ys)) → T (older 0 (cond b (bound k) (settled x (suc k) ys)))
    at true h = tt
    at false h = h

params_old : (ys xs : List ℕ) → T (each_param (older 0) (map (λ x. settled x 0 ys) xs))
unfolding each_param
params_old ys [] = tt
params_old ys (x ∷ xs) = both (older 0 (settled x 0 ys)) _ (settled_old x 0 ys) (params_old ys xs)

prop_of_old : (l : List ℕ) (n : ℕ) (sub : ℕ → Prop) (K : PropKind) (r : Record) (d : ℕ) → ((m d : ℕ) → T (each (λ d. older 0) d (sub m))) → T (each (λ d. older 0) d (prop_of l n sub K r))
unfolding prop_of each
prop_of_old l n sub (constant b) r d h = tt
prop_of_old l n sub (linking k) r d h = both (each (λ d. older 0) d (sub r.a)) _ (h r.a d) (h r.b d)
prop_of_old l n sub (quantified q) r d h = h r.c (suc d)
prop_of_old l n sub atomic r d h = params_old (binders l n) (take r.count r.parameters)
prop_of_old l n sub strange r d h = tt

within_old : (f : ℕ) (l : List ℕ) (n d : ℕ) → T (each (λ d. older 0) d (prop_within f l n))
unfolding prop_within each
within_old zero l n d = tt
within_old (suc f) l n d = prop_of_old l n (prop_within f l) (prop_kind (prop_record l n).kind) (prop_record l n) d (λ m d. within_old f l m d)

pub prop_old : (l : List ℕ) (n : ℕ) → T (older_ty 0 (prop (prop_at l n)))
unfolding older_ty prop_at
prop_old l n = within_old (suc n) l n 0

-- EVERY BOUND PARAMETER HAS ITS QUANTIFIER, among those above
settled_within : (x k d : ℕ) (ys : List ℕ) → k + length ys ≤ d → T (within d (settled x k ys))
unfolding settled within
settled_within x k d [] h = tt
settled_within x k d (y ∷ ys) h = at (eqb x y) (settled_within x (suc k) d ys (omega arith))
  where
    at : (b : Bool) → T (within d (settled x (suc k) ys)) → T (within d (cond b (bound k) (settled x (suc k) ys)))
    at true e = lt→ltb k d (omega arith)
    at false e = e

params_within : (ys xs : List ℕ) → T (each_param (within (length ys)) (map (λ x. settled x 0 ys) xs))
unfolding each_param
params_within ys [] = tt
params_within ys (x ∷ xs) = both (within (length ys) (settled x 0 ys)) _ (settled_within x 0 (length ys) ys (omega arith)) (params_within ys xs)

prop_of_within : (l : List ℕ) (n : ℕ) (sub : ℕ → Prop) (K : PropKind) (r : Record)
    → ((m : ℕ) → 0 < hits m (prop_children (prop_shape K).children r) → T (each within (length (object K r.a (binders l n))) (sub m)))
    → T (each within (length (binders l n)) (prop_of l n sub K r))
unfolding prop_of prop_children prop_shape object each
prop_of_within l n sub (constant b) r h = tt
prop_of_within l n sub (linking k) r h =
    both (each within (length (binders l n)) (sub r.a)) _ (h r.a (hit_here r.a (r.b ∷ []))) (h r.b (hit_later r.b r.a (r.b ∷ []) (hit_here r.b [])))
prop_of_within l n sub (quantified q) r h = h r.c (hit_here r.c [])
prop_of_within l n sub atomic r h = params_within (binders l n) (take r.count r.parameters)
prop_of_within l n sub strange r h = tt

module _ {p : Purpose} {l : List ℕ} (h : Linked p l) where
  pub prop_within_binders : (n : ℕ) → n < props l → T (each within (length (binders l n)) (prop_at l n))
  prop_within_binders = prop_induction (directed h) (λ n. T (each within (length (binders l n)) (prop_at l n))) step
    where
      step : (n : ℕ) → n < props l → ((m : ℕ) → 0 < hits m (prop_links (prop_record l n)) → T (each within (length (binders l m)) (prop_at l m)))
          → T (each within (length (binders l n)) (prop_at l n))
      step n k ih =
          rw (prop_step (directed h) n k)
          (prop_of_within l n (prop_at l) (prop_kind (prop_record l n).kind) (prop_record l n) (λ m x. subst (λ ys. T (each within (length ys) (prop_at l m))) (binders_child h n m k x) (ih m x)))

  pub prop_scoped : (n : ℕ) → n < props l → parent l n ≡ None → T (scoped (prop (prop_at l n)))
  unfolding scoped
  prop_scoped n k e = subst (λ ys. T (each within (length ys) (prop_at l n))) (binders_root (directed h) n e) (prop_within_binders n k)

-- and so in every annotation
type_scoped : (l : List ℕ) (tag m : ℕ) (A : Ty) → type_of l tag m ≡ some A → (tag ≡ 1 → T (scoped (prop (prop_at l m)))) → T (scoped A)
unfolding type_of scoped
type_scoped l zero m A e s = absurd (let z : ◌≡◌ {A = ℕ} 0 1 = cc in omega arith)
type_scoped l (suc zero) m A e s = let q : prop (prop_at l m) ≡ A = cc in subst (λ A. T (scoped A)) q (s refl)
type_scoped l (suc (suc k)) m A e s = let q : datatype m ≡ A = cc in subst (λ A. T (scoped A)) q tt

module _ {A : Option Ty} (F : Ty → Type 0) (so : (S : Ty) → A ≡ some S → F S) where
  annotation_so : (k : Single) → Annotation (λ S. A ≡ some S) k → Annotation F k
  annotation_so Single.fst e = tt
  annotation_so Single.snd e = tt
  annotation_so Single.left e = tt
  annotation_so Single.right e = tt
  annotation_so Single.abort e = tt
  annotation_so (Single.fun x none) e = tt
  annotation_so (Single.fun x (some S)) e = so S e
  annotation_so (Single.ascribe S) e = so S e

  annotations_view : {t : ℕ} {sub : ℕ → Term} {g : Bool} {cs : List ℕ} {u : Term} → View t A sub g cs u → ((c : ℕ) → 0 < hits c cs → Annotations F (sub c)) → Annotations F u
  annotations_view (view_leaf k) h = tt
  annotations_view (view_single k a e) h = (annotation_so k e, h a (hit_here a []))
  annotations_view (view_double k a b) h = (h a (hit_here a (b ∷ [])), h b (hit_later b a (b ∷ []) (hit_here b [])))
  annotations_view (view_triple k a b c) h =
      (h a (hit_here a (b ∷ c ∷ [])), h b (hit_later b a (b ∷ c ∷ []) (hit_here b (c ∷ []))), h c (hit_later c a (b ∷ c ∷ []) (hit_later c b (c ∷ []) (hit_here c []))))
  annotations_view view_gap h = tt

module _ {p : Purpose} {l : List ℕ} (f : Formed l) (h : Linked p l) where
  annotated_scoped : (t : ℕ) → t < terms l → (S : Ty) → annotated l t ≡ some S → T (scoped S)
  unfolding annotation_links
  annotated_scoped t k S e =
      type_scoped l (term_record l t).tag (term_record l t).typ S e λ q.
      let x : 0 < hits (term_record l t).typ (annotation (term_record l t)) = rw q (hit_here (term_record l t).typ []) in
      prop_scoped h (term_record l t).typ (annotation_in (directed h) t (term_record l t).typ k x) (parent_annotation h t (term_record l t).typ k x)

  pub annotations_scoped : (t : ℕ) → t < terms l → Annotations (λ A. T (scoped A)) (term_at l t)
  annotations_scoped =
      term_induction (directed h) (λ t. Annotations (λ A. T (scoped A)) (term_at l t)) λ t k ih.
      annotations_view (λ A. T (scoped A)) (annotated_scoped t k) (term_view f (directed h) t k) ih

-- A RUN on a table to check may start, and what it proves without goals holds
pub table_proper : (l : List ℕ) → Good Check l → Proper (term_at l 0) (check (prop (prop_at l (expected l)))) [] start
unfolding older_ctx scoped_ctx
table_proper l e =
    let r = good_passed e in
    record {
      made = prop_old l (expected l);
      made_ctx = tt;
      bound = prop_scoped r.linked (expected l) (expected_in r.linked) (parent_goal r.linked);
      bound_ctx = tt;
      bound_annotations = annotations_scoped r.formed r.linked 0 r.counted.some;
    }

pub table_sound : (l : List ℕ) → Good Check l → (M : Structure) (a : Answer) (st : St) → run (term_at l 0) (check (prop (prop_at l (expected l)))) [] start ≡ ok a st
    → goals a.tree ≡ [] → (ρ : Env M) → Holds M ρ [] (prop_at l (expected l))
table_sound l e M a st runs shut ρ =
    let r = table_proper l e in
    scripts_hold M (term_at l 0) (prop_at l (expected l)) a st r.made r.bound r.bound_annotations runs shut ρ

-- THE HEIGHT of a term: the depth of its deepest node
unfoldable pub deep : Term → ℕ
deep (leaf p k) = 1
deep (single p k a) = suc (deep a)
deep (double p k a b) = suc (max (deep a) (deep b))
deep (triple p k a b c) = suc (max (deep a) (max (deep b) (deep c)))
deep (sorry p) = 1

deep_view : (n d : ℕ) {t : ℕ} {A : Option Ty} {sub : ℕ → Term} {g : Bool} {cs : List ℕ} {u : Term}
    → View t A sub g cs u → d ≤ n → ((c : ℕ) → 0 < hits c cs → deep (sub c) + suc d ≤ suc n) → deep u + d ≤ suc n
unfolding deep
deep_view n d (view_leaf k) x h = omega arith
deep_view n d (view_single k a e) x h = omega (arith, h a (hit_here a []))
deep_view n d (view_double k a b) x h = omega (arith, h a (hit_here a (b ∷ [])), h b (hit_later b a (b ∷ []) (hit_here b [])))
deep_view n d (view_triple k a b c) x h =
    omega (arith, h a (hit_here a (b ∷ c ∷ [])), h b (hit_later b a (b ∷ c ∷ []) (hit_here b (c ∷ []))), h c (hit_later c a (b ∷ c ∷ []) (hit_later c b (c ∷ []) (hit_here c []))))
deep_view n d view_gap x h = omega arith

pub deep_root : {p : Purpose} {l : List ℕ} → Formed l → Linked p l → Sized l → 0 < terms l → deep (term_at l 0) ≤ most_depth
deep_root {l = l} f h s pos =
    omega (arith, term_induction (directed h) (λ t. deep (term_at l t) + depth l t ≤ suc most_depth) step 0 pos, depth_root l)
  where
    step : (t : ℕ) → t < terms l → ((c : ℕ) → 0 < hits c (term_links (term_record l t)) → deep (term_at l c) + depth l c ≤ suc most_depth) → deep (term_at l t) + depth l t ≤ suc most_depth
    step t k ih = deep_view most_depth (depth l t) (term_view f (directed h) t k) (s.term t k) (λ c x. subst (λ d. deep (term_at l c) + d ≤ suc most_depth) (depth_child h t c k x) (ih c x))
