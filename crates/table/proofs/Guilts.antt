-- What the code of test 5 tests, record by record. Assumes nothing.
use Rattle.std.specs.Prelude.{Option, Some}
use mathlib.Core.Path.{◌≡◌, refl, ap, ap₂, sym, subst⁻¹, ◌∙◌}
use mathlib.Core.Bool.{Bool, true, false, ◌&&◌, ◌||◌, not, cond}
use mathlib.Core.List.{List, [], ◌∷◌}
use Prim.Native.Nat.{ℕ, zero, suc, ◌+◌, ◌<◌, ◌≤◌, min}
use native.Mathlib.Nat.{zero-add}
use lib.ListN.{get_or}
use native.Mathlib.Omega.{arith}
use borrow.Author.Tests.{eqb-true, eq-eqb, ne_eqb, eqb-false, lt-ltb}
use lib.Dec.{eqb, ltb}
use Rattle.numbers.specs.declared.record.Record.{Record}
use Rattle.layout.specs.declared.record.TermRecord.{TermRecord}
use Rattle.table.specs.declared.Purpose.{Purpose}
use Rattle.numbers.specs.Records.{record_at}
use Rattle.layout.specs.File.{props, terms, as_term, term_record}
use Rattle.table.specs.Naming.{NamesShown}
use Rattle.table.specs.Tests.{or_term, badly_linked}
use Rattle.table.specs.Reading.{first, first_from}
use Rattle.table.specs.Links.{all_links, prop_children, term_children, term_links, annotation, annotation_links, prop_links_ok, term_links_ok, prop_named, term_named, badly_linked_prop, badly_linked_term}

and_true : (b : Bool) → (b && true) ≡ b
and_true true = refl
and_true false = refl

-- a type's link
pub annotation_test : (ok : ℕ → Bool) (tag m : ℕ) → (not (eqb tag 1) || ok m) ≡ all_links ok (annotation_links tag m)
unfolding all_links annotation_links
annotation_test ok tag m = pick (eqb tag 1)
  where
    pick : (t : Bool) → (not t || ok m) ≡ all_links ok (cond t (m ∷ []) [])
    pick true = sym (and_true (ok m))
    pick false = refl

-- a proposition's links: none, the body, or two
pub no_child : (ok : ℕ → Bool) (k : ℕ) (r : Record) → k ≡ 0 → true ≡ all_links ok (prop_children k r)
unfolding all_links prop_children
no_child ok k r e = subst⁻¹ (λ (j : ℕ). true ≡ all_links ok (prop_children j r)) e refl

pub one_child : (ok : ℕ → Bool) (k : ℕ) (r : Record) → k ≡ 1 → ok r.c ≡ all_links ok (prop_children k r)
unfolding all_links prop_children
one_child ok k r e = subst⁻¹ (λ (j : ℕ). ok r.c ≡ all_links ok (prop_children j r)) e (sym (and_true (ok r.c)))

pub two_children : (ok : ℕ → Bool) (k : ℕ) (r : Record) → 2 ≤ k → (ok r.a && ok r.b) ≡ all_links ok (prop_children k r)
unfolding all_links prop_children
two_children ok zero r h = absurd (omega arith)
two_children ok (suc zero) r h = absurd (omega arith)
two_children ok (suc (suc k)) r h = ap (λ (b : Bool). ok r.a && b) (sym (and_true (ok r.b)))

-- a term's links
pub children_test : (ok : ℕ → Bool) (k : ℕ) (r : TermRecord)
    → ((not (ltb 0 k) || ok r.child1.0) && ((not (ltb 1 k) || ok r.child2.0) && (not (ltb 2 k) || ok r.child3.0))) ≡ all_links ok (term_children k r)
unfolding all_links term_children
children_test ok zero r = refl
children_test ok (suc zero) r = refl
children_test ok (suc (suc zero)) r = refl
children_test ok (suc (suc (suc k))) r =
    rw (lt-ltb 0 (suc (suc (suc k))) (omega arith), lt-ltb 1 (suc (suc (suc k))) (omega arith), lt-ltb 2 (suc (suc (suc k))) (omega arith))
    (ap (λ (b : Bool). ok r.child1.0 && (ok r.child2.0 && b)) (sym (and_true (ok r.child3.0))))

-- a count that is shown as 1 is 1
cap_one : (x : ℕ) → eqb (min 2 x) 1 ≡ eqb x 1
cap_one x = pick (eqb x 1) refl
  where
    pick : (t : Bool) → eqb x 1 ≡ t → eqb (min 2 x) 1 ≡ t
    pick true e = let h : x ≡ 1 = eqb-true x 1 e in eq-eqb (min 2 x) 1 (omega arith)
    pick false e = let h : x ≡ 1 → ⊥ = eqb-false x 1 e in ne_eqb (min 2 x) 1 (λ q. h (omega arith))

pub prop_guilt : (p : Purpose) (l : List ℕ) (n : ℕ) (ok : Bool) (x : ℕ) → ok ≡ prop_links_ok l n → x ≡ min 2 (prop_named p l n) → not (ok && eqb x 1) ≡ badly_linked_prop p l n
unfolding badly_linked_prop
prop_guilt p l n ok x e h = ap₂ (λ (a b : Bool). not (a && b)) e (ap (λ (k : ℕ). eqb k 1) h ∙ cap_one (prop_named p l n))

pub term_guilt : (l : List ℕ) (t : ℕ) (ok : Bool) (x : ℕ) → ok ≡ term_links_ok l t → x ≡ min 2 (term_named l t) → not (ok && (eqb t 0 || eqb x 1)) ≡ badly_linked_term l t
unfolding badly_linked_term
term_guilt l t ok x e h = ap₂ (λ (a b : Bool). not (a && (eqb t 0 || b))) e (ap (λ (k : ℕ). eqb k 1) h ∙ cap_one (term_named l t))

-- a term's links, read by a caller that has the counts
pub term_ok : (l : List ℕ) (t p count : ℕ) (r : TermRecord) → r ≡ as_term (record_at l (p + t + 1)) → p ≡ props l → count ≡ terms l
    → (all_links (λ m. ltb t m && ltb m count) (term_links r) && all_links (λ m. ltb m p) (annotation r)) ≡ term_links_ok l t
term_ok l t p count r er ep ec =
    let e : r ≡ term_record l t = er ∙ ap (λ (k : ℕ). as_term (record_at l (k + t + 1))) ep in
    ap₂ (λ (k : ℕ) (s : TermRecord). all_links (λ m. ltb t m && ltb m k) (term_links s) && all_links (λ m. ltb m p) (annotation s)) ec e
    ∙ ap (λ (k : ℕ). all_links (λ m. ltb t m && ltb m (terms l)) (term_links (term_record l t)) && all_links (λ m. ltb m k) (annotation (term_record l t))) ep

-- the searches of the loops are those of test 5 once the room shows the counts
pub props_guilt : (p : Purpose) (l w : List ℕ) → NamesShown p l w → (n : ℕ) → n < props l → not (prop_links_ok l n && eqb (get_or w n 0) 1) ≡ badly_linked_prop p l n
props_guilt p l w s n h = prop_guilt p l n _ (get_or w n 0) refl (ap (λ (k : ℕ). get_or w k 0) (sym (zero-add n)) ∙ s.prop n h)

pub terms_guilt : (p : Purpose) (l w : List ℕ) → NamesShown p l w → (t : ℕ) → t < terms l → not (term_links_ok l t && (eqb t 0 || eqb (get_or w (props l + t) 0) 1)) ≡ badly_linked_term l t
terms_guilt p l w s t h = term_guilt l t _ (get_or w (props l + t) 0) refl (s.term t h)

same_from : (t u : ℕ → Bool) (i k : ℕ) → ((j : ℕ) → j < i + k → t j ≡ u j) → first_from t i k ≡ first_from u i k
unfolding first_from
same_from t u i zero h = refl
same_from t u i (suc k) h = ap₂ (λ (b : Bool) (g : Option ℕ). cond b (Some i) g) (h i (omega arith)) (same_from t u (suc i) k (λ j q. h j (omega arith)))

pub first_same : (t u : ℕ → Bool) (n : ℕ) → ((j : ℕ) → j < n → t j ≡ u j) → first t n ≡ first u n
first_same t u n h = same_from t u 0 n (λ j q. h j (omega arith))

pub linked_answer : (p : Purpose) (l w : List ℕ) (P T : ℕ) (g h : Option ℕ) → NamesShown p l w → P ≡ props l → T ≡ terms l
    → g ≡ first (λ n. not (prop_links_ok l n && eqb (get_or w n 0) 1)) P
    → h ≡ first (λ t. not (term_links_ok l t && (eqb t 0 || eqb (get_or w (P + t) 0) 1))) T
    → or_term g P h ≡ badly_linked p l
unfolding badly_linked
linked_answer p l w P T g h s eP eT eg eh =
    let a : g ≡ first (badly_linked_prop p l) (props l) =
    eg ∙ ap (λ (k : ℕ). first (λ n. not (prop_links_ok l n && eqb (get_or w n 0) 1)) k) eP ∙ first_same _ _ (props l) (props_guilt p l w s) in
    let b : h ≡ first (badly_linked_term l) (terms l) =
    eh
    ∙ ap₂ (λ (k m : ℕ). first (λ t. not (term_links_ok l t && (eqb t 0 || eqb (get_or w (k + t) 0) 1))) m) eP eT
    ∙ first_same _ _ (terms l) (terms_guilt p l w s) in
    cc
