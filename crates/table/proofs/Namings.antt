-- Counting names in the work room. Assumes nothing.
use mathlib.Core.Path.{◌≡◌, refl, ap, sym, subst, subst₂, ◌∙◌}
use mathlib.Core.Bool.{Bool, true, false, cond}
use mathlib.Core.List.{List, [], ◌∷◌}
use Prim.Native.Nat.{ℕ, zero, suc, ◌+◌, ◌<◌, ◌≤◌, min}
use native.Mathlib.Omega.{arith}
use native.Mathlib.Numerals.{add-one}
use borrow.Author.Tests.{eqb-true, eq-eqb, ne_eqb, lt-ltb}
use lib.ListN.{length, get_or, set, replicate, length-set}
use lib.Seq.{get_or-set_same, get_or-set_other}
use lib.Dec.{eqb, ltb}
use Rattle.numbers.specs.declared.record.Record.{Record}
use Rattle.layout.specs.declared.record.TermRecord.{TermRecord}
use Rattle.table.specs.declared.Purpose.{Purpose}
use Rattle.layout.specs.File.{props, terms, prop_record, term_record}
use Rattle.table.specs.Links.{hits, sum, prop_children, term_children, prop_links, term_links, annotation, annotation_links, heads}
use Rattle.table.specs.Naming.{Shows, Names, used_hits, NamesShown}

shows_same : (b n : ℕ) (f g : ℕ → ℕ) (w : List ℕ) → Shows b n f w → ((j : ℕ) → f j ≡ g j) → Shows b n g w
shows_same b n f g w s e j h = s j h ∙ ap (λ (k : ℕ). min 2 k) (e j)

pub names_same : {b n : ℕ} {f g : ℕ → ℕ} {x y : List ℕ} → Names b n f x y → ((j : ℕ) → f j ≡ g j) → Names b n g x y
names_same {b} {n} {f} {g} {x} {y} m e =
    record { size = m.size; shows = λ h s. shows_same b n (λ j. h j + f j) (λ j. h j + g j) y (m.shows h s) (λ j. ap (λ (k : ℕ). h j + k) (e j)); others = m.others }

-- nothing named
pub names_none : (b n : ℕ) (l : List ℕ) → Names b n (λ j. 0) l l
names_none b n l = record { size = refl; shows = λ f s. shows_same b n f (λ j. f j + 0) l s (λ j. omega arith); others = λ i h. refl }

-- one pass after another
pub names_then : {b n : ℕ} {f g : ℕ → ℕ} {x y z : List ℕ} → Names b n f x y → Names b n g y z → Names b n (λ j. f j + g j) x z
names_then {b} {n} {f} {g} {x} {y} {z} m k =
    record {
      size = k.size ∙ m.size;
      shows = λ h s. shows_same b n (λ j. h j + f j + g j) (λ j. h j + (f j + g j)) z (k.shows (λ j. h j + f j) (m.shows h s)) (λ j. omega arith);
      others = λ i o. k.others i o ∙ m.others i o;
    }

pub names_three : {b n : ℕ} {f g h : ℕ → ℕ} {w x y z : List ℕ} (s : ℕ → ℕ) → Names b n f w x → Names b n g x y → Names b n h y z → ((j : ℕ) → f j + (g j + h j) ≡ s j) → Names b n s w z
names_three {b} {n} {f} {g} {h} s u v t e = names_same (names_then u (names_then v t)) e

-- ONE LINK: past the last record, or a record's
hit_other : (m j : ℕ) → (m ≡ j → ⊥) → hits j (m ∷ []) ≡ 0
unfolding hits
hit_other m j h = rw (ne_eqb m j h)

hit_same : (m : ℕ) → hits m (m ∷ []) ≡ 1
unfolding hits
hit_same m = rw (eq-eqb m m refl)

pub name_past : (b n m : ℕ) (u : Bool) (l : List ℕ) → u ≡ true → n ≤ m → Names b n (used_hits u m) l l
name_past b n m u l e h =
    subst (λ (v : Bool). Names b n (used_hits v m) l l) (sym e)
    record {
      size = refl;
      shows = λ f s j k. s j k ∙ ap (λ (i : ℕ). min 2 i) (let z : hits j (m ∷ []) ≡ 0 = hit_other m j (omega arith) in omega arith);
      others = λ i o. refl;
    }

-- the same record, or another
at_note : (b m : ℕ) (f : ℕ → ℕ) (l : List ℕ) (j : ℕ) → b + m < length l → get_or l (b + j) 0 ≡ min 2 (f j)
    → get_or (set l (b + m) (min 2 (get_or l (b + m) 0 + 1))) (b + j) 0 ≡ min 2 (f j + hits j (m ∷ []))
at_note b m f l j h s = pick (eqb m j) refl
  where
    pick : (t : Bool) → eqb m j ≡ t → get_or (set l (b + m) (min 2 (get_or l (b + m) 0 + 1))) (b + j) 0 ≡ min 2 (f j + hits j (m ∷ []))
    pick true e =
        let q : m ≡ j = eqb-true m j e in
        let one : hits j (m ∷ []) ≡ 1 = ap (λ (k : ℕ). hits k (m ∷ [])) (sym q) ∙ hit_same m in
        let put : get_or (set l (b + m) (min 2 (get_or l (b + m) 0 + 1))) (b + m) 0 ≡ min 2 (get_or l (b + m) 0 + 1) = get_or-set_same l (b + m) _ 0 h in
        let here : get_or l (b + m) 0 ≡ min 2 (f j) = ap (λ (k : ℕ). get_or l (b + k) 0) q ∙ s in
        let capped : min 2 (min 2 (f j) + 1) ≡ min 2 (f j + 1) = omega arith in
        ap (λ (k : ℕ). get_or (set l (b + m) (min 2 (get_or l (b + m) 0 + 1))) (b + k) 0) (sym q) ∙ put ∙ ap (λ (k : ℕ). min 2 (k + 1)) here ∙ capped ∙ ap (λ (k : ℕ). min 2 (f j + k)) (sym one)
    pick false e =
        let d : m ≡ j → ⊥ = borrow.Author.Tests.eqb-false m j e in
        let none : hits j (m ∷ []) ≡ 0 = hit_other m j d in
        get_or-set_other l (b + m) (b + j) _ 0 (λ q. d (omega arith)) ∙ s ∙ ap (λ (k : ℕ). min 2 k) (omega arith)

pub name_note : (b n m : ℕ) (u : Bool) (l new : List ℕ) → u ≡ true → m < n → b + n ≤ length l → new ≡ set l (b + m) (min 2 (get_or l (b + m) 0 + 1)) → Names b n (used_hits u m) l new
name_note b n m u l new e h r q =
    subst (λ (v : Bool). Names b n (used_hits v m) l new) (sym e)
    (subst (λ (w : List ℕ). Names b n (used_hits true m) l w) (sym q)
    record {
      size = length-set l (b + m) _;
      shows = λ f s j k. at_note b m f l j (omega arith) (s j k);
      others = λ i o. get_or-set_other l (b + m) i _ 0 (λ w. o (omega arith) (omega arith));
    })

-- A RECORD'S LINKS, one by one
pub prop_hits : (k : ℕ) (r : Record) (j : ℕ) → used_hits (eqb k 1) r.c j + (used_hits (ltb 1 k) r.a j + used_hits (ltb 1 k) r.b j) ≡ hits j (prop_children k r)
unfolding prop_children hits
prop_hits zero r j = refl
prop_hits (suc zero) r j = omega arith
prop_hits (suc (suc k)) r j = rw (ne_eqb (suc (suc k)) 1 (λ q. omega arith), lt-ltb 1 (suc (suc k)) (omega arith)) (omega arith)

pub term_hits : (k : ℕ) (r : TermRecord) (j : ℕ)
    → used_hits (ltb 0 k) r.child1.0 j + (used_hits (ltb 1 k) r.child2.0 j + used_hits (ltb 2 k) r.child3.0 j) ≡ hits j (term_children k r)
unfolding term_children hits
term_hits zero r j = refl
term_hits (suc zero) r j = omega arith
term_hits (suc (suc zero)) r j = omega arith
term_hits (suc (suc (suc k))) r j =
    rw (lt-ltb 0 (suc (suc (suc k))) (omega arith), lt-ltb 1 (suc (suc (suc k))) (omega arith), lt-ltb 2 (suc (suc (suc k))) (omega arith)) (omega arith)

pub annotation_hits : (tag m j : ℕ) → used_hits (eqb tag 1) m j ≡ hits j (annotation_links tag m)
unfolding annotation_links hits
annotation_hits tag m j = pick (eqb tag 1)
  where
    pick : (t : Bool) → cond t (hits j (m ∷ [])) 0 ≡ hits j (cond t (m ∷ []) [])
    pick true = refl
    pick false = refl

-- A LOOP over records: after record i, one more
pub names_step : (b n i : ℕ) (F : ℕ → ℕ → ℕ) {x y z : List ℕ} → Names b n (λ j. sum (F j) i) x y → Names b n (λ j. F j i) y z → Names b n (λ j. sum (F j) (i + 1)) x z
unfolding sum
names_step b n i F u v = names_same (names_then u v) (λ j. omega (arith, ap (sum (F j)) (add-one i)))

pub names_start : (b n : ℕ) (F : ℕ → ℕ → ℕ) (l : List ℕ) → Names b n (λ j. sum (F j) 0) l l
unfolding sum
names_start b n F l = names_none b n l

-- ALL PASSES, from an empty room
zeros : (n i : ℕ) → ◌≡◌ {A = ℕ} (get_or (replicate n 0) i 0) 0
zeros zero i = refl
zeros (suc n) zero = refl
zeros (suc n) (suc i) = zeros n i

module _ (p : Purpose) (l w₀ w₁ w₂ w₃ w₄ : List ℕ) (k P T : ℕ)
    (empty : w₀ ≡ replicate k 0)
    (head : Names 0 P (λ j. hits j (heads p l)) w₀ w₁)
    (by-props : Names 0 P (λ j. sum (λ m. hits j (prop_links (prop_record l m))) P) w₁ w₂)
    (by-types : Names 0 P (λ j. sum (λ t. hits j (annotation (term_record l t))) T) w₂ w₃)
    (by-terms : Names P T (λ j. sum (λ t. hits j (term_links (term_record l t))) T) w₃ w₄)
  where
    start : (i : ℕ) → get_or w₀ i 0 ≡ 0
    start i = ap (λ (w : List ℕ). get_or w i 0) empty ∙ zeros k i

    for_props : Names 0 P (λ j. hits j (heads p l) + (sum (λ m. hits j (prop_links (prop_record l m))) P + sum (λ t. hits j (annotation (term_record l t))) T)) w₀ w₃
    for_props = names_then head (names_then by-props by-types)

    props_shown : Shows 0 P (λ j. hits j (heads p l) + (sum (λ m. hits j (prop_links (prop_record l m))) P + sum (λ t. hits j (annotation (term_record l t))) T)) w₄
    props_shown j h = by-terms.others (0 + j) (λ q _. omega arith) ∙ for_props.shows (λ _. 0) (λ i _. start (0 + i)) j h ∙ ap (λ (n : ℕ). min 2 n) (omega arith)

    terms_shown : Shows P T (λ j. sum (λ t. hits j (term_links (term_record l t))) T) w₄
    terms_shown j h =
        by-terms.shows (λ _. 0) (λ i _. for_props.others (P + i) (λ _ q. omega arith) ∙ start (P + i)) j h ∙ ap (λ (n : ℕ). min 2 n) (omega arith)

    pub names_shown : P ≡ props l → T ≡ terms l → NamesShown p l w₄
    names_shown eP eT =
        record {
          prop =
              subst₂
              (λ (q r : ℕ). Shows 0 q (λ j. hits j (heads p l) + (sum (λ m. hits j (prop_links (prop_record l m))) q + sum (λ t. hits j (annotation (term_record l t))) r)) w₄)
              eP
              eT
              props_shown;
          term = subst₂ (λ (q r : ℕ). Shows q r (λ j. sum (λ t. hits j (term_links (term_record l t))) r) w₄) eP eT terms_shown;
        }
