-- Tables with the same records: with the same propositions they mean the same propositions, and with all of them they are the same bytes.
-- Assumes nothing.
use mathlib.Core.Path.{◌≡◌, refl, ap, sym, subst, ◌∙◌}
use mathlib.Core.Bool.{Bool, true, false}
use mathlib.Core.List.{List}
use Prim.Native.Nat.{ℕ, zero, suc, ◌+◌, ◌-◌, ◌*◌, ◌/◌, ◌%◌, ◌<◌, ◌≤◌}
use native.Mathlib.Omega.{arith}
use lib.ListN.{length, get_or}
use lib.Seq.{ext_get_or}
use lib.Dec.{eqb, ltb}
use borrow.Author.Tests.{ltb-true, ltb-false, eqb-true, eqb-false}
use Rattle.numbers.specs.declared.record.Record.{Record}
use Rattle.numbers.specs.Records.{word_at, record_at}
use Rattle.layout.specs.File.{props, terms, prop_record}
use Rattle.rules.specs.Term.{nodes}
use Rattle.table.specs.Reading.{prop_at, term_at}
use Rattle.table.specs.Passing.{Directed}
use Rattle.table.proofs.Counting.{nodes_root}
use Rattle.table.proofs.Passing.{good_passed}
use Rattle.editing.specs.Edited.{all_props, all_terms, term_bytes, Bytes, Fillable, Joined, Edited}
use Rattle.editing.proofs.Joins.{props_joined, terms_joined, prop_cases, term_cases}
use Rattle.editing.proofs.Propositions.{prop_kept}
use Rattle.editing.proofs.Edits.{waiting_term, filling_nodes}

-- THE SAME PROPOSITIONS
module _ (l l' : List ℕ) (d : Directed l) (count : props l' ≡ props l) (same : (n : ℕ) → n < props l → prop_record l' n ≡ prop_record l n) where
  pub props_alike : (n : ℕ) → n < props l → prop_at l' n ≡ prop_at l n
  props_alike = prop_kept l l' d (omega arith) same (λ n k p x y. absurd (omega arith))

-- whatever stands as term q of a table joined with a filling
module _ {old f : List ℕ} {q : ℕ} {r r' : Record} {e j : List ℕ} (E : Joined old f q r e) (J : Joined old f q r' j) where
  pub joined_counts : (props j ≡ props e) × (terms j ≡ terms e)
  joined_counts = (props_joined J ∙ sym (props_joined E), terms_joined J ∙ sym (terms_joined E))

  pub joined_records : (n : ℕ) → n < props e → prop_record j n ≡ prop_record e n
  joined_records = prop_cases E (λ n s. prop_record j n ≡ s) J.old_prop J.added_prop

  pub joined_props : Directed e → (n : ℕ) → n < props e → prop_at j n ≡ prop_at e n
  joined_props d = props_alike e j d joined_counts.0 joined_records

-- THE SAME BYTES
module _ (l l' : List ℕ) (bytes : Bytes l) (bytes' : Bytes l') where
  -- a record's eight words
  word_alike : (n w : ℕ) → w < 8 → record_at l n ≡ record_at l' n → word_at l (16 * n + 2 * w) ≡ word_at l' (16 * n + 2 * w)
  unfolding record_at
  word_alike n zero h s =
      let so : 16 * n ≡ 16 * n + 2 * 0 = omega arith in
      subst (λ i. word_at l i ≡ word_at l' i) so (ap (λ (r : Record). r.kind + 256 * r.count) s)
  word_alike n (suc zero) h s = ap (λ (r : Record). r.a) s
  word_alike n (suc (suc zero)) h s = ap (λ (r : Record). r.b) s
  word_alike n (suc (suc (suc zero))) h s = ap (λ (r : Record). r.c) s
  word_alike n (suc (suc (suc (suc zero)))) h s = ap (λ (r : Record). get_or r.parameters 0 0) s
  word_alike n (suc (suc (suc (suc (suc zero))))) h s = ap (λ (r : Record). get_or r.parameters 1 0) s
  word_alike n (suc (suc (suc (suc (suc (suc zero)))))) h s = ap (λ (r : Record). get_or r.parameters 2 0) s
  word_alike n (suc (suc (suc (suc (suc (suc (suc zero))))))) h s = ap (λ (r : Record). get_or r.parameters 3 0) s
  word_alike n (suc (suc (suc (suc (suc (suc (suc (suc w)))))))) h s = absurd (omega arith)

  -- and its sixteen bytes
  byte_alike : (i : ℕ) → record_at l (i / 16) ≡ record_at l' (i / 16) → get_or l i 0 ≡ get_or l' i 0
  byte_alike i s = at (eqb (i % 2) 0) refl
    where
      j : ℕ
      j = 16 * (i / 16) + 2 * (i % 16 / 2)

      words : word_at l j ≡ word_at l' j
      words = word_alike (i / 16) (i % 16 / 2) (omega arith) s

      low : get_or l j 0 ≡ get_or l' j 0
      low = omega (arith, words, bytes j, bytes (j + 1), bytes' j, bytes' (j + 1))

      high : get_or l (j + 1) 0 ≡ get_or l' (j + 1) 0
      high = omega (arith, words, bytes j, bytes (j + 1), bytes' j, bytes' (j + 1))

      at : (x : Bool) → eqb (i % 2) 0 ≡ x → get_or l i 0 ≡ get_or l' i 0
      at true e = let so : j ≡ i = omega (arith, eqb-true (i % 2) 0 e) in subst (λ k. get_or l k 0 ≡ get_or l' k 0) so low
      at false e = let so : j + 1 ≡ i = omega (arith, eqb-false (i % 2) 0 e) in subst (λ k. get_or l k 0 ≡ get_or l' k 0) so high

  pub table_unique : (n : ℕ) → length l ≡ 16 * n → length l' ≡ 16 * n → ((m : ℕ) → m < n → record_at l m ≡ record_at l' m) → l ≡ l'
  table_unique n a b same = ext_get_or 0 l l' (a ∙ sym b) (λ i h. byte_alike i (same (i / 16) (omega arith)))

-- so a table and its filling have one edited table
module _ {old f : List ℕ} {q : ℕ} {r : Record} {e e' : List ℕ} (k : q < terms old) (pos : 0 < terms f) (E : Joined old f q r e) (E' : Joined old f q r e') where
  terms_alike : (t : ℕ) → t < terms e → term_bytes e t ≡ term_bytes e' t
  terms_alike = term_cases E k pos (λ t s. s ≡ term_bytes e' t) (λ t x z. sym (E'.old_term t x z)) (sym E'.here) (λ i x y. sym (E'.added_term i x y))

  records_alike : (m : ℕ) → m < 1 + (all_props old f + all_terms old f) → record_at e m ≡ record_at e' m
  records_alike zero h = E.head ∙ sym E'.head
  records_alike (suc n) h = at (ltb n (props e)) refl
    where
      at : (x : Bool) → ltb n (props e) ≡ x → record_at e (suc n) ≡ record_at e' (suc n)
      at true z = let so : n + 1 ≡ suc n = omega arith in subst (λ i. record_at e i ≡ record_at e' i) so (sym (joined_records E E' n (ltb-true n (props e) z)))
      at false z =
          let t : ℕ = n - props e in
          let low : props e ≤ n = ltb-false n (props e) z in
          let so : suc n ≡ props e + t + 1 = omega arith in
          let so' : suc n ≡ props e' + t + 1 = omega (arith, (joined_counts E E').0) in
          ap (record_at e) so ∙ terms_alike t (omega (arith, props_joined E, terms_joined E)) ∙ sym (ap (record_at e') so')

  pub joined_unique : Bytes e → Bytes e' → e ≡ e'
  joined_unique b b' = table_unique e e' b b' (1 + (all_props old f + all_terms old f)) (omega (arith, E.size)) (omega (arith, E'.size)) records_alike

pub edited_unique : {old f : List ℕ} {q : ℕ} {e e' : List ℕ} → q < terms old → 0 < terms f → Edited old f q e → Edited old f q e' → Bytes e → Bytes e' → e ≡ e'
edited_unique k pos E E' b b' = joined_unique k pos E E' b b'

-- NODES: all terms of the edited table are nodes of the script or of the filling, but for the Sorry
pub hole_nodes : {old f : List ℕ} {q : ℕ} {e j : List ℕ} → Fillable old f q → Edited old f q e → Joined old f q (term_bytes old q) j
    → nodes (term_at e q) + nodes (term_at j 0) ≡ terms e + 1
hole_nodes h E J =
    let o = good_passed h.old_good in
    let script = ap nodes (waiting_term h J 0 o.counted.some) ∙ nodes_root o.formed o.linked o.counted.some in
    omega (arith, script, filling_nodes h E, terms_joined E, h.inside, (good_passed h.good).counted.some)
