-- The header of a table joined with a filling is the old one with other counts, so it passes test 2.
-- Assumes nothing.
use mathlib.Core.Path.{◌≡◌, ap, ◌∙◌}
use mathlib.Core.Bool.{Bool, true, ◌&&◌}
use mathlib.Core.List.{List}
use Prim.Native.Nat.{ℕ, ◌≤◌}
use native.Mathlib.Omega.{arith}
use lib.ListN.{length, get_or}
use lib.Dec.{eqb, leb}
use borrow.Author.Tests.{leb-true, le-leb, eqb-true, eq-eqb}
use Rattle.numbers.specs.declared.record.Record.{Record}
use Rattle.numbers.specs.Records.{word_at, record_at}
use Rattle.table.specs.Tests.{mark, blank, header}
use Rattle.table.proofs.Headers.{and_left, and_right}
use Rattle.editing.specs.Edited.{Joined}

four_true : (a b c d : Bool) → (a && (b && (c && d))) ≡ true → (a ≡ true) × (b ≡ true) × (c ≡ true) × (d ≡ true)
four_true a b c d h =
    let x = and_right a (b && (c && d)) h in
    let y = and_right b (c && d) x in
    (and_left a (b && (c && d)) h, and_left b (c && d) x, and_left c d y, and_right c d y)

-- TEST 2 asks of the header as a record
record Heads (l : List ℕ) : Type 0 where
  long : 16 ≤ length l
  kind : (record_at l 0).kind ≡ 78
  count : (record_at l 0).count ≡ 68
  a : (record_at l 0).a ≡ 84
  b : (record_at l 0).b ≡ 1
  third : get_or (record_at l 0).parameters 2 0 ≡ 0
  fourth : get_or (record_at l 0).parameters 3 0 ≡ 0

heads_of : (l : List ℕ) → header l ≡ true → Heads l
unfolding header record_at
heads_of l h =
    let all = four_true (leb 16 (length l)) (mark l) (eqb (word_at l 4) 1) (blank l) h in
    let m = four_true (eqb (get_or l 0 0) 78) (eqb (get_or l 1 0) 68) (eqb (get_or l 2 0) 84) (eqb (get_or l 3 0) 0) all.1 in
    let z = four_true (eqb (get_or l 12 0) 0) (eqb (get_or l 13 0) 0) (eqb (get_or l 14 0) 0) (eqb (get_or l 15 0) 0) all.3 in
    record {
      long = leb-true 16 (length l) all.0;
      kind = eqb-true (get_or l 0 0) 78 m.0;
      count = eqb-true (get_or l 1 0) 68 m.1;
      a = omega (arith, eqb-true (get_or l 2 0) 84 m.2, eqb-true (get_or l 3 0) 0 m.3);
      b = eqb-true (word_at l 4) 1 all.2;
      third = omega (arith, eqb-true (get_or l 12 0) 0 z.0, eqb-true (get_or l 13 0) 0 z.1);
      fourth = omega (arith, eqb-true (get_or l 14 0) 0 z.2, eqb-true (get_or l 15 0) 0 z.3);
    }

of_heads : (l : List ℕ) → Heads l → header l ≡ true
unfolding header record_at
of_heads l h =
    let b₂ : get_or l 2 0 ≡ 84 = omega (arith, h.a) in
    let b₃ : get_or l 3 0 ≡ 0 = omega (arith, h.a) in
    let b₁₂ : get_or l 12 0 ≡ 0 = omega (arith, h.third) in
    let b₁₃ : get_or l 13 0 ≡ 0 = omega (arith, h.third) in
    let b₁₄ : get_or l 14 0 ≡ 0 = omega (arith, h.fourth) in
    let b₁₅ : get_or l 15 0 ≡ 0 = omega (arith, h.fourth) in
    rw (le-leb 16 (length l) h.long, eq-eqb _ 78 h.kind, eq-eqb _ 68 h.count, eq-eqb _ 84 b₂, eq-eqb _ 0 b₃, eq-eqb (word_at l 4) 1 h.b, eq-eqb _ 0 b₁₂, eq-eqb _ 0 b₁₃, eq-eqb _ 0 b₁₄, eq-eqb _ 0 b₁₅)

-- the old header with other counts
pub header_joined : {old f : List ℕ} {q : ℕ} {r : Record} {e : List ℕ} → Joined old f q r e → header old ≡ true → header e ≡ true
header_joined {old = old} {e = e} J h =
    let o = heads_of old h in
    of_heads e
    record {
      long = omega (arith, J.size);
      kind = ap (λ (r : Record). r.kind) J.head ∙ o.kind;
      count = ap (λ (r : Record). r.count) J.head ∙ o.count;
      a = ap (λ (r : Record). r.a) J.head ∙ o.a;
      b = ap (λ (r : Record). r.b) J.head ∙ o.b;
      third = ap (λ (r : Record). get_or r.parameters 2 0) J.head ∙ o.third;
      fourth = ap (λ (r : Record). get_or r.parameters 3 0) J.head ∙ o.fourth;
    }
