-- Rooms that are emptied, wholly or from some byte on. Assumes nothing.
use mathlib.Core.Path.{◌≡◌, ap, ap₂, sym, ◌∙◌}
use mathlib.Core.List.{List, [], ◌∷◌, ◌++◌, append_assoc}
use Prim.Native.Nat.{ℕ, ◌+◌, ◌-◌, ◌*◌, ◌<◌, ◌≤◌}
use native.Mathlib.Omega.{arith}
use lib.ListN.{length, get_or, take, drop, replicate, length-append, length-drop, length-replicate, take-append-drop, get_or-append, replicate-append-replicate}
use lib.Seq.{length-take-le, get_or-take, drop-append-le, drop-drop, drop_at}
use Rattle.numbers.specs.Records.{word_at, record_at}
use Rattle.numbers.specs.Rooms.{cleared}
use Rattle.numbers.proofs.Rooms.{cleared_within, cleared_all}
use Rattle.step.specs.Trees.{goal_at}
use Rattle.entry.specs.Rest.{Trimmed}

-- CLEARED. A room of just n bytes
pub cleared_exact : (n : ℕ) (old new : List ℕ) → length old ≡ n → length new ≡ n → cleared n new ≡ cleared n old
cleared_exact n old new e f = cleared_all n new (omega arith) ∙ ap (λ (k : ℕ). replicate k 0) (f ∙ sym e) ∙ sym (cleared_all n old (omega arith))

-- a room in two parts, the first of which holds all that is cleared
pub cleared_append : (u : ℕ) (front back : List ℕ) → u ≤ length front → cleared u (front ++ back) ≡ cleared u front ++ back
cleared_append u front back h =
    let a = length-append front back in
    cleared_within u (front ++ back) (omega arith) ∙ ap (λ (t : List ℕ). replicate u 0 ++ t) (drop-append-le u front back h)
    ∙ sym (append_assoc (replicate u 0) (drop u front) back) ∙ ap (λ (t : List ℕ). t ++ back) (sym (cleared_within u front h))

-- its first n bytes, and the others
pub cleared_parts : (n : ℕ) (old : List ℕ) → n ≤ length old → cleared n (take n old) ++ drop n old ≡ cleared n old
cleared_parts n old h =
    let t = length-take-le n old h in
    sym (cleared_append n (take n old) (drop n old) (omega arith)) ∙ ap (cleared n) (take-append-drop n old)

pub cleared_front : (u n : ℕ) (front old : List ℕ) → n ≤ length old → u ≤ length front → cleared u front ≡ cleared n (take n old) → cleared u (front ++ drop n old) ≡ cleared n old
cleared_front u n front old h k c = cleared_append u front (drop n old) k ∙ ap (λ (t : List ℕ). t ++ drop n old) c ∙ cleared_parts n old h

-- TRIMMED: zeros from u up to s
pub trimmed : (u s : ℕ) (old zeros new : List ℕ) → u ≤ s → s ≤ length old → zeros ≡ replicate (length (take (s - u) (drop u old))) 0 → new ≡ take u old ++ (zeros ++ drop (s - u) (drop u old)) → Trimmed u s old new
trimmed u s old zeros new h k z' e' =
    let d' = length-drop u old in
    let whole : u + (s - u) ≡ s = omega arith in
    let e : new ≡ take u old ++ (zeros ++ drop s old) = e' ∙ ap (λ (t : List ℕ). take u old ++ (zeros ++ t)) (drop-drop (s - u) u old ∙ ap (λ (i : ℕ). drop i old) whole) in
    let z : zeros ≡ replicate (s - u) 0 = z' ∙ ap (λ (i : ℕ). replicate i 0) (length-take-le (s - u) (drop u old) (omega arith)) in
    let front = length-take-le u old (omega arith) in
    let a = length-append (take u old) (zeros ++ drop s old) in
    let b = length-append zeros (drop s old) in
    let c : length zeros ≡ s - u = ap length z ∙ length-replicate (s - u) 0 in
    let d = length-drop s old in
    let f : length new ≡ length (take u old ++ (zeros ++ drop s old)) = ap length e in
    record {
      kept = λ i lo. ap (λ (t : List ℕ). get_or t i 0) e ∙ get_or-append (take u old) (zeros ++ drop s old) 0 i (omega arith) ∙ get_or-take u old i 0 lo;
      rest =
          cleared_within u new (omega arith)
          ∙ ap (λ (t : List ℕ). replicate u 0 ++ t) (ap (drop u) e ∙ drop_at (take u old) (zeros ++ drop s old) u front ∙ ap (λ (t : List ℕ). t ++ drop s old) z)
          ∙ sym (append_assoc (replicate u 0) (replicate (s - u) 0) (drop s old))
          ∙ ap (λ (t : List ℕ). t ++ drop s old) (replicate-append-replicate u (s - u) 0 ∙ ap (λ (i : ℕ). replicate i 0) whole)
          ∙ sym (cleared_within s old k);
      long = omega arith;
    }

-- THE SAME BYTES up to u are the same records and goals
module _ (u : ℕ) (old new : List ℕ) (same : (i : ℕ) → i < u → get_or new i 0 ≡ get_or old i 0) where
  words : (i : ℕ) → i + 1 < u → word_at new i ≡ word_at old i
  words i h = ap₂ (λ (a b : ℕ). a + 256 * b) (same i (omega arith)) (same (i + 1) h)

  pub same_record : (n : ℕ) → 16 * n + 16 ≤ u → record_at new n ≡ record_at old n
  unfolding record_at
  same_record n h =
      let kind = same (16 * n) (omega arith) in
      let count = same (16 * n + 1) (omega arith) in
      let w : (o : ℕ) → o < 15 → word_at new (16 * n + o) ≡ word_at old (16 * n + o) = λ o k. words (16 * n + o) (omega arith) in
      let w₂ = w 2 (omega arith) in
      let w₄ = w 4 (omega arith) in
      let w₆ = w 6 (omega arith) in
      let w₈ = w 8 (omega arith) in
      let w₁₀ = w 10 (omega arith) in
      let w₁₂ = w 12 (omega arith) in
      let w₁₄ = w 14 (omega arith) in
      λ k. record { kind = kind k; count = count k; a = w₂ k; b = w₄ k; c = w₆ k; parameters = w₈ k ∷ w₁₀ k ∷ w₁₂ k ∷ w₁₄ k ∷ [] }

  pub same_goal : (n : ℕ) → 8 * n + 8 ≤ u → goal_at new n ≡ goal_at old n
  unfolding goal_at
  same_goal n h =
      let w₀ = words (8 * n) (omega arith) in
      let w₂ = words (8 * n + 2) (omega arith) in
      let w₄ = words (8 * n + 4) (omega arith) in
      let w₆ = words (8 * n + 6) (omega arith) in
      λ k. record { term = record { 0 = w₀ k }; proposition = record { 0 = w₂ k }; context = w₄ k; zero = w₆ k }

-- bytes that stand before others
pub front_byte : (front back : List ℕ) (u i : ℕ) → u ≤ length front → i < u → get_or (front ++ back) i 0 ≡ get_or front i 0
front_byte front back u i h k = get_or-append front back 0 i (omega arith)
