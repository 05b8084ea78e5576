-- The first bytes of a room, written by a call that was lent them. Assumes nothing.
use mathlib.Core.Path.{◌≡◌, ap, ◌∙◌}
use mathlib.Core.List.{List, [], ◌∷◌, ◌++◌}
use Prim.Native.Nat.{ℕ, zero, suc, ◌≤◌}
use native.Mathlib.Omega.{arith}
use lib.ListN.{length, take, drop, take-append-drop}
use lib.Seq.{length_front, length-take-le, take_at}
use Rattle.editing.specs.Edited.{Bytes}

module _ (size : ℕ) (old part : List ℕ) (fit : size ≤ length old) (same : length part ≡ length (take size old)) where
  pub room_long : length (part ++ drop size old) ≡ length old
  room_long = length_front old part size same

  pub part_fits : size ≤ length (part ++ drop size old)
  part_fits = omega (arith, room_long)

  pub part_is : take size (part ++ drop size old) ≡ part
  part_is = take_at part (drop size old) size (same ∙ length-take-le size old fit)

-- unchanged
pub room_same : (size : ℕ) (old part : List ℕ) → part ≡ take size old → part ++ drop size old ≡ old
room_same size old part e = ap (λ (t : List ℕ). t ++ drop size old) e ∙ take-append-drop size old

-- bytes still
pub bytes_take : (n : ℕ) (l : List ℕ) → Bytes l → Bytes (take n l)
bytes_take zero l h i = omega arith
bytes_take (suc n) [] h i = omega arith
bytes_take (suc n) (x ∷ l) h zero = h zero
bytes_take (suc n) (x ∷ l) h (suc i) = bytes_take n l (λ j. h (suc j)) i
