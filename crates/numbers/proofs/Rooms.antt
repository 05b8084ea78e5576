-- Rooms filled with zeros from the front. Assumes nothing.
use mathlib.Core.Path.{◌≡◌, refl, ap, ◌∙◌}
use mathlib.Core.List.{List, [], ◌∷◌, ◌++◌}
use Prim.Native.Nat.{ℕ, ◌≤◌}
use native.Mathlib.Nat.{min-eq_left, min-eq_right}
use lib.ListN.{length, drop, replicate, drop_of_length-le}
use Rattle.numbers.specs.Rooms.{cleared}

append_nil : (l : List ℕ) → l ++ [] ≡ l
append_nil [] = refl
append_nil (x ∷ l) = ap (λ (t : List ℕ). x ∷ t) (append_nil l)

-- the first n cleared, n being within the room, and all of it
pub cleared_within : (n : ℕ) (l : List ℕ) → n ≤ length l → cleared n l ≡ replicate n 0 ++ drop n l
cleared_within n l h = ap (λ (k : ℕ). replicate k 0 ++ drop n l) (min-eq_left h)

pub cleared_all : (n : ℕ) (l : List ℕ) → length l ≤ n → cleared n l ≡ replicate (length l) 0
cleared_all n l h =
    ap (λ (k : ℕ). replicate k 0 ++ drop n l) (min-eq_right h) ∙ ap (λ (t : List ℕ). replicate (length l) 0 ++ t) (drop_of_length-le l h) ∙ append_nil _
