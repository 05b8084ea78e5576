-- A room whose first bytes are zeros.
-- Assumes nothing.
use Rattle.std.specs.Prelude.{List, ◌++◌, ℕ, min, length, drop, replicate}

-- zeros in the first n bytes, or in all where there are fewer; the rest as it was
abbrev pub cleared : ℕ → List ℕ → List ℕ
cleared n l = replicate (min n (length l)) 0 ++ drop n l
