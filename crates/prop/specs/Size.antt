-- A size counted with a budget. Assumes nothing.
use Rattle.std.specs.Prelude.{cond, ℕ, leb, Option, Some, None}

-- the size, where it is at most what is left
unfoldable pub counted : (size left : ℕ) → Option ℕ
counted size left = cond (leb size left) (Some size) None
