-- A tree moved up by one record, to make room for a node above it. Assumes nothing.
use Rattle.std.specs.Prelude.{◌≡◌, List, ℕ, ◌+◌, ◌<◌, ◌≤◌, length}
use Rattle.numbers.specs.Records.{record_at, Same}

-- the records from `low` up to `high` stand one number higher; those below stay
pub record Shifted (low high : ℕ) (old new : List ℕ) : Type 0 where
  pub size : length new ≡ length old
  pub moved : (i : ℕ) → low ≤ i → i < high → record_at new (i + 1) ≡ record_at old i
  pub below : Same low old new
