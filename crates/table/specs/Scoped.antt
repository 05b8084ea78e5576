-- A table whose names can be settled: the work room has the nearest quantifier above each of its propositions.
-- Assumes nothing.
use Rattle.std.specs.Prelude.{List, ℕ, ◌≤◌, length}
use Rattle.table.specs.Nearest.{Above}
use Rattle.table.specs.Passing.{Counted, WellLinked}
use Rattle.table.specs.Tests.{test_room}

pub record Scoped (l w : List ℕ) : Type 0 where
  pub counted : Counted l
  pub well_linked : WellLinked l
  pub above : Above l w
  pub room : test_room ≤ length w
