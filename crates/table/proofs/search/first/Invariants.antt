use Rattle.std.proofs.Common.{◌≡◌, Bool, ℕ, ◌<◌, ◌-◌}
use Rattle.table.specs.Reading.{first, first_from}
use Rattle.table.proofs.search.first.Given as goal

abbrev pub invariant-loop-i : goal.invariant-loop-i
invariant-loop-i g l = (t : ℕ → Bool) → ((i : ℕ) (b : Bool) → i < l.n → goal.F-post g l.test i b → b ≡ t i) → first t l.n ≡ first_from t l.i (l.n - l.i)
