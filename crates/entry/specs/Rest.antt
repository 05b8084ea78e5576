-- A room after its unused rest was emptied. Assumes nothing.
use Rattle.std.specs.Prelude.{◌≡◌, List, ℕ, ◌*◌, ◌<◌, length, get_or}
use Rattle.numbers.specs.Rooms.{cleared}
use Rattle.step.specs.Rooms.{Rooms}
use Rattle.entry.specs.Mark.{tree_bytes, goals_bytes, props_bytes, work_bytes}

-- the first `used` bytes are kept; if they too were zeros, all the first `size` bytes would be
pub record Trimmed (used size : ℕ) (old new : List ℕ) : Type 0 where
  pub kept : (i : ℕ) → i < used → get_or new i 0 ≡ get_or old i 0
  pub rest : cleared used new ≡ cleared size old
  pub long : length new ≡ length old

pub record Rest (records holes count : ℕ) (R R' : Rooms) : Type 0 where
  pub tree : Trimmed (16 * records) tree_bytes R.tree R'.tree
  pub goals : Trimmed (8 * holes) goals_bytes R.goals R'.goals
  pub props : Trimmed (16 * count) props_bytes R.props R'.props
  pub work : R'.work ≡ cleared work_bytes R.work
