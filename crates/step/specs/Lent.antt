-- The lent rooms as one value: what they hold, and that they stay the same rooms. Assumes nothing.
use Rattle.std.specs.Prelude.{◌≡◌, length}
use Rattle.step.specs.declared.lent.Lent.{Lent}
use Rattle.step.specs.Rooms.{Rooms, rooms}

-- what the rooms hold
abbrev pub held : Lent → Rooms
held l = rooms l.tree.now l.goals.now l.props.now l.work.now

-- each of them is still the room that was lent, and as long
pub record SameLent (old new : Lent) : Type 0 where
  pub tree : new.tree.ghost_name ≡ old.tree.ghost_name
  pub goals : new.goals.ghost_name ≡ old.goals.ghost_name
  pub props : new.props.ghost_name ≡ old.props.ghost_name
  pub work : new.work.ghost_name ≡ old.work.ghost_name
  pub tree_long : length new.tree.now ≡ length old.tree.now
  pub goals_long : length new.goals.now ≡ length old.goals.now
  pub props_long : length new.props.now ≡ length old.props.now
  pub work_long : length new.work.now ≡ length old.work.now
