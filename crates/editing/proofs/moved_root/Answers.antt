use Rattle.editing.proofs.Rows.{root_moves}
use Rattle.editing.proofs.moved_root.Goals as goal

pub move_term-requires : goal.move_term-requires
move_term-requires c = search root_moves
