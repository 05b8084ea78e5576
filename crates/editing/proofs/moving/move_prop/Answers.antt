use Rattle.editing.proofs.Fields.{left_moves, right_moves, body_moves}
use Rattle.editing.proofs.moving.move_prop.Goals as goal

pub moved-x-requires : goal.moved-x-requires
moved-x-requires c = left_moves c.requires _ c.prop_shape-s.ensures

pub moved-y-requires : goal.moved-y-requires
moved-y-requires c = right_moves c.requires _ c.prop_shape-s.ensures

pub moved-z-requires : goal.moved-z-requires
moved-z-requires c = body_moves c.requires _ c.prop_shape-s.ensures
