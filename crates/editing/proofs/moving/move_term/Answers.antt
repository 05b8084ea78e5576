use Rattle.editing.proofs.Fields.{type_moves, first_moves, second_moves, third_moves}
use Rattle.editing.proofs.moving.move_term.Goals as goal

pub moved-typ-requires : goal.moved-typ-requires
moved-typ-requires c = search type_moves

pub moved-x-requires : goal.moved-x-requires
moved-x-requires c = first_moves c.requires _ c.term_shape-s.ensures

pub moved-y-requires : goal.moved-y-requires
moved-y-requires c = second_moves c.requires _ c.term_shape-s.ensures

pub moved-z-requires : goal.moved-z-requires
moved-z-requires c = third_moves c.requires _ c.term_shape-s.ensures
