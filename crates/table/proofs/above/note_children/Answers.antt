use Rattle.table.proofs.Chains.{body_fits, left_fits, right_fits, children_noted}
use Rattle.table.proofs.above.note_children.Goals as goal

pub note-requires : goal.note-requires
note-requires c = search body_fits

pub note-requires-2 : goal.note-requires-2
note-requires-2 c = search left_fits

pub note-requires-3 : goal.note-requires-3
note-requires-3 c =
    right_fits _ _ c.prop_shape-s.ensures _ _ c.requires _ c.note.ensures _ _ c.note-2.ensures

pub returns : goal.returns
returns c = search children_noted
