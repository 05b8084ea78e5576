use Rattle.editing.proofs.Edits.{both_tested}
use Rattle.editing.proofs.Rows.{joined_inside, edited_put}
use Rattle.editing.proofs.edit.Goals as goal

pub join-requires : goal.join-requires
join-requires c = let h = both_tested c.requires.fillable in
    record {
      counted = h.0;
      counted_2 = h.1.0;
      directed = h.1.1;
      table_len = c.requires.table_len;
    }

pub moved_root-root-requires : goal.moved_root-root-requires
moved_root-root-requires c =
    let h = both_tested c.requires.fillable in
    record { counted = h.0; counted_2 = h.1.0; directed = h.1.1 }

pub put_term-requires : goal.put_term-requires
put_term-requires c =
    let h = c.requires.fillable in
    joined_inside (c.join.ensures _ h.inside) h.inside (both_tested h).1.0.some

pub returns : goal.returns
returns c =
    edited_put c.join.ensures _ c.requires.fillable.inside _ c.moved_root-root.ensures _ c.put_term.ensures
