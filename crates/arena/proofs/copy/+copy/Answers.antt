use native.Mathlib.Omega.{arith}
use borrow.Author.Rules.{rules}
use Rattle.arena.proofs.Copies.{one_fits, copy_constant, first_deep, first_room, second_deep, first_arena, second_there, second_room, first_long, link_fits, second_long, copy_link, deeper_fits, body_deep, body_room, quant_fits, body_long, copy_quant, is_atomic, form_here, copy_atom}
use Rattle.prop.proofs.Views.{first_below, first_in, second_below, body_below, body_in}
use Rattle.arena.proofs.copy.+copy.Goals as goal

pub one_more-requires-clause-count_lt_most_records : goal.one_more-requires-clause-count_lt_most_records
one_more-requires-clause-count_lt_most_records g t c = search one_fits

pub copy-first-requires : goal.copy-first-requires
copy-first-requires g t c = λ κs h. (search first_below, (search rules, (search rules, (search first_in, (search first_deep, (search first_room, (search rules, search rules)))))))

pub copy-second-requires : goal.copy-second-requires
copy-second-requires g t c = λ κs h. (search second_below, (search rules, (search first_arena, (search second_there, (search second_deep, (search second_room, (search first_long, search rules)))))))

pub one_more-requires-in-2-to-4-clause-count_lt_most_records : goal.one_more-requires-in-2-to-4-clause-count_lt_most_records
one_more-requires-in-2-to-4-clause-count_lt_most_records g t c =
    let pre = c.requires in
    link_fits _ _ _ pre.arena pre.n_lt_count pre.by_index pre.most_records_in_bounds _ c.at-r.ensures (omega arith) (omega arith) _ _ _ _ c.copy-first.ensures _ _ c.copy-second.ensures

pub one_more-requires-in-2-to-4-clause-most_records_in_bounds : goal.one_more-requires-in-2-to-4-clause-most_records_in_bounds
one_more-requires-in-2-to-4-clause-most_records_in_bounds g t c =
    let pre = c.requires in
    second_long _ _ _ pre.arena pre.n_lt_count pre.by_index pre.most_records_in_bounds _ c.at-r.ensures (omega arith) (omega arith) _ _ _ _ c.copy-first.ensures _ _ c.copy-second.ensures

pub overflow_add-d : goal.overflow_add-d
overflow_add-d g t c = search deeper_fits

pub copy-body-requires : goal.copy-body-requires
copy-body-requires g t c = λ κs h. (search body_below, (search rules, (search rules, (search body_in, (search body_deep, (search body_room, (search rules, search rules)))))))

pub one_more-requires-in-5-to-6-clause-count_lt_most_records : goal.one_more-requires-in-5-to-6-clause-count_lt_most_records
one_more-requires-in-5-to-6-clause-count_lt_most_records g t c = search quant_fits

pub one_more-requires-in-5-to-6-clause-most_records_in_bounds : goal.one_more-requires-in-5-to-6-clause-most_records_in_bounds
one_more-requires-in-5-to-6-clause-most_records_in_bounds g t c = search body_long

pub change_atom-requires-clause-kind_value : goal.change_atom-requires-clause-kind_value
change_atom-requires-clause-kind_value g t c = search is_atomic

pub change_atom-requires-clause-r_value : goal.change_atom-requires-clause-r_value
change_atom-requires-clause-r_value g t c = search form_here

pub one_more-requires-in-7-to-255-clause-count_lt_most_records : goal.one_more-requires-in-7-to-255-clause-count_lt_most_records
one_more-requires-in-7-to-255-clause-count_lt_most_records g t c = search one_fits

pub returns-in-0-to-1 : goal.returns-in-0-to-1
returns-in-0-to-1 g t c = search copy_constant

pub returns-in-2-to-4 : goal.returns-in-2-to-4
returns-in-2-to-4 g t c =
    let pre = c.requires in
    copy_link _ _ _ pre.arena pre.n_lt_count pre.by_index pre.most_records_in_bounds _ c.at-r.ensures (omega arith) (omega arith) _ _ _ _ c.copy-first.ensures _ _ c.copy-second.ensures _ _ c.one_more-in-2-to-4.ensures

pub returns-in-5-to-6 : goal.returns-in-5-to-6
returns-in-5-to-6 g t c =
    let pre = c.requires in
    copy_quant _ _ _ pre.arena pre.n_lt_count pre.by_index pre.most_records_in_bounds _ c.at-r.ensures (omega arith) (omega arith) _ _ _ _ c.copy-body.ensures _ _ c.one_more-in-5-to-6.ensures

pub returns-in-7-to-255 : goal.returns-in-7-to-255
returns-in-7-to-255 g t c =
    let pre = c.requires in
    copy_atom _ _ _ pre.arena pre.n_lt_count pre.by_index pre.most_records_in_bounds _ c.at-r.ensures (omega arith) _ _ _ c.change_atom.ensures _ _ c.one_more-in-7-to-255.ensures
