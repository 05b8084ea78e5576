use Rattle.std.proofs.lemmas.Result.{err_from_is_err_and}
use Rattle.prop.proofs.Alike.{type_in}
use Rattle.arena.proofs.Resolves.{ok_or_err, same_datatype, name_unknown, too_many, deep_fits, copy_fits, name_known}
use Rattle.arena.proofs.resolve.resolve.Goals as goal

pub all_known-requires-clause-n_lt_count : goal.all_known-requires-clause-n_lt_count
all_known-requires-clause-n_lt_count c = search type_in

pub returns-then-not-all_known : goal.returns-then-not-all_known
returns-then-not-all_known c = search name_unknown

pub nodes_of-requires : goal.nodes_of-requires
nodes_of-requires c = search type_in

pub returns-in_default : goal.returns-in_default
returns-in_default c = search same_datatype

pub copy-made-requires-clause-n_lt_count : goal.copy-made-requires-clause-n_lt_count
copy-made-requires-clause-n_lt_count c = search type_in

pub copy-made-requires-clause-n_bound : goal.copy-made-requires-clause-n_bound
copy-made-requires-clause-n_bound c = search (deep_fits, type_in)

pub returns-in_err-ok_or : goal.returns-in_err-ok_or
returns-in_err-ok_or c =
    let p = err_from_is_err_and c.from_residual.result c.from_residual.ensures.1 in
    let no = ok_or_err c.in_err-ok_or.ensures.value in
    rw (p.1, p.2, no.1) (too_many _ _ _ _ _ _ c.requires.arena _ c.in-Proposition.is _ c.all_known.ensures c.if-not-all_known.false _ c.nodes_of.ensures no.0)

pub copy-made-requires-clause-by_index : goal.copy-made-requires-clause-by_index
copy-made-requires-clause-by_index c = copy_fits _ _ _ _ c.nodes_of.ensures _ c.in_ok-ok_or.ensures.ok_part _ c.requires.left_bound

pub returns : goal.returns
returns c = name_known _ _ _ _ _ _ c.requires.arena _ c.in-Proposition.is _ c.all_known.ensures c.if-not-all_known.false _ c.nodes_of.ensures _ c.in_ok-ok_or.ensures.ok_part _ _ c.copy-made.ensures
