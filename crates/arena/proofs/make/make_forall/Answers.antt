use mathlib.Core.Path.{refl}
use Rattle.arena.proofs.Makings.{over_more, none_over, copy_fits, top_fits, top_long, made_forall}
use Rattle.arena.proofs.make.make_forall.Goals as goal

pub returns-in_err-k : goal.returns-in_err-k
returns-in_err-k c = rw c.from_residual.ensures (refl, search (over_more, c.in_err-k.was))

pub returns-then-k-left : goal.returns-then-k-left
returns-then-k-left c = (refl, search (none_over, c.in_ok-k.was))

pub copy-body-requires-clause-by_index : goal.copy-body-requires-clause-by_index
copy-body-requires-clause-by_index c = search (copy_fits, c.in_ok-k.was)

pub one_more-requires-clause-count_lt_most_records : goal.one_more-requires-clause-count_lt_most_records
one_more-requires-clause-count_lt_most_records c = search (top_fits, c.in_ok-k.was)

pub one_more-requires-clause-most_records_in_bounds : goal.one_more-requires-clause-most_records_in_bounds
one_more-requires-clause-most_records_in_bounds c = search (top_long, c.in_ok-k.was)

pub returns : goal.returns
returns c = search (made_forall, c.in_ok-k.was)
