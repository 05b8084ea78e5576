use mathlib.Core.Path.{refl}
use Rattle.arena.proofs.Makings.{over_all, copy_fits, made_put}
use Rattle.arena.proofs.make.put_in.Goals as goal

pub returns-in_err-nodes_of : goal.returns-in_err-nodes_of
returns-in_err-nodes_of c = rw c.from_residual.ensures (refl, search (over_all, c.in_err-nodes_of.was))

pub copy-requires-clause-by_index : goal.copy-requires-clause-by_index
copy-requires-clause-by_index c = search (copy_fits, c.in_ok-nodes_of.was)

pub returns : goal.returns
returns c = search (made_put, c.in_ok-nodes_of.was)
