use Rattle.arena.proofs.Makings.{leaf_form, leaf_links, made_constant}
use Rattle.arena.proofs.make.make_constant.Goals as goal

pub make_one-requires-clause-r_value : goal.make_one-requires-clause-r_value
make_one-requires-clause-r_value c = search leaf_form

pub make_one-requires-clause-r_value_2 : goal.make_one-requires-clause-r_value_2
make_one-requires-clause-r_value_2 c = leaf_links _ _ c.constant_kind-kind.ensures _

pub returns : goal.returns
returns c = search made_constant
