use Rattle.prop.proofs.Heads.{prop_in, over_one, over_other, over_data}
use Rattle.prop.proofs.propositions.Propositions.over.Goals as goal

pub returns-in_default : goal.returns-in_default
returns-in_default c = search over_data

pub at-r-requires : goal.at-r-requires
at-r-requires c = search prop_in

pub returns-then-r-kind : goal.returns-then-r-kind
returns-then-r-kind c = search over_one

pub returns-else-r-kind : goal.returns-else-r-kind
returns-else-r-kind c = search over_other
