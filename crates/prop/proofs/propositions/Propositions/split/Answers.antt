use Rattle.prop.proofs.Heads.{prop_in, split_both, split_other, split_data}
use Rattle.prop.proofs.propositions.Propositions.split.Goals as goal

pub returns-in_default : goal.returns-in_default
returns-in_default c = search split_data

pub at-r-requires : goal.at-r-requires
at-r-requires c = search prop_in

pub returns-then-r-kind : goal.returns-then-r-kind
returns-then-r-kind c = search split_both

pub returns-else-r-kind : goal.returns-else-r-kind
returns-else-r-kind c = search split_other
