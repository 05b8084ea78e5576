use Rattle.prop.proofs.Heads.{prop_in, truth_prop, truth_data}
use Rattle.prop.proofs.propositions.Propositions.is_truth.Goals as goal

pub returns-in_default : goal.returns-in_default
returns-in_default c = search truth_data

pub at-r-requires : goal.at-r-requires
at-r-requires c = search prop_in

pub returns : goal.returns
returns c = search truth_prop
