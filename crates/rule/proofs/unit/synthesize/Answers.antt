use Rattle.rule.proofs.Leaves.{true_full, true_has}
use Rattle.step.proofs.Moves.{made_more, made_few}
use Rattle.rule.proofs.unit.synthesize.Goals as goal

pub returns-in_default : goal.returns-in_default
returns-in_default c = λ goals work. record { begins = λ rd. let is = c.in_default.ensures in search true_full; names = tt }

pub returns : goal.returns
returns c = λ goals work. record { begins = λ rd. let is = c.in-Some.ensures in search true_has; names = tt }

pub grown-requires : goal.grown-requires
grown-requires c = (search made_more, search made_few)
