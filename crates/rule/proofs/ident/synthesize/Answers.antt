use Rattle.rule.proofs.Leaves.{ident_unknown, ident_has}
use Rattle.rule.proofs.ident.synthesize.Goals as goal

pub returns-in_default : goal.returns-in_default
returns-in_default c = λ goals ps. record { begins = λ rd. let is = c.in_default.ensures in search ident_unknown; names = tt }

pub returns : goal.returns
returns c = λ goals ps. record { begins = λ rd. let is = c.in-Some.ensures in search ident_has; names = tt }
