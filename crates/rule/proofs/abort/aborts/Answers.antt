use Rattle.rule.proofs.Aborts.{aborts_data, aborts_by}
use Rattle.step.specs.declared.inference.Inference.TheVariants as inference
use Rattle.rule.proofs.abort.aborts.Goals as goal

pub returns-in_default : goal.returns-in_default
returns-in_default c = λ l goals ps work. record { goes = λ R₀ a. search aborts_data; names = λ n. tt }

pub returns : goal.returns
returns c = λ l goals ps work. record { goes = λ R₀ a. (rw c.number.ensures at c.by.ensures l goals ps work).goes R₀ (aborts_by a _ c.answered.ensures _ c.in-Proposition.is); names = λ n. (c.by.ensures l goals ps work).names (inference.FalsumElim, c.number.ensures) }
