use Rattle.rule.proofs.Applications.{concludes_by}
use Rattle.step.specs.declared.inference.Inference.TheVariants as inference
use Rattle.rule.proofs.application.concludes.Goals as goal

pub returns : goal.returns
returns c = λ l goals ps work t. record { goes = λ R₀ a. (rw (c.number.ensures, c.proved.ensures) at c.by.ensures l goals ps work).goes R₀ (concludes_by a); names = λ n. (c.by.ensures l goals ps work).names (inference.ImplElim, c.number.ensures) }
