use Rattle.rule.proofs.Applications.{argument_asks}
use Rattle.rule.proofs.Going.{asking}
use mathlib.Core.Path.{refl}
use native.Mathlib.Omega.{arith}
use Rattle.rule.proofs.application.argument.Goals as goal

pub returns : goal.returns
returns c = λ tree goals. record { goes = λ R₀ a. asking 1 (λ r. r.child2) _ c.term_record-r.ensures _ (refl) (argument_asks a _ c.held.ensures.count _ (rw c.held.ensures.room at c.in-Some.ensures)) (omega arith); names = λ n. tt }
