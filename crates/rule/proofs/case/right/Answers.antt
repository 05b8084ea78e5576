use Rattle.rule.proofs.Cases.{right_asks}
use Rattle.rule.proofs.Going.{asking}
use mathlib.Core.Path.{refl}
use native.Mathlib.Omega.{arith}
use Rattle.rule.proofs.case.right.Goals as goal

pub returns : goal.returns
returns c = λ tree goals ps. record { goes = λ R₀ a. asking 1 (λ r. r.child3) _ c.term_record-r.ensures _ (refl) (right_asks a _ c.term_record-r.ensures c.enter_fresh-s.ensures) (omega arith); names = λ n. tt }
