use Rattle.rule.proofs.Cases.{case_other, left_asks}
use Rattle.rule.proofs.Going.{asking}
use Rattle.step.proofs.Refusing.{reason_number}
use mathlib.Core.Path.{refl}
use native.Mathlib.Omega.{arith}
use Rattle.rule.proofs.case.left.Goals as goal

pub returns-in_default : goal.returns-in_default
returns-in_default c = λ tree goals. record { goes = λ R₀ a. case_other a _ c.held.ensures.count (rw c.held.ensures.room at c.in_default.ensures) _ c.term_record-r.ensures _ (reason_number _ _ _ _ c.either-why.ensures) _ c.at.ensures; names = λ n. tt }

pub returns : goal.returns
returns c = λ tree goals. record { goes = λ R₀ a. asking 2 (λ r. r.child2) _ c.term_record-r.ensures _ (refl) (left_asks a _ c.held.ensures.count _ (rw c.held.ensures.room at c.in-Some.ensures) _ c.term_record-r.ensures c.enter_fresh-s.ensures) (omega arith); names = λ n. tt }
