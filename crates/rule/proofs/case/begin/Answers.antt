use Rattle.rule.proofs.Cases.{case_begins}
use Rattle.rule.proofs.Going.{asking}
use native.Mathlib.Omega.{arith}
use Rattle.rule.proofs.case.begin.Goals as goal

pub returns : goal.returns
returns c = λ R. record { begins = λ rd. asking 3 (λ r. r.child1) _ c.term_record-r.ensures _ c.inner.ensures (case_begins rd c.requires.k_value c.requires.want_in) (omega arith); names = tt }
