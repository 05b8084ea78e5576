use Rattle.rule.proofs.Applications.{application_begins}
use Rattle.rule.proofs.Going.{asking}
use native.Mathlib.Omega.{arith}
use Rattle.rule.proofs.application.synthesize.Goals as goal

pub returns : goal.returns
returns c = λ R. record { begins = λ rd. asking 3 (λ r. r.child1) _ c.term_record-r.ensures _ c.inner.ensures (application_begins rd c.requires.k_value) (omega arith); names = tt }
