use Rattle.rule.proofs.Lets.{let_begins}
use Rattle.rule.proofs.Going.{asking}
use native.Mathlib.Omega.{arith}
use Rattle.rule.proofs.let_in.begin.Goals as goal

pub returns : goal.returns
returns c = λ R. record { begins = λ rd. asking 3 (λ r. r.child1) _ c.term_record-r.ensures _ c.inner.ensures (let_begins rd c.requires.k_value c.requires.want_in) (omega arith); names = tt }
