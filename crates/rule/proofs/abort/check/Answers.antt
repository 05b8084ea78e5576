use Rattle.rule.proofs.Aborts.{abort_full, abort_begins}
use Rattle.rule.proofs.Going.{asking}
use Rattle.step.proofs.Moves.{made_more, made_few}
use native.Mathlib.Omega.{arith}
use Rattle.rule.proofs.abort.check.Goals as goal

pub returns-in_default : goal.returns-in_default
returns-in_default c = λ tree goals work. record { begins = λ rd. abort_full rd c.args.wanted c.requires.room.1 c.requires.k_value _ c.count-count.ensures _ c.left.ensures _ c.in_default.ensures _ c.at.ensures; names = tt }

pub returns : goal.returns
returns c = λ tree goals work. record { begins = λ rd. asking 3 (λ r. r.child1) _ c.term_record-r.ensures _ c.inner-s.ensures (abort_begins rd c.args.wanted c.requires.room.1 c.requires.k_value _ c.count-count.ensures _ c.left.ensures _ _ c.in-Some.ensures _ c.grown.ensures) (omega arith); names = tt }

pub grown-requires : goal.grown-requires
grown-requires c = (search made_more, search made_few)
