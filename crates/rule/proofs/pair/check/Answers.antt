use Rattle.rule.proofs.Pairs.{pair_begins}
use Rattle.rule.proofs.Going.{asking}
use native.Mathlib.Omega.{arith}
use Rattle.step.specs.declared.inference.Inference.TheVariants as inference
use Rattle.rule.proofs.pair.check.Goals as goal

pub returns : goal.returns
returns c = λ tree goals. record { begins = rw c.number.ensures (λ rd. asking 3 (λ r. r.child1) _ c.term_record-r.ensures _ c.inner.ensures (pair_begins rd c.requires.k_value c.args.wanted c.requires.room.1 _ c.held.ensures.count _ (rw c.held.ensures.room at c.in-Some.ensures)) (omega arith)); names = (inference.AndIntro, c.number.ensures) }
