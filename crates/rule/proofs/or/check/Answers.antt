use Rattle.rule.proofs.Ors.{or_other, or_first, or_second}
use Rattle.rule.proofs.Going.{asking}
use native.Mathlib.Omega.{arith}
use borrow.Author.Tests.{eq-eqb, ne_eqb}
use Rattle.rule.proofs.or.check.Goals as goal
use Rattle.rule.proofs.or.check.Goals.{then-r-eq7, else-r-eq7}

pub returns-in_default : goal.returns-in_default
returns-in_default c = λ tree goals work. record { begins = λ rd. or_other rd c.args.wanted c.requires.room.1 c.requires.bound _ c.held.ensures.count (rw c.held.ensures.room at c.in_default.ensures) _ c.at.ensures; names = tt }

pub returns : goal.returns
returns c = λ tree goals work. record {
  begins = λ rd. elim c.if-r-eq7.branch [
    | then-r-eq7 w ↦ rw (c.number.ensures, w.rule-is) (asking 3 (λ r. r.child1) _ c.term_record-r.ensures _ c.inner.ensures (or_first rd c.args.wanted c.requires.room.1 c.requires.bound _ c.held.ensures.count _ (rw c.held.ensures.room at c.in-Some.ensures) _ c.term_record-r.ensures (eq-eqb _ 7 w.if-r-eq7.true)) (omega arith))
    | else-r-eq7 w ↦ rw (c.number.ensures, w.rule-is) (asking 3 (λ r. r.child1) _ c.term_record-r.ensures _ c.inner.ensures (or_second rd c.args.wanted c.requires.room.1 c.requires.bound _ c.held.ensures.count _ (rw c.held.ensures.room at c.in-Some.ensures) _ c.term_record-r.ensures (ne_eqb _ 7 w.if-r-eq7.false)) (omega arith))
  ];
  names = (_, c.number.ensures);
}
