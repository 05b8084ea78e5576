use Rattle.rule.proofs.Projections.{part_other, part_first, part_second}
use borrow.Author.Tests.{eq-eqb, ne_eqb}
use Rattle.rule.proofs.projection.part.Goals as goal
use Rattle.rule.proofs.projection.part.Goals.{then-r-eq2, else-r-eq2}

pub returns-in_default : goal.returns-in_default
returns-in_default c = λ goals work. record { goes = λ R₀ a. let is = rw c.held.ensures.room at c.in_default.ensures in search part_other; names = λ n. tt }

pub returns : goal.returns
returns c = λ goals work. record {
  goes = λ R₀ a. (rw c.proved.ensures at c.by.ensures c.args.file.now goals _ work).goes R₀ (elim c.if-r-eq2.branch [
    | then-r-eq2 w ↦ rw (c.number.ensures, w.rule-is) (part_first a _ c.held.ensures.count _ (rw c.held.ensures.room at c.in-Some.ensures) _ c.term_record-r.ensures (eq-eqb _ 2 w.if-r-eq2.true))
    | else-r-eq2 w ↦ rw (c.number.ensures, w.rule-is) (part_second a _ c.held.ensures.count _ (rw c.held.ensures.room at c.in-Some.ensures) _ c.term_record-r.ensures (ne_eqb _ 2 w.if-r-eq2.false))
  ]);
  names = λ n. (c.by.ensures c.args.file.now goals work work).names (_, c.number.ensures);
}
