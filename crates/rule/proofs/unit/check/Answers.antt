use Rattle.rule.proofs.Leaves.{unit_fits, unit_other}
use Rattle.rule.proofs.unit.check.Goals as goal

pub returns-then-is_truth : goal.returns-then-is_truth
returns-then-is_truth c = λ goals work. record { begins = λ rd. let says = rw c.held.ensures.room at c.is_truth.ensures in search unit_fits; names = tt }

pub returns-else-is_truth : goal.returns-else-is_truth
returns-else-is_truth c = λ goals work. record { begins = λ rd. unit_other rd c.args.wanted c.requires.room.1 c.requires.k_value _ (rw c.held.ensures.room at c.is_truth.ensures) c.if-is_truth.false _ c.at.ensures; names = tt }
