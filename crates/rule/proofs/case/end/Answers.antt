use Rattle.step.proofs.Refusing.{reason_number}
use mathlib.Core.Path.{refl, ap}
use mathlib.Core.Bool.{not}
use Rattle.rule.proofs.Cases.{case_apart, case_data, case_done}
use Rattle.rule.proofs.case.end.Goals as goal

pub returns-then-not-arms_agree : goal.returns-then-not-arms_agree
returns-then-not-arms_agree c = λ goals work. record { goes = λ R₀ a. search case_apart; names = λ n. tt }

pub returns-in_default : goal.returns-in_default
returns-in_default c = λ goals work. record { goes = λ R₀ a. case_data a _ c.arms_agree.ensures (ap not c.if-not-arms_agree.false) _ c.in_default.is _ (reason_number _ _ _ _ c.either-why.ensures) _ c.at-in_default.ensures; names = λ n. tt }

pub returns : goal.returns
returns c = rw c.answered.ensures (λ goals work. record { goes = λ R₀ a. case_done a _ c.arms_agree.ensures (ap not c.if-not-arms_agree.false) _ c.in-Proposition.is _ c.node-top.ensures _ c.put_node.ensures _ refl; names = λ n. tt })
