use Rattle.rule.proofs.Settles.{kind_compares, ended_synth, ended_so, ended_check, ended_checked}
use Rattle.rule.proofs.check.settle.Goals as goal

pub returns-in_default : goal.returns-in_default
returns-in_default c = λ z. ended_synth z c.in_default.is

pub returns-then-compares : goal.returns-then-compares
returns-then-compares c = λ z. ended_checked z c.in-Check.is _ c.hold.result (c.hold.ensures (ended_check z c.in-Check.is))

pub returns-else-compares : goal.returns-else-compares
returns-else-compares c = λ z. ended_so z (kind_compares _ _ _ c.term_record.ensures _ c.compares.ensures c.if-compares.false)
