use mathlib.Core.Path.{sym}
use Rattle.rule.proofs.Settles.{kind_compares, begun_synth, begun_so}
use Rattle.rule.proofs.check.begun_as.Goals as goal

pub returns-then-compares : goal.returns-then-compares
returns-then-compares c = sym (begun_synth _ _ (kind_compares _ _ _ c.term_record.ensures _ c.compares.ensures c.if-compares.true))

pub returns-else-compares : goal.returns-else-compares
returns-else-compares c = sym (begun_so _ (kind_compares _ _ _ c.term_record.ensures _ c.compares.ensures c.if-compares.false))
