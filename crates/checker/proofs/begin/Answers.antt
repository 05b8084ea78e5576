use mathlib.Core.Path.{sym, ◌∙◌}
use Rattle.rule.proofs.Settles.{begun_check}
use Rattle.checker.proofs.Turns.{begins_as}
use Rattle.checker.proofs.begin.Goals as goal

pub returns-in-Synth-clause-done : goal.returns-in-Synth-clause-done
returns-in-Synth-clause-done c = begins_as c.in-Synth.is (c.begin.ensures _)

pub returns-in-Check-clause-done : goal.returns-in-Check-clause-done
returns-in-Check-clause-done c = begins_as c.in-Check.is c.begin-in-Check.ensures

pub begin-requires-in-Check-clause-k_value : goal.begin-requires-in-Check-clause-k_value
begin-requires-in-Check-clause-k_value c = (begun_check _ _ _ (sym c.in-Check.is ∙ c.requires.begun)).0
