use Rattle.rule.proofs.Pairs.{pairing_second}
use Rattle.rule.proofs.Going.{asking}
use mathlib.Core.Path.{refl}
use native.Mathlib.Omega.{arith}
use Rattle.rule.proofs.pair.second.Goals as goal

pub returns : goal.returns
returns c = λ R. record { goes = λ R₀ a. asking 1 (λ r. r.child2) _ c.term_record-r.ensures _ (refl) (pairing_second a) (omega arith); names = λ n. tt }
