use Rattle.rule.proofs.Pairs.{pair_right}
use Rattle.rule.proofs.Going.{asking}
use mathlib.Core.Path.{refl}
use native.Mathlib.Omega.{arith}
use Rattle.rule.proofs.pair.right.Goals as goal

pub returns : goal.returns
returns c = λ R t. record { goes = λ R₀ a. asking 1 (λ r. r.child2) _ c.term_record-r.ensures _ (refl) (pair_right a) (omega arith); names = λ n. n }
