use Rattle.rule.proofs.Functions.{closes_by}
use mathlib.Core.Path.{refl}
use Rattle.rule.proofs.function.closes.Goals as goal

pub returns : goal.returns
returns c = rw c.answered-done.ensures (λ l goals ps work. record { goes = λ R₀ a. closes_by a _ refl _ (rw c.answered-done.ensures at c.node_record-top.ensures) _ c.put_node.ensures; names = λ n. tt })
