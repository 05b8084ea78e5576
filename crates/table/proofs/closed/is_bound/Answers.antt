use mathlib.Core.Path.{◌∙◌}
use Rattle.table.proofs.Chains.{some_bound}
use Rattle.table.proofs.closed.is_bound.Goals as goal

pub returns : goal.returns
returns c = c.is_some.ensures ∙ some_bound _ _ _ c.settle.ensures
