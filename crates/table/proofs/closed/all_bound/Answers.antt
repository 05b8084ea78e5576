use borrow.Author.Rules.{rules}
use mathlib.Core.Path.{◌∙◌}
use lib.ListN.{take}
use Rattle.std.proofs.Common.{tests}
use Rattle.std.proofs.lemmas.Iterator.{YieldsList-from_slice, YieldsList-from_take}
use Rattle.std.proofs.lemmas.Iterator.Search.{all_from_yields_List}
use Rattle.rules.specs.Prop.{named_not}
use Rattle.table.specs.Reading.{binders, settled}
use Rattle.table.proofs.Chains.{all_params}
use Rattle.table.proofs.closed.all_bound.Goals as goal

pub returns : goal.returns
returns c =
    let a = c.args in
    all_from_yields_List (λ x. named_not (settled x 0 (binders a.scopes.now a.n.0))) _ _ _ c.all.ensures.ran (YieldsList-from_take a.r.count (YieldsList-from_slice a.r.parameters cc) cc) (λ x b q k. search (rules, tests))
    ∙ all_params named_not (λ x. settled x 0 (binders a.scopes.now a.n.0)) (take a.r.count a.r.parameters)
