use Rattle.rule.proofs.Going.{ends_with}
use mathlib.Core.Path.{refl, ap, sym, ◌∙◌}
use mathlib.Core.List.{[]}
use Rattle.numbers.specs.Limits.{none}
use Rattle.step.specs.Trees.{node_rec}
use Rattle.rule.proofs.next.by.Goals as goal

pub returns : goal.returns
returns c = rw c.answered-done.ensures (λ l goals ps work. record { goes = λ R₀ a. ends_with a [] a.doing _ refl _ (rw c.answered-done.ensures at c.node_record-top.ensures ∙ ap (node_rec c.args.rule c.args.f.term.0 _ none none) (sym a.holds)) _ c.put_node.ensures; names = λ n. tt })
