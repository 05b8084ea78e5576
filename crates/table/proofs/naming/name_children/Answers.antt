use mathlib.Core.Path.{ap, ◌∙◌}
use Rattle.layout.specs.declared.form.PropShape.{PropShape}
use Rattle.table.specs.Links.{hits, prop_children, prop_links}
use Rattle.table.proofs.Namings.{names_three, prop_hits}
use Rattle.table.proofs.naming.name_children.Goals as goal

pub returns : goal.returns
returns c =
    let a = c.args in
    let s = c.prop_shape-s in
    names_three (λ j. hits j (prop_links a.r)) c.name.ensures c.name-2.ensures c.name-3.ensures
    (λ j. prop_hits s.result.children a.r j ∙ ap (λ (k : PropShape). hits j (prop_children k.children a.r)) s.ensures)
