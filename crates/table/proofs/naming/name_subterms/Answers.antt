use mathlib.Core.Path.{ap, ◌∙◌}
use Rattle.layout.specs.declared.form.TermShape.{TermShape}
use Rattle.table.specs.Links.{hits, term_children, term_links}
use Rattle.table.proofs.Namings.{names_three, term_hits}
use Rattle.table.proofs.naming.name_subterms.Goals as goal

pub returns : goal.returns
returns c =
    let a = c.args in
    let s = c.term_shape-s in
    names_three (λ j. hits j (term_links a.r)) c.name.ensures c.name-2.ensures c.name-3.ensures
    (λ j. term_hits s.result.children a.r j ∙ ap (λ (k : TermShape). hits j (term_children k.children a.r)) s.ensures)
