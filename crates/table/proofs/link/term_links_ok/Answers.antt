use mathlib.Core.Path.{ap, ◌∙◌}
use Rattle.std.proofs.Math.Bool.{and_assoc}
use mathlib.Core.Bool.{◌&&◌}
use lib.Dec.{ltb}
use Rattle.layout.specs.declared.form.TermShape.{TermShape}
use Rattle.table.specs.Links.{all_links, term_children}
use Rattle.table.proofs.Guilts.{children_test}
use Rattle.table.proofs.link.term_links_ok.Goals as goal

pub returns : goal.returns
returns c =
    let a = c.args in
    let s = c.term_shape-s in
    let e = children_test (λ m. ltb a.t m && ltb m a.count) s.result.children a.r
    ∙ ap (λ (k : TermShape). all_links (λ m. ltb a.t m && ltb m a.count) (term_children k.children a.r)) s.ensures in
    cc (and_assoc c.child_ok.result c.child_ok-2.result c.child_ok-3.result)
