use native.Mathlib.Omega.{arith}
use mathlib.Core.Path.{ap, sym, subst, ◌∙◌}
use Prim.Native.Nat.{◌≤◌}
use lib.Dec.{ltb}
use Rattle.layout.specs.declared.form.PropShape.{PropShape}
use Rattle.table.proofs.Guilts.{no_child, one_child, two_children}
use Rattle.table.proofs.link.prop_links_ok.Goals as goal

pub returns-in-0 : goal.returns-in-0
returns-in-0 c = let a = c.args in no_child (λ m. ltb m a.n) _ a.r (ap (λ (s : PropShape). s.children) (sym c.prop_shape-s.ensures) ∙ c.in-0.is)

pub returns-in-1 : goal.returns-in-1
returns-in-1 c = let a = c.args in one_child (λ m. ltb m a.n) _ a.r (ap (λ (s : PropShape). s.children) (sym c.prop_shape-s.ensures) ∙ c.in-1.is)

pub returns-in_default : goal.returns-in_default
returns-in_default c =
    let a = c.args in
    let s = c.prop_shape-s in
    two_children (λ m. ltb m a.n) _ a.r (subst (λ (s : PropShape). 2 ≤ s.children) s.ensures (omega arith))
