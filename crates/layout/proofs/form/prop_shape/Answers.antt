use native.Mathlib.Omega.{arith}
use mathlib.Core.Path.{ap, sym, ◌∙◌}
use Rattle.layout.proofs.Strange.{strange_prop}
use Rattle.layout.specs.Form.{prop_shape}
use Rattle.layout.specs.File.{prop_kind, prop_kinds}
use Rattle.layout.proofs.form.prop_shape.Goals as goal

pub returns-in-0 : goal.returns-in-0
unfolding prop_shape prop_kind prop_kinds
returns-in-0 c = cc

pub returns-in-1 : goal.returns-in-1
unfolding prop_shape prop_kind prop_kinds
returns-in-1 c = cc

pub returns-in-2 : goal.returns-in-2
unfolding prop_shape prop_kind prop_kinds
returns-in-2 c = cc

pub returns-in-3 : goal.returns-in-3
unfolding prop_shape prop_kind prop_kinds
returns-in-3 c = cc

pub returns-in-4 : goal.returns-in-4
unfolding prop_shape prop_kind prop_kinds
returns-in-4 c = cc

pub returns-in-5 : goal.returns-in-5
unfolding prop_shape prop_kind prop_kinds
returns-in-5 c = cc

pub returns-in-6 : goal.returns-in-6
unfolding prop_shape prop_kind prop_kinds
returns-in-6 c = cc

pub returns-in-7 : goal.returns-in-7
unfolding prop_shape prop_kind prop_kinds
returns-in-7 c = cc

pub returns-in-8-to-255 : goal.returns-in-8-to-255
unfolding prop_shape
returns-in-8-to-255 c = c.prop_row-in-8-to-255.ensures ∙ ap prop_shape (sym (strange_prop c.args.kind (omega arith)))
