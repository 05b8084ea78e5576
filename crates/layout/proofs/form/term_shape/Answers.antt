use native.Mathlib.Omega.{arith}
use mathlib.Core.Path.{ap, sym, ◌∙◌}
use Rattle.layout.proofs.Strange.{strange_term}
use Rattle.layout.specs.Form.{term_shape}
use Rattle.layout.specs.File.{kind_of, kinds}
use Rattle.layout.proofs.form.term_shape.Goals as goal

pub returns-in-0 : goal.returns-in-0
unfolding term_shape kind_of kinds
returns-in-0 c = cc

pub returns-in-1 : goal.returns-in-1
unfolding term_shape kind_of kinds
returns-in-1 c = cc

pub returns-in-2 : goal.returns-in-2
unfolding term_shape kind_of kinds
returns-in-2 c = cc

pub returns-in-3 : goal.returns-in-3
unfolding term_shape kind_of kinds
returns-in-3 c = cc

pub returns-in-4 : goal.returns-in-4
unfolding term_shape kind_of kinds
returns-in-4 c = cc

pub returns-in-5 : goal.returns-in-5
unfolding term_shape kind_of kinds
returns-in-5 c = cc

pub returns-in-6 : goal.returns-in-6
unfolding term_shape kind_of kinds
returns-in-6 c = cc

pub returns-in-7 : goal.returns-in-7
unfolding term_shape kind_of kinds
returns-in-7 c = cc

pub returns-in-8 : goal.returns-in-8
unfolding term_shape kind_of kinds
returns-in-8 c = cc

pub returns-in-9 : goal.returns-in-9
unfolding term_shape kind_of kinds
returns-in-9 c = cc

pub returns-in-10 : goal.returns-in-10
unfolding term_shape kind_of kinds
returns-in-10 c = cc

pub returns-in-11 : goal.returns-in-11
unfolding term_shape kind_of kinds
returns-in-11 c = cc

pub returns-in-12 : goal.returns-in-12
unfolding term_shape kind_of kinds
returns-in-12 c = cc

pub returns-in-13 : goal.returns-in-13
unfolding term_shape kind_of kinds
returns-in-13 c = cc

pub returns-in-14-to-255 : goal.returns-in-14-to-255
unfolding term_shape
returns-in-14-to-255 c = c.term_row-in-14-to-255.ensures ∙ ap term_shape (sym (strange_term c.args.kind (omega arith)))
