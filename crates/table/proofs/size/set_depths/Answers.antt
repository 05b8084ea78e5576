use mathlib.Core.Path.{refl, ◌∙◌}
use Rattle.table.proofs.Heights.{children_within, children_deepened}
use Rattle.table.proofs.size.set_depths.Goals as goal

pub set_depth-requires : goal.set_depth-requires
set_depth-requires c =
    let a = c.args in
    (children_within a.r c.term_shape-s.result c.term_shape-s.ensures a.work.now a.work.now c.requires refl).0

pub set_depth-requires-2 : goal.set_depth-requires-2
set_depth-requires-2 c =
    let a = c.args in
    let one = c.set_depth in
    (children_within a.r c.term_shape-s.result c.term_shape-s.ensures a.work.now one.new.work c.requires one.ensures.size).1

pub set_depth-requires-3 : goal.set_depth-requires-3
set_depth-requires-3 c =
    let a = c.args in
    let one = c.set_depth in
    let two = c.set_depth-2 in
    (children_within a.r c.term_shape-s.result c.term_shape-s.ensures a.work.now two.new.work c.requires (two.ensures.size ∙ one.ensures.size)).2

pub returns : goal.returns
returns c =
    let one = c.set_depth in
    let two = c.set_depth-2 in
    let three = c.set_depth-3 in
    children_deepened c.args.r c.term_shape-s.result c.term_shape-s.ensures c.args.d _ one.new.work two.new.work _ one.ensures two.ensures three.ensures
