use Rattle.prop.proofs.Places.{all_changed}
use Rattle.arena.proofs.Copies.{atom_changed, atom_of_one}
use Rattle.arena.proofs.copy.change_atom.Goals as goal

pub returns-then-r-le1 : goal.returns-then-r-le1
returns-then-r-le1 g c = search atom_of_one

pub returns : goal.returns
returns g c =
    let pre = c.requires in
    atom_changed _ _ pre.kind_value pre.r_value _
    (all_changed (g.C.Change.changed c.args.change c.args.d) _ _ _ _ _ _ _ _ _ _
    c.parameter_at.ensures c.parameter_at-2.ensures c.parameter_at-3.ensures c.parameter_at-4.ensures
    c.apply-p.ensures c.apply-q.ensures c.apply-s.ensures c.apply-t.ensures
    c.with_parameters-2.ensures)
