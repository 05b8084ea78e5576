use mathlib.Core.Bool.{and_assoc}
use Rattle.prop.proofs.Alike.{atoms_yes, atoms_no}
use Rattle.prop.proofs.compare.atoms.Goals as goal

pub returns-then-r-s : goal.returns-then-r-s
returns-then-r-s c = atoms_yes _ (simp and_assoc at c.if-r-s.true)

pub returns-else-r-s : goal.returns-else-r-s
returns-else-r-s c = atoms_no _ (simp and_assoc at c.if-r-s.false)
