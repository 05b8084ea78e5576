use mathlib.Core.Path.{subst⁻¹}
use Rattle.table.specs.declared.Purpose.{Purpose}
use Rattle.table.specs.Links.{hits, heads}
use Rattle.table.specs.Naming.{Names}
use Rattle.table.proofs.Namings.{names_none}
use Rattle.table.proofs.naming.by_header.Goals as goal

pub returns-in-Filling : goal.returns-in-Filling
unfolding hits
returns-in-Filling c =
    let a = c.args in
    subst⁻¹ (λ (q : Purpose). Names 0 a.p (λ j. hits j (heads q a.file.now)) a.work.now a.work.now) c.in-Filling.is (names_none 0 a.p a.work.now)
