use Rattle.prop.proofs.Places.{kind_at_place}
use Rattle.prop.proofs.atom.kind_at.Goals as goal

pub returns : goal.returns
returns c = search kind_at_place
