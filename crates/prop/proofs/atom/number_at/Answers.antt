use Rattle.prop.proofs.Places.{number_at_place}
use Rattle.prop.proofs.atom.number_at.Goals as goal

pub returns : goal.returns
returns c = search number_at_place
