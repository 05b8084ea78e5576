use Rattle.prop.proofs.Occurs.{holds_at_place}
use Rattle.prop.proofs.atom.is_at.Goals as goal

pub returns : goal.returns
returns c = search holds_at_place
