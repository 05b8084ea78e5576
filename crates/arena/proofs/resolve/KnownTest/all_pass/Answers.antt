use Rattle.prop.proofs.Places.{all_pass}
use Rattle.arena.proofs.resolve.KnownTest.all_pass.Goals as goal

pub returns : goal.returns
returns c = search all_pass
