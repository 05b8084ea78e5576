use Rattle.arena.proofs.Makings.{made_one}
use Rattle.arena.proofs.make.make_one.Goals as goal

pub returns : goal.returns
returns c = search made_one
