use Rattle.arena.proofs.Resolves.{known_name}
use Rattle.arena.proofs.resolve.Known.is_known.Goals as goal

pub returns-in-Free : goal.returns-in-Free
returns-in-Free c = search known_name
