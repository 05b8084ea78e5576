use Rattle.step.proofs.Taking.{takes}
use Rattle.step.proofs.picture.take.Goals as goal

pub returns : goal.returns
returns c = search takes
