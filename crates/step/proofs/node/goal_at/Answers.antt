use Rattle.step.proofs.Leaves.{goal_is}
use Rattle.step.proofs.node.goal_at.Goals as goal

pub returns : goal.returns
returns c = search goal_is
