use Rattle.step.proofs.Leaves.{goal_put}
use Rattle.step.proofs.node.put_goal.Goals as goal

pub returns : goal.returns
returns c = search goal_put
