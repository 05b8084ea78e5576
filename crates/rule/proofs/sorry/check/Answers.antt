use Rattle.rule.proofs.Leaves.{sorry_fits}
use mathlib.Core.Path.{ap}
use Rattle.step.specs.declared.state.State.{State}
use Prim.Native.Nat.{◌+◌}
use native.Mathlib.Omega.{arith}
use Rattle.rule.proofs.sorry.check.Goals as goal

pub overflow_add-s : goal.overflow_add-s
overflow_add-s c = omega (arith, ap (λ (s : State). s.goals) c.inner-s.ensures, c.requires.goals_in_bounds.1)

pub returns-clause-begins : goal.returns-clause-begins
returns-clause-begins c = λ l ps among kind. record { begins = λ rd. sorry_fits rd _ among kind _ _ _ _ c.node-leaf.ensures c.put_node.ensures c.goal_of.ensures c.put_goal.ensures _ c.picture.ensures _ (ap (λ (s : State). record { records = s.records; goals = s.goals + 1; serials = s.serials; made = s.made; context = s.context; asked = s.asked }) c.inner-s.ensures); names = tt }
