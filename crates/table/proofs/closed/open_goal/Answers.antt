use mathlib.Core.Path.{ap, ◌∙◌}
use Rattle.rules.specs.Prop.{closed}
use Rattle.table.specs.Reading.{prop_at}
use Rattle.table.proofs.Chains.{no_goal, goal_shut, goal_open}
use Rattle.table.proofs.closed.open_goal.Goals as goal

pub returns-in-Filling : goal.returns-in-Filling
returns-in-Filling c = search no_goal

pub returns-then-is_closed : goal.returns-then-is_closed
returns-then-is_closed c =
    goal_shut _ _ c.in-Check.is _ c.expected_field-e.ensures _ (c.is_closed.ensures ∙ ap (λ l. closed (prop_at l c.expected_field-e.result.0)) c.of.ensures) c.if-is_closed.true

pub returns-else-is_closed : goal.returns-else-is_closed
returns-else-is_closed c =
    goal_open _ _ c.in-Check.is _ c.expected_field-e.ensures _ (c.is_closed.ensures ∙ ap (λ l. closed (prop_at l c.expected_field-e.result.0)) c.of.ensures) c.if-is_closed.false
