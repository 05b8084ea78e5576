use native.Mathlib.Omega.{arith}
use mathlib.Core.Logic.{inl, inr}
use Rattle.rule.proofs.Dispatch.{kind_other}
use Rattle.step.proofs.Bounds.{ready_inner, ready_tree, ready_goals, ready_goal}
use mathlib.Core.Path.{refl}
use Rattle.rule.proofs.check.begin.Goals as goal
use Rattle.rule.proofs.check.begin.Goals.{in_default-via-then-this-lt6, in_default-via-else-this-lt6+else-this-lt9}

pub returns-in_default : goal.returns-in_default
returns-in_default c = record { begins = λ rd. absurd (kind_other c.requires.ready c.requires.k_value _ c.term_record.ensures (λ e. omega arith) (λ e. omega arith) (λ e. omega arith) (λ e. omega arith) (λ e. omega arith) (λ e. omega arith) (λ e. omega arith) (elim c.in_default.branch [ in_default-via-then-this-lt6 w ↦ inl (omega arith) | in_default-via-else-this-lt6+else-this-lt9 w ↦ inr (omega arith) ])); names = tt }

pub check-requires-in-11-clause-place : goal.check-requires-in-11-clause-place
check-requires-in-11-clause-place c = (ready_tree c.requires.ready, ready_inner c.requires.ready c.args.st refl)

pub check-requires-in-13-clause-place : goal.check-requires-in-13-clause-place
check-requires-in-13-clause-place c = (ready_tree c.requires.ready, ready_inner c.requires.ready c.args.st refl)

pub check-requires-in-13-clause-goals_in_bounds : goal.check-requires-in-13-clause-goals_in_bounds
check-requires-in-13-clause-goals_in_bounds c = (ready_goals c.requires.ready, ready_goal c.requires.ready)

pub returns-in-6 : goal.returns-in-6
returns-in-6 c = c.begin.ensures _

pub returns-in-9 : goal.returns-in-9
returns-in-9 c = c.begin-in-9.ensures _
