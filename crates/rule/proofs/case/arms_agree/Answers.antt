use Rattle.rule.proofs.Cases.{arms_alike, arms_wanted}
use Rattle.rule.proofs.case.arms_agree.Goals as goal

pub returns-in-Check : goal.returns-in-Check
returns-in-Check c = arms_wanted c.args.file.now c.args.props.now c.args.t c.args.a.typ _ _ c.in-Check.is

pub returns-in-Synth : goal.returns-in-Synth
returns-in-Synth c = arms_alike c.args.file.now c.args.props.now c.args.t c.args.a.typ _ (rw c.held.ensures.room at c.compare_types.ensures) _ c.is_alpha.ensures _ c.in-Synth.is
