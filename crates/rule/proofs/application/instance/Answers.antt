use Rattle.rule.proofs.Applications.{instance_full, instance_made}
use Rattle.step.proofs.Moves.{put_more, put_few}
use Rattle.step.specs.declared.inference.Inference.TheVariants as inference
use Rattle.rule.proofs.application.instance.Goals as goal

pub returns-in_default : goal.returns-in_default
returns-in_default c = λ goals work t. record { goes = λ R₀ a. let is = c.in_default.ensures in search instance_full; names = λ n. tt }

pub returns : goal.returns
returns c = λ goals work t. record { goes = λ R₀ a. (rw (c.number.ensures, c.proved-whole.ensures) at c.by.ensures c.args.file.now goals _ work).goes R₀ (instance_made a _ c.count-count.ensures _ c.left.ensures _ _ c.in-Some.ensures _ c.grown.ensures); names = λ n. (c.by.ensures c.args.file.now goals work work).names (inference.ForAllElim, c.number.ensures) }

pub grown-requires : goal.grown-requires
grown-requires c = (search put_more, search put_few)
