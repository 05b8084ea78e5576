use Rattle.rule.proofs.Pairs.{both_second, both_first, both_full, both_made}
use Rattle.step.proofs.Moves.{made_more, made_few}
use Rattle.step.specs.declared.inference.Inference.TheVariants as inference
use Rattle.rule.proofs.pair.both.Goals as goal

pub returns-in_default : goal.returns-in_default
returns-in_default c = λ goals work. record { goes = λ R₀ a. both_second a _ c.in_default.is _ c.at.ensures; names = λ n. tt }

pub returns-in_default-t : goal.returns-in_default-t
returns-in_default-t c = λ goals work. record { goes = λ R₀ a. search both_first; names = λ n. tt }

pub returns-in_default-make_and : goal.returns-in_default-make_and
returns-in_default-make_and c = λ goals work. record { goes = λ R₀ a. let is = c.in_default-make_and.ensures in search both_full; names = λ n. tt }

pub returns : goal.returns
returns c = λ goals work. record { goes = λ R₀ a. (rw (c.number.ensures, c.proved-whole.ensures) at c.by.ensures c.args.file.now goals _ work).goes R₀ (both_made a _ c.in-Proposition.is _ c.in-Proposition-t.is _ c.count-count.ensures _ c.left.ensures _ _ c.in-Some.ensures _ c.grown.ensures); names = λ n. (c.by.ensures c.args.file.now goals work work).names (inference.AndIntro, c.number.ensures) }

pub grown-requires : goal.grown-requires
grown-requires c = (search made_more, search made_few)
