use Rattle.std.proofs.lemmas.Result.{err_from_is_err_and}
use Rattle.rule.proofs.Functions.{abstracts_data, abstracts_full, abstracts_to}
use Rattle.rule.proofs.function.abstracts.Goals as goal

pub returns-in_default : goal.returns-in_default
returns-in_default c = λ goals work. record { goes = λ R₀ a. search abstracts_data; names = λ n. tt }

pub returns-in_err-o : goal.returns-in_err-o
returns-in_err-o c =
    let p = err_from_is_err_and c.from_residual.result c.from_residual.ensures.1 in
    rw (p.1, p.2) (λ goals work. record { goes = λ R₀ a. let is = c.in_err-o.ensures in search abstracts_full; names = λ n. tt })

pub returns : goal.returns
returns c = λ goals work. record { goes = λ R₀ a. (rw (c.number.ensures, c.proved.ensures) at c.closes.ensures c.args.file.now goals _ work).goes R₀ (abstracts_to a _ c.term_record-r.ensures _ c.in-Proposition.is _ _ c.in_ok-o.ensures); names = λ n. (c.closes.ensures c.args.file.now goals work work).names (_, c.number.ensures) }
