use Rattle.std.proofs.lemmas.Result.{err_from_is_err_and}
use Rattle.step.proofs.Typings.{agree_missing, agree_refused, agree_on, agree_apart}
use Rattle.step.proofs.typing.agree.Goals as goal

pub returns-in_default : goal.returns-in_default
returns-in_default c = search agree_missing

pub returns-in_err-r : goal.returns-in_err-r
returns-in_err-r c =
    let p = err_from_is_err_and c.from_residual.result c.from_residual.ensures.1 in
    let says = c.in_err-r.ensures in
    rw (p.1, p.2) (search agree_refused)

pub returns-then-is_alpha : goal.returns-then-is_alpha
returns-then-is_alpha c = let went = c.in_ok-r.ensures in let compared = rw c.held-held.ensures.room at c.compare_types.ensures in search agree_on

pub returns-else-is_alpha : goal.returns-else-is_alpha
returns-else-is_alpha c = let went = c.in_ok-r.ensures in let compared = rw c.held-held.ensures.room at c.compare_types.ensures in search agree_apart
