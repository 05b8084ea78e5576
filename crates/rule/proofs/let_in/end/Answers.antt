use Rattle.std.proofs.lemmas.Result.{err_from_is_err_and}
use Rattle.rule.proofs.Lets.{let_kept, let_done}
use mathlib.Core.Path.{refl}
use Rattle.rule.proofs.let_in.end.Goals as goal

pub returns-in_err-close_let : goal.returns-in_err-close_let
returns-in_err-close_let c =
    let p = err_from_is_err_and c.from_residual.result c.from_residual.ensures.1 in
    rw (p.1, p.2) (λ goals work. record { goes = λ R₀ a. let is = c.in_err-close_let.ensures in search let_kept; names = λ n. tt })

pub returns : goal.returns
returns c = rw c.answered.ensures (λ goals work. record { goes = λ R₀ a. let_done a _ c.term_record-r.ensures c.in_ok-close_let.ensures _ c.node-top.ensures _ c.put_node.ensures _ refl; names = λ n. tt })
