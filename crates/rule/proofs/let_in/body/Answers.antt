use Rattle.std.proofs.lemmas.Result.{err_from_is_err_and}
use Rattle.rule.proofs.Lets.{let_refused, let_asks}
use Rattle.rule.proofs.Going.{asking}
use mathlib.Core.Path.{refl}
use native.Mathlib.Omega.{arith}
use Rattle.rule.proofs.let_in.body.Goals as goal

pub overflow_add-j : goal.overflow_add-j
overflow_add-j c = omega (arith, c.requires.fresh_two.2)

pub returns-in_err-s : goal.returns-in_err-s
returns-in_err-s c =
    let p = err_from_is_err_and c.from_residual.result c.from_residual.ensures.1 in
    rw (p.1, p.2) (λ tree goals. record { goes = λ R₀ a. let is = c.in_err-s.ensures in search let_refused; names = λ n. tt })

pub returns : goal.returns
returns c = λ tree goals. record { goes = λ R₀ a. asking 1 (λ r. r.child2) _ c.term_record-r.ensures _ (refl) (let_asks a _ c.term_record-r.ensures _ _ _ c.in_ok-s.ensures) (omega arith); names = λ n. tt }
