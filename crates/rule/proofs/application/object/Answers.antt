use Rattle.std.proofs.lemmas.Result.{err_from_is_err_and}
use Rattle.rule.proofs.Applications.{object_other, object_refused, object_asks}
use Rattle.rule.proofs.Going.{asking}
use mathlib.Core.Path.{refl}
use native.Mathlib.Omega.{arith}
use Rattle.rule.proofs.application.object.Goals as goal

pub returns-in_default : goal.returns-in_default
returns-in_default c = λ tree goals. record { goes = λ R₀ a. let is = rw c.held.ensures.room at c.in_default.ensures in search object_other; names = λ n. tt }

pub returns-in_err-i : goal.returns-in_err-i
returns-in_err-i c =
    let p = err_from_is_err_and c.from_residual.result c.from_residual.ensures.1 in
    rw (p.1, p.2) (λ tree goals. record { goes = λ R₀ a. let is1 = c.in_err-i.ensures in let is = rw c.held.ensures.room at c.in-Some.ensures in search object_refused; names = λ n. tt })

pub returns : goal.returns
returns c = λ tree goals. record { goes = λ R₀ a. asking 1 (λ r. r.child2) _ c.term_record-r.ensures _ (refl) (object_asks a _ c.held.ensures.count c.requires.unsplit _ c.term_record-r.ensures _ (rw c.held.ensures.room at c.in-Some.ensures) _ (c.in_ok-i.ensures _)) (omega arith); names = λ n. tt }
