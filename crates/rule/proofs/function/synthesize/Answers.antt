use Rattle.std.proofs.lemmas.Result.{err_from_is_err_and}
use Rattle.rule.proofs.Functions.{function_resolves, function_bare, function_unresolved, function_asks}
use Rattle.rule.proofs.Going.{asking}
use native.Mathlib.Omega.{arith}
use mathlib.Core.Path.{refl}
use Rattle.rule.proofs.function.synthesize.Goals as goal

pub returns-in_default : goal.returns-in_default
returns-in_default c = λ tree goals. record { begins = λ rd. search function_bare; names = tt }

pub returns-in_err-a : goal.returns-in_err-a
returns-in_err-a c =
    let p = err_from_is_err_and c.from_residual.result c.from_residual.ensures.1 in
    rw (p.1, p.2) (λ tree goals. record { begins = λ rd. let is = c.in_err-a.ensures in search function_unresolved; names = tt })

pub returns : goal.returns
returns c = λ tree goals. record { begins = λ rd. asking 3 (λ r. r.child1) _ c.term_record-r.ensures _ refl (function_asks rd c.requires.k_value _ c.term_record-r.ensures _ c.annotation_of.ensures _ c.in-Some.is _ _ c.in_ok-a.ensures _ c.inner.ensures _ _ c.enter_fresh-entered.ensures) (omega arith); names = tt }

pub resolve_type-requires-clause-type_in : goal.resolve_type-requires-clause-type_in
resolve_type-requires-clause-type_in c = (function_resolves c.requires.begun.2 c.requires.k_value _ c.term_record-r.ensures _ c.annotation_of.ensures _ c.in-Some.is).1.1.0
