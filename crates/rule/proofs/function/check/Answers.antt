use Rattle.std.proofs.lemmas.Result.{err_from_is_err_and}
use Rattle.rule.proofs.Functions.{open_refused, agree_asks, agree_refused, function_begins}
use Rattle.rule.proofs.Going.{asking}
use mathlib.Core.Path.{refl}
use native.Mathlib.Omega.{arith}
use Rattle.rule.proofs.function.check.Goals as goal

pub returns-in_err-o : goal.returns-in_err-o
returns-in_err-o c =
    let made = c.new_identifier-made in
    let p = err_from_is_err_and c.from_residual.result c.from_residual.ensures.1 in
    rw (p.1, p.2) (λ tree goals. record { begins = λ rd. open_refused rd c.requires.k_value _ c.term_record-r.ensures c.args.wanted c.requires.type_in _ c.inner.ensures made.result.identifier made.result.state made.ensures.0 made.ensures.1 made.ensures.2 c.open_function.new.props _ c.in_err-o.ensures; names = tt })

pub returns-in_err-s : goal.returns-in_err-s
returns-in_err-s c =
    let made = c.new_identifier-made in
    let exit = c.from_residual-in_err-s in
    let p = err_from_is_err_and exit.result exit.ensures.1 in
    rw (p.1, p.2) (λ tree goals. record { begins = λ rd. agree_refused rd c.requires.k_value _ c.term_record-r.ensures c.args.wanted c.requires.type_in _ c.inner.ensures made.result.identifier made.result.state made.ensures.0 made.ensures.1 made.ensures.2 _ _ c.in_ok-o.ensures _ c.annotation_of.ensures c.agree.new.props _ c.in_err-s.ensures; names = tt })

pub returns : goal.returns
returns c =
    let made = c.new_identifier-made in
    λ tree goals. record { begins = rw c.number.ensures (λ rd. asking 3 (λ r. r.child1) _ c.term_record-r.ensures _ refl (function_begins rd c.requires.k_value _ c.term_record-r.ensures c.args.wanted c.requires.type_in _ c.inner.ensures made.result.identifier made.result.state made.ensures.0 made.ensures.1 made.ensures.2 _ _ c.in_ok-o.ensures _ c.annotation_of.ensures _ _ c.in_ok-s.ensures _ _ c.enter-entered.ensures.0 c.enter-entered.ensures.1) (omega arith)); names = (_, c.number.ensures) }

pub agree-requires-clause-loaded : goal.agree-requires-clause-loaded
agree-requires-clause-loaded c =
    let made = c.new_identifier-made in
    (agree_asks c.requires.begun.2 c.requires.k_value _ c.term_record-r.ensures c.args.wanted c.requires.type_in _ c.inner.ensures made.result.identifier made.result.state made.ensures.0 made.ensures.1 made.ensures.2 _ _ c.in_ok-o.ensures _ c.annotation_of.ensures).1.0

pub agree-requires-clause-annotation_in : goal.agree-requires-clause-annotation_in
agree-requires-clause-annotation_in c =
    let made = c.new_identifier-made in
    (agree_asks c.requires.begun.2 c.requires.k_value _ c.term_record-r.ensures c.args.wanted c.requires.type_in _ c.inner.ensures made.result.identifier made.result.state made.ensures.0 made.ensures.1 made.ensures.2 _ _ c.in_ok-o.ensures _ c.annotation_of.ensures).1.1.0
