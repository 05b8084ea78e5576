use borrow.Author.Rules.{rules}
use Rattle.prop.proofs.Counts.{none_left, count_one, over_one, first_fits, first_word, over_two, both_word, count_link, over_body, body_word, count_quant}
use Rattle.prop.proofs.propositions.Propositions.+nodes_of.Goals as goal

pub returns-then-left-eq0 : goal.returns-then-left-eq0
returns-then-left-eq0 t c = search none_left

pub returns-in-Constant : goal.returns-in-Constant
returns-in-Constant t c = count_one _ _ _ (search rules) _ c.view_at.ensures c.in-Constant.is

pub returns-in_err-x-in-Link : goal.returns-in_err-x-in-Link
returns-in_err-x-in-Link t c =
    over_one _ _ _ (search rules) _ _ c.in-Link.ensures c.in_err-x-in-Link.ensures _ c.from_residual.ensures

pub overflow_sub-left-in-Link-2 : goal.overflow_sub-left-in-Link-2
overflow_sub-left-in-Link-2 t c = first_fits _ _ _ (search rules) _ _ c.in-Link.ensures _ c.in_ok-x-in-Link.ensures

pub returns-in_err-y-in-Link : goal.returns-in_err-y-in-Link
returns-in_err-y-in-Link t c =
    over_two _ _ _ (search rules) _ _ c.in-Link.ensures _ c.in_ok-x-in-Link.ensures c.in_err-y-in-Link.ensures _ c.from_residual-in_err-y-in-Link.ensures

pub overflow_add-result : goal.overflow_add-result
overflow_add-result t c = first_word _ _ _ (search rules) _ _ c.in-Link.ensures _ c.in_ok-x-in-Link.ensures c.ranges.left

pub overflow_add-result-in-Link : goal.overflow_add-result-in-Link
overflow_add-result-in-Link t c =
    both_word _ _ _ (search rules) _ _ c.in-Link.ensures _ c.in_ok-x-in-Link.ensures _ c.in_ok-y-in-Link.ensures c.ranges.left

pub returns-in_ok-y-in-Link : goal.returns-in_ok-y-in-Link
returns-in_ok-y-in-Link t c =
    count_link _ _ _ (search rules) _ _ c.in-Link.ensures _ c.in_ok-x-in-Link.ensures _ c.in_ok-y-in-Link.ensures

pub returns-in_err-x-in-Quantifier : goal.returns-in_err-x-in-Quantifier
returns-in_err-x-in-Quantifier t c =
    over_body _ _ _ (search rules) _ c.in-Quantifier.ensures c.in_err-x-in-Quantifier.ensures _ c.from_residual-in_err-x-in-Quantifier.ensures

pub overflow_add-result-in-Quantifier : goal.overflow_add-result-in-Quantifier
overflow_add-result-in-Quantifier t c =
    body_word _ _ _ (search rules) _ c.in-Quantifier.ensures _ c.in_ok-x-in-Quantifier.ensures c.ranges.left

pub returns-in_ok-x-in-Quantifier : goal.returns-in_ok-x-in-Quantifier
returns-in_ok-x-in-Quantifier t c = count_quant _ _ _ (search rules) _ c.in-Quantifier.ensures _ c.in_ok-x-in-Quantifier.ensures
