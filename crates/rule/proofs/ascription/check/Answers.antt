use Rattle.std.proofs.lemmas.Result.{err_from_is_err_and}
use Rattle.rule.proofs.Ascriptions.{as_given, as_place, as_alone, as_resolve, held_unresolved, held_ready, held_type, held_apart, held_done}
use Rattle.rule.proofs.ascription.check.Goals as goal

pub returns-in_default : goal.returns-in_default
returns-in_default c = λ tree goals. record { begins = λ rd. absurd (as_given rd c.requires.k_value _ c.term_record-r.ensures _ c.annotation_of.ensures c.in_default.is); names = tt }

pub returns-in_err-a : goal.returns-in_err-a
returns-in_err-a c =
    let p = err_from_is_err_and c.from_residual.result c.from_residual.ensures.1 in
    rw (p.1, p.2) (λ tree goals. record { begins = λ rd. held_unresolved rd c.requires.k_value _ c.term_record-r.ensures _ c.annotation_of.ensures _ c.in-Some.is c.args.wanted c.requires.type_in c.resolve_type.new.props _ c.in_err-a.ensures; names = tt })

pub returns-then-is_alpha : goal.returns-then-is_alpha
returns-then-is_alpha c = λ tree goals. record { begins = λ rd. ((held_ready rd c.requires.k_value _ c.term_record-r.ensures _ c.annotation_of.ensures _ c.in-Some.is c.args.wanted c.requires.type_in _ _ c.in_ok-a.ensures, held_type rd c.requires.k_value _ c.term_record-r.ensures _ c.annotation_of.ensures _ c.in-Some.is c.args.wanted c.requires.type_in _ _ c.in_ok-a.ensures), (as_place rd c.requires.k_value _ c.term_record-r.ensures _ c.annotation_of.ensures, as_alone rd c.requires.k_value _ c.term_record-r.ensures _ c.annotation_of.ensures), held_done rd c.requires.k_value _ c.term_record-r.ensures _ c.annotation_of.ensures _ c.in-Some.is c.args.wanted c.requires.type_in _ _ c.in_ok-a.ensures _ (rw c.held-held.ensures.room at c.compare_types.ensures) _ c.is_alpha.ensures c.if-is_alpha.true); names = tt }

pub returns-else-is_alpha : goal.returns-else-is_alpha
returns-else-is_alpha c = λ tree goals. record { begins = λ rd. held_apart rd c.requires.k_value _ c.term_record-r.ensures _ c.annotation_of.ensures _ c.in-Some.is c.args.wanted c.requires.type_in _ _ c.in_ok-a.ensures _ (rw c.held-held.ensures.room at c.compare_types.ensures) _ c.is_alpha.ensures c.if-is_alpha.false _ c.at-else-is_alpha.ensures; names = tt }

pub resolve_type-requires-clause-type_in : goal.resolve_type-requires-clause-type_in
resolve_type-requires-clause-type_in c = (as_resolve c.requires.begun.2 c.requires.k_value _ c.term_record-r.ensures _ c.annotation_of.ensures _ c.in-Some.is).1.1.0
