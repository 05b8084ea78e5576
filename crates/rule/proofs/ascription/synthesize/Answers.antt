use Rattle.std.proofs.lemmas.Result.{err_from_is_err_and}
use Rattle.rule.proofs.Ascriptions.{as_given, as_place, as_alone, as_resolve, found_unresolved, found_ready, found_type, found_done}
use Rattle.rule.proofs.ascription.synthesize.Goals as goal

pub returns-in_default : goal.returns-in_default
returns-in_default c = λ tree goals. record { begins = λ rd. absurd (as_given rd c.requires.k_value _ c.term_record-r.ensures _ c.annotation_of.ensures c.in_default.is); names = tt }

pub returns-in_err-a : goal.returns-in_err-a
returns-in_err-a c =
    let p = err_from_is_err_and c.from_residual.result c.from_residual.ensures.1 in
    rw (p.1, p.2) (λ tree goals. record { begins = λ rd. let is = c.in_err-a.ensures in search found_unresolved; names = tt })

pub returns : goal.returns
returns c = λ tree goals. record { begins = λ rd. ((found_ready rd c.requires.k_value _ c.term_record-r.ensures _ c.annotation_of.ensures _ c.in-Some.is _ _ c.in_ok-a.ensures, found_type rd c.requires.k_value _ c.term_record-r.ensures _ c.annotation_of.ensures _ c.in-Some.is _ _ c.in_ok-a.ensures), (as_place rd c.requires.k_value _ c.term_record-r.ensures _ c.annotation_of.ensures, as_alone rd c.requires.k_value _ c.term_record-r.ensures _ c.annotation_of.ensures), found_done rd c.requires.k_value _ c.term_record-r.ensures _ c.annotation_of.ensures _ c.in-Some.is _ _ c.in_ok-a.ensures); names = tt }

pub resolve_type-requires-clause-type_in : goal.resolve_type-requires-clause-type_in
resolve_type-requires-clause-type_in c = (as_resolve c.requires.begun.2 c.requires.k_value _ c.term_record-r.ensures _ c.annotation_of.ensures _ c.in-Some.is).1.1.0
