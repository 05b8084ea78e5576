use mathlib.Core.Path.{◌∙◌}
use Rattle.std.proofs.lemmas.Result.{err_from_is_err_and}
use Rattle.step.proofs.Refusing.{ok_or_err}
use Rattle.step.proofs.Openings.{impl_more, impl_few, impl_full, impl_made, forall_more, forall_few, forall_full, forall_made}
use Rattle.step.proofs.open.abstract_over.Goals as goal
use Rattle.step.proofs.open.abstract_over.Goals.{in-Proposition, in-Datatype}

pub grown-requires : goal.grown-requires
grown-requires c =
    elim c.match-t.branch [
      | in-Proposition w ↦ let v = rw w.rule-is at c.in_ok-made.ensures.ok_part in (search impl_more, search impl_few)
      | in-Datatype w ↦ let v = rw w.rule-is at c.in_ok-made.ensures.ok_part in (search forall_more, search forall_few)
    ]

pub returns-in_err-made : goal.returns-in_err-made
returns-in_err-made c =
    let p = err_from_is_err_and c.from_residual.result c.from_residual.ensures.1 in
    let no = ok_or_err c.in_err-made.ensures.value in
    let at = no.1 ∙ c.at.ensures in
    rw (p.1, p.2) (elim c.match-t.branch [
      | in-Proposition w ↦ let v = rw w.rule-is at no.0 in search impl_full
      | in-Datatype w ↦ let v = rw w.rule-is at no.0 in search forall_full
    ])

pub returns : goal.returns
returns c =
    elim c.match-t.branch [
      | in-Proposition w ↦ let v = rw w.rule-is at c.in_ok-made.ensures.ok_part in rw (w.props-is, w.rule-is) (search impl_made)
      | in-Datatype w ↦ let v = rw w.rule-is at c.in_ok-made.ensures.ok_part in rw (w.props-is, w.rule-is) (search forall_made)
    ]
