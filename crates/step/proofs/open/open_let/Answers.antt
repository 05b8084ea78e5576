use Rattle.numbers.specs.declared.refusal.Reason.TheVariants.{CheckWrongHead, SynthWrongHead}
use mathlib.Core.Path.{◌∙◌}
use Rattle.std.proofs.lemmas.Result.{err_from_is_err_and}
use Rattle.step.proofs.Refusing.{reason_number}
use Rattle.step.proofs.Refusing.{ok_or_err}
use Rattle.step.proofs.Objects.{let_other, let_full, let_entered}
use Rattle.step.proofs.Moves.{put_more, put_few}
use Rattle.step.proofs.open.open_let.Goals as goal

pub returns-in_default : goal.returns-in_default
returns-in_default c = let of = reason_number c.args.w CheckWrongHead SynthWrongHead _ c.either-why.ensures in let bare = rw c.held-held.ensures.room at c.in_default.ensures in search let_other

pub grown-s-requires : goal.grown-s-requires
grown-s-requires c = let q = c.in_ok-body.ensures.ok_part in (search put_more, search put_few)

pub returns-in_err-body : goal.returns-in_err-body
returns-in_err-body c =
    let p = err_from_is_err_and c.from_residual.result c.from_residual.ensures.1 in
    let no = ok_or_err c.in_err-body.ensures.value in
    let over = rw c.held-held.ensures.room at c.in-Some.ensures in
    let full = rw no.0 at c.put_in.ensures in
    let at = no.1 ∙ c.at-2.ensures in
    rw (p.1, p.2) (search let_full)

pub returns : goal.returns
returns c = let over = rw c.held-held.ensures.room at c.in-Some.ensures in let makes = rw c.in_ok-body.ensures.ok_part at c.put_in.ensures in search let_entered
