use Rattle.step.proofs.Moves.{put_more, put_few}
use Rattle.step.proofs.Openings.{open_impl, open_other, open_full, open_forall}
use mathlib.Core.Path.{◌∙◌}
use Rattle.std.proofs.lemmas.Result.{err_from_is_err_and}
use Rattle.step.proofs.Refusing.{ok_or_err}
use Rattle.step.proofs.open.open_function.Goals as goal

pub returns-in-Some : goal.returns-in-Some
returns-in-Some c = let s = rw c.held-held.ensures.room at c.in-Some.ensures in search open_impl

pub returns-in_default-over : goal.returns-in_default-over
returns-in_default-over c =
    let none = rw c.held-held.ensures.room at c.in_default.ensures in
    let bare = rw c.held-held.ensures.room at c.in_default-over.ensures in
    search open_other

pub grown-requires : goal.grown-requires
grown-requires c = let q = c.in_ok-body.ensures.ok_part in (search put_more, search put_few)

pub returns-in_err-body : goal.returns-in_err-body
returns-in_err-body c =
    let p = err_from_is_err_and c.from_residual.result c.from_residual.ensures.1 in
    let no = ok_or_err c.in_err-body.ensures.value in
    let none = rw c.held-held.ensures.room at c.in_default.ensures in
    let is_all = rw c.held-held.ensures.room at c.in-Some-over.ensures in
    let full = rw no.0 at c.put_in.ensures in
    let at = no.1 ∙ c.at-2.ensures in
    rw (p.1, p.2) (search open_full)

pub returns : goal.returns
returns c =
    let none = rw c.held-held.ensures.room at c.in_default.ensures in
    let is_all = rw c.held-held.ensures.room at c.in-Some-over.ensures in
    let put_in = rw c.in_ok-body.ensures.ok_part at c.put_in.ensures in
    search open_forall
