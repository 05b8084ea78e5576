use Rattle.std.proofs.lemmas.Result.{err_from_is_err_and}
use Rattle.rule.proofs.Pairs.{exists_other, exists_object, exists_full, exists_begins}
use Rattle.rule.proofs.Going.{asking}
use Rattle.step.proofs.Moves.{put_more, put_few}
use Rattle.step.proofs.Terms.{pair_first}
use Rattle.layout.specs.declared.record.TermRecord.{TermRecord}
use Rattle.layout.specs.File.{terms}
use mathlib.Core.Path.{subst⁻¹}
use native.Mathlib.Omega.{arith}
use Prim.Native.Nat.{◌<◌}
use Rattle.step.specs.declared.inference.Inference.TheVariants as inference
use Rattle.rule.proofs.pair.exists.Goals as goal

pub returns-in_default : goal.returns-in_default
returns-in_default c = λ tree goals. record { begins = λ rd. exists_other rd c.requires.k_value c.args.wanted c.requires.room.1 c.requires.unsplit _ c.held-held.ensures.count (rw c.held-held.ensures.room at c.in_default.ensures) _ c.at.ensures; names = tt }

pub returns-in_default-put_in : goal.returns-in_default-put_in
returns-in_default-put_in c = λ tree goals. record { begins = λ rd. exists_full rd c.requires.k_value c.args.wanted c.requires.room.1 c.requires.unsplit _ c.held-held.ensures.count _ (rw c.held-held.ensures.room at c.in-Some.ensures) _ c.term_record-r.ensures _ (c.in_ok-i.ensures c.args.props.now) _ c.left.ensures _ c.in_default-put_in.ensures _ c.at-in_default-put_in.ensures; names = tt }

pub returns-in_err-i : goal.returns-in_err-i
returns-in_err-i c =
    let p = err_from_is_err_and c.from_residual.result c.from_residual.ensures.1 in
    rw (p.1, p.2) (λ tree goals. record { begins = λ rd. exists_object rd c.requires.k_value c.args.wanted c.requires.room.1 c.requires.unsplit _ c.held-held.ensures.count _ (rw c.held-held.ensures.room at c.in-Some.ensures) _ c.term_record-r.ensures _ (c.in_err-i.ensures c.args.props.now); names = tt })

pub returns : goal.returns
returns c = λ tree goals. record { begins = rw c.number.ensures (λ rd. asking 3 (λ r. r.child1) _ c.term_record-r.ensures _ c.inner-s.ensures (exists_begins rd c.requires.k_value c.args.wanted c.requires.room.1 c.requires.unsplit _ c.held-held.ensures.count _ (rw c.held-held.ensures.room at c.in-Some.ensures) _ c.term_record-r.ensures _ (c.in_ok-i.ensures c.args.props.now) _ c.left.ensures _ _ c.in-Some-put_in.ensures _ c.grown.ensures) (omega arith)); names = (inference.ExistsIntro, c.number.ensures) }

pub object_of-requires-clause-t_bound : goal.object_of-requires-clause-t_bound
object_of-requires-clause-t_bound c = subst⁻¹ (λ (r : TermRecord). r.child1.0 < terms c.args.file.now) c.term_record-r.ensures (pair_first c.requires.here.0.0 c.requires.here.0.1 c.requires.k_value).1

pub grown-requires : goal.grown-requires
grown-requires c = (search put_more, search put_few)
