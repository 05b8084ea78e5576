use native.Mathlib.Omega.{arith}
use Rattle.editing.proofs.Rows.{copied_none, copied_more, copied_all}
use Rattle.editing.proofs.copy.Goals as goal

pub loop-i-init : goal.loop-i-init
loop-i-init g c = λ f told. copied_none _ _ _ _ _

pub loop-i-preserved : goal.loop-i-preserved
loop-i-preserved g c = λ f told.
    copied_more f _ _ _ _ _ _ _ _ _ (c.loop-i.invariant f told) c.record_at.ensures (told c.loop-i.i _ _ (omega arith) c.record_at.ensures c.change.ensures) c.put.ensures

pub returns : goal.returns
returns g c = λ f told. copied_all f _ _ _ _ _ _ _ (omega arith) (omega arith) (c.loop-i.invariant f told)
