use Prim.Native.Nat.{◌-◌}
use Rattle.layout.specs.File.{props}
use Rattle.table.proofs.Chains.{Climb}
use Rattle.table.proofs.above.settle.Given as goal

abbrev pub invariant-loop-q : goal.invariant-loop-q
invariant-loop-q l = Climb l.file l.x.0 l.initial.q l.k l.q

abbrev pub decreases-loop-q : goal.decreases-loop-q
decreases-loop-q l = props l.file - l.q
