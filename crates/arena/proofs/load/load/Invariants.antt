use Rattle.arena.specs.Load.{Loading}
use Rattle.arena.proofs.load.load.Given as goal

abbrev pub invariant-loop-n : goal.invariant-loop-n
invariant-loop-n l = Loading l.file l.n l.initial.props l.props
