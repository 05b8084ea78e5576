use native.Mathlib.Omega.{arith}
use Rattle.arena.proofs.Loads.{load_end}
use Rattle.arena.proofs.load.load.Goals as goal

pub returns : goal.returns
returns c =
    load_end _ _ _ _ _ c.requires.formed c.requires.well_linked c.requires.test_room_in_bounds.1 c.proposition_count-p.ensures (omega arith) c.loop-n.invariant
