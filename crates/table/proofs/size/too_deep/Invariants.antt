use mathlib.Core.Path.{◌≡◌}
use Prim.Native.Nat.{◌-◌}
use lib.ListN.{length}
use Rattle.table.specs.Reading.{first, first_from}
use Rattle.table.specs.Size.{too_deep}
use Rattle.table.proofs.Heights.{Depths}
use Rattle.table.proofs.size.too_deep.Given as goal

-- no term below t is too deep, and the room has their children's depths
abbrev pub invariant-loop-t : goal.invariant-loop-t
invariant-loop-t l = (first (too_deep l.file) l.count ≡ first_from (too_deep l.file) l.t (l.count - l.t)) × (length l.work ≡ length l.initial.work) × Depths l.file l.work l.t
