use mathlib.Core.Path.{◌≡◌}
use Prim.Native.Nat.{◌-◌}
use lib.ListN.{length}
use Rattle.table.specs.Reading.{first, first_from}
use Rattle.table.specs.Size.{too_high}
use Rattle.table.proofs.Heights.{Heights}
use Rattle.table.proofs.size.too_high.Given as goal

-- no record below n is too high, and the room has their heights
abbrev pub invariant-loop-n : goal.invariant-loop-n
invariant-loop-n l = (first (too_high l.file) l.p ≡ first_from (too_high l.file) l.n (l.p - l.n)) × (length l.work ≡ length l.initial.work) × Heights l.file l.work l.n
