-- What is read into the first part of a room is counted in the whole room. Assumes nothing.
use Prim.Native.Nat.{ℕ, ◌≤◌}
use mathlib.Core.List.{List, ◌++◌}
use mathlib.Core.Path.{sym}
use native.Mathlib.Omega.{arith}
use lib.ListN.{length, length-append}
use lib.Seq.{length-take-le}
use Rattle.show.specs.Counts.{IsPrefixLen}

pub counts_front : (n : ℕ) (xs ys : List ℕ) → IsPrefixLen n xs → IsPrefixLen n (xs ++ ys)
counts_front n xs ys counted =
    let within : n ≤ length (xs ++ ys) = omega (arith, counted.0, length-append xs ys) in
    (within, sym (length-take-le n (xs ++ ys) within))
