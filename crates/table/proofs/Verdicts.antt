-- The entry: a room that is too short, or the tests in a part of it. Assumes nothing.
use Rattle.std.specs.Prelude.{Result, ⊤, Err}
use mathlib.Core.Path.{◌≡◌, ap, ap₂, ◌∙◌}
use mathlib.Core.List.{List, ◌++◌}
use Prim.Native.Nat.{ℕ, ◌<◌, ◌≤◌, min}
use native.Mathlib.Omega.{arith}
use borrow.Author.Tests.{le-leb, lt-leb}
use lib.ListN.{length, drop, replicate, length-append, length-drop}
use lib.Seq.{drop_at}
use Rattle.numbers.specs.declared.refusal.Refusal.{Refusal}
use Rattle.numbers.specs.Refusals.{refusal_at}
use Rattle.numbers.specs.Rooms.{cleared}
use Rattle.table.specs.declared.Purpose.{Purpose}
use Rattle.table.specs.Tests.{unless, tests, test_room, Tested}

-- THE ENTRY: a room that is too short; and one whose first bytes were lent to the tests
pub tested_short : (p : Purpose) (l work left : List ℕ) (r : Refusal) → length work < test_room → left ≡ cleared test_room work → r ≡ refusal_at 1 0 → Tested p l work left (Err r)
unfolding unless
tested_short p l work left r h c e = record { verdict = rw (lt-leb test_room (length work) h) (ap Err e); room = c }

-- clearing forgets what stood in the first n bytes
forgets : (n : ℕ) (new work : List ℕ) → length new ≡ n → n ≤ length work → cleared n (new ++ drop n work) ≡ cleared n work
forgets n new work e h =
    let long : length (new ++ drop n work) ≡ length work = length-append new (drop n work) ∙ (let d = length-drop n work in omega arith) in
    ap₂ (λ (k : ℕ) (t : List ℕ). replicate (min n k) 0 ++ t) long (drop_at new (drop n work) n e)

pub tested_long : (p : Purpose) (l work new left : List ℕ) (v : Result ⊤ Refusal) → test_room ≤ length work → v ≡ tests p l → length new ≡ test_room
    → left ≡ cleared test_room (new ++ drop test_room work) → Tested p l work left v
unfolding unless
tested_long p l work new left v h t e c = record { verdict = rw (le-leb test_room (length work) h) t; room = c ∙ forgets test_room new work e h }
