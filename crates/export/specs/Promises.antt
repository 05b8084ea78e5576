-- Two calls from C on the same bytes: what they return and what they write, whatever the rooms held; proved in proofs/Promises.antt. Assumes nothing.
use Rattle.std.specs.Prelude.{◌≡◌, true, List, ℕ, length, leb}
use Rattle.numbers.specs.Records.{record_at}
use Rattle.table.specs.declared.Purpose.{Purpose}
use Rattle.table.specs.Tests.{test_room}
use Rattle.step.specs.Rooms.{Rooms}
use Rattle.entry.specs.Mark.{long_enough}
use Rattle.filling.specs.Fill.{Lent, all_long}
use Rattle.export.specs.Answer.{answer_bytes, TestReturns, CheckReturns, FillReturns}

-- an answer room that is long enough
abbrev pub takes_answer : List ℕ → Type 0
takes_answer a = leb answer_bytes (length a) ≡ true

-- both return r, and an answer that is written is the same record
pub record SameCall (a' b' : List ℕ) (r s : ℕ) : Type 0 where
  pub returns : r ≡ s
  pub answer : record_at a' 0 ≡ record_at b' 0

-- with answer rooms a and b before, a' and b' after, both long enough; and lent rooms that are long enough for both calls, or for neither
abbrev pub TestsAgree : Type 0
TestsAgree =
    (p : Purpose) (l w w' v v' a a' b b' : List ℕ) (r s : ℕ) → TestReturns p l w w' a a' r → TestReturns p l v v' b b' s → takes_answer a → takes_answer b
    → leb test_room (length w) ≡ leb test_room (length v) → SameCall a' b' r s

abbrev pub ChecksAgree : Type 0
ChecksAgree =
    (l : List ℕ) (R R' S S' : Rooms) (a a' b b' : List ℕ) (r s : ℕ) → CheckReturns l R R' a a' r → CheckReturns l S S' b b' s → takes_answer a → takes_answer b
    → long_enough R ≡ long_enough S → SameCall a' b' r s

abbrev pub FillsAgree : Type 0
FillsAgree =
    (S S' Z Z' : Lent) (l f : List ℕ) (k : ℕ) (a a' b b' : List ℕ) (r s : ℕ) → FillReturns S S' l f k a a' r → FillReturns Z Z' l f k b b' s
    → takes_answer a → takes_answer b → all_long S ≡ all_long Z → SameCall a' b' r s
