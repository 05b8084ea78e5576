-- What a call returns, with an answer room that is too short and with one that is not. Assumes nothing.
use mathlib.Core.Path.{◌≡◌, refl, subst, subst⁻¹}
use mathlib.Core.Bool.{Bool}
use mathlib.Core.List.{List}
use Prim.Native.Nat.{ℕ, ◌<◌, ◌≤◌}
use lib.ListN.{length}
use borrow.Author.Tests.{le-leb, lt-leb}
use Rattle.numbers.specs.declared.record.Record.{Record}
use Rattle.numbers.specs.Records.{Put}
use Rattle.export.specs.Answer.{answer_bytes, answered, no_room, ReturnsAs, Returns}

module _ (A : Type 0) (Right : A → Type 0) (form : A → Record) (Same : Type 0) (a : List ℕ) where
  pub returns_short : length a < answer_bytes → Same → Returns A Right form Same a a no_room
  returns_short short same = subst⁻¹ (λ (b : Bool). ReturnsAs b A Right form Same a a no_room) (lt-leb answer_bytes (length a) short) (refl, refl, same)

  pub returns_written : (a' : List ℕ) (x : A) (r : Record) → answer_bytes ≤ length a → Right x → r ≡ form x → Put a 0 r a' → Returns A Right form Same a a' answered
  returns_written a' x r long right is put =
      subst⁻¹ (λ (b : Bool). ReturnsAs b A Right form Same a a' answered) (le-leb answer_bytes (length a) long)
      (refl, record { answer = x; right = right; written = subst (λ (r : Record). Put a 0 r a') is put })
