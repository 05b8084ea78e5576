-- What tests 2 and 3 say of a header. Assumes nothing.
use Rattle.std.specs.Prelude.{Option, Some, None}
use mathlib.Core.Path.{◌≡◌, refl, sym}
use mathlib.Core.Bool.{Bool, true, false, ◌&&◌}
use mathlib.Core.List.{List}
use Prim.Native.Nat.{ℕ, ◌≤◌}
use borrow.Author.Tests.{leb-true, eqb-true}
use native.Mathlib.Omega.{arith}
use lib.ListN.{length}
use lib.Dec.{leb, eqb}
use Rattle.numbers.specs.Limits.{most_propositions, most_terms}
use Rattle.layout.specs.File.{props, terms, file_size}
use Rattle.table.specs.Tests.{header, counts, AtMost}
use Rattle.table.specs.Passing.{Counted}
use Rattle.table.specs.Reading.{first}
use Rattle.table.proofs.Firsts.{first_at}

-- both parts of a test that holds
pub and_left : (a b : Bool) → (a && b) ≡ true → a ≡ true
and_left true b h = refl
and_left false b h = h

pub and_right : (a b : Bool) → (a && b) ≡ true → b ≡ true
and_right true b h = h
and_right false b h = absurd (let z : ◌≡◌ {A = ℕ} 0 1 = cc in omega arith)

-- test 2 holds of a header at least
pub header_length : (l : List ℕ) → header l ≡ true → 16 ≤ length l
unfolding header
header_length l h = leb-true 16 (length l) (and_left _ _ h)

pub counted : (l : List ℕ) → counts l ≡ true → Counted l
unfolding counts
counted l h =
    let A : Bool = leb (props l) most_propositions in
    let B : Bool = leb 1 (terms l) in
    let C : Bool = leb (terms l) most_terms in
    let D : Bool = eqb (length l) (file_size (props l) (terms l)) in
    let a = and_left (A && (B && C)) D h in
    let b = and_right A (B && C) a in
    record {
      propositions = leb-true (props l) most_propositions (and_left A (B && C) a);
      some = leb-true 1 (terms l) (and_left B C b);
      few = leb-true (terms l) most_terms (and_right B C b);
      long = eqb-true (length l) (file_size (props l) (terms l)) (and_right (A && (B && C)) D h);
    }

-- a search among n numbers finds one within n
pub first_most : (t : ℕ → Bool) (n k : ℕ) (g : Option ℕ) → g ≡ first t n → n ≤ k → AtMost k g
first_most t n k (Some i) e h = omega (arith, (first_at t n i (sym e)).0)
first_most t n k None e h = tt
