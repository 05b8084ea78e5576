-- What a tester asks of a filling, as statements about `Fills` alone; proved in proofs/Promises.antt. Assumes nothing.
use Rattle.std.specs.Prelude.{◌≡◌, List, ℕ, ◌<◌, length, get_or, take, Ok, Err}
use Rattle.rules.specs.Term.{sorries}
use Rattle.table.specs.declared.Purpose.TheVariants.{Check}
use Rattle.table.specs.Passing.{Good}
use Rattle.table.specs.Reading.{term_at}
use Rattle.editing.specs.Edited.{edited_size, Bytes, Edited}
use Rattle.editing.specs.Renumbered.{StandsFor}
use Rattle.entry.specs.declared.Counts.{Counts}
use Rattle.entry.specs.Promises.{Sorries, SameTree}
use Rattle.filling.specs.Fill.{Lent, all_long, Filled, Fills}

-- THE EDITED TABLE that is left in its room
abbrev pub left_table : (l f : List ℕ) → Lent → List ℕ
left_table l f S = take (edited_size l f) S.edited

-- AN ACCEPTED FILLING OF GOAL k LEAVES THERE the old table edited at its Sorry number k, counted from the left: it passes a check's tests, and it stands
-- for the old script with the filling in that Sorry's place
abbrev pub sorry_of : List ℕ → ℕ → ℕ
sorry_of l k = get_or (sorries (term_at l 0)) k 0

pub record LeftEdited (l f : List ℕ) (k : ℕ) (e : List ℕ) : Type 0 where
  pub there : k < length (sorries (term_at l 0))
  pub bytes : Bytes e
  pub edited : Edited l f (sorry_of l k) e
  pub good : Good Check e
  pub means : StandsFor l f (sorry_of l k) e

abbrev pub LeavesEdited : Type 0
LeavesEdited = (l f : List ℕ) (k : ℕ) (S S' : Lent) (c : Counts) → Fills S S' l f k (Ok c) → LeftEdited l f k (left_table l f S')

-- ITS GOALS are the filling's Sorrys, where that stands in the edited table
abbrev pub FilledSorries : Type 0
FilledSorries =
    (l f : List ℕ) (k : ℕ) (S S' : Lent) (c : Counts) → Fills S S' l f k (Ok c)
    → Sorries (term_at (left_table l f S') (sorry_of l k)) S'.rooms c

-- TWO FILLINGS OF ONE GOAL WITH THE SAME BYTES AGREE, whatever the rooms held: in the answer, and after an acceptance in the edited table's bytes, in the
-- filling's tree and goals, and in the edited table's propositions, as two checks of it would (what stands behind these is settled by `Fills`)
pub record SameEdit (l f : List ℕ) (S' Z' : Lent) (c : Counts) : Type 0 where
  pub table : left_table l f S' ≡ left_table l f Z'
  pub trees : SameTree (left_table l f S') S'.rooms Z'.rooms c

abbrev pub SameIfFilled : (l f : List ℕ) → (S' Z' : Lent) → Filled → Type 0
SameIfFilled l f S' Z' (Ok c) = SameEdit l f S' Z' c
SameIfFilled l f S' Z' (Err e) = Unit {0}

abbrev pub TwoFillingsAgree : Type 0
TwoFillingsAgree =
    (l f : List ℕ) (k : ℕ) (S S' Z Z' : Lent) (r s : Filled) → Fills S S' l f k r → Fills Z Z' l f k s
    → all_long S ≡ all_long Z → (r ≡ s) × SameIfFilled l f S' Z' r
