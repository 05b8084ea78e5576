-- What a table gives that passed a test: the facts that the next tests, and everything above, may lean on.
-- Assumes nothing.
use Rattle.std.specs.Prelude.{◌≡◌, true, false, List, ℕ, ◌<◌, ◌≤◌, length, Ok}
use Rattle.numbers.specs.Limits.{most_propositions, most_terms, most_height, most_depth}
use Rattle.table.specs.declared.Purpose.{Purpose}
use Rattle.layout.specs.File.{props, terms, file_size, prop_record, term_record}
use Rattle.layout.specs.Form.{prop_form, term_form}
use Rattle.table.specs.Links.{prop_links_ok, term_links_ok, expected_ok, badly_linked_prop, badly_linked_term}
use Rattle.table.specs.Reading.{prop_at}
use Rattle.table.specs.Size.{height, depth}
use Rattle.table.specs.Tests.{tests}

-- test 3: the limits, and the length
pub record Counted (l : List ℕ) : Type 0 where
  pub propositions : props l ≤ most_propositions
  pub some : 1 ≤ terms l
  pub few : terms l ≤ most_terms
  pub long : length l ≡ file_size (props l) (terms l)

-- test 4
pub record Formed (l : List ℕ) : Type 0 where
  pub prop : (n : ℕ) → n < props l → prop_form (prop_record l n) ≡ true
  pub term : (t : ℕ) → t < terms l → term_form (term_record l t) ≡ true

-- test 5
pub record Linked (p : Purpose) (l : List ℕ) : Type 0 where
  pub goal : expected_ok p l ≡ true
  pub prop : (n : ℕ) → n < props l → badly_linked_prop p l n ≡ false
  pub term : (t : ℕ) → t < terms l → badly_linked_term l t ≡ false

-- of test 5 only that every link is in range and goes the right way: what reading a table leans on
pub record Directed (l : List ℕ) : Type 0 where
  pub prop : (n : ℕ) → n < props l → prop_links_ok l n ≡ true
  pub term : (t : ℕ) → t < terms l → term_links_ok l t ≡ true

-- test 5 passed, for either purpose
pub record WellLinked (l : List ℕ) : Type 0 where
  pub purpose : Purpose
  pub linked : Linked purpose l

-- test 6
pub record Sized (l : List ℕ) : Type 0 where
  pub prop : (n : ℕ) → n < props l → height (prop_at l n) ≤ most_height
  pub term : (t : ℕ) → t < terms l → depth l t ≤ most_depth

-- all
abbrev pub Good : Purpose → List ℕ → Type 0
Good p l = tests p l ≡ Ok tt
