-- Document 01, "Refusal numbers": tests 2 to 7 in their order, for a table to check and for a filling, and what they answer.
-- Assumes nothing.
use Rattle.std.specs.Prelude.{Bool, ◌&&◌, not, cond, ◌≡◌, List, ℕ, ◌+◌, ◌*◌, ◌≤◌, length, get_or, eqb, leb, Option, Some, None, Result, ⊤, Ok, Err}
use Rattle.numbers.specs.Records.{word_at}
use Rattle.numbers.specs.declared.refusal.Refusal.{Refusal}
use Rattle.numbers.specs.Refusals.{refusal_at}
use Rattle.numbers.specs.Rooms.{cleared}
use Rattle.numbers.specs.Limits.{most_propositions, most_terms}
use Rattle.rules.specs.Prop.{closed}
use Rattle.table.specs.declared.Purpose.{Purpose}
use Rattle.table.specs.declared.Purpose.TheVariants.{Check, Filling}
use Rattle.layout.specs.File.{props, terms, expected, file_size, prop_record, term_record}
use Rattle.layout.specs.Form.{prop_form, term_form}
use Rattle.table.specs.Links.{expected_ok, badly_linked_prop, badly_linked_term}
use Rattle.table.specs.Reading.{first, prop_at}
use Rattle.table.specs.Size.{too_high, too_deep}

-- TEST 2: at least a header, its mark "NDT" and a zero, version 1, and zeros at its end
abbrev pub mark : List ℕ → Bool
mark l = eqb (get_or l 0 0) 78 && (eqb (get_or l 1 0) 68 && (eqb (get_or l 2 0) 84 && eqb (get_or l 3 0) 0))

abbrev pub blank : List ℕ → Bool
blank l = eqb (get_or l 12 0) 0 && (eqb (get_or l 13 0) 0 && (eqb (get_or l 14 0) 0 && eqb (get_or l 15 0) 0))

unfoldable pub header : List ℕ → Bool
header l = leb 16 (length l) && (mark l && (eqb (word_at l 4) 1 && blank l))

-- TEST 3: the counts within their limits, and a length that goes with them
unfoldable pub counts : List ℕ → Bool
counts l =
    (leb (props l) most_propositions && (leb 1 (terms l) && leb (terms l) most_terms)) && eqb (length l) (file_size (props l) (terms l))

-- THE LOWEST guilty record of tests 4, 5 and 6, propositions counted before terms
unfoldable pub or_term : Option ℕ → ℕ → Option ℕ → Option ℕ
or_term (Some n) p g = Some n
or_term None p (Some t) = Some (p + t)
or_term None p None = None

abbrev pub lowest : List ℕ → (ℕ → Bool) → (ℕ → Bool) → Option ℕ
lowest l prop-guilty term-guilty = or_term (first prop-guilty (props l)) (props l) (first term-guilty (terms l))

-- a guilty record's number is within n
abbrev pub AtMost : ℕ → Option ℕ → Type 0
AtMost n (Some i) = i ≤ n
AtMost n None = Unit {0}

-- TEST 4
unfoldable pub formless : List ℕ → Option ℕ
formless l = lowest l (λ n. not (prop_form (prop_record l n))) (λ t. not (term_form (term_record l t)))

-- TEST 5, but for the expected field
unfoldable pub badly_linked : Purpose → List ℕ → Option ℕ
badly_linked p l = lowest l (badly_linked_prop p l) (badly_linked_term l)

-- TEST 6
unfoldable pub oversized : List ℕ → Option ℕ
oversized l = lowest l (too_high l) (too_deep l)

-- TEST 7: a check's expected proposition has no free name
unfoldable pub open_goal : Purpose → List ℕ → Option ℕ
open_goal Check l = cond (closed (prop_at l (expected l))) None (Some (expected l))
open_goal Filling l = None

-- ONE TEST and what comes after it: a refusal, at the guilty record or at place 0 where no record is to blame, or the rest
unfoldable pub unless : Bool → ℕ → Result ⊤ Refusal → Result ⊤ Refusal
unless ok k rest = cond ok rest (Err (refusal_at k 0))

unfoldable pub accused : ℕ → Option ℕ → Result ⊤ Refusal → Result ⊤ Refusal
accused k (Some i) rest = Err (refusal_at k i)
accused k None rest = rest

-- THE TESTS, as a chain: each definition is the tests from one on, in the order 2, 3, 4, 5, 6, 7 of `tests`, and so the last stands first
-- here. A test more is a definition more, named by the one before it
unfoldable pub from_goal : Purpose → List ℕ → Result ⊤ Refusal
from_goal p l = accused 7 (open_goal p l) (Ok tt)

unfoldable pub from_sizes : Purpose → List ℕ → Result ⊤ Refusal
from_sizes p l = accused 6 (oversized l) (from_goal p l)

unfoldable pub from_links : Purpose → List ℕ → Result ⊤ Refusal
from_links p l = accused 5 (badly_linked p l) (from_sizes p l)

unfoldable pub from_expected : Purpose → List ℕ → Result ⊤ Refusal
from_expected p l = unless (expected_ok p l) 5 (from_links p l)

unfoldable pub from_forms : Purpose → List ℕ → Result ⊤ Refusal
from_forms p l = accused 4 (formless l) (from_expected p l)

unfoldable pub from_counts : Purpose → List ℕ → Result ⊤ Refusal
from_counts p l = unless (counts l) 3 (from_forms p l)

unfoldable pub tests : Purpose → List ℕ → Result ⊤ Refusal
tests p l = unless (header l) 2 (from_counts p l)

-- THE ENTRY: a room of at least `test_room` bytes, two for each proposition that a table may have, else refusal 1; those bytes are zeros
-- afterwards
abbrev pub test_room : ℕ
test_room = 2 * most_propositions

pub record Tested (p : Purpose) (l work left : List ℕ) (v : Result ⊤ Refusal) : Type 0 where
  pub verdict : v ≡ unless (leb test_room (length work)) 1 (tests p l)
  pub room : left ≡ cleared test_room work
