-- Document 01, "Tree, goals, filling": the edited table. Where the old table has the Sorry record it has the filling's root; all other records of the filling
-- stand behind the old ones of their sort, and each link follows its record. Names, datatypes and predicates stay.
-- Assumes nothing.
use Rattle.std.specs.Prelude.{◌≡◌, cond, List, [], ◌∷◌, ℕ, ◌+◌, ◌-◌, ◌*◌, ◌<◌, length, get_or, eqb, ltb, Result, ⊤, Ok}
use Rattle.numbers.specs.declared.record.Record.{Record}
use Rattle.numbers.specs.declared.refusal.Refusal.{Refusal}
use Rattle.numbers.specs.Records.{record_at}
use Rattle.numbers.specs.Limits.{most_propositions, most_terms}
use Rattle.layout.specs.File.{props, terms, file_size, prop_record, term_record, prop_kind, Sorry, kind_of}
use Rattle.layout.specs.Form.{prop_shape, term_shape}
use Rattle.table.specs.declared.Purpose.TheVariants.{Check, Filling}
use Rattle.table.specs.Tests.{counts, oversized, unless, accused}
use Rattle.table.specs.Passing.{Good}

-- WHERE THE FILLING'S RECORDS GO in a table of p propositions and t terms: proposition j, and term i > 0 (the root takes no place at the end)
abbrev pub new_prop : (p j : ℕ) → ℕ
new_prop p j = p + j

abbrev pub new_term : (t i : ℕ) → ℕ
new_term t i = t + i - 1

-- THE FILLING'S RECORDS with their links moved; a field that is no link stays. A proposition's children are a and b, or the body c
abbrev pub moved_children : (children p : ℕ) → Record → Record
moved_children k p r =
    record {
      kind = r.kind;
      count = r.count;
      a = cond (ltb 1 k) (new_prop p r.a) r.a;
      b = cond (ltb 1 k) (new_prop p r.b) r.b;
      c = cond (eqb k 1) (new_prop p r.c) r.c;
      parameters = r.parameters;
    }

abbrev pub moved_prop : (p : ℕ) → Record → Record
moved_prop p r = moved_children (prop_shape (prop_kind r.kind)).children p r

-- a term's are the first of its four numbers, and under tag 1 its type is a link too
abbrev pub moved_subterm : (children t i : ℕ) → Record → ℕ
moved_subterm k t i r = cond (ltb i k) (new_term t (get_or r.parameters i 0)) (get_or r.parameters i 0)

abbrev pub moved_subterms : (children p t : ℕ) → Record → Record
moved_subterms k p t r =
    record {
      kind = r.kind;
      count = r.count;
      a = cond (eqb r.count 1) (new_prop p r.a) r.a;
      b = r.b;
      c = r.c;
      parameters = moved_subterm k t 0 r ∷ moved_subterm k t 1 r ∷ moved_subterm k t 2 r ∷ get_or r.parameters 3 0 ∷ [];
    }

abbrev pub moved_term : (p t : ℕ) → Record → Record
moved_term p t r = moved_subterms (term_shape (kind_of r.kind)).children p t r

-- THE EDITED TABLE'S COUNTS and its length; and its header: the old one but for the counts
abbrev pub all_props : (old f : List ℕ) → ℕ
all_props old f = props old + props f

abbrev pub all_terms : (old f : List ℕ) → ℕ
all_terms old f = terms old + terms f - 1

abbrev pub edited_size : (old f : List ℕ) → ℕ
edited_size old f = file_size (all_props old f) (all_terms old f)

-- the longest there can be, of a table and a filling that keep the limits
abbrev pub edited_bytes : ℕ
edited_bytes = file_size (2 * most_propositions) (2 * most_terms - 1)

abbrev pub recounted : (p t : ℕ) → Record → Record
recounted p t r =
    record {
      kind = r.kind;
      count = r.count;
      a = r.a;
      b = r.b;
      c = p;
      parameters = t ∷ get_or r.parameters 1 0 ∷ get_or r.parameters 2 0 ∷ get_or r.parameters 3 0 ∷ [];
    }

-- term t as a plain record
abbrev pub term_bytes : List ℕ → ℕ → Record
term_bytes l t = record_at l (props l + t + 1)

-- THE FILLING f FITS the Sorry record q of the old table, both having passed their tests
pub record Fillable (old f : List ℕ) (q : ℕ) : Type 0 where
  pub old_good : Good Check old
  pub good : Good Filling f
  pub inside : q < terms old
  pub gap : kind_of (term_record old q).kind ≡ Sorry

-- A list OF BYTES, as any slice of them is
abbrev pub Bytes : List ℕ → Type 0
Bytes l = (i : ℕ) → get_or l i 0 < 256

-- e IS THE OLD TABLE JOINED WITH THE FILLING f, but with the record r for its term q. For a term q of the old table this settles
-- every byte of a list e of bytes: the header is record 0, and each record after it is one of those named here
pub record Joined (old f : List ℕ) (q : ℕ) (r : Record) (e : List ℕ) : Type 0 where
  pub size : length e ≡ edited_size old f
  pub head : record_at e 0 ≡ recounted (all_props old f) (all_terms old f) (record_at old 0)
  pub old_prop : (n : ℕ) → n < props old → prop_record e n ≡ prop_record old n
  pub added_prop : (j : ℕ) → j < props f → prop_record e (new_prop (props old) j) ≡ moved_prop (props old) (prop_record f j)
  pub old_term : (t : ℕ) → t < terms old → (t ≡ q → ⊥) → term_bytes e t ≡ term_bytes old t
  pub here : term_bytes e q ≡ r
  pub added_term : (i : ℕ) → 0 < i → i < terms f → term_bytes e (new_term (terms old) i) ≡ moved_term (props old) (terms old) (term_bytes f i)

-- THE EDITED TABLE: joined, with the filling's root for the Sorry record q
abbrev pub Edited : (old f : List ℕ) → ℕ → List ℕ → Type 0
Edited old f q e = Joined old f q (moved_term (props old) (terms old) (term_bytes f 0)) e

-- ITS TESTS: 3, then 6, from the last one up as the table's own
unfoldable pub edited_from_sizes : List ℕ → Result ⊤ Refusal
edited_from_sizes e = accused 6 (oversized e) (Ok tt)

unfoldable pub edited_tests : List ℕ → Result ⊤ Refusal
edited_tests e = unless (counts e) 3 (edited_from_sizes e)
