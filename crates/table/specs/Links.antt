-- Document 01, refusal 5: links in range and the right way, and every record but the root term named exactly once.
-- Assumes nothing.
use Rattle.std.specs.Prelude.{Bool, true, ◌&&◌, ◌||◌, not, cond, List, [], ◌∷◌, ℕ, zero, suc, ◌+◌, eqb, ltb}
use Rattle.numbers.specs.declared.record.Record.{Record}
use Rattle.numbers.specs.Limits.{none}
use Rattle.layout.specs.declared.record.TermRecord.{TermRecord}
use Rattle.table.specs.declared.Purpose.{Purpose}
use Rattle.table.specs.declared.Purpose.TheVariants.{Check, Filling}
use Rattle.layout.specs.File.{props, terms, expected, prop_record, term_record, prop_kind, kind_of}
use Rattle.layout.specs.Form.{prop_shape, term_shape}

-- WHAT A RECORD NAMES: a proposition its children (a and b, or the body c)
unfoldable pub prop_children : ℕ → Record → List ℕ
prop_children zero r = []
prop_children (suc zero) r = r.c ∷ []
prop_children (suc (suc k)) r = r.a ∷ r.b ∷ []

abbrev pub prop_links : Record → List ℕ
prop_links r = prop_children (prop_shape (prop_kind r.kind)).children r

-- a term its children
unfoldable pub term_children : ℕ → TermRecord → List ℕ
term_children zero r = []
term_children (suc zero) r = r.child1.0 ∷ []
term_children (suc (suc zero)) r = r.child1.0 ∷ r.child2.0 ∷ []
term_children (suc (suc (suc k))) r = r.child1.0 ∷ r.child2.0 ∷ r.child3.0 ∷ []

abbrev pub term_links : TermRecord → List ℕ
term_links r = term_children (term_shape (kind_of r.kind)).children r

-- and, where its tag is 1, the proposition that is its type
unfoldable pub annotation_links : ℕ → ℕ → List ℕ
annotation_links tag m = cond (eqb tag 1) (m ∷ []) []

abbrev pub annotation : TermRecord → List ℕ
annotation r = annotation_links r.tag r.typ

-- the header of a table to check names the expected proposition
abbrev pub heads : Purpose → List ℕ → List ℕ
heads Check l = expected l ∷ []
heads Filling l = []

-- IN RANGE AND THE RIGHT WAY: children of propositions have smaller numbers, children of terms larger ones
unfoldable pub all_links : (ℕ → Bool) → List ℕ → Bool
all_links ok [] = true
all_links ok (m ∷ ms) = ok m && all_links ok ms

abbrev pub prop_links_ok : List ℕ → ℕ → Bool
prop_links_ok l n = all_links (λ m. ltb m n) (prop_links (prop_record l n))

abbrev pub term_links_ok : List ℕ → ℕ → Bool
term_links_ok l t =
    all_links (λ m. ltb t m && ltb m (terms l)) (term_links (term_record l t))
    && all_links (λ m. ltb m (props l)) (annotation (term_record l t))

-- a check has an expected proposition, a filling has none
abbrev pub expected_ok : Purpose → List ℕ → Bool
expected_ok Check l = ltb (expected l) (props l)
expected_ok Filling l = eqb (expected l) none

-- HOW OFTEN a record is named, by all the links of the table
unfoldable pub hits : ℕ → List ℕ → ℕ
hits n [] = 0
hits n (m ∷ ms) = cond (eqb m n) 1 0 + hits n ms

unfoldable pub sum : (ℕ → ℕ) → ℕ → ℕ
sum f zero = 0
sum f (suc k) = f k + sum f k

abbrev pub prop_named : Purpose → List ℕ → ℕ → ℕ
prop_named p l n =
    hits n (heads p l) + (sum (λ m. hits n (prop_links (prop_record l m))) (props l) + sum (λ t. hits n (annotation (term_record l t))) (terms l))

abbrev pub term_named : List ℕ → ℕ → ℕ
term_named l t = sum (λ s. hits t (term_links (term_record l s))) (terms l)

-- GUILTY
unfoldable pub badly_linked_prop : Purpose → List ℕ → ℕ → Bool
badly_linked_prop p l n = not (prop_links_ok l n && eqb (prop_named p l n) 1)

unfoldable pub badly_linked_term : List ℕ → ℕ → Bool
badly_linked_term l t = not (term_links_ok l t && (eqb t 0 || eqb (term_named l t) 1))
