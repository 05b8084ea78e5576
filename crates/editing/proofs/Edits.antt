-- The edited table of a table and a filling that pass their tests: it passes 2, 4, 5 and 7 by itself, so 3 and 6 settle that it passes. Its root stands for the old
-- root with the filling, of as many nodes as that has terms, in place of one gap.
-- Assumes nothing.
use Rattle.std.specs.Prelude.{Option, Some, None, Ok, Err}
use mathlib.Core.Path.{◌≡◌, refl, ap, sym, ◌∙◌}
use mathlib.Core.Bool.{Bool, true, false, not, cond}
use mathlib.Core.List.{List, []}
use Prim.Native.Nat.{ℕ, ◌+◌, ◌*◌, ◌<◌, ◌≤◌}
use native.Mathlib.Nat.{add-mul}
use native.Mathlib.Omega.{arith}
use lib.Dec.{eqb}
use Rattle.numbers.specs.declared.record.Record.{Record}
use Rattle.numbers.specs.Limits.{most_propositions, most_terms}
use Rattle.numbers.specs.Refusals.{refusal_at}
use Rattle.layout.specs.File.{props, terms, expected, prop_record, term_record}
use Rattle.layout.specs.Form.{prop_form, term_form}
use Rattle.rules.specs.Prop.{prop, closed}
use Rattle.rules.specs.Term.{Term, leaf, single, double, triple, sorry, place, nodes, gaps, plug}
use Rattle.rules.specs.State.{St, start}
use Rattle.rules.specs.Tree.{Gap}
use Rattle.rules.specs.Step.{check, ok, Answer}
use Rattle.rules.specs.Rules.{run}
use Rattle.rules.specs.Filling.{At as Stands}
use Rattle.table.specs.declared.Purpose.TheVariants.{Check, Filling}
use Rattle.table.specs.Links.{badly_linked_prop, badly_linked_term}
use Rattle.table.specs.Reading.{prop_at, term_at}
use Rattle.table.specs.Tests.{counts, or_term, formless, badly_linked, oversized, open_goal, unless, accused}
use Rattle.table.specs.Tests.{from_goal, from_sizes, from_links, from_expected, from_forms, from_counts, tests}
use Rattle.table.specs.Passing.{Counted, Formed, Linked, Directed, Good}
use Rattle.table.proofs.Firsts.{first_nobody}
use Rattle.table.proofs.Headers.{counted}
use Rattle.table.proofs.Links.{directed, expected_in}
use Rattle.table.proofs.Reading.{place_at}
use Rattle.table.proofs.Counting.{nodes_root, gaps_one}
use Rattle.table.proofs.Passing.{Passed, good_passed, good_closed}
use Rattle.table.proofs.Fills.{goal_sorry}
use Rattle.editing.specs.Edited.{all_props, all_terms, moved_term, term_bytes, Fillable, Joined, Edited, edited_from_sizes, edited_tests}
use Rattle.editing.proofs.Joins.{Sits, old_sits, added_sits, terms_joined, expected_joined, joined_counted, joined_formed, joined_directed}
use Rattle.editing.proofs.Heads.{header_joined}
use Rattle.editing.proofs.Propositions.{prop_same}
use Rattle.editing.proofs.Terms.{term_plugged, term_same}
use Rattle.editing.proofs.Names.{edited_linked}

-- ITS TESTS in one line
pub in_order : (e : List ℕ) → edited_tests e ≡ unless (counts e) 3 (accused 6 (oversized e) (Ok tt))
unfolding edited_tests edited_from_sizes
in_order e = refl

-- what the code of these tests leans on
pub ruleset in_turn = (in_order, counted)

-- TESTS 4 AND 5 find nobody
nobody : (g h : Option ℕ) (p : ℕ) → g ≡ None → h ≡ None → or_term g p h ≡ None
unfolding or_term
nobody g h p x y = rw (x, y)

none_formless : (l : List ℕ) → Formed l → formless l ≡ None
unfolding formless
none_formless l f =
    nobody _ _ (props l) (first_nobody (λ n. not (prop_form (prop_record l n))) (props l) (λ n k. ap not (f.prop n k)))
    (first_nobody (λ t. not (term_form (term_record l t))) (terms l) (λ t k. ap not (f.term t k)))

none_badly_linked : (l : List ℕ) → Linked Check l → badly_linked Check l ≡ None
unfolding badly_linked
none_badly_linked l h = nobody _ _ (props l) (first_nobody (badly_linked_prop Check l) (props l) h.prop) (first_nobody (badly_linked_term l) (terms l) h.term)

-- NODES of a term with its gaps q plugged
nodes_plug : (q : ℕ) (u t : Term) → nodes (plug q u t) + gaps q t ≡ nodes t + gaps q t * nodes u
unfolding nodes gaps plug
nodes_plug q u (leaf p k) = omega arith
nodes_plug q u (single p k a) = omega (arith, nodes_plug q u a)
nodes_plug q u (double p k a b) = omega (arith, nodes_plug q u a, nodes_plug q u b, add-mul (gaps q a) (gaps q b) (nodes u))
nodes_plug q u (triple p k a b c) =
    omega (arith, nodes_plug q u a, nodes_plug q u b, nodes_plug q u c, add-mul (gaps q a) (gaps q b + gaps q c) (nodes u), add-mul (gaps q b) (gaps q c) (nodes u))
nodes_plug q u (sorry p) = at (eqb p q)
  where
    at : (x : Bool) → nodes (cond x u (sorry p)) + cond x 1 0 ≡ 1 + cond x 1 0 * nodes u
    at true = omega arith
    at false = omega arith

-- A GOAL of the old table's run can be filled
pub goal_fillable : (old f : List ℕ) → Good Check old → Good Filling f → (a : Answer) (st : St)
    → run (term_at old 0) (check (prop (prop_at old (expected old)))) [] start ≡ ok a st → (g : Gap) → Stands g a.tree → Fillable old f g.term
goal_fillable old f good fills a st accepted g p =
    let s = goal_sorry old good a st accepted g p in
    record { old_good = good; good = fills; inside = s.0; gap = s.1 }

-- BOTH TABLES pass. Then the Sorry record, and the filling's root moved, may each stand at q
module _ {old f : List ℕ} {q : ℕ} (h : Fillable old f q) where
  o : Passed Check old
  o = good_passed h.old_good

  g : Passed Filling f
  g = good_passed h.good

  pub both_tested : Counted old × (Counted f × Directed f)
  both_tested = (o.counted, (g.counted, directed g.linked))

  pub stays : Sits (all_props old f) (all_terms old f) q (term_bytes old q)
  stays = old_sits old f o.formed (directed o.linked) g.counted.some q h.inside

  pub replaces : Sits (all_props old f) (all_terms old f) q (moved_term (props old) (terms old) (term_bytes f 0))
  replaces = added_sits old f g.formed (directed g.linked) (omega (arith, h.inside)) 0 q g.counted.some (omega (arith, h.inside))

  -- WHATEVER STANDS THERE
  module _ {r : Record} {e : List ℕ} (J : Joined old f q r e) where
    pub whole_prop : (n : ℕ) → n < props old → prop_at e n ≡ prop_at old n
    whole_prop = prop_same J (directed o.linked)

    pub whole_counted : all_props old f ≤ most_propositions → all_terms old f ≤ most_terms → Counted e
    whole_counted = joined_counted J h.inside g.counted.some

    module _ (root : Sits (all_props old f) (all_terms old f) q r) where
      pub whole_formed : Formed e
      whole_formed = joined_formed J h.inside g.counted.some o.formed g.formed (directed o.linked) (directed g.linked) root

      pub whole_directed : Directed e
      whole_directed = joined_directed J h.inside g.counted.some o.formed g.formed (directed o.linked) (directed g.linked) root

  -- WITH THE SORRY STILL THERE the old terms are as they were
  pub waiting_term : {e : List ℕ} → Joined old f q (term_bytes old q) e → (t : ℕ) → t < terms old → term_at e t ≡ term_at old t
  waiting_term J = term_same J (directed o.linked) (whole_directed J stays) h.inside g.counted.some h.gap h.gap

  pub one_gap : gaps q (term_at old 0) ≡ 1
  one_gap = gaps_one o.formed o.linked o.counted.some q h.inside h.gap

  -- WITH THE FILLING'S ROOT
  module _ {e : List ℕ} (E : Edited old f q e) where
    pub filled_term : (t : ℕ) → t < terms old → term_at e t ≡ plug q (term_at e q) (term_at old t)
    filled_term = term_plugged E (directed o.linked) (whole_directed E replaces) h.inside g.counted.some h.gap

    pub filling_place : place (term_at e q) ≡ q
    filling_place = place_at e q

    -- test 5
    pub edited_in_order : Linked Check e
    edited_in_order = edited_linked E h.inside g.counted.some o.formed h.gap o.linked g.linked (whole_directed E replaces)

    -- the filling has as many nodes as terms
    pub filling_nodes : nodes (term_at e q) ≡ terms f
    filling_nodes =
        let a : nodes (term_at e 0) ≡ nodes (plug q (term_at e q) (term_at old 0)) = ap nodes (filled_term 0 o.counted.some) in
        let b : gaps q (term_at old 0) * nodes (term_at e q) ≡ 1 * nodes (term_at e q) = ap (λ (n : ℕ). n * nodes (term_at e q)) one_gap in
        omega (
          arith,
          nodes_plug q (term_at e q) (term_at old 0),
          one_gap,
          nodes_root o.formed o.linked o.counted.some,
          terms_joined E,
          nodes_root (whole_formed E replaces) edited_in_order (omega (arith, terms_joined E, h.inside, g.counted.some)),
          g.counted.some,
        )

    -- test 7
    pub edited_closed : closed (prop_at e (expected e)) ≡ true
    edited_closed =
        ap (λ (n : ℕ). closed (prop_at e n)) (expected_joined E) ∙ ap closed (whole_prop E (expected old) (expected_in o.linked)) ∙ good_closed old h.old_good

    -- so tests 3 and 6 settle the rest
    edited_uncounted : counts e ≡ false → Err (refusal_at 3 0) ≡ tests Check e
    unfolding tests from_counts unless
    edited_uncounted c = rw (header_joined E o.marked, c)

    edited_counted : counts e ≡ true → tests Check e ≡ from_sizes Check e
    unfolding tests from_counts from_forms from_expected from_links unless accused
    edited_counted c =
        rw (
          header_joined E o.marked,
          c,
          none_formless e (whole_formed E replaces),
          edited_in_order.goal,
          none_badly_linked e edited_in_order,
        )

    edited_large : (i : ℕ) → oversized e ≡ Some i → Err (refusal_at 6 i) ≡ from_sizes Check e
    unfolding from_sizes accused
    edited_large i big = rw big

    edited_small : oversized e ≡ None → from_sizes Check e ≡ Ok tt
    unfolding from_sizes from_goal open_goal accused
    edited_small small = rw (small, edited_closed)

    pub edited_passes : counts e ≡ true → oversized e ≡ None → Good Check e
    edited_passes c small = edited_counted c ∙ edited_small small

    -- and its tests are those of a check
    pub edited_verdict : edited_tests e ≡ tests Check e
    unfolding edited_tests edited_from_sizes unless accused
    edited_verdict = at (counts e) refl (oversized e) refl
      where
        at : (b : Bool) → counts e ≡ b → (g : Option ℕ) → oversized e ≡ g → unless b 3 (accused 6 g (Ok tt)) ≡ tests Check e
        at true c None small = sym (edited_passes c small)
        at true c (Some i) big = edited_large i big ∙ sym (edited_counted c)
        at false c g small = edited_uncounted c

    pub edited_good : edited_tests e ≡ Ok tt → Good Check e
    edited_good z = sym edited_verdict ∙ z
