-- Document 01, case 13, as files: the old table with its goal, the two fillings, and the edited tables.
-- Assumes nothing.
use Rattle.std.specs.Prelude.{◌≡◌, true, List, [], ◌∷◌, ℕ, length, take, Ok, Err}
use Rattle.numbers.specs.Refusals.{refusal_at}
use Rattle.rules.specs.Prop.{prop}
use Rattle.rules.specs.Context.{entry}
use Rattle.rules.specs.State.{St}
use Rattle.rules.specs.Term.{Term, plug}
use Rattle.rules.specs.Tree.{Gap, end, gap, node}
use Rattle.rules.specs.Step.{Answer}
use Rattle.rules.specs.Cases.{Mark, no, yes, from, ◌⇒◌}
use Rattle.table.specs.declared.Purpose.TheVariants.{Filling}
use Rattle.table.specs.Tests.{tests}
use Rattle.table.specs.Reading.{term_at}
use Rattle.editing.specs.Edited.{Edited, edited_tests}
use Rattle.filling.specs.declared.answer.Which.TheVariants.{Old, Edit}
use Rattle.filling.specs.Fill.{Lent, all_long, Filled, Fills}
use Rattle.starred.specs.Printed.{Yes}
use Rattle.starred.specs.Tables.{h, A}

-- the goal of "fun h. sorry", its tree, and what the check answers
abbrev pub hole : Gap
hole = record { term = 1; ctx = entry h 0 (prop (from 0 A)) ∷ []; wanted = prop (from 1 A); state = record { serials = 1; made = 0 } }

abbrev pub with_hole : Answer
with_hole =
    record {
      ty = prop (from 0 (A ⇒ A));
      tree = node (record { rule = 5; term = 0; concludes = prop (from 0 (A ⇒ A)); serials = 0 ∷ [] }) (gap hole end) end;
    }

abbrev pub one_serial : St
one_serial = record { serials = 1; made = 0 }

-- A FILLING f of goal k, the Sorry record q, by u: the edited table is e, byte by byte, and it reads as the plugged script
pub record Edits (l f : List ℕ) (q : ℕ) (u : Term) (e : List ℕ) : Type 0 where
  pub fills : tests Filling f ≡ Ok tt
  pub edited : Edited l f q e
  pub passes : edited_tests e ≡ Ok tt
  pub hole : term_at e q ≡ u
  pub root : term_at e 0 ≡ plug q u (term_at l 0)

-- THE ANSWER r to such a filling, and the rooms it left, as the program prints them: the filling's own mark, and once accepted the edited table's bytes
abbrev pub FillPrints : List ℕ → Lent → Mark → Filled → Type 0
FillPrints e S (no n p) r = r ≡ Err (record { refusal = refusal_at n p; which = Edit })
FillPrints e S (yes ls gs) (Ok c) = Yes S.rooms ls gs c × (take (length e) S.edited ≡ e)
FillPrints e S (yes ls gs) (Err z) = ⊥

-- goal k of l FILLED with f is marked m by every call, whatever its rooms held, and makes the table e
abbrev pub FilledBy : (l f : List ℕ) → ℕ → (e : List ℕ) → Mark → Type 0
FilledBy l f k e m = (S S' : Lent) (r : Filled) → all_long S ≡ true → Fills S S' l f k r → FillPrints e S' m r

-- l has no goal k, whatever is to fill it
abbrev pub NoGoal : (l f : List ℕ) → ℕ → Type 0
NoGoal l f k = (S S' : Lent) (r : Filled) → all_long S ≡ true → Fills S S' l f k r → r ≡ Err (record { refusal = refusal_at 31 0; which = Old })
