-- An answer in some rooms is the answer in others: in rooms of just the listed sizes, whatever they held before; and in rooms of any length, of which these are
-- the first bytes. Assumes nothing.
use mathlib.Core.Path.{◌≡◌, ap, sym, subst, subst⁻¹, ◌∙◌}
use mathlib.Core.Bool.{Bool, true, false}
use mathlib.Core.List.{List, [], ◌++◌}
use Prim.Native.Nat.{ℕ, ◌≤◌}
use native.Mathlib.Omega.{arith}
use borrow.Author.Tests.{leb-true}
use lib.ListN.{length, take, drop, length-take}
use lib.Dec.{leb, ltb}
use lib.Seq.{length-take-le, take-append-le}
use Rattle.std.specs.Prelude.{Result, ⊤, Ok, Err}
use Rattle.numbers.specs.declared.refusal.Refusal.{Refusal}
use Rattle.numbers.specs.Refusals.{refusal_at}
use Rattle.rules.specs.State.{St}
use Rattle.rules.specs.Tree.{Gap, holes}
use Rattle.rules.specs.Step.{Out, stop, ok, Answer}
use Rattle.rules.specs.Filling.{at_goal}
use Rattle.table.specs.declared.Purpose.TheVariants as purpose
use Rattle.table.specs.Tests.{tests}
use Rattle.table.specs.Reading.{term_at}
use Rattle.editing.specs.Edited.{edited_bytes, edited_tests}
use Rattle.entry.specs.Mark.{tree_bytes, goals_bytes, props_bytes, work_bytes, long_enough, table_run}
use Rattle.entry.proofs.Rests.{cleared_exact, cleared_parts, cleared_front}
use Rattle.entry.proofs.Answers.{both_true}
use Rattle.entry.proofs.Marks as marks
use Rattle.filling.specs.declared.answer.Which.{Which}
use Rattle.filling.specs.declared.answer.Which.TheVariants.{Old}
use Rattle.filling.specs.Fill.{Lent, Filled, lent, all_long, Refuses, Accepts, RunAs, EditedAs, Goal, GoalAs, FillingAs, OldAs, RoomsAs, Fills}
use Rattle.filling.specs.Steps.{ExactAll}

-- ROOMS OF JUST THE LISTED SIZES are of those sizes when they are as long as before
pub exact_kept : {t g p w e t' g' p' w' e' : List ℕ} → ExactAll (lent t g p w e) → length t' ≡ length t → length g' ≡ length g → length p' ≡ length p → length w' ≡ length w
    → length e' ≡ length e → ExactAll (lent t' g' p' w' e')
exact_kept x a b c d f =
    record { rooms = record { tree = a ∙ x.rooms.tree; goals = b ∙ x.rooms.goals; props = c ∙ x.rooms.props; work = d ∙ x.rooms.work }; edited = f ∙ x.edited }

-- a refusal, its rooms told one by one
pub left_refused : {S : Lent} {t g p w e t' g' p' w' : List ℕ} {z : Refusal} {k : Which} {r : Filled} → t' ≡ t → g' ≡ g → p' ≡ p → w' ≡ w → Refuses S (lent t g p w e) z k r → Refuses S (lent t' g' p' w' e) z k r
left_refused et eg ep ew h =
    record {
      answer = h.answer;
      rooms = record { tree = et ∙ h.rooms.tree; goals = eg ∙ h.rooms.goals; props = ep ∙ h.rooms.props; work = ew ∙ h.rooms.work };
      edited = h.edited;
    }

-- REFUSALS AND ACCEPTANCES CARRY OVER from the rooms S to the rooms T
pub record Carries (S S' T T' : Lent) : Type 0 where
  pub refuses : {e : Refusal} {w : Which} {r : Filled} → Refuses S S' e w r → Refuses T T' e w r
  pub accepts : {e : List ℕ} {g : Gap} {b : Answer} {st : St} {r : Filled} → Accepts S S' e g b st r → Accepts T T' e g b st r

-- then so does every stage
module _ {S S' T T' : Lent} (c : Carries S S' T T') where
  pub run_on : (e : List ℕ) (g : Gap) (r : Filled) (o : Out Answer) → RunAs S S' e g r o → RunAs T T' e g r o
  run_on e g r (stop s) z = c.refuses z
  run_on e g r (ok b st) z = c.accepts z

  pub edited_on : (e : List ℕ) (g : Gap) (r : Filled) (v : Result ⊤ Refusal) → EditedAs S S' e g r v → EditedAs T T' e g r v
  edited_on e g r (Err u) z = c.refuses z
  edited_on e g r (Ok u) z = run_on e g r (at_goal (term_at e g.term) g) z

  pub goal_on : (l f : List ℕ) (k : ℕ) (a : Answer) (r : Filled) → Goal S S' l f k a r → Goal T T' l f k a r
  goal_on l f k a r z =
      record {
        goal = z.goal;
        stands = z.stands;
        number = z.number;
        table = z.table;
        bytes = z.bytes;
        edited = z.edited;
        answer = edited_on z.table z.goal r (edited_tests z.table) z.answer;
      }

  choice_on : (l f : List ℕ) (k : ℕ) (a : Answer) (r : Filled) (b : Bool) → GoalAs S S' l f k a r b → GoalAs T T' l f k a r b
  choice_on l f k a r false z = c.refuses z
  choice_on l f k a r true z = goal_on l f k a r z

  pub filling_on : (l f : List ℕ) (k : ℕ) (a : Answer) (r : Filled) (v : Result ⊤ Refusal) → FillingAs S S' l f k a r v → FillingAs T T' l f k a r v
  filling_on l f k a r (Err u) z = c.refuses z
  filling_on l f k a r (Ok u) z = choice_on l f k a r (ltb k (holes a.tree)) z

  pub old_on : (l f : List ℕ) (k : ℕ) (r : Filled) (o : Out Answer) → OldAs S S' l f k r o → OldAs T T' l f k r o
  old_on l f k r (stop s) z = c.refuses z
  old_on l f k r (ok a st) z = filling_on l f k a r (tests purpose.Filling f) z

-- ROOMS OF JUST THE LISTED SIZES
pub carries_over : (S S₁ S' : Lent) → ExactAll S → ExactAll S₁ → Carries S₁ S' S S'
carries_over S S₁ S' x y =
    let same = cleared_exact edited_bytes S.edited S₁.edited x.edited y.edited in
    record {
      refuses = λ z. record { answer = z.answer; rooms = marks.emptied_over x.rooms y.rooms z.rooms; edited = z.edited ∙ same };
      accepts = λ z. record { answer = z.answer; rooms = marks.kept_over x.rooms y.rooms z.rooms; table = z.table; rest = z.rest ∙ same };
    }

-- ROOMS OF ANY LENGTH
abbrev pub firsts : Lent → Lent
firsts S = record { rooms = marks.firsts S.rooms; edited = take edited_bytes S.edited }

abbrev pub followed : Lent → Lent → Lent
followed S' S = record { rooms = marks.followed S'.rooms S.rooms; edited = S'.edited ++ drop edited_bytes S.edited }

module _ (S : Lent) (long : all_long S ≡ true) where
  lengths : (long_enough S.rooms ≡ true) × (edited_bytes ≤ length S.edited)
  unfolding all_long
  lengths = let z = both_true (long_enough S.rooms) (leb edited_bytes (length S.edited)) long in (z.0, leb-true edited_bytes (length S.edited) z.1)

  pub all_lengths : (tree_bytes ≤ length S.rooms.tree) × (goals_bytes ≤ length S.rooms.goals) × (props_bytes ≤ length S.rooms.props) × (work_bytes ≤ length S.rooms.work)
      × (edited_bytes ≤ length S.edited)
  all_lengths = let z = marks.lengths S.rooms lengths.0 in (z.0, z.1, z.2, z.3, lengths.1)

  pub firsts_exact : ExactAll (firsts S)
  firsts_exact = record { rooms = marks.firsts_exact S.rooms lengths.0; edited = length-take-le edited_bytes S.edited lengths.1 }

  pub carries_whole : (S' : Lent) → Carries (firsts S) S' S (followed S' S)
  carries_whole S' =
      record {
        refuses =
            λ z. record {
              answer = z.answer;
              rooms = marks.emptied_whole [] S.rooms S'.rooms lengths.0 z.rooms;
              edited = ap (λ (t : List ℕ). t ++ drop edited_bytes S.edited) z.edited ∙ cleared_parts edited_bytes S.edited lengths.1;
            };
        accepts =
            λ {e} z.
            let within : length e ≤ length S'.edited = omega (arith, length-take (length e) S'.edited, ap length z.table) in
            record {
              answer = z.answer;
              rooms = marks.kept_whole e S.rooms S'.rooms lengths.0 z.rooms;
              table = take-append-le (length e) S'.edited (drop edited_bytes S.edited) within ∙ z.table;
              rest = cleared_front (length e) edited_bytes S'.edited S.edited lengths.1 within z.rest;
            };
      }

  pub fills_long : (S' : Lent) (l f : List ℕ) (k : ℕ) (r : Filled) → OldAs (firsts S) S' l f k r (table_run l) → Fills S (followed S' S) l f k r
  fills_long S' l f k r z = subst⁻¹ (RoomsAs S (followed S' S) l f k r) long (old_on (carries_whole S') l f k r (table_run l) z)

pub fills_short : (S S' : Lent) (l f : List ℕ) (k : ℕ) (r : Filled) (u : Refusal) → all_long S ≡ false → u ≡ refusal_at 1 0 → Refuses S S' u Old r → Fills S S' l f k r
fills_short S S' l f k r u short e z = subst⁻¹ (RoomsAs S S' l f k r) short (subst (λ (u : Refusal). Refuses S S' u Old r) e z)

-- what the code's test of the rooms says
module _ (tree goals ps work edited : List ℕ) (b : Bool) (is : b ≡ all_long (lent tree goals ps work edited)) where
  pub long_true : b ≡ true → all_long (lent tree goals ps work edited) ≡ true
  long_true h = sym is ∙ h

  pub long_false : b ≡ false → all_long (lent tree goals ps work edited) ≡ false
  long_false h = sym is ∙ h

  pub tree_long : b ≡ true → tree_bytes ≤ length tree
  tree_long h = (all_lengths (lent tree goals ps work edited) (long_true h)).0

  pub goals_long : b ≡ true → goals_bytes ≤ length goals
  goals_long h = (all_lengths (lent tree goals ps work edited) (long_true h)).1

  pub props_long : b ≡ true → props_bytes ≤ length ps
  props_long h = (all_lengths (lent tree goals ps work edited) (long_true h)).2

  pub work_long : b ≡ true → work_bytes ≤ length work
  work_long h = (all_lengths (lent tree goals ps work edited) (long_true h)).3

  pub edited_long : b ≡ true → edited_bytes ≤ length edited
  edited_long h = (all_lengths (lent tree goals ps work edited) (long_true h)).4
