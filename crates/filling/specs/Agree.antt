-- DEMAND 3 about bytes: filling a goal says what a fresh check of the edited table says. Three calls: a check of table l is accepted, its goal k is filled
-- with f, and the edited table is checked. `Settled` has what the first two found; `Agrees` holds the third to the second. After an accepted filling
-- a fresh check is refused for the limit (30) or not at all: no other number comes from tests or rules.
-- Assumes nothing.
use Rattle.std.specs.Prelude.{◌≡◌, true, ◌⊎◌, List, ◌++◌, map, ℕ, ◌+◌, ◌-◌, ◌<◌, ◌≤◌, Ok, Err}
use Rattle.numbers.specs.Refusals.{refusal_at}
use Rattle.rules.specs.State.{St, limit, later}
use Rattle.rules.specs.Tree.{Gap, move_gap, goals}
use Rattle.rules.specs.Step.{ok, Answer}
use Rattle.rules.specs.Filling.{before, after, lift, filled, RunsAfter, at_goal}
use Rattle.table.specs.declared.Purpose.TheVariants.{Filling}
use Rattle.table.specs.Tests.{tests}
use Rattle.table.specs.Reading.{term_at}
use Rattle.step.specs.Rooms.{Rooms}
use Rattle.entry.specs.declared.Counts.{Counts}
use Rattle.entry.specs.Mark.{long_enough, table_run, Emptied, Kept, counts_of, Mark, Marks}
use Rattle.filling.specs.declared.answer.Which.TheVariants.{Edit}
use Rattle.filling.specs.Fill.{Lent, all_long, Filled, Accepts, Goal, Fills}

-- WHAT THE FILLING ITSELF MADE, of its answer's counts: the propositions made before the hole are not its own
abbrev pub own : Gap → Counts → St
own g c = record { serials = c.serials; made = c.made - g.state.made }

-- the old counts with the filling's, in place of one goal, where it made d
abbrev pub joint : (old filling : Counts) → St → Counts
joint o c d =
    record {
      records = o.records + c.records - 1;
      goals = o.goals + c.goals - 1;
      serials = o.serials + d.serials;
      made = o.made + d.made;
    }

-- A FRESH CHECK of the edited table, in rooms R: it is marked m, and leaves R'. The old check ended with a and st, and z is its goal
module _ {S S' : Lent} {l f : List ℕ} {k : ℕ} {a : Answer} {r : Filled} (z : Goal S S' l f k a r) (st : St) (R R' : Rooms) (m : Mark) where
  -- either there is no room for all that both made: it is refused 30 at a term of the old table that runs after the hole
  pub record Outgrown (d : St) : Type 0 where
    pub over : limit < st.made + d.made
    pub place : ℕ
    pub behind : RunsAfter z.goal.term place (term_at l 0)
    pub answer : m ≡ Err (refusal_at 30 place)
    pub rooms : Emptied R R'

  -- or it is accepted: in the old tree the filling's own stands for the goal, as do its goals, and serials made after the hole are moved up by as many as
  -- the filling made. Only the numbers of made propositions are left open, as after any check
  pub record Grafted (c : Counts) (d : St) : Type 0 where
    pub fits : st.made + d.made ≤ limit
    pub filling : Answer
    pub ran : at_goal (term_at z.table z.goal.term) z.goal ≡ ok filling (later d z.goal.state)
    pub alone : Accepts S S' z.table z.goal filling (later d z.goal.state) (Ok c)
    pub answer : m ≡ Ok (joint (counts_of a st) c d)
    pub rooms : Kept z.table R R' (filled z.goal a z.stands filling.tree d) (later d st)
    pub goals : goals (filled z.goal a z.stands filling.tree d).tree
        ≡ before z.stands ++ (goals filling.tree ++ map (move_gap (lift z.goal d) d) (after z.stands))

  -- IT AGREES with the filling's answer. A refusal, by the edited table's tests or by the filling's run, is the same at the same place
  abbrev pub Agrees : Filled → Type 0
  Agrees (Err e) = (e.which ≡ Edit) × (m ≡ Err e.refusal) × Emptied R R'
  Agrees (Ok c) = Outgrown (own z.goal c) ⊎ Grafted c (own z.goal c)

-- THE OLD CHECK, accepted with the counts c: what the rules say of the table, and what is left in its rooms
pub record FirstCheck (l : List ℕ) (Q Q' : Rooms) (c : Counts) : Type 0 where
  pub answer : Answer
  pub state : St
  pub run : table_run l ≡ ok answer state
  pub counts : c ≡ counts_of answer state
  pub rooms : Kept l Q Q' answer state

-- WHAT THE FIRST TWO CALLS FOUND, and that every fresh check agrees
pub record Settled (l f : List ℕ) (k : ℕ) (Q Q' : Rooms) (c : Counts) (S S' : Lent) (r : Filled) : Type 0 where
  pub old : FirstCheck l Q Q' c
  pub goal : Goal S S' l f k old.answer r
  pub fresh : (R R' : Rooms) (m : Mark) → long_enough R ≡ true → Marks goal.table R R' m → Agrees goal old.state R R' m r

-- THE THEOREM, for a goal's number k, a filling f that passes its own tests, and rooms that are long enough
abbrev pub Demand3Bytes : Type 0
Demand3Bytes =
    (l f : List ℕ) (k : ℕ) (Q Q' : Rooms) (c : Counts) (S S' : Lent) (r : Filled) → Marks l Q Q' (Ok c) → Fills S S' l f k r
    → k < c.goals → tests Filling f ≡ Ok tt → all_long S ≡ true → Settled l f k Q Q' c S S' r
