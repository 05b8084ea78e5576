-- Demand 3 about bytes: the edited table's tests are those of a fresh check, its root is the old one with the filling in the gap, and the rest is demand 3 of the rules.
-- Assumes nothing.
use mathlib.Core.Path.{◌≡◌, refl, ap, ap₂, subst, subst⁻¹, ◌∙◌}
use mathlib.Core.Bool.{Bool, true, false, cond}
use mathlib.Core.Logic.{◌⊎◌, inl, inr}
use mathlib.Core.List.{List}
use Prim.Native.Nat.{ℕ, suc, ◌+◌, ◌-◌, ◌<◌, ◌≤◌}
use native.Mathlib.Omega.{arith}
use borrow.Author.Tests.{lt-ltb}
use Rattle.layout.specs.File.{expected}
use Rattle.rules.specs.Prop.{Prop, prop}
use Rattle.rules.specs.State.{St, limit, later}
use Rattle.rules.specs.Term.{Term, plug}
use Rattle.rules.specs.Tree.{Gap, Trees, end, gap, node, move, records, holes}
use Rattle.rules.specs.Step.{check, Out, stop, refused, ok, Answer}
use Rattle.rules.specs.Rules.{run}
use Rattle.rules.specs.Filling.{At, here, past_gap, past_node, within, graft, lift, filled, RunsAfter, Over, Limited, Follows, at_goal}
use Rattle.rules.proofs.Spent.{records_beside, holes_beside}
use Rattle.rules.proofs.Goals.{goals_graft}
use Rattle.table.specs.declared.Purpose.TheVariants.{Check, Filling}
use Rattle.table.specs.Passing.{Good}
use Rattle.table.specs.Reading.{prop_at, term_at}
use Rattle.table.specs.Tests.{tests}
use Rattle.table.proofs.Links.{expected_in}
use Rattle.table.proofs.Passing.{good_passed}
use Rattle.table.proofs.Fills.{table_fills}
use Rattle.editing.specs.Edited.{Fillable, Edited}
use Rattle.editing.proofs.Edits.{goal_fillable, whole_prop, filled_term, filling_place, edited_verdict}
use Rattle.editing.proofs.Joins.{expected_joined}
use Rattle.step.specs.Rooms.{Rooms}
use Rattle.entry.specs.declared.Counts.{Counts}
use Rattle.std.specs.Prelude.{Ok, Result, ⊤, Err}
use Rattle.numbers.specs.declared.refusal.Refusal.{Refusal}
use Rattle.entry.proofs.Answers.{table_ok}
use Rattle.entry.specs.Mark.{long_enough, context_of, start_of, root_run, unless_refused, table_run, outcome, counts_of, Mark, MarkedAs, Marks}
use Rattle.filling.specs.Fill.{Filled, Lent, all_long, Accepts, counts_from, RunAs, EditedAs, Goal, GoalAs, FillingAs, OldAs, RoomsAs, Fills}
use Rattle.filling.specs.Agree.{own, joint, Outgrown, Grafted, Agrees, FirstCheck, Demand3Bytes}

-- THE COUNTS of a tree with us in a gap's place: one gap less, and those of us
records_move : (f : ℕ → ℕ) (d : St) (ts : Trees) → records (move f d ts) ≡ records ts
unfolding records move
records_move f d end = refl
records_move f d (gap g ts) = ap suc (records_move f d ts)
records_move f d (node n ps ts) = omega (arith, records_move f d ps, records_move f d ts)

holes_move : (f : ℕ → ℕ) (d : St) (ts : Trees) → holes (move f d ts) ≡ holes ts
unfolding holes move
holes_move f d end = refl
holes_move f d (gap g ts) = ap suc (holes_move f d ts)
holes_move f d (node n ps ts) = omega (arith, holes_move f d ps, holes_move f d ts)

module _ (us : Trees) (f : ℕ → ℕ) (d : St) where
  records_graft : {g : Gap} {ts : Trees} (p : At g ts) → records (graft p us f d) + 1 ≡ records ts + records us
  unfolding records graft
  records_graft (here {ts = ts}) = omega (arith, records_beside us (move f d ts), records_move f d ts)
  records_graft (past_gap p) = omega (arith, records_graft p)
  records_graft (past_node p) = omega (arith, records_graft p)
  records_graft (within {ts = ts} p) = omega (arith, records_graft p, records_move f d ts)

  holes_graft : {g : Gap} {ts : Trees} (p : At g ts) → holes (graft p us f d) + 1 ≡ holes ts + holes us
  unfolding holes graft
  holes_graft (here {ts = ts}) = omega (arith, holes_beside us (move f d ts), holes_move f d ts)
  holes_graft (past_gap p) = omega (arith, holes_graft p)
  holes_graft (past_node p) = omega (arith, holes_graft p)
  holes_graft (within {ts = ts} p) = omega (arith, holes_graft p, holes_move f d ts)

counts_joint : (g : Gap) (a b : Answer) (p : At g a.tree) (st st₂ d : St)
    → counts_of (filled g a p b.tree d) (later d st) ≡ joint (counts_of a st) (counts_from g b st₂) d
counts_joint g a b p st st₂ d =
    let r : records (graft p b.tree (lift g d) d) ≡ records a.tree + records b.tree - 1 = omega (arith, records_graft b.tree (lift g d) d p) in
    let h : holes (graft p b.tree (lift g d) d) ≡ holes a.tree + holes b.tree - 1 = omega (arith, holes_graft b.tree (lift g d) d p) in
    λ i. record { records = r i; goals = h i; serials = st.serials + d.serials; made = st.made + d.made }

-- what the filling made is what its run added to the hole's counts
own_made : (g : Gap) (b : Answer) (st d : St) → st ≡ later d g.state → own g (counts_from g b st) ≡ d
own_made g b st d e =
    let s : st.serials - g.state.serials ≡ d.serials = omega (arith, ap (λ (x : St). x.serials) e) in
    let m : st.made - g.state.made ≡ d.made = omega (arith, ap (λ (x : St). x.made) e) in
    λ i. record { serials = s i; made = m i }

-- THE EDITED TABLE'S ROOT is the old one with the filling in the gap's place, held to the same proposition
root_edited : {old f : List ℕ} {q : ℕ} (h : Fillable old f q) {e : List ℕ} → Edited old f q e
    → root_run e ≡ run (plug q (term_at e q) (term_at old 0)) (check (prop (prop_at old (expected old)))) (context_of old) (start_of old)
root_edited {old = old} h {e} E =
    let o = good_passed h.old_good in
    ap₂ (λ (t : Term) (P : Prop). run t (check (prop P)) (context_of old) (start_of old)) (filled_term h E 0 o.counted.some)
    (ap (prop_at e) (expected_joined E) ∙ whole_prop h E (expected old) (expected_in o.linked))

-- THE FRESH CHECK
module _ {S S' : Lent} {l f : List ℕ} {k : ℕ} {a : Answer} {r : Filled} (z : Goal S S' l f k a r) (st : St) (R R' : Rooms) (m : Mark) where
  abbrev AgreesWith : Filled → Type 0
  AgreesWith = Agrees z st R R' m

  abbrev Marked : Out Answer → Type 0
  Marked o = MarkedAs z.table R R' o m

  abbrev Behind : ℕ → Type 0
  Behind x = RunsAfter z.goal.term x (term_at l 0)

  abbrev whole : Trees → St → Answer
  whole = filled z.goal a z.stands

  abbrev own_run : Out Answer
  own_run = at_goal (term_at z.table z.goal.term) z.goal

  abbrev Alone : Answer → St → Filled → Type 0
  Alone = Accepts S S' z.table z.goal

  -- after an accepted filling, which made d
  module _ (b : Answer) (st₂ d : St) (ran : own_run ≡ ok b st₂) (y : Alone b st₂ r) (e : st₂ ≡ later d z.goal.state) where
    abbrev c : Counts
    c = counts_from z.goal b st₂

    outgrown : (o : Out Answer) → Marked o → limit < st.made + d.made → Over Behind o → Outgrown z st R R' m d
    outgrown o w over (place, behind, v) =
        let x = subst Marked v w in
        record { over = over; place = place; behind = behind; answer = x.0; rooms = x.1 }

    grafted : Marked (ok (whole b.tree d) (later d st)) → st.made + d.made ≤ limit → Grafted z st R R' m c d
    grafted w fits =
        record {
          fits = fits;
          filling = b;
          ran = ran ∙ ap (ok b) e;
          alone = subst (λ (s : St). Alone b s (Ok c)) e (subst (Alone b st₂) y.answer y);
          answer = w.0 ∙ ap Ok (counts_joint z.goal a b z.stands st st₂ d);
          rooms = w.1;
          goals = goals_graft z.stands b.tree (lift z.goal d) d;
        }

    limited : (o : Out Answer) → Marked o → Limited Behind (whole b.tree d) (later d st) o → Outgrown z st R R' m d ⊎ Grafted z st R R' m c d
    limited o w (inl (fits, v)) = inr (grafted (subst Marked v w) fits)
    limited o w (inr (over, v)) = inl (outgrown o w over v)

    agrees_accepted : (o : Out Answer) → Marked o → Limited Behind (whole b.tree d) (later d st) o → AgreesWith r
    agrees_accepted o w v =
        subst⁻¹ AgreesWith y.answer (subst⁻¹ (λ (d : St). Outgrown z st R R' m d ⊎ Grafted z st R R' m c d) (own_made z.goal b st₂ d e) (limited o w v))

  -- whatever the filling's run says
  agrees_run : (v o : Out Answer) → own_run ≡ v → RunAs S S' z.table z.goal r v → Marked o → Follows Behind z.goal whole st o v → AgreesWith r
  agrees_run (stop s) o ran y w v = let x = subst Marked v w in subst⁻¹ AgreesWith y.answer (refl, x.0, x.1)
  agrees_run (ok b st₂) o ran y w (d, e, v) = agrees_accepted b st₂ d ran y e o w v

  module _ (good : Good Check l) (fills : Good Filling f) (accepted : root_run l ≡ ok a st) where
    fillable : Fillable l f z.goal.term
    fillable = goal_fillable l f good fills a st accepted z.goal z.stands

    follows : Follows Behind z.goal whole st (root_run z.table) own_run
    follows =
        subst⁻¹ (λ (o : Out Answer). Follows Behind z.goal whole st o own_run) (root_edited fillable z.edited)
        (table_fills l good a st accepted (term_at z.table z.goal.term) z.goal z.stands (filling_place fillable z.edited))

    -- whatever the edited table's tests say
    agrees_tests : (v : Result ⊤ Refusal) → EditedAs S S' z.table z.goal r v → Marked (unless_refused v (root_run z.table)) → AgreesWith r
    unfolding unless_refused
    agrees_tests (Err u) y w = subst⁻¹ AgreesWith y.answer (refl, w.0, w.1)
    agrees_tests (Ok u) y w = agrees_run own_run (root_run z.table) refl y w follows

    agrees : long_enough R ≡ true → Marks z.table R R' m → AgreesWith r
    unfolding outcome
    agrees long w =
        agrees_tests (tests Check z.table) (subst (EditedAs S S' z.table z.goal r) (edited_verdict fillable z.edited) z.answer)
        (subst (λ (b : Bool). Marked (cond b (table_run z.table) (refused 1 0))) long w)

-- THE FIRST TWO CALLS
accepted_mark : (l : List ℕ) (Q Q' : Rooms) (c : Counts) → Marks l Q Q' (Ok c) → FirstCheck l Q Q' c
unfolding outcome
accepted_mark l Q Q' c w = at (long_enough Q) (table_run l) refl w
  where
    at : (b : Bool) (o : Out Answer) → table_run l ≡ o → MarkedAs l Q Q' (cond b o (refused 1 0)) (Ok c) → FirstCheck l Q Q' c
    at true (ok a st) e w = let x = w.0 in record { answer = a; state = st; run = e; counts = cc; rooms = w.1 }
    at true (stop s) e w = absurd (let x = w.0 in let z : ◌≡◌ {A = ℕ} 0 1 = cc in omega arith)
    at false o e w = absurd (let x = w.0 in let z : ◌≡◌ {A = ℕ} 0 1 = cc in omega arith)

filled_goal : (l f : List ℕ) (k : ℕ) (S S' : Lent) (r : Filled) (a : Answer) (st : St) → Fills S S' l f k r → all_long S ≡ true → table_run l ≡ ok a st
    → Good Filling f → k < holes a.tree → Goal S S' l f k a r
filled_goal l f k S S' r a st w long e good inside =
    let old = subst (RoomsAs S S' l f k r) long w in
    let filling = subst (OldAs S S' l f k r) e old in
    let goal = subst (FillingAs S S' l f k a r) good filling in
    subst (GoalAs S S' l f k a r) (lt-ltb k (holes a.tree) inside) goal

-- DEMAND 3
pub demand_3_bytes : Demand3Bytes
demand_3_bytes l f k Q Q' c S S' r w v inside fills long =
    let x = accepted_mark l Q Q' c w in
    let (good, accepted) = table_ok l x.answer x.state x.run in
    let z = filled_goal l f k S S' r x.answer x.state v long x.run fills (omega (arith, ap (λ (c : Counts). c.goals) x.counts)) in
    record { old = x; goal = z; fresh = λ R R' m h y. agrees z x.state R R' m good fills accepted h y }
