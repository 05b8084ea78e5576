-- The old terms run over the edited table's propositions as they ran over their own, and the goal that is asked for has its picture. Assumes nothing.
use mathlib.Core.Path.{◌≡◌, ap, ap₂, sym, subst, subst⁻¹, ◌∙◌}
use mathlib.Core.List.{List}
use Prim.Native.Nat.{ℕ, ◌+◌, ◌*◌, ◌<◌, ◌≤◌}
use native.Mathlib.Omega.{arith}
use lib.ListN.{length}
use Rattle.numbers.specs.declared.Sort.TheVariants as sort
use Rattle.numbers.specs.declared.record.Record.{Record}
use Rattle.numbers.specs.Records.{Put, Same}
use Rattle.layout.specs.File.{props, terms, expected}
use Rattle.rules.specs.Prop.{Prop, prop}
use Rattle.rules.specs.Context.{Ctx}
use Rattle.rules.specs.Term.{Term, nodes}
use Rattle.rules.specs.Tree.{Gap}
use Rattle.rules.specs.Step.{check, Out, Answer}
use Rattle.rules.specs.Rules.{run}
use Rattle.rules.specs.Filling.{At, before}
use Rattle.rules.proofs.Spent.{Reached, gap_reached}
use Rattle.table.specs.declared.Purpose.TheVariants.{Check}
use Rattle.table.specs.Passing.{Counted, Formed, WellLinked}
use Rattle.table.specs.Reading.{prop_at, term_at}
use Rattle.table.proofs.Counting.{nodes_root}
use Rattle.table.proofs.Links.{expected_in}
use Rattle.table.proofs.Passing.{Passed, good_passed}
use Rattle.editing.specs.Edited.{term_bytes, Bytes, Fillable, Joined, Edited}
use Rattle.editing.proofs.Joins.{props_joined, terms_joined, expected_joined}
use Rattle.editing.proofs.Edits.{stays, replaces, whole_prop, whole_counted, whole_formed, whole_directed, waiting_term, edited_in_order}
use Rattle.editing.proofs.Alike.{joined_counts, joined_props, edited_unique, hole_nodes}
use Rattle.editing.proofs.Rows.{joined_inside, joined_put}
use Rattle.prop.specs.Room.{room_at, Arena}
use Rattle.prop.proofs.Rooms.{room_same, arena_less}
use Rattle.context.specs.Context.{most_entries}
use Rattle.context.proofs.Laws.{ctx_none}
use Rattle.arena.specs.Load as load
use Rattle.step.specs.declared.picture.Start.{Start}
use Rattle.step.specs.declared.state.State.{State}
use Rattle.step.specs.declared.state.Answer.{Answer as Answered}
use Rattle.std.specs.Prelude.{Result, Ok, Err}
use Rattle.numbers.specs.declared.refusal.Refusal.{Refusal}
use Rattle.step.specs.declared.state.Want.TheVariants as want
use Rattle.step.specs.Rooms.{Rooms, rooms, reads, ctx_of, count_of, Loaded, first_pictured}
use Rattle.step.specs.Picture.{pictured_state, pictured_type, PictureIs, PicturesAre, Copied, StartsAt}
use Rattle.step.specs.Contract.{Ready, Accepts, RanAs as Meets, run_of}
use Rattle.step.proofs.Pictures.{picture_at, recalled}
use Rattle.step.proofs.Starts.{beginning}
use Rattle.step.proofs.Goals.{goal_unique, picture_moved, ready_hole}
use Rattle.entry.specs.Mark.{context_of, start_of, root_run}
use Rattle.entry.specs.Ran.{Exact}
use Rattle.filling.specs.Steps.{GoalOf, ReachedFor}
use Rattle.entry.proofs.Answers.{same_answer}

-- ONE GOAL has each number
pub goal_same : {l : List ℕ} {k : ℕ} {g g' : Gap} → GoalOf l k g → GoalOf l k g' → g ≡ g'
goal_same {l} {k} {g} {g'} a b =
    let z = subst (λ (x : Answer). (p : At g' x.tree) × (length (before p) ≡ k)) (same_answer b.accepts a.accepts) (b.stands, b.number) in
    goal_unique a.stands z.0 (a.number ∙ sym z.1)

module _ {l f : List ℕ} {q : ℕ} {e : List ℕ} (h : Fillable l f q) (E : Edited l f q e) (counted : Counted e) where
  -- THE EDITED TABLE may be loaded
  pub loadable : Counted e × (Formed e × WellLinked e)
  loadable = (counted, (whole_formed h E (replaces h), record { purpose = Check; linked = edited_in_order h E }))

  -- its term q may be read and written, and so may the old table's
  pub term_inside : 16 * (props e + q + 1) + 16 ≤ length e
  term_inside = joined_inside E h.inside (good_passed h.good).counted.some

  pub old_inside : 16 * (props l + q + 1) + 16 ≤ length l
  old_inside = omega (arith, h.inside, (good_passed h.old_good).counted.long)

  -- with the Sorry put back, and with the filling's root again
  pub waiting : (r : Record) (j : List ℕ) → r ≡ term_bytes l q → Put e (props e + q + 1) r j → Joined l f q (term_bytes l q) j
  waiting r j k p = subst (λ (r : Record). Joined l f q r j) k (joined_put E h.inside r j p)

  pub waiting_inside : {j : List ℕ} → Joined l f q (term_bytes l q) j → 16 * (props j + q + 1) + 16 ≤ length j
  waiting_inside J = joined_inside J h.inside (good_passed h.good).counted.some

  pub table_back : {j : List ℕ} → Joined l f q (term_bytes l q) j → (r : Record) (e' : List ℕ) → r ≡ term_bytes e q → Put j (props j + q + 1) r e' → Bytes e → Bytes e' → e' ≡ e
  table_back J r e' k p b b' =
      edited_unique h.inside (good_passed h.good).counted.some (subst (λ (r : Record). Joined l f q r e') (k ∙ E.here) (joined_put J h.inside r e' p)) E b' b

  o : Passed Check l
  o = good_passed h.old_good

  -- j IS THAT TABLE with the Sorry still in its place, and the picture of the goal of this number is asked for
  module _ {j : List ℕ} (J : Joined l f q (term_bytes l q) j) (number : ℕ) where
    same_props : props j ≡ props e
    same_props = (joined_counts E J).0

    old_terms : term_at j 0 ≡ term_at l 0
    old_terms = waiting_term h J 0 o.counted.some

    pub wants : (n : ℕ) → n ≡ expected j → n < count_of j (beginning number)
    wants n k = omega (arith, k, expected_joined J, props_joined J, expected_in o.linked)

    module _ {old : List ℕ} (R : Rooms) (x : Exact R) (loaded : load.Loaded e old R.props) where
      waiting_loaded : Loaded j R.props (count_of j (beginning number))
      waiting_loaded =
          record {
            arena = subst (λ (c : ℕ). Arena R.props c) (omega (arith, same_props)) loaded.arena;
            first = omega arith;
            table =
                λ m k.
                let m_in : m < props e = omega (arith, same_props) in
                ap (λ (c : ℕ). room_at c R.props m) same_props ∙ loaded.means m m_in ∙ sym (joined_props E J (whole_directed h E (replaces h)) m m_in);
            long = omega (arith, x.props);
          }

      pub ready_waiting : Ready j R 0 (beginning number)
      ready_waiting =
          let all : nodes (term_at j 0) ≡ terms l = ap nodes old_terms ∙ nodes_root o.formed o.linked o.counted.some in
          let ps = props_joined E in
          let ts = terms_joined E in
          let tj = terms_joined J in
          let some = (good_passed h.good).counted.some in
          let few = o.counted.few in
          record {
            base =
                record {
                  table =
                      record {
                        counted = whole_counted h J (omega (arith, counted.propositions)) (omega (arith, counted.few));
                        formed = whole_formed h J (stays h);
                        directed = whole_directed h J (stays h);
                      };
                  loaded = waiting_loaded;
                  entries = λ i k. absurd (omega arith);
                  made = omega arith;
                  tree_room = omega (arith, x.tree);
                  goals_room = omega (arith, x.goals);
                  work_room = omega (arith, x.work);
                };
            here = omega (arith, o.counted.some);
            records = omega arith;
            goals = omega arith;
            serials = omega arith;
            context = omega arith;
          }

      -- THE RUN is the old one
      root_is : (n : ℕ) → n ≡ expected j → run_of j R 0 (check (reads j R.props (sort.Proposition (record { 0 = n })))) (beginning number) ≡ root_run l
      root_is n k =
          let n_in : n < props j = omega (arith, wants n k) in
          let old_in : expected l < props l = expected_in o.linked in
          ap (λ (t : Term). run t (check (prop (room_at (props j) R.props n))) (ctx_of j R.props R.work 0) (start_of l)) old_terms
          ∙ ap₂ (λ (A : Prop) (Γ : Ctx). run (term_at l 0) (check (prop A)) Γ (start_of l))
          (waiting_loaded.table n n_in ∙ ap (prop_at j) (k ∙ expected_joined J) ∙ whole_prop h J (expected l) old_in)
          (ctx_none (reads j R.props) R.work)

      module _ (R' : Rooms) (r : Result Answered Refusal) (n : ℕ) (k : n ≡ expected j) (meets : Meets j R R' 0 (want.Check (sort.Proposition (record { 0 = n }))) (beginning number) r)
          (g : Gap) (goal : GoalOf l number g) where
        pub accepts : (st : State) × Accepts j R R' (beginning number) st (root_run l)
        accepts = at r meets
          where
            at : (r : Result Answered Refusal) → Meets j R R' 0 (want.Check (sort.Proposition (record { 0 = n }))) (beginning number) r → (st : State) × Accepts j R R' (beginning number) st (root_run l)
            at (Ok a) h = (a.state, subst (λ (o : Out Answer). Accepts j R R' (beginning number) a.state o) (root_is n k) h.accepted)
            at (Err x) h = let e = sym (sym (root_is n k) ∙ h) ∙ goal.accepts in cc

        pictured : PictureIs j R'.props R'.work (count_of j accepts.0) g
        pictured =
            let a = accepts.1 in
            let same : goal.answer ≡ a.answer = same_answer goal.accepts a.accepts in
            picture_at 0 goal.stands (omega (arith, goal.number))
            (subst⁻¹ (λ (b : Answer). PicturesAre j R'.props R'.work number (count_of j accepts.0) 0 b.tree) same a.left.pictures)

        -- over the edited table again
        pub picture_there : PictureIs e R'.props R'.work (count_of j accepts.0) g
        picture_there = picture_moved pictured (sym same_props) (sym (joined_counts E J).1)

        pub few_pictured : (pictured_state R'.work).context ≤ most_entries
        few_pictured = omega (arith, picture_there.few_entries, counted.few)

        -- so the hole is reached when the context is back
        module _ (here : g.term ≡ q) (s : Start) (work : List ℕ) (t : s.wanted ≡ pictured_type R'.work) (st : s.state ≡ pictured_state R'.work)
            (copied : Copied R'.work first_pictured 0 (pictured_state R'.work).context work) where
          abbrev pub after : Rooms
          after = rooms R'.tree R'.goals R'.props work

          starts : StartsAt e R'.props work g s.wanted s.state
          starts = recalled picture_there t st copied

          kept : Same (props e) R.props R'.props
          kept n y = accepts.1.left.grown.props n (omega (arith, same_props))

          loaded_there : Loaded e R'.props (count_of e s.state)
          loaded_there =
              let left = accepts.1.left in
              let counts : count_of e s.state ≡ count_of e (pictured_state R'.work) = ap (count_of e) st in
              record {
                arena = arena_less left.grown.arena (count_of e s.state) (omega (arith, counts, picture_there.still));
                first = omega arith;
                table = λ m y. room_same R'.props loaded.arena kept (props e) m y ∙ loaded.means m y;
                long = omega (arith, x.props, left.grown.props_long);
              }

          none_yet : (s.state.records ≡ 0) × (s.state.goals ≡ 0)
          unfolding pictured_state
          none_yet = (ap (λ (s : State). s.records) st, ap (λ (s : State). s.goals) st)

          ready_there : Ready e after g.term s.state
          ready_there =
              let left = accepts.1.left in
              let script : nodes (term_at j 0) ≡ nodes (term_at l 0) = ap nodes old_terms in
              ready_hole after g.term (nodes (term_at j 0)) (record { counted = counted; formed = whole_formed h E (replaces h); directed = whole_directed h E (replaces h) }) loaded_there starts
              (omega (arith, x.tree, left.grown.tree_long)) (omega (arith, x.goals, left.grown.goals_long)) (omega (arith, x.work, left.grown.work_long, copied.size))
              none_yet.0 none_yet.1 (omega (arith, here, h.inside, terms_joined E, (good_passed h.good).counted.some))
              (subst⁻¹ (λ (q : ℕ). nodes (term_at e q) + nodes (term_at j 0) ≡ terms e + 1) here (hole_nodes h E J))
              (subst⁻¹ (λ (n : ℕ). Reached n 0 (start_of l) g) script (gap_reached (term_at l 0) _ (context_of l) (start_of l) goal.answer goal.state goal.accepts goal.stands))

          pub reached : ReachedFor e after s g
          reached = record { starts = starts; no_records = none_yet.0; no_goals = none_yet.1; ready = ready_there; table = λ n y. kept n y ∙ loaded.all.records n y }
