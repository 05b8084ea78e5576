-- The rules without premises: Unit, Sorry, Ident. Assumes nothing.
use mathlib.Core.Path.{◌≡◌, refl, ap, sym, subst, subst⁻¹, ◌∙◌}
use mathlib.Core.Bool.{Bool, true, false, cond}
use mathlib.Core.List.{List, [], ◌∷◌}
use mathlib.Core.Option.{Option, none as no-entry, some}
use Prim.Native.Nat.{ℕ, ◌+◌}
use native.Mathlib.Omega.{arith}
use Rattle.std.specs.declared.option.Option.{Option as Optional}
use Rattle.std.specs.declared.option.Option.TheVariants.{Some, None}
use Rattle.std.specs.declared.result.Result.TheVariants.{Ok}
use Rattle.numbers.specs.declared.Proposition.{Proposition}
use Rattle.numbers.specs.declared.Sort.{Sort}
use Rattle.numbers.specs.declared.Sort.TheVariants as sort
use Rattle.numbers.specs.declared.record.Record.{Record}
use Rattle.numbers.specs.declared.refusal.Refusal.{Refusal}
use Rattle.numbers.specs.Limits.{none}
use Rattle.numbers.specs.Records.{Put}
use Rattle.layout.specs.declared.record.TermRecord.{TermRecord}
use Rattle.layout.specs.File.{props, term_record}
use Rattle.rules.specs.Prop.{Ty, made, const, prop, eq}
use Rattle.rules.specs.Context.{Entry as Hypothesis, Ctx, find}
use Rattle.rules.specs.Term.{Leaf, Term, leaf}
use Rattle.rules.specs.Tree.{Trees, end, gap, records, holes}
use Rattle.rules.specs.State.{limit}
use Rattle.rules.specs.Step.{answered, Want, synth, check, refusal, ok, done, Prog, refuse, make, obey, on_found, look_up}
use Rattle.rules.specs.Rules.{by, ident_synth, ident_step, unit_step, leaf_step, sorry_run, run}
use Rattle.table.specs.Reading.{term_at}
use Rattle.arena.specs.declared.copy.Copied.{Copied}
use Rattle.arena.specs.Make.{ConstantIs}
use Rattle.prop.specs.Room.{type_at, TypeIn}
use Rattle.context.specs.declared.identifier_context.Entry.{Entry}
use Rattle.context.specs.Context.{stands, Latest}
use Rattle.context.proofs.Laws.{ctx_length, held_finds, nothing_finds, held_has}
use Rattle.step.specs.declared.node.Goal.{Goal}
use Rattle.step.specs.declared.state.State.{State}
use Rattle.step.specs.declared.state.Want.TheVariants as want
use Rattle.step.specs.Rooms.{Rooms, rooms, reads, ctx_of, st_of, count_of, inner, Stands}
use Rattle.step.specs.Trees.{node_rec, goal_rec, PutGoal, TreesAre}
use Rattle.step.specs.Picture.{PicturesAre, Pictured}
use Rattle.step.specs.Contract.{Ready, Left, Refuses, run_of, RanAs}
use Rattle.step.specs.Under.{rest, Doing}
use Rattle.step.proofs.Bounds.{ready_context}
use Rattle.step.proofs.Holes.{pictured_hole, pictured_entries, pictured_earlier, pictured_size}
use Rattle.step.proofs.Doing.{doing_start, doing_step, doing_stop, doing_has}
use Rattle.step.proofs.Moves.{GrownTo, MadeFor, made_for, made_goes, full_stops, making_left, making_serials}
use Rattle.step.proofs.Terms.{leaf_begins, is_ident, is_unit, is_sorry}
use Rattle.rule.proofs.Going.{says}

module _ {l : List ℕ} {R : Rooms} {k : ℕ} {st : State} (rd : Ready l R k st) where
  abbrev Γ : Ctx
  Γ = ctx_of l R.props R.work st.context

  -- a leaf of the term, once its program is known
  leaf_doing : (w : Want) (s : Leaf) (q : Prog done) → term_at l k ≡ leaf k s → leaf_step k s w Γ ≡ q → Doing l R k w st R (inner st) q tt 0 0 0
  leaf_doing w s q e h = doing_start q tt rd (leaf_begins l k R w st s e ∙ ap (λ (q : Prog done). rest w end (obey q tt (st_of st))) h)

  -- UNIT, held to a type
  module _ (wanted : Sort) (among : TypeIn (count_of l st) wanted) (kind : (term_record l k).kind ≡ 11) (b : Bool) (is : (tables : ℕ) → b ≡ eq (type_at tables R.props wanted) (prop (const made true))) where
    abbrev A : Ty
    A = reads l R.props wanted

    unit_doing : (c : Bool) → b ≡ c → Doing l R k (check A) st R (inner st) (cond c (by 1 k A []) (refuse 11 k)) tt 0 0 0
    unfolding leaf_step unit_step
    unit_doing c e = leaf_doing (check A) Leaf.unit _ (is_unit rd.base.table rd.here kind) (ap (λ (d : Bool). cond d (by 1 k A []) (refuse 11 k)) (sym (is (props l)) ∙ e))

    pub unit_fits : b ≡ true → (nd : Record) (tr : List ℕ) (s : State) → nd ≡ node_rec 1 k wanted none none 0 → Put R.tree st.records nd tr → s ≡ inner st
        → RanAs l R (rooms tr R.goals R.props R.work) k (want.Check wanted) st (Ok (record { typ = wanted; state = s }))
    unfolding by answered
    unit_fits e nd tr s en put es =
        subst⁻¹ (λ (s : State). RanAs l R (rooms tr R.goals R.props R.work) k (want.Check wanted) st (Ok (record { typ = wanted; state = s }))) es
        (doing_has (unit_doing true e) {T = wanted} (record { among = among; means = refl }) en put (record { among = among; means = refl }))

    pub unit_other : b ≡ false → (r : Refusal) → r ≡ record { number = 11; place = k } → Refuses (run_of l R k (check A) st) r
    unfolding obey
    unit_other e r er = says 11 k er (doing_stop (refusal 11 k) (unit_doing false e) refl)

  -- SORRY, held to a type
  module _ (wanted : Sort) (among : TypeIn (count_of l st) wanted) (kind : (term_record l k).kind ≡ 13) where
    abbrev hole : Trees
    hole = gap (record { term = k; ctx = Γ; wanted = reads l R.props wanted; state = st_of st }) end

    sorry_answers : run_of l R k (check (reads l R.props wanted)) st ≡ ok (record { ty = reads l R.props wanted; tree = hole }) (st_of st)
    unfolding run sorry_run
    sorry_answers = ap (λ (u : Term). run u (check (reads l R.props wanted)) Γ (st_of st)) (is_sorry rd.base.table rd.here kind)

    module _ (nd : Record) (tr : List ℕ) (g : Goal) (gs : List ℕ) (en : nd ≡ node_rec 15 k wanted none none 0) (put : Put R.tree st.records nd tr) (eg : g ≡ goal_rec k wanted st.context) (put' : PutGoal R.goals st.goals g gs)
        (work : List ℕ) (shown : Pictured R.work wanted st work) where
      sorry_left : Left l R (rooms tr gs R.props work) st (record { records = st.records + 1; goals = st.goals + 1; serials = st.serials; made = st.made; context = st.context; asked = st.asked }) hole
      unfolding TreesAre PicturesAre records holes
      sorry_left =
          record {
            records = omega arith;
            goals = omega arith;
            context = refl;
            asked = refl;
            trees = (
              record {
                typ = wanted;
                stands = record { among = among; means = refl };
                leaf = put.here ∙ en;
                goal = put'.here ∙ eg ∙ ap (goal_rec k wanted) (sym (ctx_length (reads l R.props) R.work st.context));
              },
              tt,
            );
            pictures = (λ e. pictured_hole rd wanted among work (shown.taken (sym e)), tt);
            grown =
                record {
                  arena = rd.base.loaded.arena;
                  more = omega arith;
                  props = λ i h. refl;
                  tree = λ i h. put.others i (omega arith);
                  goals = λ i h. put'.others i (omega arith);
                  work = λ i h. pictured_entries shown i (omega (arith, ready_context rd));
                  picture = λ h. pictured_earlier shown h;
                  props_long = refl;
                  tree_long = put.size;
                  goals_long = put'.size;
                  work_long = pictured_size shown;
                };
          }

      pub sorry_fits : (s : State) → s ≡ record { records = st.records + 1; goals = st.goals + 1; serials = st.serials; made = st.made; context = st.context; asked = st.asked }
          → RanAs l R (rooms tr gs R.props work) k (want.Check wanted) st (Ok (record { typ = wanted; state = s }))
      sorry_fits s es =
          subst⁻¹ (λ (s : State). RanAs l R (rooms tr gs R.props work) k (want.Check wanted) st (Ok (record { typ = wanted; state = s }))) es
          (record {
            accepted = record { answer = record { ty = reads l R.props wanted; tree = hole }; accepts = sorry_answers; left = sorry_left };
            type = record { among = among; means = refl };
          })

  -- IDENT, asked for its type
  module _ (kind : (term_record l k).kind ≡ 0) (r : TermRecord) (er : r ≡ term_record l k) where
    named : (f : Optional Entry) → Latest R.work st.context r.name1.0 f → Latest R.work st.context (term_record l k).name1.0 f
    named f latest = subst (λ (r : TermRecord). Latest R.work st.context r.name1.0 f) er latest

    ident_doing : (o : Option Hypothesis) → find (term_record l k).name1.0 Γ ≡ o → Doing l R k synth st R (inner st) (on_found o (λ e. by 0 k e.ty (e.serial ∷ [])) (refuse 20 k)) tt 0 0 0
    unfolding leaf_step ident_step ident_synth look_up
    ident_doing o e =
        leaf_doing synth (Leaf.ident (term_record l k).name1.0) _ (is_ident rd.base.table rd.here kind)
        (ap (λ (o : Option Hypothesis). on_found o (λ e. by 0 k e.ty (e.serial ∷ [])) (refuse 20 k)) e)

    pub ident_unknown : Latest R.work st.context r.name1.0 None → (x : Refusal) → x ≡ record { number = 20; place = k } → Refuses (run_of l R k synth st) x
    unfolding obey on_found
    ident_unknown latest x ex = says 20 k ex (doing_stop (refusal 20 k) (ident_doing no-entry (nothing_finds (reads l R.props) (named None latest) refl)) refl)

    pub ident_has : (e : Entry) → Latest R.work st.context r.name1.0 (Some e) → (nd : Record) (tr : List ℕ) (s : State) → nd ≡ node_rec 0 k e.typ e.serial.0 none 0 → Put R.tree st.records nd tr → s ≡ inner st
        → RanAs l R (rooms tr R.goals R.props R.work) k want.Synth st (Ok (record { typ = e.typ; state = s }))
    unfolding by on_found answered
    ident_has e latest nd tr s en put es =
        let is = named (Some e) latest in
        let means : Stands l R.props (count_of l st) e.typ (reads l R.props e.typ) =
        record { among = held_has (λ (e : Entry). TypeIn (count_of l st) e.typ) is refl rd.base.entries; means = refl } in
        subst⁻¹ (λ (s : State). RanAs l R (rooms tr R.goals R.props R.work) k want.Synth st (Ok (record { typ = e.typ; state = s }))) es
        (doing_has (ident_doing (some (stands (reads l R.props) e)) (held_finds (reads l R.props) is refl)) {T = e.typ} means en put {U = e.typ} means)

  -- UNIT, asked for its type
  module _ (kind : (term_record l k).kind ≡ 11) (new : List ℕ) (c left : ℕ) (ec : c ≡ count_of l st) (el : left + st.made ≡ limit) where
    true_doing : Doing l R k synth st R (inner st) (make 1 k (by 1 k (prop (const made true)) [])) tt 0 0 0
    unfolding leaf_step unit_step
    true_doing = leaf_doing synth Leaf.unit _ (is_unit rd.base.table rd.here kind) refl

    pub true_full : ConstantIs true R.props c left new None → (r : Refusal) → r ≡ record { number = 30; place = k } → Refuses (run_of l R k synth st) r
    true_full is r er = says 30 k er (doing_stop (refusal 30 k) true_doing (full_stops l R.props new c left (inner st) (λ t. 1) (λ t. const made true) None ec el is refl k (by 1 k (prop (const made true)) []) tt))

    module _ (s : State) (o : Copied) (is : ConstantIs true R.props c left new (Some o)) (grown : GrownTo st c o.count s) where
      abbrev m : Proposition
      m = o.at

      true_made : MadeFor l R.props new (inner st) (inner s) 1 (const made true) m
      true_made = made_for l R.props new c left (inner st) _ _ (Some o) ec el is (inner s) o refl (grown.0, ap (λ (n : ℕ). n + 1) grown.1, grown.2, grown.3, grown.4, grown.5)

      pub true_has : (nd : Record) (tr : List ℕ) (s₁ : State) → nd ≡ node_rec 1 k (sort.Proposition m) none none 0 → Put R.tree st.records nd tr → s₁ ≡ inner s
          → RanAs l R (rooms tr R.goals new R.work) k want.Synth st (Ok (record { typ = sort.Proposition m; state = s₁ }))
      unfolding by answered
      true_has nd tr s₁ en put es =
          let mk = true_made.making in
          let stands = true_made.stands in
          subst⁻¹ (λ (s : State). RanAs l R (rooms tr R.goals new R.work) k want.Synth st (Ok (record { typ = sort.Proposition m; state = s }))) es
          (doing_has (doing_step (by 1 k (prop (const made true)) []) 0 true_doing (making_left R mk) mk.within (making_serials mk) (made_goes true_made k (by 1 k (prop (const made true)) []) tt))
          {T = sort.Proposition m} stands en put {U = sort.Proposition m} stands)
