-- TypeAscription, which has no node of its own: the annotation is resolved, and then its child is held to a type. Assumes nothing.
use mathlib.Core.Path.{◌≡◌, refl, ap, ap₂, sym, subst, subst⁻¹, ◌∙◌}
use mathlib.Core.Bool.{Bool, true, false, cond}
use mathlib.Core.List.{List, []}
use mathlib.Core.Option.{Option}
use Prim.Native.Nat.{ℕ, ◌+◌, ◌*◌, ◌<◌, ◌≤◌}
use native.Mathlib.Omega.{arith}
use lib.ListN.{length}
use Rattle.std.specs.declared.option.Option.{Option as Optional}
use Rattle.std.specs.declared.option.Option.TheVariants.{Some, None}
use Rattle.std.specs.declared.result.Result.{Result}
use Rattle.std.specs.declared.result.Result.TheVariants.{Ok, Err}
use Rattle.numbers.specs.declared.Term.{Term as Place}
use Rattle.numbers.specs.declared.Sort.{Sort}
use Rattle.numbers.specs.declared.refusal.Refusal.{Refusal}
use Rattle.layout.specs.declared.record.TermRecord.{TermRecord}
use Rattle.layout.specs.File.{props, terms, term_record}
use Rattle.rules.specs.Prop.{Ty, alpha}
use Rattle.rules.specs.Context.{Ctx}
use Rattle.rules.specs.State.{limit}
use Rattle.rules.specs.Term.{Single, single, nodes}
use Rattle.rules.specs.Tree.{end, ◌⊕◌, stack}
use Rattle.rules.specs.Step.{Want as Mode, synth, check, Refusal as Fault, refusal, stop, conclude, refuse, ask, obey, answered}
use Rattle.rules.specs.Rules.{one, ascribe_step, single_step, run}
use Rattle.table.specs.Passing.{Counted}
use Rattle.table.specs.Reading.{annotated, ascribed, term_at}
use Rattle.prop.specs.Compare.{is_alpha, compared_types}
use Rattle.prop.specs.declared.compare.Compared.{Compared}
use Rattle.prop.specs.Room.{type_at, TypeIn}
use Rattle.prop.proofs.Alike.{alpha_types}
use Rattle.step.specs.declared.state.State.{State}
use Rattle.step.specs.declared.state.Want.{Want}
use Rattle.step.specs.declared.state.Want.TheVariants as want
use Rattle.step.specs.declared.state.Answer.{Answer}
use Rattle.step.specs.declared.typing.Resolution.{Resolution}
use Rattle.step.specs.Rooms.{Rooms, rooms, reads, ctx_of, st_of, count_of, Stands, Loaded, Base}
use Rattle.step.specs.Contract.{Ready, Accepts, refusal_of, Refuses, run_of, RanAs, synthesizes}
use Rattle.step.specs.Under.{rest, kid_at}
use Rattle.step.specs.Steps.{annotation_of, AnnotationIn, ResolvedTo, ResolvingAs, saying}
use Rattle.step.proofs.Programs.{rest_refused, rest_ask, ask_refused, rest_conclude}
use Rattle.step.proofs.Frames.{left_trans}
use Rattle.step.proofs.Terms.{single_begins, single_nodes, is_as, as_child}
use Rattle.step.proofs.Moves.{making_left, making_base, making_ctx, making_stands, making_context}
use Rattle.step.proofs.Annotations.{annotation_says, annotation_among, annotation_given}
use Rattle.step.proofs.Doing.{check_answers}
use Rattle.rule.proofs.Going.{says as refuses-with}

-- IN BOTH MODES
module _ {l : List ℕ} {R : Rooms} {k : Place} {st : State} (rd : Ready l R k.0 st) (kind : (term_record l k.0).kind ≡ 12) (r : TermRecord) (er : r ≡ term_record l k.0)
    (ann : Optional Sort) (ea : ann ≡ annotation_of r.tag r.typ) where
  abbrev Γ : Ctx
  Γ = ctx_of l R.props R.work st.context

  abbrev c₁ : ℕ
  c₁ = r.child1.0

  -- it has an annotation
  pub as_given : ann ≡ None → ⊥
  as_given = annotation_given rd.base.table rd.here r er ann ea kind

  pub as_place : (k.0 < c₁) × (c₁ < terms l)
  as_place = subst⁻¹ (λ (r : TermRecord). (k.0 < r.child1.0) × (r.child1.0 < terms l)) er (as_child rd.base.table rd.here kind)

  pub as_alone : synthesizes (term_record l k.0).kind ≡ false
  unfolding synthesizes
  as_alone = ap synthesizes kind

  module _ (t : Sort) (et : ann ≡ Some t) where
    abbrev T : Ty
    T = reads l R.props t

    pub as_resolve : Counted l × (Loaded l R.props (count_of l st) × (TypeIn (count_of l st) t × ((st.made ≤ limit) × (8 * st.context ≤ length R.work))))
    as_resolve =
        let among = annotation_among rd.base.table rd.here r er ann ea rd.base.loaded in
        (rd.base.table.counted, (rd.base.loaded, (subst (AnnotationIn (count_of l st)) et among, (rd.base.made, omega (arith, rd.context, rd.base.table.counted.few, rd.base.work_room)))))

    shape : term_at l k.0 ≡ single k.0 (Single.ascribe T) (term_at l c₁)
    unfolding ascribed
    shape =
        subst⁻¹ (λ (r : TermRecord). term_at l k.0 ≡ ascribed k.0 (annotated l k.0) (term_at l r.child1.0)) er (is_as rd.base.table rd.here kind)
        ∙ ap (λ (A : Option Ty). ascribed k.0 A (term_at l c₁)) (sym (annotation_says rd.base.table rd.here r er ann ea rd.base.loaded) ∙ ap (saying l R.props) et)

    sizes : nodes (term_at l k.0) ≡ 1 + nodes (term_at l c₁)
    sizes = single_nodes shape

    begins : (w : Mode) → run_of l R k.0 w st ≡ rest w end (obey (ascribe_step k.0 T w Γ) (kid_at l c₁, tt) (st_of st))
    unfolding single_step
    begins w = single_begins l k.0 R w st (Single.ascribe T) c₁ shape

    -- resolved
    module _ {v : Want} {ps : List ℕ} {u : Sort} {s : State} (to : ResolvedTo l R.props R.work ps k.0 v t st u s) where
      abbrev R₁ : Rooms
      R₁ = rooms R.tree R.goals ps R.work

      base : Base l R₁ s
      base = making_base R to.making rd.base

      ready : Ready l R₁ c₁ s
      ready =
          let e = ap (λ (s : State). s.records) to.making.state in
          let g = ap (λ (s : State). s.goals) to.making.state in
          let i = ap (λ (s : State). s.serials) to.making.state in
          let c = ap (λ (s : State). s.context) to.making.state in
          record {
            base = base;
            here = as_place.1;
            records = omega (arith, rd.records, sizes);
            goals = omega (arith, rd.goals, sizes);
            serials = omega (arith, rd.serials, sizes);
            context = omega (arith, rd.context, sizes);
          }

      -- the child is held to U, which stands for A
      module _ (w : Mode) (U : Sort) {A : Ty} (says : Stands l ps (count_of l s) U A) (goes : run_of l R k.0 w st ≡ rest w end (obey (ask (check A) Γ λ _. conclude A []) (kid_at l c₁, tt) (st_of s))) where
        same_context : ctx_of l ps R.work s.context ≡ Γ
        same_context = ap (ctx_of l ps R.work) (making_context to.making) ∙ making_ctx R to.making rd.base

        runs : run (term_at l c₁) (check A) Γ (st_of s) ≡ run_of l R₁ c₁ (check (reads l ps U)) s
        runs = sym (λ i. run (term_at l c₁) (check (says.means i)) (same_context i) (st_of s))

        stopped : (r : Fault) → run_of l R₁ c₁ (check (reads l ps U)) s ≡ stop r → run_of l R k.0 w st ≡ stop r
        stopped r e = goes ∙ ap (rest w end) (ask_refused (check A) Γ (λ _. conclude A []) (kid_at l c₁, tt) (st_of s) r (runs ∙ e)) ∙ rest_refused w end r

        -- a check answers what was asked of it
        answers : {R₂ : Rooms} {T : Sort} {s₁ : State} → RanAs l R₁ R₂ c₁ (want.Check U) s (Ok (record { typ = T; state = s₁ })) → Stands l R₂.props (count_of l s₁) T A
        answers {R₂} {T} {s₁} m = subst (Stands l R₂.props (count_of l s₁) T) (check_answers (term_at l c₁) _ _ _ m.accepted.accepts ∙ says.means) m.type

        module _ {R₂ : Rooms} {s₁ : State} (acc : Accepts l R₁ R₂ s s₁ (run_of l R₁ c₁ (check (reads l ps U)) s)) where
          accepted : Accepts l R R₂ st s₁ (run_of l R k.0 w st)
          unfolding stack ◌⊕◌
          accepted =
              record {
                answer = record { ty = answered w A; tree = acc.answer.tree };
                accepts =
                    goes
                    ∙ rest_ask w end (check A) Γ (λ _. conclude A []) (kid_at l c₁, tt) (st_of s) acc.answer (st_of s₁) (runs ∙ acc.accepts)
                    ∙ rest_conclude w (end ⊕ acc.answer.tree) A [] (st_of s₁);
                left = left_trans (making_left R to.making) acc.left;
              }

    -- CHECKED: the annotation is compared, and the child is held to what is wanted
    module _ (wanted : Sort) (among : TypeIn (count_of l st) wanted) (ps : List ℕ) where
      abbrev E : Ty
      E = reads l R.props wanted

      pub held_unresolved : (e : Refusal) → ResolvingAs l R.props R.work ps k.0 (want.Check wanted) t st (Err e) → Refuses (run_of l R k.0 (check E) st) e
      unfolding ascribe_step
      held_unresolved e unresolved =
          begins (check E)
          ∙ ap (rest (check E) end) (unresolved one _ (kid_at l c₁, tt))
          ∙ rest_refused (check E) end (refusal_of e)

      module _ (o : Resolution) (to : ResolvedTo l R.props R.work ps k.0 (want.Check wanted) t st o.typ o.state) where
        abbrev u : Sort
        u = o.typ

        abbrev s : State
        s = o.state

        says : Stands l ps (count_of l s) wanted E
        says = making_stands to.making rd.base.loaded.arena (record { among = among; means = refl })

        pub held_ready : Ready l (rooms R.tree R.goals ps R.work) c₁ s
        held_ready = ready to

        pub held_type : TypeIn (count_of l s) wanted
        held_type = says.among

        module _ (c : Compared) (ic : (tables : ℕ) → c ≡ compared_types (type_at tables ps u) (type_at tables ps wanted)) (b : Bool) (eb : b ≡ is_alpha c) where
          test : alpha to.typ E ≡ b
          test = sym (eb ∙ alpha_types c (reads l ps u) (reads l ps wanted) (ic (props l)) ∙ ap₂ alpha to.stands.means says.means)

          goes : (x : Bool) → b ≡ x → run_of l R k.0 (check E) st ≡ rest (check E) end (obey (cond x (ask (check E) Γ λ _. conclude E []) (refuse 15 k.0)) (kid_at l c₁, tt) (st_of s))
          unfolding ascribe_step
          goes x e =
              begins (check E)
              ∙ ap (rest (check E) end) (to.goes one _ (kid_at l c₁, tt))
              ∙ ap (λ (x : Bool). rest (check E) end (obey (cond x (ask (check E) Γ λ _. conclude E []) (refuse 15 k.0)) (kid_at l c₁, tt) (st_of s))) (test ∙ e)

          pub held_apart : b ≡ false → (x : Refusal) → x ≡ record { number = 15; place = k.0 } → Refuses (run_of l R k.0 (check E) st) x
          unfolding obey
          held_apart e x ex = refuses-with 15 k.0 ex (goes false e ∙ rest_refused (check E) end (refusal 15 k.0))

          pub held_done : b ≡ true → (R₂ : Rooms) (o : Result Answer Refusal) → RanAs l (rooms R.tree R.goals ps R.work) R₂ c₁ (want.Check wanted) s o → RanAs l R R₂ k.0 (want.Check wanted) st o
          unfolding answered accepted
          held_done e R₂ (Ok a) m = record { accepted = accepted to (check E) wanted says (goes true e) m.accepted; type = answers to (check E) wanted says (goes true e) m }
          held_done e R₂ (Err x) m = stopped to (check E) wanted says (goes true e) (refusal_of x) m

    -- SYNTHESIZED: the child is held to the annotation, which is answered
    module _ (ps : List ℕ) where
      pub found_unresolved : (e : Refusal) → ResolvingAs l R.props R.work ps k.0 want.Synth t st (Err e) → Refuses (run_of l R k.0 synth st) e
      unfolding ascribe_step
      found_unresolved e unresolved =
          begins synth
          ∙ ap (rest synth end) (unresolved one _ (kid_at l c₁, tt))
          ∙ rest_refused synth end (refusal_of e)

      module _ (o : Resolution) (found : ResolvedTo l R.props R.work ps k.0 want.Synth t st o.typ o.state) where
        goes_on : run_of l R k.0 synth st ≡ rest synth end (obey (ask (check found.typ) Γ λ _. conclude found.typ []) (kid_at l c₁, tt) (st_of o.state))
        unfolding ascribe_step
        goes_on = begins synth ∙ ap (rest synth end) (found.goes one _ (kid_at l c₁, tt))

        pub found_ready : Ready l (rooms R.tree R.goals ps R.work) c₁ o.state
        found_ready = ready found

        pub found_type : TypeIn (count_of l o.state) o.typ
        found_type = found.stands.among

        pub found_done : (R₂ : Rooms) (x : Result Answer Refusal) → RanAs l (rooms R.tree R.goals ps R.work) R₂ c₁ (want.Check o.typ) o.state x → RanAs l R R₂ k.0 want.Synth st x
        unfolding answered accepted
        found_done R₂ (Ok a) m = record { accepted = accepted found synth o.typ found.stands goes_on m.accepted; type = answers found synth o.typ found.stands goes_on m }
        found_done R₂ (Err x) m = stopped found synth o.typ found.stands goes_on (refusal_of x) m
