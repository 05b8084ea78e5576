-- Function, piece by piece. Assumes nothing.
use mathlib.Core.Path.{◌≡◌, refl, ap, sym, subst, subst⁻¹, ◌∙◌}
use mathlib.Core.List.{List, [], ◌∷◌}
use mathlib.Core.Option.{Option}
use Prim.Native.Nat.{ℕ, ◌+◌, ◌*◌, ◌<◌, ◌≤◌}
use native.Mathlib.Numerals.{add-one}
use native.Mathlib.Omega.{arith}
use lib.ListN.{length}
use Rattle.std.specs.declared.option.Option.{Option as Optional}
use Rattle.std.specs.declared.option.Option.TheVariants.{Some, None}
use Rattle.std.specs.declared.result.Result.{Result}
use Rattle.std.specs.declared.result.Result.TheVariants.{Ok, Err}
use Rattle.numbers.specs.declared.Name.{Name}
use Rattle.numbers.specs.declared.Proposition.{Proposition}
use Rattle.numbers.specs.declared.Serial.{Serial}
use Rattle.numbers.specs.declared.Sort.{Sort}
use Rattle.numbers.specs.declared.Sort.TheVariants as sort
use Rattle.numbers.specs.declared.Term.{Term as Place}
use Rattle.numbers.specs.declared.identifier.Identifier.{Identifier}
use Rattle.numbers.specs.declared.record.Record.{Record}
use Rattle.numbers.specs.declared.refusal.Refusal.{Refusal}
use Rattle.numbers.specs.Limits.{none}
use Rattle.numbers.specs.Records.{Put}
use Rattle.layout.specs.declared.record.TermRecord.{TermRecord}
use Rattle.layout.specs.File.{props, terms, term_record}
use Rattle.rules.specs.Prop.{Prop, Ty, prop}
use Rattle.rules.specs.Context.{Ctx, entry}
use Rattle.rules.specs.State.{limit}
use Rattle.rules.specs.Term.{Single, nodes}
use Rattle.rules.specs.Step.{Want as Mode, synth, check, refusal, Arity, Prog, Kids, serial, ask, obey, on_prop, resolved, answered}
use Rattle.rules.specs.Rules.{one, by, annotated, fun_body, abstracted, fun_synth, fun_step, single_step, opening}
use Rattle.table.specs.Passing.{Counted}
use Rattle.table.specs.Reading.{term_at}
use Rattle.table.specs.Reading.{annotated as written}
use Rattle.prop.specs.Room.{room_at, TypeIn}
use Rattle.context.specs.Context.{Inserted}
use Rattle.step.specs.declared.state.State.{State}
use Rattle.step.specs.declared.state.Want.TheVariants as want
use Rattle.step.specs.declared.typing.Resolution.{Resolution}
use Rattle.step.specs.declared.open.Opening.{Opening}
use Rattle.step.specs.declared.open.Abstraction.{Abstraction}
use Rattle.step.specs.Rooms.{Rooms, rooms, reads, ctx_of, st_of, count_of, inner, numbered, deeper, Stands, Loaded, Base}
use Rattle.step.specs.Modes.{mode, answer_of}
use Rattle.step.specs.Trees.{rule_number, node_rec}
use Rattle.step.specs.Contract.{Ready, refusal_of, Refuses, run_of, RanAs}
use Rattle.step.specs.Steps.{Making, annotation_of, AnnotationIn, ResolvedTo, ResolvingAs, saying, AgreedOn, AgreedAs, OpenedTo, OpenedAs, AbstractedTo, AbstractedAs}
use Rattle.step.specs.Under.{Doing, kid_at}
use Rattle.step.proofs.Doing.{doing_start, doing_base, doing_ctx, doing_same, doing_step, doing_stop}
use Rattle.step.proofs.Terms.{single_begins, single_nodes, is_fun, fun_child}
use Rattle.step.proofs.Moves.{making_left, making_made, making_serials, making_stands, numbered_left, entered_left, entered_entries, entered_ctx}
use Rattle.step.proofs.Annotations.{annotation_says, annotation_among}
use Rattle.rule.specs.declared.next.Rule.{Rule}
use Rattle.rule.specs.declared.next.Rest.TheVariants as left
use Rattle.rule.specs.Reading.{abstracting}
use Rattle.rule.specs.Going.{Asked, Resumed}
use Rattle.rule.proofs.Going.{says, answered_synth, few_entries, asks_in, asks_fresh, ends_with, turned}

-- what was made is made with one record more
inner_making : {l ps ps' : List ℕ} {st st' : State} → Making l ps ps' st st' → Making l ps ps' (inner st) (inner st')
inner_making mk = record { spent = mk.spent; state = ap (λ (s : State). inner s) mk.state; within = mk.within; arena = mk.arena; same = mk.same; long = mk.long }

-- a serial is taken
serial_goes : {n : Arity} (q : ℕ → Prog n) (ks : Kids n) (st : State) → obey (serial q) ks (st_of st) ≡ obey (q st.serials) ks (st_of (numbered st))
unfolding obey
serial_goes q ks st = ap (λ (j : ℕ). obey (q st.serials) ks (record { serials = j; made = st.made })) (sym (add-one st.serials))

-- IN BOTH MODES
module _ {l : List ℕ} {R : Rooms} {k : Place} {st : State} (rd : Ready l R k.0 st) (kind : (term_record l k.0).kind ≡ 4) (r : TermRecord) (er : r ≡ term_record l k.0) where
  abbrev Γ : Ctx
  Γ = ctx_of l R.props R.work st.context

  abbrev c₁ : ℕ
  c₁ = (term_record l k.0).child1.0

  abbrev x : ℕ
  x = (term_record l k.0).name1.0

  sizes : nodes (term_at l k.0) ≡ 1 + nodes (term_at l c₁)
  sizes = single_nodes (is_fun rd.base.table rd.here kind)

  inside : ((k.0 < c₁) × (c₁ < terms l)) × Unit {0}
  inside = (fun_child rd.base.table rd.here kind, tt)

  begun : (w : Mode) → Doing l R k.0 w st R (inner st) (fun_step k.0 c₁ x (written l k.0) w Γ) (kid_at l c₁, tt) 0 0 0
  unfolding single_step
  begun w = doing_start _ (kid_at l c₁, tt) rd (single_begins l k.0 R w st (Single.fun x (written l k.0)) c₁ (is_fun rd.base.table rd.here kind))

  -- CHECKED: what `new_identifier` says, of the state that `inner` answered
  module _ (wanted : Sort) (among : TypeIn (count_of l st) wanted) (z : State) (ez : z ≡ inner st) (id : Identifier) (s₀ : State) (en : id.name ≡ r.name1) (ei₀ : id.serial.0 ≡ z.serials) (e₀₀ : s₀ ≡ numbered z) where
    abbrev E : Ty
    E = reads l R.props wanted

    abbrev f : Rule
    f = record { term = k; want = want.Check wanted; start = st }

    abbrev i : ℕ
    i = id.serial.0

    ei : i ≡ st.serials
    ei = ei₀ ∙ ap (λ (s : State). s.serials) ez

    e₀ : s₀ ≡ numbered (inner st)
    e₀ = e₀₀ ∙ ap (λ (s : State). numbered s) ez

    abbrev premise : ℕ → ℕ → Ty → Prop → Prog one
    premise i rule A B = ask (check (prop B)) (entry x i A ∷ Γ) λ _. by rule k.0 E (i ∷ [])

    abbrev parts : ℕ → Prog one
    parts i = opening k.0 i E (λ rule A B. annotated k.0 Γ (written l k.0) A (premise i rule A B))

    counted : Doing l R k.0 (check E) st R s₀ (parts i) (kid_at l c₁, tt) 0 1 0
    unfolding fun_step fun_body opening
    counted =
        subst⁻¹ (λ (s : State). Doing l R k.0 (check E) st R s (parts i) (kid_at l c₁, tt) 0 1 0) e₀
        (subst⁻¹ (λ (i : ℕ). Doing l R k.0 (check E) st R (numbered (inner st)) (parts i) (kid_at l c₁, tt) 0 1 0) ei
        (doing_step _ 1 (begun (check E)) (numbered_left rd.base.loaded.arena) rd.base.made (omega arith) (serial_goes parts (kid_at l c₁, tt) (inner st))))

    module _ (ps₁ : List ℕ) where
      pub open_refused : (e : Refusal) → OpenedAs l R.props ps₁ k.0 wanted i s₀ (Err e) → Refuses (run_of l R k.0 (check E) st) e
      open_refused e says = doing_stop (refusal_of e) counted (says one _ (kid_at l c₁, tt))

      module _ (o : Opening) (to : OpenedTo l R.props ps₁ k.0 wanted i s₀ (rule_number o.rule) o.parameter o.body.0 o.state) (ann : Optional Sort) (ea : ann ≡ annotation_of r.tag r.typ) where
        abbrev a : Sort
        a = o.parameter

        abbrev s : State
        s = o.state

        abbrev R₁ : Rooms
        R₁ = rooms R.tree R.goals ps₁ R.work

        abbrev rest_of : Prog one
        rest_of = premise i (rule_number o.rule) to.parameter to.body

        started : Doing l R k.0 (check E) st R₁ s (annotated k.0 Γ (written l k.0) to.parameter rest_of) (kid_at l c₁, tt) 0 1 0
        started = doing_step _ 0 counted (making_left R to.making) (making_made to.making) (making_serials to.making) (to.goes one _ (kid_at l c₁, tt))

        room : Base l R₁ s
        room = doing_base rd.base started

        pub agree_asks : Counted l × (Loaded l ps₁ (count_of l s) × ((AnnotationIn (count_of l s) ann × TypeIn (count_of l s) a) × ((s.made ≤ limit) × (8 * s.context ≤ length R.work))))
        agree_asks = (
          rd.base.table.counted,
          (
            room.loaded,
            (
              (annotation_among rd.base.table rd.here r er ann ea room.loaded, to.parameter_stands.among),
              (started.made, omega (arith, rd.context, rd.base.table.counted.few, rd.base.work_room, started.left.context)),
            ),
          ),
        )

        same_context : Γ ≡ ctx_of l ps₁ R.work s.context
        same_context = sym (doing_ctx rd.base started) ∙ ap (ctx_of l ps₁ R.work) (sym started.left.context)

        asked : Doing l R k.0 (check E) st R₁ s (annotated k.0 (ctx_of l ps₁ R.work s.context) (saying l ps₁ ann) (reads l ps₁ a) rest_of) (kid_at l c₁, tt) 0 1 0
        asked =
            let says = sym (annotation_says rd.base.table rd.here r er ann ea room.loaded) in
            doing_same (λ j. annotated k.0 (same_context j) (says j) (sym to.parameter_stands.means j) rest_of) started

        module _ (ps₂ : List ℕ) where
          pub agree_refused : (e : Refusal) → AgreedAs l ps₁ R.work ps₂ k.0 ann a s (Err e) → Refuses (run_of l R k.0 (check E) st) e
          agree_refused e says = doing_stop (refusal_of e) asked (says one _ (kid_at l c₁, tt))

          module _ (s₁ : State) (on : AgreedOn l ps₁ R.work ps₂ k.0 ann a s s₁) where
            abbrev R₂ : Rooms
            R₂ = rooms R.tree R.goals ps₂ R.work

            ahead : Doing l R k.0 (check E) st R₂ s₁ rest_of (kid_at l c₁, tt) 0 1 0
            ahead = doing_step _ 0 asked (making_left R₁ on.making) (making_made on.making) (making_serials on.making) (on.goes one _ (kid_at l c₁, tt))

            parameter : Stands l ps₂ (count_of l s₁) a to.parameter
            parameter = making_stands on.making to.making.arena to.parameter_stands

            body : Stands l ps₂ (count_of l s₁) (sort.Proposition o.body) (prop to.body)
            body = making_stands on.making to.making.arena to.body_stands

            pub function_begins : (s₂ : State) (work : List ℕ) → s₂ ≡ deeper s₁ → Inserted R.work s₁.context (record { name = id.name; serial = id.serial; typ = a }) work
                → Asked l R f (rooms R.tree R.goals ps₂ work) (left.Closes (rule_number o.rule) id.serial) c₁ (want.Check (sort.Proposition o.body)) s₂
            unfolding answered
            function_begins s₂ work e₂ ins =
                let entered = doing_step rest_of 0 ahead (entered_left R₂ s₁ ins on.making.arena (few_entries rd ahead)) ahead.made (omega arith) refl in
                let outer : Γ ≡ ctx_of l ps₂ R.work s₁.context = sym (doing_ctx rd.base ahead) ∙ ap (ctx_of l ps₂ R.work) (sym ahead.left.context) in
                let name : x ≡ id.name.0 = ap (λ (r : TermRecord). r.name1.0) (sym er) ∙ ap (λ (n : Name). n.0) (sym en) in
                let deep : entry x i to.parameter ∷ Γ ≡ ctx_of l ps₂ work (s₁.context + 1) = (λ j. entry (name j) i (sym parameter.means j) ∷ outer j) ∙ sym (entered_ctx R₂ s₁ ins l) in
                asks_in 1 rd among (doing_same (λ j. ask (check (sym body.means j)) (deep j) λ _. by (rule_number o.rule) k.0 E (i ∷ [])) entered) e₂ (omega arith) (omega arith) (omega (arith, sizes)) refl inside body.among
                (entered_entries R₂ s₁ ins (count_of l s₁) (doing_base rd.base ahead).entries parameter.among)

  -- SYNTHESIZED: an annotation is needed
  module _ (ann : Optional Sort) (ea : ann ≡ annotation_of r.tag r.typ) where
    said : (a : Optional Sort) → ann ≡ a → Doing l R k.0 synth st R (inner st) (fun_synth k.0 c₁ x (saying l R.props a) Γ) (kid_at l c₁, tt) 0 0 0
    unfolding fun_step
    said a e = doing_same (ap (λ (T : Option Ty). fun_synth k.0 c₁ x T Γ) (sym (annotation_says rd.base.table rd.here r er ann ea rd.base.loaded) ∙ ap (saying l R.props) e)) (begun synth)

    pub function_bare : ann ≡ None → (e : Refusal) → e ≡ record { number = 21; place = k.0 } → Refuses (run_of l R k.0 synth st) e
    unfolding fun_synth obey
    function_bare q e ee = says 21 k.0 ee (doing_stop (refusal 21 k.0) (said None q) refl)

    pub function_resolves : (t : Sort) → ann ≡ Some t → Counted l × (Loaded l R.props (count_of l st) × (TypeIn (count_of l st) t × ((st.made ≤ limit) × (8 * st.context ≤ length R.work))))
    function_resolves t et =
        let among = annotation_among rd.base.table rd.here r er ann ea rd.base.loaded in
        (rd.base.table.counted, (rd.base.loaded, (subst (AnnotationIn (count_of l st)) et among, (rd.base.made, omega (arith, rd.context, rd.base.table.counted.few, rd.base.work_room)))))

    module _ (t : Sort) (et : ann ≡ Some t) (ps : List ℕ) where
      abbrev under : Ty → ℕ → Prog one
      under A j = ask synth (entry x j A ∷ Γ) (abstracting l k.0 j A)

      given : Doing l R k.0 synth st R (inner st) (resolved 20 k.0 Γ (reads l R.props t) (λ A. serial (under A))) (kid_at l c₁, tt) 0 0 0
      unfolding fun_synth
      given = said (Some t) et

      pub function_unresolved : (e : Refusal) → ResolvingAs l R.props R.work ps k.0 want.Synth t st (Err e) → Refuses (run_of l R k.0 synth st) e
      function_unresolved e says = doing_stop (refusal_of e) given (says one _ (kid_at l c₁, tt))

      module _ (o : Resolution) (found : ResolvedTo l R.props R.work ps k.0 want.Synth t st o.typ o.state) where
        numbering : Doing l R k.0 synth st (rooms R.tree R.goals ps R.work) (inner o.state) (serial (under found.typ)) (kid_at l c₁, tt) 0 0 0
        numbering =
            let mk = inner_making found.making in
            doing_step _ 0 given (making_left R mk) (making_made mk) (making_serials mk) (found.goes one _ (kid_at l c₁, tt))

        module _ (s₀ : State) (e₀ : s₀ ≡ inner o.state) where
          pub function_asks : (s₁ : State) (work : List ℕ) → (s₁ ≡ deeper (numbered s₀)) × Inserted R.work s₀.context (record { name = r.name1; serial = record { 0 = s₀.serials }; typ = o.typ }) work
              → Asked l R (record { term = k; want = want.Synth; start = st }) (rooms R.tree R.goals ps work) (left.Abstracts (record { 0 = o.state.serials }) o.typ) c₁ want.Synth s₁
          function_asks s₁ work en =
              let en₁ = subst (λ (s₀ : State). (s₁ ≡ deeper (numbered s₀)) × Inserted R.work s₀.context (record { name = r.name1; serial = record { 0 = s₀.serials }; typ = o.typ }) work) e₀ en in
              let en₂ = subst (λ (r : TermRecord). (s₁ ≡ deeper (numbered (inner o.state))) × Inserted R.work o.state.context (record { name = r.name1; serial = record { 0 = o.state.serials }; typ = o.typ }) work) er en₁ in
              asks_fresh rd tt numbering {A = found.typ} found.stands en₂ (ap (λ (A : Ty). ask synth (entry x o.state.serials found.typ ∷ Γ) (abstracting l k.0 o.state.serials A)) (sym found.stands.means))
              (omega arith) (omega (arith, sizes)) (found.stands.among, refl, refl) inside tt

-- THE NODE of a checked function
pub closes_by : {l : List ℕ} {R₀ : Rooms} {f : Rule} {R : Rooms} {T : Sort} {s : State} {n : ℕ} {i : Serial} → Resumed l R₀ f R (left.Closes n i) T s → (found : Sort) → found ≡ answer_of f.want T
    → (nd : Record) → nd ≡ node_rec n f.term.0 found i.0 none 1 → (tr : List ℕ) → Put R.tree f.start.records nd tr
    → RanAs l R₀ (rooms tr R.goals R.props R.work) f.term.0 f.want f.start (Ok (record { typ = found; state = s }))
closes_by {f = f} {n = n} {i = i} a found ef nd en tr put = ends_with a (i.0 ∷ []) a.doing found ef nd (en ∙ ap (node_rec n f.term.0 found i.0 none) (sym a.holds)) tr put

-- THE CONCLUSION of a synthesized one, of what its body has
module _ {l : List ℕ} {R₀ : Rooms} {f : Rule} {R : Rooms} {t : Sort} {s : State} {i : Serial} {S : Sort} (a : Resumed l R₀ f R (left.Abstracts i S) t s) (r : TermRecord) (er : r ≡ term_record l f.term.0) where
  abbrev k₂ : ℕ
  k₂ = f.term.0

  abbrev w : Mode
  w = mode l R₀.props f.want

  abbrev A : Ty
  A = reads l R.props S

  told : (U : Sort) → t ≡ U → Doing l R₀ k₂ w f.start R s (abstracting l k₂ i.0 A (reads l R.props U)) tt a.used a.own a.wide
  told U e = doing_same (ap (abstracting l k₂ i.0 A) (sym a.stands.means ∙ ap (reads l R.props) e)) a.doing

  pub abstracts_data : (d : Name) → t ≡ sort.Datatype d → (e : Refusal) → e ≡ record { number = 24; place = r.child1.0 } → Refuses (run_of l R₀ k₂ w f.start) e
  unfolding on_prop obey
  abstracts_data d q e ee =
      let c = (term_record l k₂).child1.0 in
      let place : r.child1.0 ≡ c = ap (λ (r : TermRecord). r.child1.0) er in
      says 24 c (ee ∙ (λ z. record { number = 24; place = place z })) (doing_stop (refusal 24 c) (told (sort.Datatype d) q) refl)

  module _ (b : Proposition) (eb : t ≡ sort.Proposition b) (ps : List ℕ) where
    named : (o : Result Abstraction Refusal) → AbstractedAs l R.props ps k₂ r.name1.0 i.0 S b.0 s o → AbstractedAs l R.props ps k₂ (term_record l k₂).name1.0 i.0 S b.0 s o
    named o m = subst (λ (r : TermRecord). AbstractedAs l R.props ps k₂ r.name1.0 i.0 S b.0 s o) er m

    concluding : Doing l R₀ k₂ w f.start R s (abstracted k₂ (term_record l k₂).name1.0 i.0 A (room_at (props l) R.props b.0)) tt a.used a.own a.wide
    unfolding on_prop
    concluding = told (sort.Proposition b) eb

    pub abstracts_full : (e : Refusal) → AbstractedAs l R.props ps k₂ r.name1.0 i.0 S b.0 s (Err e) → Refuses (run_of l R₀ k₂ w f.start) e
    abstracts_full e m = doing_stop (refusal_of e) concluding (named (Err e) m tt)

    pub abstracts_to : (o : Abstraction) → AbstractedAs l R.props ps k₂ r.name1.0 i.0 S b.0 s (Ok o) → Resumed l R₀ f (rooms R.tree R.goals ps R.work) (left.Closes (rule_number o.rule) i) (sort.Proposition o.whole) o.state
    abstracts_to o m =
        let made : AbstractedTo l R.props ps k₂ (term_record l k₂).name1.0 i.0 S b.0 s (rule_number o.rule) o.whole.0 o.state = named (Ok o) m in
        turned a made.stands
        (doing_same (ap (λ (A : Ty). by (rule_number o.rule) k₂ A (i.0 ∷ [])) (sym (answered_synth l R₀.props a.holds.2 (prop made.whole))))
        (doing_step _ 0 concluding (making_left R made.making) (making_made made.making) (making_serials made.making) (made.goes tt)))
        (omega arith) a.holds.1 tt
