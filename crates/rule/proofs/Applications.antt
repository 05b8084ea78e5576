-- Application, piece by piece. Assumes nothing.
use mathlib.Core.Path.{◌≡◌, refl, ap, sym, subst, ◌∙◌}
use mathlib.Core.List.{List, []}
use Prim.Native.Nat.{ℕ, ◌+◌}
use native.Mathlib.Omega.{arith}
use Rattle.std.specs.declared.option.Option.TheVariants.{Some, None}
use Rattle.std.specs.declared.result.Result.{Result}
use Rattle.std.specs.declared.result.Result.TheVariants.{Ok, Err}
use Rattle.numbers.specs.declared.Name.{Name}
use Rattle.numbers.specs.declared.Proposition.{Proposition}
use Rattle.numbers.specs.declared.Serial.{Serial}
use Rattle.numbers.specs.declared.Sort.{Sort}
use Rattle.numbers.specs.declared.Sort.TheVariants as sort
use Rattle.numbers.specs.declared.Term.{Term as Place}
use Rattle.numbers.specs.declared.refusal.Refusal.{Refusal}
use Rattle.layout.specs.declared.record.TermRecord.{TermRecord}
use Rattle.layout.specs.File.{props, term_record}
use Rattle.rules.specs.Prop.{imp, all, Ty, prop, datatype, Prop, put, size}
use Rattle.rules.specs.State.{limit}
use Rattle.rules.specs.Term.{Double}
use Rattle.rules.specs.Step.{Want as Mode, synth, check, refusal, done, Prog, ask, obey, objected}
use Rattle.rules.specs.Rules.{one, by, app_synth, app_step, double_step, applying}
use Rattle.prop.specs.Room.{room_at}
use Rattle.prop.specs.declared.head.Parts.{Parts}
use Rattle.prop.specs.declared.head.Bound.{Bound}
use Rattle.arena.specs.declared.copy.Copied.{Copied}
use Rattle.arena.specs.Make.{PutIs}
use Rattle.step.specs.declared.state.State.{State}
use Rattle.step.specs.declared.state.Want.{Want}
use Rattle.step.specs.declared.state.Want.TheVariants as want
use Rattle.prop.specs.Head.{Split, Unsplit, Over, NotOver}
use Rattle.step.specs.Rooms.{Rooms, rooms, reads, ctx_of, st_of, count_of, inner}
use Rattle.step.specs.Modes.{mode}
use Rattle.step.specs.Steps.{ObjectAs}
use Rattle.step.specs.Contract.{Ready, refusal_of, Refuses, run_of}
use Rattle.step.specs.Under.{Doing, kid_at}
use Rattle.step.proofs.Frames.{left_none}
use Rattle.step.proofs.Doing.{doing_start, doing_ctx, doing_same, doing_step, doing_stop}
use Rattle.step.proofs.Moves.{MadeFor, GrownTo, making_left, making_made, making_serials, made_goes, put_made, put_stops}
use Rattle.step.proofs.Terms.{double_begins, double_nodes, is_app, app_first, app_second}
use Rattle.rule.specs.declared.next.Rule.{Rule}
use Rattle.rule.specs.declared.next.Rest.TheVariants as left
use Rattle.rule.specs.Reading.{instancing, program}
use Rattle.rule.specs.Going.{Γ₀, Asked, Resumed}
use Rattle.rule.proofs.Going.{says, answered_synth, asks, turned}

-- THE FUNCTION is asked
pub application_begins : {l : List ℕ} {R : Rooms} {k : Place} {st : State} → Ready l R k.0 st → (term_record l k.0).kind ≡ 5
    → Asked l R (record { term = k; want = want.Synth; start = st }) R left.Argument (term_record l k.0).child1.0 want.Synth (inner st)
unfolding double_step app_step app_synth
application_begins {l} {R} {k} {st} rd kind =
    let t = rd.base.table in
    let r = term_record l k.0 in
    asks rd tt (doing_start _ (kid_at l r.child1.0, (kid_at l r.child2.0, tt)) rd (double_begins l k.0 R synth st Double.app r.child1.0 r.child2.0 (is_app t rd.here kind)))
    (omega arith) (omega (arith, double_nodes (is_app t rd.here kind))) (refl, refl, omega arith) (app_first t rd.here kind, (app_second t rd.here kind, tt)) tt

-- THE ARGUMENT, for a function that has the type t
module _ {l : List ℕ} {R₀ : Rooms} {f : Rule} {R : Rooms} {t : Sort} {s : State} (a : Resumed l R₀ f R left.Argument t s) where
  abbrev k : ℕ
  k = f.term.0

  abbrev w : Mode
  w = mode l R₀.props f.want

  abbrev c₁ : ℕ
  c₁ = (term_record l k).child1.0

  abbrev c₂ : ℕ
  c₂ = (term_record l k).child2.0

  headed : Doing l R₀ k w f.start R s (program l R.props k w (Γ₀ l R₀ f) left.Argument (reads l R.props t)) (kid_at l c₂, tt) a.used a.own a.wide
  headed = doing_same (ap (program l R.props k w (Γ₀ l R₀ f) left.Argument) (sym a.stands.means)) a.doing

  module _ (count : ℕ) (ec : count ≡ count_of l s) where
    -- of an Impl
    pub argument_asks : (o : Parts) → Split imp R.props count t o.left.0 o.right.0 → Asked l R₀ f R (left.Concludes o.right) c₂ (want.Check (sort.Proposition o.left)) s
    argument_asks o split =
        asks a.begun a.wants (doing_same (split.goes (props l) one _ _) headed) a.holds.2 a.fits (omega (arith, split.second, ec), omega (arith, a.holds.1), a.holds.0) a.others (omega (arith, split.first, ec))

    -- of a ForAll
    module _ (bare : Unsplit imp R.props t) (r : TermRecord) (er : r ≡ term_record l k) where
      applied : Doing l R₀ k w f.start R s (applying k c₁ c₂ (Γ₀ l R₀ f) (reads l R.props t)) (kid_at l c₂, tt) a.used a.own a.wide
      applied = doing_same (bare (props l) one _ _) headed

      pub object_other : NotOver all R.props t → (e : Refusal) → e ≡ record { number = 22; place = r.child1.0 } → Refuses (run_of l R₀ k w f.start) e
      unfolding applying obey
      object_other other e ee =
          let place : r.child1.0 ≡ c₁ = ap (λ (r : TermRecord). r.child1.0) er in
          says 22 c₁ (ee ∙ (λ z. record { number = 22; place = place z })) (doing_stop (refusal 22 c₁) applied (ap (λ (q : Prog one). obey q (kid_at l c₂, tt) (st_of s)) (other (props l) one _ _)))

      module _ (u : Bound) (over : Over all R.props count t u.datatype.0 u.body.0) where
        abbrev D : Name
        D = u.datatype

        abbrev body : Proposition
        body = u.body

        abbrev B : Prop
        B = room_at (props l) R.props body.0

        tells : (ob : Result Serial Refusal) → ObjectAs l R.props R.work f.want r.child2.0 s ob → ObjectAs l R.props R.work want.Synth c₂ s ob
        tells ob m = subst (λ (w : Want). ObjectAs l R.props R.work w c₂ s ob) a.holds.0 (subst (λ (r : TermRecord). ObjectAs l R.props R.work f.want r.child2.0 s ob) er m)

        abbrev known : ℕ → Prog one
        known i = ask (check (datatype D.0)) (Γ₀ l R₀ f) λ _. instancing k i B

        same_context : ctx_of l R.props R.work s.context ≡ Γ₀ l R₀ f
        same_context = ap (ctx_of l R.props R.work) a.doing.left.context ∙ doing_ctx a.begun.base a.doing

        objecting : Doing l R₀ k w f.start R s (objected 24 20 c₂ (ctx_of l R.props R.work s.context) known) (kid_at l c₂, tt) a.used a.own a.wide
        unfolding applying
        objecting = doing_same (over.goes (props l) one _ _ ∙ (λ z. objected 24 20 c₂ (sym same_context z) known)) applied

        pub object_refused : (e : Refusal) → ObjectAs l R.props R.work f.want r.child2.0 s (Err e) → Refuses (run_of l R₀ k w f.start) e
        object_refused e m = doing_stop (refusal_of e) objecting (tells (Err e) m done known (kid_at l c₂, tt) refl)

        pub object_asks : (i : Serial) → ObjectAs l R.props R.work f.want r.child2.0 s (Ok i) → Asked l R₀ f R (left.Instance i body) c₂ (want.Check (sort.Datatype D)) s
        object_asks i m =
            asks a.begun a.wants
            (doing_step _ 0 objecting (left_none objecting.left.grown.arena) objecting.made (omega arith) (tells (Ok i) m done known (kid_at l c₂, tt) refl))
            (omega (arith, a.holds.2)) a.fits (omega (arith, over.body, ec), omega (arith, a.holds.1), a.holds.0) a.others tt

-- WHAT AN IMPL CONCLUDES
pub concludes_by : {l : List ℕ} {R₀ : Rooms} {f : Rule} {R : Rooms} {t : Sort} {s : State} {b : Proposition} → Resumed l R₀ f R (left.Concludes b) t s → Resumed l R₀ f R (left.By 6 2) (sort.Proposition b) s
concludes_by {l} {R₀} {f} {R} {b = b} a =
    turned a (record { among = a.holds.0; means = refl })
    (doing_same (ap (λ (A : Ty). by 6 f.term.0 A []) (sym (answered_synth l R₀.props a.holds.2 (prop (room_at (props l) R.props b.0))))) a.doing) (omega arith) a.holds.1 tt

-- THE BODY OF A FORALL with the object in it
module _ {l : List ℕ} {R₀ : Rooms} {f : Rule} {R : Rooms} {t : Sort} {s : State} {i : Serial} {b : Proposition} (a : Resumed l R₀ f R (left.Instance i b) t s)
    (count : ℕ) (ec : count ≡ count_of l s) (free : ℕ) (el : free + s.made ≡ limit) (ps : List ℕ) where
  pub instance_full : PutIs R.props count free b.0 i.0 ps None → (e : Refusal) → e ≡ record { number = 30; place = f.term.0 } → Refuses (run_of l R₀ f.term.0 (mode l R₀.props f.want) f.start) e
  instance_full puts e ee = says 30 f.term.0 ee (doing_stop (refusal 30 f.term.0) a.doing (put_stops l R.props ps count free b.0 i.0 s None ec el puts refl f.term.0 _ tt))

  pub instance_made : (o : Copied) → PutIs R.props count free b.0 i.0 ps (Some o) → (s₁ : State) → GrownTo s count o.count s₁ → Resumed l R₀ f (rooms R.tree R.goals ps R.work) (left.By 12 2) (sort.Proposition o.at) s₁
  instance_made o puts s₁ g =
      let B = room_at (props l) R.props b.0 in
      let d : MadeFor l R.props ps s s₁ (size B) (put i.0 B) o.at = put_made l R.props ps count free b.0 i.0 s (Some o) ec el puts s₁ o refl g in
      turned a d.stands
      (doing_same (ap (λ (A : Ty). by 12 f.term.0 A []) (sym (answered_synth l R₀.props a.holds.2 (prop (put i.0 B)))))
      (doing_step _ 0 a.doing (making_left R d.making) (making_made d.making) (making_serials d.making) (made_goes d f.term.0 _ tt)))
      (omega arith) a.holds.1 tt
