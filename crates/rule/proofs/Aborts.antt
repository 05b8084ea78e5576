-- Abort, piece by piece. Assumes nothing.
use mathlib.Core.Path.{◌≡◌, refl, ap, sym, ◌∙◌}
use mathlib.Core.Bool.{false}
use mathlib.Core.List.{List, []}
use Prim.Native.Nat.{ℕ, ◌+◌}
use native.Mathlib.Omega.{arith}
use Rattle.std.specs.declared.option.Option.TheVariants.{Some, None}
use Rattle.numbers.specs.declared.Name.{Name}
use Rattle.numbers.specs.declared.Proposition.{Proposition}
use Rattle.numbers.specs.declared.Sort.{Sort}
use Rattle.numbers.specs.declared.Sort.TheVariants as sort
use Rattle.numbers.specs.declared.Term.{Term as Place}
use Rattle.numbers.specs.declared.refusal.Refusal.{Refusal}
use Rattle.layout.specs.File.{term_record}
use Rattle.rules.specs.Prop.{made, const, Ty, prop}
use Rattle.rules.specs.State.{limit}
use Rattle.rules.specs.Term.{Single}
use Rattle.rules.specs.Step.{check, refusal, done, Prog, refuse, make, ask, obey, on_prop, answered}
use Rattle.rules.specs.Rules.{one, by, abort_step, single_step}
use Rattle.arena.specs.declared.copy.Copied.{Copied}
use Rattle.arena.specs.Make.{ConstantIs}
use Rattle.prop.specs.Room.{TypeIn}
use Rattle.step.specs.declared.state.State.{State}
use Rattle.step.specs.declared.state.Want.TheVariants as want
use Rattle.step.specs.Rooms.{Rooms, rooms, reads, ctx_of, count_of, inner}
use Rattle.step.specs.Modes.{mode, answer_of}
use Rattle.step.specs.Contract.{Ready, Refuses, run_of}
use Rattle.step.specs.Under.{Doing, kid_at}
use Rattle.step.proofs.Doing.{doing_start, doing_step, doing_same, doing_stop}
use Rattle.step.proofs.Moves.{MadeFor, GrownTo, made_for, made_goes, full_stops, making_left, making_made, making_serials}
use Rattle.step.proofs.Terms.{single_begins, single_nodes, is_abort, abort_child}
use Rattle.rule.specs.declared.next.Rule.{Rule}
use Rattle.rule.specs.declared.next.Rest.TheVariants as left
use Rattle.rule.specs.Going.{Asked, Resumed}
use Rattle.rule.proofs.Going.{says, asks, answer_stands, turned}

-- ITS FALSE is made, and the body is asked
module _ {l : List ℕ} {R : Rooms} {k : Place} {st : State} (rd : Ready l R k.0 st) (wanted : Sort) (among : TypeIn (count_of l st) wanted) (kind : (term_record l k.0).kind ≡ 10)
    (count : ℕ) (ec : count ≡ count_of l st) (free : ℕ) (el : free + st.made ≡ limit) (ps : List ℕ) where
  abbrev c₁ : ℕ
  c₁ = (term_record l k.0).child1.0

  abbrev A : Ty
  A = reads l R.props wanted

  abbrev asking : Ty → Prog one
  asking F = ask (check F) (ctx_of l R.props R.work st.context) λ B. on_prop A (λ P. by 10 k.0 A []) (refuse 13 k.0)

  begun : Doing l R k.0 (check A) st R (inner st) (make 1 k.0 (asking (prop (const made false)))) (kid_at l c₁, tt) 0 0 0
  unfolding single_step abort_step
  begun = doing_start _ (kid_at l c₁, tt) rd (single_begins l k.0 R (check A) st Single.abort c₁ (is_abort rd.base.table rd.here kind))

  pub abort_full : ConstantIs false R.props count free ps None → (r : Refusal) → r ≡ record { number = 30; place = k.0 } → Refuses (run_of l R k.0 (check A) st) r
  abort_full is r er =
      says 30 k.0 er
      (doing_stop (refusal 30 k.0) begun (full_stops l R.props ps count free (inner st) (λ t. 1) (λ t. const made false) None ec el is refl k.0 _ (kid_at l c₁, tt)))

  pub abort_begins : (o : Copied) → ConstantIs false R.props count free ps (Some o) → (g : State) → GrownTo st count o.count g
      → Asked l R (record { term = k; want = want.Check wanted; start = st }) (rooms R.tree R.goals ps R.work) left.Aborts c₁ (want.Check (sort.Proposition o.at)) (inner g)
  unfolding answered
  abort_begins o is g eg =
      let makes : MadeFor l R.props ps (inner st) (inner g) 1 (const made false) o.at =
      made_for l R.props ps count free (inner st) (λ t. 1) (λ t. const made false) (Some o) ec el is (inner g) o refl (eg.0, ap (λ (n : ℕ). n + 1) eg.1, eg.2, eg.3, eg.4, eg.5) in
      asks rd among
      (doing_same (ap asking (sym makes.stands.means))
      (doing_step _ 0 begun (making_left R makes.making) (making_made makes.making) (making_serials makes.making) (made_goes makes k.0 _ (kid_at l c₁, tt))))
      (omega arith) (omega (arith, single_nodes (is_abort rd.base.table rd.here kind))) refl (abort_child rd.base.table rd.here kind, tt) makes.stands.among

-- ONLY OF A PROPOSITION
module _ {l : List ℕ} {R₀ : Rooms} {f : Rule} {R : Rooms} {t : Sort} {s : State} (a : Resumed l R₀ f R left.Aborts t s) (found : Sort) (ef : found ≡ answer_of f.want t) where
  abbrev k : ℕ
  k = f.term.0

  abbrev B : Ty
  B = answered (mode l R₀.props f.want) a.typ

  abbrev ending : Ty → Prog done
  ending A = on_prop A (λ P. by 10 k B []) (refuse 13 k)

  told : (T : Sort) → found ≡ T → Doing l R₀ k (mode l R₀.props f.want) f.start R s (ending (reads l R.props T)) tt a.used a.own a.wide
  told T e = doing_same (ap ending (sym (answer_stands a).means) ∙ ap (λ (T : Sort). ending (reads l R.props T)) (sym ef ∙ e)) a.doing

  pub aborts_data : (d : Name) → found ≡ sort.Datatype d → (r : Refusal) → r ≡ record { number = 13; place = k } → Refuses (run_of l R₀ k (mode l R₀.props f.want) f.start) r
  unfolding on_prop obey
  aborts_data d e r er = says 13 k er (doing_stop (refusal 13 k) (told (sort.Datatype d) e) refl)

  pub aborts_by : (p : Proposition) → found ≡ sort.Proposition p → Resumed l R₀ f R (left.By 10 1) t s
  unfolding on_prop
  aborts_by p e = turned a a.stands (told (sort.Proposition p) e) (omega arith) a.holds tt
