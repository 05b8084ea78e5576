-- OrLeft and OrRight, held to a type. Assumes nothing.
use mathlib.Core.Path.{◌≡◌, refl, ap, sym, ◌∙◌}
use mathlib.Core.Bool.{Bool, true, false, cond}
use mathlib.Core.List.{List, []}
use mathlib.Core.Logic.{◌⊎◌, inl, inr}
use Prim.Native.Nat.{ℕ, ◌+◌, ◌<◌}
use native.Mathlib.Nat.{eq-or-lt_of_le}
use native.Mathlib.Omega.{arith}
use lib.Dec.{eqb}
use Rattle.numbers.specs.declared.Proposition.{Proposition}
use Rattle.numbers.specs.declared.Sort.{Sort}
use Rattle.numbers.specs.declared.Sort.TheVariants as sort
use Rattle.numbers.specs.declared.Term.{Term as Place}
use Rattle.numbers.specs.declared.refusal.Refusal.{Refusal}
use Rattle.layout.specs.declared.record.TermRecord.{TermRecord}
use Rattle.layout.specs.File.{props, terms, term_record}
use Rattle.rules.specs.Prop.{or, Ty, prop}
use Rattle.rules.specs.Context.{Ctx}
use Rattle.rules.specs.Term.{nodes}
use Rattle.rules.specs.Tree.{end}
use Rattle.rules.specs.Step.{Want, check, refusal, Prog, ask, obey, answered}
use Rattle.rules.specs.Rules.{one, by, inject_step, single_step}
use Rattle.table.specs.Reading.{term_at}
use Rattle.prop.specs.Room.{room_at, TypeIn}
use Rattle.prop.specs.declared.head.Parts.{Parts}
use Rattle.step.specs.declared.state.State.{State}
use Rattle.step.specs.declared.state.Want.TheVariants as want
use Rattle.prop.specs.Head.{Split, Unsplit}
use Rattle.step.specs.Rooms.{Rooms, reads, ctx_of, st_of, count_of, inner}
use Rattle.step.specs.Contract.{Ready, Refuses, run_of}
use Rattle.step.specs.Under.{rest, Doing, kid_at}
use Rattle.step.proofs.Programs.{rest_refused}
use Rattle.step.proofs.Doing.{doing_start}
use Rattle.step.proofs.Terms.{single_begins, single_nodes, is_left, is_right, left_child, right_child}
use Rattle.rule.specs.declared.next.Rule.{Rule}
use Rattle.rule.specs.declared.next.Rest.TheVariants as left
use Rattle.rule.specs.Going.{Asked}
use Rattle.rule.proofs.Going.{says, asks}

-- THE TWO KINDS, 7 and 8, in either mode
module _ {l : List ℕ} {R : Rooms} {k : ℕ} {st : State} (rd : Ready l R k st) (kind : (6 < (term_record l k).kind) × ((term_record l k).kind < 9)) where
  abbrev K : ℕ
  K = (term_record l k).kind

  abbrev c₁ : ℕ
  c₁ = (term_record l k).child1.0

  sides : (K ≡ 7) ⊎ (K ≡ 8)
  sides = at (eq-or-lt_of_le kind.0)
    where
      at : (7 ≡ K) ⊎ (7 < K) → (K ≡ 7) ⊎ (K ≡ 8)
      at (inl e) = inl (sym e)
      at (inr m) = inr (omega (arith, kind.1))

  pub injects : (w : Want) → run_of l R k w st ≡ rest w end (obey (inject_step k (eqb K 7) w (ctx_of l R.props R.work st.context)) (kid_at l c₁, tt) (st_of st))
  unfolding single_step
  injects w = at sides
    where
      at : (K ≡ 7) ⊎ (K ≡ 8) → run_of l R k w st ≡ rest w end (obey (inject_step k (eqb K 7) w (ctx_of l R.props R.work st.context)) (kid_at l c₁, tt) (st_of st))
      at (inl e) =
          single_begins l k R w st _ c₁ (is_left rd.base.table rd.here e)
          ∙ sym (ap (λ (K : ℕ). rest w end (obey (inject_step k (eqb K 7) w (ctx_of l R.props R.work st.context)) (kid_at l c₁, tt) (st_of st))) e)
      at (inr e) =
          single_begins l k R w st _ c₁ (is_right rd.base.table rd.here e)
          ∙ sym (ap (λ (K : ℕ). rest w end (obey (inject_step k (eqb K 7) w (ctx_of l R.props R.work st.context)) (kid_at l c₁, tt) (st_of st))) e)

  child : ((k < c₁) × (c₁ < terms l)) × (nodes (term_at l k) ≡ 1 + nodes (term_at l c₁))
  child = at sides
    where
      at : (K ≡ 7) ⊎ (K ≡ 8) → ((k < c₁) × (c₁ < terms l)) × (nodes (term_at l k) ≡ 1 + nodes (term_at l c₁))
      at (inl e) = (left_child rd.base.table rd.here e, single_nodes (is_left rd.base.table rd.here e))
      at (inr e) = (right_child rd.base.table rd.here e, single_nodes (is_right rd.base.table rd.here e))

-- AGAINST AN OR
module _ {l : List ℕ} {R : Rooms} {k : Place} {st : State} (rd : Ready l R k.0 st) (wanted : Sort) (among : TypeIn (count_of l st) wanted) (kind : (6 < (term_record l k.0).kind) × ((term_record l k.0).kind < 9))
    (count : ℕ) (ec : count ≡ count_of l st) where
  abbrev Γ : Ctx
  Γ = ctx_of l R.props R.work st.context

  abbrev A : Ty
  A = reads l R.props wanted

  abbrev f : Rule
  f = record { term = k; want = want.Check wanted; start = st }

  abbrev c : ℕ
  c = (term_record l k.0).child1.0

  pub or_other : Unsplit or R.props wanted → (r : Refusal) → r ≡ record { number = 11; place = k.0 } → Refuses (run_of l R k.0 (check A) st) r
  unfolding inject_step obey
  or_other bare r er =
      says 11 k.0 er
      (injects rd kind (check A)
      ∙ ap (λ (q : Prog one). rest (check A) end (obey q (kid_at l c, tt) (st_of st))) (bare (props l) one _ _)
      ∙ rest_refused (check A) end (refusal 11 k.0))

  module _ (o : Parts) (split : Split or R.props count wanted o.left.0 o.right.0) (r : TermRecord) (er : r ≡ term_record l k.0) where
    abbrev a : Proposition
    a = o.left

    abbrev b : Proposition
    b = o.right

    -- what is asked of the child, and which rule concludes
    abbrev part : Proposition → ℕ → Prog one
    part p n = ask (check (prop (room_at (props l) R.props p.0))) Γ λ _. by n k.0 A []

    chosen : (x : Bool) → eqb r.kind 7 ≡ x → Doing l R k.0 (check A) st R (inner st) (cond x (part a 7) (part b 8)) (kid_at l c, tt) 0 0 0
    unfolding inject_step
    chosen x ex =
        doing_start _ (kid_at l c, tt) rd
        (injects rd kind (check A)
        ∙ ap (λ (q : Prog one). rest (check A) end (obey q (kid_at l c, tt) (st_of st))) (split.goes (props l) one _ _ ∙ ap (λ (x : Bool). cond x (part a 7) (part b 8)) (ap (λ (r : TermRecord). eqb r.kind 7) (sym er) ∙ ex)))

    pub or_first : eqb r.kind 7 ≡ true → Asked l R f R (left.By 7 1) c (want.Check (sort.Proposition a)) (inner st)
    unfolding answered
    or_first ex = asks rd among (chosen true ex) (omega arith) (omega (arith, (child rd kind).1)) refl ((child rd kind).0, tt) (omega (arith, split.first))

    pub or_second : eqb r.kind 7 ≡ false → Asked l R f R (left.By 8 1) c (want.Check (sort.Proposition b)) (inner st)
    unfolding answered
    or_second ex = asks rd among (chosen false ex) (omega arith) (omega (arith, (child rd kind).1)) refl ((child rd kind).0, tt) (omega (arith, split.second))
