-- The projections, piece by piece. Assumes nothing.
use mathlib.Core.Path.{◌≡◌, refl, ap, sym, ◌∙◌}
use mathlib.Core.Bool.{Bool, true, false, cond}
use mathlib.Core.List.{List, []}
use mathlib.Core.Logic.{◌⊎◌, inl, inr}
use Prim.Native.Nat.{ℕ, ◌+◌, ◌<◌}
use native.Mathlib.Nat.{eq-or-lt_of_le}
use native.Mathlib.Omega.{arith}
use lib.Dec.{eqb}
use Rattle.numbers.specs.declared.Proposition.{Proposition}
use Rattle.numbers.specs.declared.Sort.{Sort}
use Rattle.numbers.specs.declared.Sort.TheVariants as sort
use Rattle.numbers.specs.declared.Term.{Term as Place}
use Rattle.numbers.specs.declared.refusal.Refusal.{Refusal}
use Rattle.layout.specs.declared.record.TermRecord.{TermRecord}
use Rattle.layout.specs.File.{props, terms, term_record}
use Rattle.rules.specs.Prop.{and, Ty, prop}
use Rattle.rules.specs.Context.{Ctx}
use Rattle.rules.specs.Term.{nodes}
use Rattle.rules.specs.Tree.{end}
use Rattle.rules.specs.Step.{synth, refusal, done, Prog, ask, obey}
use Rattle.rules.specs.Rules.{by, project_synth, project_step, single_step}
use Rattle.table.specs.Reading.{term_at}
use Rattle.prop.specs.Room.{room_at}
use Rattle.prop.specs.declared.head.Parts.{Parts}
use Rattle.step.specs.declared.state.State.{State}
use Rattle.step.specs.declared.state.Want.TheVariants as want
use Rattle.prop.specs.Head.{Split, Unsplit}
use Rattle.step.specs.Rooms.{Rooms, reads, ctx_of, st_of, count_of, inner}
use Rattle.step.specs.Modes.{mode}
use Rattle.step.specs.Contract.{Ready, Refuses, run_of}
use Rattle.step.specs.Under.{rest, Doing, kid_at}
use Rattle.step.proofs.Doing.{doing_start, doing_same, doing_stop}
use Rattle.step.proofs.Terms.{single_begins, single_nodes, is_fst, is_snd, fst_child, snd_child}
use Rattle.rule.specs.declared.next.Rule.{Rule}
use Rattle.rule.specs.declared.next.Rest.TheVariants as left
use Rattle.rule.specs.Reading.{projecting}
use Rattle.rule.specs.Going.{Asked, Resumed}
use Rattle.rule.proofs.Going.{says, answered_synth, asks, turned}

-- WHAT IS PROJECTED is asked
module _ {l : List ℕ} {R : Rooms} {k : Place} {st : State} (rd : Ready l R k.0 st) (kind : (1 < (term_record l k.0).kind) × ((term_record l k.0).kind < 4)) where
  abbrev c₁ : ℕ
  c₁ = (term_record l k.0).child1.0

  abbrev Γ : Ctx
  Γ = ctx_of l R.props R.work st.context

  sides : ((term_record l k.0).kind ≡ 2) ⊎ ((term_record l k.0).kind ≡ 3)
  sides = at (eq-or-lt_of_le kind.0)
    where
      at : (2 ≡ (term_record l k.0).kind) ⊎ (2 < (term_record l k.0).kind) → ((term_record l k.0).kind ≡ 2) ⊎ ((term_record l k.0).kind ≡ 3)
      at (inl e) = inl (sym e)
      at (inr m) = inr (omega (arith, kind.1))

  child : ((k.0 < c₁) × (c₁ < terms l)) × (nodes (term_at l k.0) ≡ 1 + nodes (term_at l c₁))
  child = at sides
    where
      at : ((term_record l k.0).kind ≡ 2) ⊎ ((term_record l k.0).kind ≡ 3) → ((k.0 < c₁) × (c₁ < terms l)) × (nodes (term_at l k.0) ≡ 1 + nodes (term_at l c₁))
      at (inl e) = (fst_child rd.base.table rd.here e, single_nodes (is_fst rd.base.table rd.here e))
      at (inr e) = (snd_child rd.base.table rd.here e, single_nodes (is_snd rd.base.table rd.here e))

  starts : run_of l R k.0 synth st ≡ rest synth end (obey (ask synth Γ (projecting k.0 (term_record l k.0).kind)) (kid_at l c₁, tt) (st_of st))
  unfolding single_step project_step project_synth
  starts = at sides
    where
      at : ((term_record l k.0).kind ≡ 2) ⊎ ((term_record l k.0).kind ≡ 3) → run_of l R k.0 synth st ≡ rest synth end (obey (ask synth Γ (projecting k.0 (term_record l k.0).kind)) (kid_at l c₁, tt) (st_of st))
      at (inl e) =
          single_begins l k.0 R synth st _ c₁ (is_fst rd.base.table rd.here e)
          ∙ sym (ap (λ (n : ℕ). rest synth end (obey (ask synth Γ (projecting k.0 n)) (kid_at l c₁, tt) (st_of st))) e)
      at (inr e) =
          single_begins l k.0 R synth st _ c₁ (is_snd rd.base.table rd.here e)
          ∙ sym (ap (λ (n : ℕ). rest synth end (obey (ask synth Γ (projecting k.0 n)) (kid_at l c₁, tt) (st_of st))) e)

  pub projection_begins : Asked l R (record { term = k; want = want.Synth; start = st }) R left.Part c₁ want.Synth (inner st)
  projection_begins = asks rd tt (doing_start _ (kid_at l c₁, tt) rd starts) (omega arith) (omega (arith, child.1)) (refl, refl) (child.0, tt) tt

-- A PART of what it has
module _ {l : List ℕ} {R₀ : Rooms} {f : Rule} {R : Rooms} {t : Sort} {s : State} (a : Resumed l R₀ f R left.Part t s) (count : ℕ) (ec : count ≡ count_of l s) where
  abbrev k : ℕ
  k = f.term.0

  whole : Doing l R₀ k (mode l R₀.props f.want) f.start R s (projecting k (term_record l k).kind (reads l R.props t)) tt a.used a.own a.wide
  whole = doing_same (ap (projecting k (term_record l k).kind) (sym a.stands.means)) a.doing

  pub part_other : Unsplit and R.props t → (r : Refusal) → r ≡ record { number = 22; place = k } → Refuses (run_of l R₀ k (mode l R₀.props f.want) f.start) r
  unfolding obey
  part_other bare r er =
      says 22 k er (doing_stop (refusal 22 k) whole (ap (λ (q : Prog done). obey q tt (st_of s)) (bare (props l) done _ _)))

  module _ (o : Parts) (split : Split and R.props count t o.left.0 o.right.0) (r : TermRecord) (er : r ≡ term_record l k) where
    abbrev x : Proposition
    x = o.left

    abbrev y : Proposition
    y = o.right

    abbrev P : Proposition → Ty
    P m = prop (room_at (props l) R.props m.0)

    chosen : (b : Bool) → eqb r.kind 2 ≡ b → Doing l R₀ k (mode l R₀.props f.want) f.start R s (cond b (by 3 k (P x) []) (by 4 k (P y) [])) tt a.used a.own a.wide
    chosen b eb = doing_same (split.goes (props l) done _ _ ∙ ap (λ (b : Bool). cond b (by 3 k (P x) []) (by 4 k (P y) [])) (ap (λ (r : TermRecord). eqb r.kind 2) (sym er) ∙ eb)) whole

    ends : (n : ℕ) (m : Proposition) → m.0 < count_of l s → Doing l R₀ k (mode l R₀.props f.want) f.start R s (by n k (P m) []) tt a.used a.own a.wide → Resumed l R₀ f R (left.By n 1) (sort.Proposition m) s
    ends n m h d =
        turned a (record { among = h; means = refl }) (doing_same (ap (λ (A : Ty). by n k A []) (sym (answered_synth l R₀.props a.holds.0 (P m)))) d) (omega arith) a.holds.1 tt

    pub part_first : eqb r.kind 2 ≡ true → Resumed l R₀ f R (left.By 3 1) (sort.Proposition x) s
    part_first eb = ends 3 x (omega (arith, split.first)) (chosen true eb)

    pub part_second : eqb r.kind 2 ≡ false → Resumed l R₀ f R (left.By 4 1) (sort.Proposition y) s
    part_second eb = ends 4 y (omega (arith, split.second)) (chosen false eb)
