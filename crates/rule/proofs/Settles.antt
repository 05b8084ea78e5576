-- A check by comparison (Ident, projections, Application): what is synthesized is held against what is wanted. Assumes nothing.
use mathlib.Core.Path.{◌≡◌, refl, ap, sym, subst, subst⁻¹, ◌∙◌}
use mathlib.Core.Bool.{Bool, true, false, cond, ◌||◌, false≢true}
use mathlib.Core.List.{List, []}
use Prim.Native.Nat.{ℕ, ◌+◌, ◌*◌, ◌<◌, ◌≤◌}
use native.Mathlib.Omega.{arith}
use lib.Dec.{T, eqb, eqb→eq}
use lib.ListN.{length}
use Rattle.std.specs.declared.result.Result.{Result}
use Rattle.std.specs.declared.result.Result.TheVariants.{Ok, Err}
use Rattle.numbers.specs.declared.Sort.{Sort}
use Rattle.numbers.specs.declared.record.Record.{Record}
use Rattle.numbers.specs.declared.refusal.Refusal.{Refusal}
use Rattle.numbers.specs.Limits.{none, largest}
use Rattle.numbers.specs.Records.{record_at, Put}
use Rattle.layout.specs.declared.record.TermRecord.{TermRecord}
use Rattle.layout.specs.File.{props, term_record}
use Rattle.rules.specs.Prop.{Ty, eq, alpha}
use Rattle.rules.specs.Context.{Ctx}
use Rattle.rules.specs.State.{St}
use Rattle.rules.specs.Term.{Leaf, Single, Double, nodes}
use Rattle.rules.specs.Tree.{Node, end, node, records, holes}
use Rattle.rules.specs.Step.{synth, check, Out, refused, ok, then, Answer}
use Rattle.rules.specs.Rules.{ident_synth, ident_step, project_synth, project_step, app_synth, app_step, leaf_step, single_step, double_step}
use Rattle.rules.proofs.Spent.{Spent, run_spends}
use Rattle.table.specs.Reading.{term_at}
use Rattle.prop.specs.Room.{type_at}
use Rattle.prop.specs.Compare.{compared, compared_types}
use Rattle.prop.specs.declared.compare.Compared.{Compared}
use Rattle.prop.specs.declared.compare.Compared.TheVariants.{Equal, Alpha, Apart}
use Rattle.step.specs.declared.state.State.{State}
use Rattle.step.specs.declared.state.Want.{Want}
use Rattle.step.specs.declared.state.Want.TheVariants as want
use Rattle.step.specs.declared.state.Answer.{Answer as Answered}
use Rattle.step.specs.Rooms.{Rooms, rooms, reads, ctx_of, st_of, count_of, inner, Stands, Base}
use Rattle.step.specs.Modes.{WantIn}
use Rattle.step.specs.Shift.{Shifted}
use Rattle.step.specs.Trees.{node_rec, TreesAre}
use Rattle.step.specs.Picture.{PicturesAre}
use Rattle.step.specs.Contract.{Ready, Left, Answers, run_of, RanAs, synthesizes}
use Rattle.step.specs.Under.{kid_at}
use Rattle.step.proofs.Programs.{compared_with, expecting_rest}
use Rattle.step.proofs.Frames.{stands_kept, trees_on}
use Rattle.step.proofs.Moves.{left_base}
use Rattle.step.proofs.Terms.{leaf_begins, single_begins, double_begins, is_ident, is_fst, is_snd, is_app}
use Rattle.rule.specs.Going.{begun_as, Ended}
use Rattle.rule.proofs.Going.{says}

-- WHAT A COMPARISON ANSWERS
unfoldable outcome : ℕ → Ty → Answer → St → Compared → Out Answer
outcome p A a st Equal = ok (record { ty = A; tree = a.tree }) st
outcome p A a st Alpha = ok (record { ty = A; tree = node (record { rule = 16; term = p; concludes = A; serials = [] }) a.tree end }) st
outcome p A a st Apart = refused 14 p

compared_outcome : (p : ℕ) (A : Ty) (a : Answer) (st : St) → compared_with p A a st ≡ outcome p A a st (compared_types a.ty A)
unfolding compared_with compared outcome
compared_outcome p A a st = at (eq a.ty A) (alpha a.ty A)
  where
    at : (b c : Bool)
        → cond b (ok (record { ty = A; tree = a.tree }) st) (cond c (ok (record { ty = A; tree = node (record { rule = 16; term = p; concludes = A; serials = [] }) a.tree end }) st) (refused 14 p))
        ≡ outcome p A a st (compared b c)
    at true c = refl
    at false true = refl
    at false false = refl

-- THE TWO RUNS of one term
module _ {l : List ℕ} {R : Rooms} {k : ℕ} {st : State} (rd : Ready l R k st) (wanted : Sort) (kind : synthesizes (term_record l k).kind ≡ true) where
  abbrev Γ₁ : Ctx
  Γ₁ = ctx_of l R.props R.work st.context

  abbrev A₁ : Ty
  A₁ = reads l R.props wanted

  abbrev Comparing : Type 0
  Comparing = run_of l R k (check A₁) st ≡ then (run_of l R k synth st) (compared_with k A₁)

  abbrev holding : Out Answer → Out Answer
  holding o = then o (compared_with k A₁)

  ident_compares : (term_record l k).kind ≡ 0 → Comparing
  unfolding leaf_step ident_step
  ident_compares e =
      let x = (term_record l k).name1.0 in
      let s = is_ident rd.base.table rd.here e in
      leaf_begins l k R (check A₁) st (Leaf.ident x) s
      ∙ expecting_rest k A₁ (ident_synth k x Γ₁) tt end (st_of st)
      ∙ sym (ap holding (leaf_begins l k R synth st (Leaf.ident x) s))

  fst_compares : (term_record l k).kind ≡ 2 → Comparing
  unfolding single_step project_step
  fst_compares e =
      let m = (term_record l k).child1.0 in
      let s = is_fst rd.base.table rd.here e in
      single_begins l k R (check A₁) st Single.fst m s
      ∙ expecting_rest k A₁ (project_synth k true Γ₁) (kid_at l m, tt) end (st_of st)
      ∙ sym (ap holding (single_begins l k R synth st Single.fst m s))

  snd_compares : (term_record l k).kind ≡ 3 → Comparing
  unfolding single_step project_step
  snd_compares e =
      let m = (term_record l k).child1.0 in
      let s = is_snd rd.base.table rd.here e in
      single_begins l k R (check A₁) st Single.snd m s
      ∙ expecting_rest k A₁ (project_synth k false Γ₁) (kid_at l m, tt) end (st_of st)
      ∙ sym (ap holding (single_begins l k R synth st Single.snd m s))

  app_compares : (term_record l k).kind ≡ 5 → Comparing
  unfolding double_step app_step
  app_compares e =
      let m = (term_record l k).child1.0 in
      let n = (term_record l k).child2.0 in
      let s = is_app rd.base.table rd.here e in
      double_begins l k R (check A₁) st Double.app m n s
      ∙ expecting_rest k A₁ (app_synth k m n Γ₁) (kid_at l m, (kid_at l n, tt)) end (st_of st)
      ∙ sym (ap holding (double_begins l k R synth st Double.app m n s))

  abbrev n : ℕ
  n = (term_record l k).kind

  compares : Comparing
  unfolding synthesizes
  compares = at (eqb n 0) refl (eqb n 2) refl (eqb n 3) refl (eqb n 5) refl kind
    where
      at : (a : Bool) → eqb n 0 ≡ a → (b : Bool) → eqb n 2 ≡ b → (c : Bool) → eqb n 3 ≡ c → (d : Bool) → eqb n 5 ≡ d → a || (b || (c || d)) ≡ true → Comparing
      at true ea b eb c ec d ed h = ident_compares (eqb→eq n 0 (subst⁻¹ T ea tt))
      at false ea true eb c ec d ed h = fst_compares (eqb→eq n 2 (subst⁻¹ T eb tt))
      at false ea false eb true ec d ed h = snd_compares (eqb→eq n 3 (subst⁻¹ T ec tt))
      at false ea false eb false ec true ed h = app_compares (eqb→eq n 5 (subst⁻¹ T ed tt))
      at false ea false eb false ec false ed h = absurd (false≢true h)

-- HOW A TERM IS BEGUN, by its kind as the code has it
pub kind_compares : (l : List ℕ) (k : ℕ) (r : TermRecord) → r ≡ term_record l k → (b : Bool) → b ≡ synthesizes r.kind → {x : Bool} → b ≡ x → synthesizes (term_record l k).kind ≡ x
kind_compares l k r er b eb ex = ap (λ (r : TermRecord). synthesizes r.kind) (sym er) ∙ sym eb ∙ ex

pub begun_synth : (kind : ℕ) (w : Want) → synthesizes kind ≡ true → begun_as kind w ≡ want.Synth
unfolding begun_as
begun_synth kind w e = ap (λ (b : Bool). cond b want.Synth w) e

pub begun_so : (kind : ℕ) {w : Want} → synthesizes kind ≡ false → begun_as kind w ≡ w
unfolding begun_as
begun_so kind {w} e = ap (λ (b : Bool). cond b want.Synth w) e

abbrev Checks : Want → Type 0
Checks want.Synth = ⊥
Checks (want.Check E) = Unit {0}

pub begun_check : (kind : ℕ) (w : Want) (E : Sort) → want.Check E ≡ begun_as kind w → (synthesizes kind ≡ false) × (w ≡ want.Check E)
unfolding begun_as
begun_check kind w E e = at (synthesizes kind) refl e
  where
    at : (b : Bool) → synthesizes kind ≡ b → want.Check E ≡ cond b want.Synth w → (synthesizes kind ≡ false) × (w ≡ want.Check E)
    at true eb e = absurd (subst Checks e tt)
    at false eb e = (eb, sym e)

-- A REFUSAL before the comparison is the check's too
pub refused_so : {l : List ℕ} {R : Rooms} (R₁ : Rooms) {k : ℕ} {st : State} (rd : Ready l R k st) (w : Want) (r : Refusal)
    → RanAs l R R₁ k (begun_as (term_record l k).kind w) st (Err r) → RanAs l R R₁ k w st (Err r)
unfolding begun_as then
refused_so {l} {R} R₁ {k} {st} rd w r m = at w (synthesizes (term_record l k).kind) refl m
  where
    at : (w : Want) (b : Bool) → synthesizes (term_record l k).kind ≡ b → RanAs l R R₁ k (cond b want.Synth w) st (Err r) → RanAs l R R₁ k w st (Err r)
    at w false e m = m
    at want.Synth true e m = m
    at (want.Check E) true e m = compares rd E e ∙ ap (holding rd E e) m

-- THE END of a term without a comparison: it was asked for its type, or is of another kind
module _ {l tree ps : List ℕ} {k : ℕ} {w : Want} {st : State} {t : Sort} {s : State} (z : Ended l tree ps k w st t s) where
  abbrev E₁ : Rooms
  E₁ = rooms tree z.goals ps z.work

  pub ended_synth : w ≡ want.Synth → RanAs l z.start E₁ k w st (Ok (record { typ = t; state = s }))
  unfolding begun_as
  ended_synth e = subst⁻¹ (λ (w : Want). RanAs l z.start E₁ k w st (Ok (record { typ = t; state = s }))) e (at (synthesizes (term_record l k).kind) (subst (λ (w : Want). RanAs l z.start E₁ k (begun_as (term_record l k).kind w) st (Ok (record { typ = t; state = s }))) e z.ran))
    where
      at : (b : Bool) → RanAs l z.start E₁ k (cond b want.Synth want.Synth) st (Ok (record { typ = t; state = s })) → RanAs l z.start E₁ k want.Synth st (Ok (record { typ = t; state = s }))
      at true m = m
      at false m = m

  pub ended_so : synthesizes (term_record l k).kind ≡ false → RanAs l z.start E₁ k w st (Ok (record { typ = t; state = s }))
  ended_so e = subst (λ (w : Want). RanAs l z.start E₁ k w st (Ok (record { typ = t; state = s }))) (begun_so _ e) z.ran

  -- a check
  module _ {E : Sort} (e : w ≡ want.Check E) where
    abbrev pub ended_check : Ended l tree ps k (want.Check E) st t s
    ended_check =
        record {
          start = z.start;
          goals = z.goals;
          work = z.work;
          ready = z.ready;
          among = subst (WantIn (count_of l st)) e z.among;
          ran = subst (λ (w : Want). RanAs l z.start E₁ k (begun_as (term_record l k).kind w) st (Ok (record { typ = t; state = s }))) e z.ran;
        }

    pub ended_checked : (R₂ : Rooms) (r : Result Answered Refusal) → RanAs l z.start R₂ k (want.Check E) st r → RanAs l z.start R₂ k w st r
    ended_checked R₂ r m = subst⁻¹ (λ (w : Want). RanAs l z.start R₂ k w st r) e m

-- WHAT WAS SYNTHESIZED, held against what is wanted
module _ {l tree ps : List ℕ} {k : ℕ} {wanted : Sort} {st : State} {t : Sort} {s : State} (z : Ended l tree ps k (want.Check wanted) st t s) (kind : synthesizes (term_record l k).kind ≡ true) where
  abbrev R : Rooms
  R = z.start

  abbrev R₁ : Rooms
  R₁ = rooms tree z.goals ps z.work

  abbrev A : Ty
  A = reads l R.props wanted

  abbrev Γ : Ctx
  Γ = ctx_of l R.props R.work st.context

  has : Answers l R R₁ st s t (run_of l R k synth st)
  unfolding begun_as
  has = subst (λ (b : Bool). RanAs l R R₁ k (cond b want.Synth (want.Check wanted)) st (Ok (record { typ = t; state = s }))) kind z.ran

  abbrev found : Answer
  found = has.accepted.answer

  abbrev left : Left l R R₁ st s found.tree
  left = has.accepted.left

  spent : Spent (nodes (term_at l k)) (st_of st) found (st_of s)
  spent = run_spends (term_at l k) synth Γ (st_of st) found (st_of s) has.accepted.accepts

  stands : Stands l R₁.props (count_of l s) wanted A
  stands = stands_kept l z.ready.base.loaded.arena left.grown (record { among = z.among; means = refl })

  -- for count_of and compare_types
  pub settle_base : Base l R₁ s
  settle_base = left_base left (spent.within z.ready.base.made) z.ready.base

  module _ (c : Compared) (ec : (tables : ℕ) → c ≡ compared_types (type_at tables R₁.props t) (type_at tables R₁.props wanted)) where
    answers : (d : Compared) → c ≡ d → run_of l R k (check A) st ≡ outcome k A found (st_of s) d
    unfolding then
    answers d ed =
        compares z.ready wanted kind
        ∙ ap (holding z.ready wanted kind) has.accepted.accepts
        ∙ compared_outcome k A found (st_of s)
        ∙ ap (outcome k A found (st_of s)) ((λ i. compared_types (sym has.type.means i) (sym stands.means i)) ∙ sym (ec (props l)) ∙ ed)

    pub settle_apart : c ≡ Apart → (r : Refusal) → r ≡ record { number = 14; place = k } → RanAs l R R₁ k (want.Check wanted) st (Err r)
    unfolding outcome
    settle_apart ed r er = says 14 k er (answers Apart ed)

    pub settle_equal : c ≡ Equal → RanAs l R R₁ k (want.Check wanted) st (Ok (record { typ = wanted; state = s }))
    unfolding outcome
    settle_equal ed = record { accepted = record { answer = record { ty = A; tree = found.tree }; accepts = answers Equal ed; left = left }; type = stands }

    -- alpha-equal: a node more, for which the check's bound has room
    module _ (ed : c ≡ Alpha) where
      abbrev top : Node
      top = record { rule = 16; term = k; concludes = A; serials = [] }

      abbrev topped : Answer
      topped = record { ty = A; tree = node top found.tree end }

      accepts : run_of l R k (check A) st ≡ ok topped (st_of s)
      unfolding outcome
      accepts = answers Alpha ed

      few : s.records + 1 ≤ st.records + 2 * nodes (term_at l k)
      unfolding records
      few = omega (arith, left.records, (run_spends (term_at l k) (check A) Γ (st_of st) topped (st_of s) accepts).records)

      pub settle_order : st.records ≤ s.records
      settle_order = omega (arith, left.records)

      pub settle_shift : 16 * s.records + 16 ≤ length R₁.tree
      settle_shift = omega (arith, few, z.ready.records, settle_base.tree_room)

      pub settle_inner : s.records < largest
      settle_inner = omega (arith, few, z.ready.records)

      module _ (tr : List ℕ) (sh : Shifted st.records s.records R₁.tree tr) where
        pub settle_put : 16 * st.records + 16 ≤ length tr
        settle_put = omega (arith, settle_order, settle_shift, sh.size)

        module _ (nd : Record) (tr' : List ℕ) (en : nd ≡ node_rec 16 k wanted none none 1) (put : Put tr st.records nd tr') where
          abbrev R₂ : Rooms
          R₂ = rooms tr' R₁.goals R₁.props R₁.work

          moved : (i : ℕ) → st.records ≤ i → i < st.records + records found.tree → record_at tr' (i + 1) ≡ record_at R₁.tree i
          moved i lo hi = put.others (i + 1) (omega arith) ∙ sh.moved i lo (omega (arith, left.records))

          over : Left l R R₂ st (inner s) (node top found.tree end)
          unfolding TreesAre PicturesAre records holes
          over =
              let f = left.grown in
              record {
                records = omega (arith, left.records);
                goals = omega (arith, left.goals);
                context = left.context;
                asked = left.asked;
                trees = (
                  record { typ = wanted; stands = stands; is = put.here ∙ en ∙ ap (node_rec 16 k wanted none none) (sym spent.one) },
                  trees_on l R₁ R₂ f.arena (λ i h. refl) (omega arith) 1 st.records (st.records + 1) st.goals found.tree refl moved (λ i lo hi. refl) left.trees,
                  tt,
                );
                pictures = (left.pictures, tt);
                grown =
                    record {
                      arena = f.arena;
                      more = f.more;
                      props = f.props;
                      tree = λ i h. put.others i (omega arith) ∙ sh.below i h ∙ f.tree i h;
                      goals = f.goals;
                      work = f.work;
                      picture = f.picture;
                      props_long = f.props_long;
                      tree_long = put.size ∙ sh.size ∙ f.tree_long;
                      goals_long = f.goals_long;
                      work_long = f.work_long;
                    };
              }

          pub settle_alpha : (s' : State) → s' ≡ inner s → RanAs l R R₂ k (want.Check wanted) st (Ok (record { typ = wanted; state = s' }))
          settle_alpha s' es =
              subst⁻¹ (λ (s' : State). RanAs l R R₂ k (want.Check wanted) st (Ok (record { typ = wanted; state = s' }))) es
              (record { accepted = record { answer = topped; accepts = accepts; left = over }; type = stands })
