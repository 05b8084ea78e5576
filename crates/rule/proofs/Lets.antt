-- LetIn, piece by piece, in either mode. Assumes nothing.
use mathlib.Core.Path.{◌≡◌, refl, ap, sym, subst, subst⁻¹, ◌∙◌}
use mathlib.Core.List.{List, [], ◌∷◌}
use Prim.Native.Nat.{ℕ, ◌+◌}
use native.Mathlib.Omega.{arith}
use Rattle.std.specs.declared.result.Result.{Result}
use Rattle.std.specs.declared.result.Result.TheVariants.{Ok, Err}
use Rattle.numbers.specs.declared.Serial.{Serial}
use Rattle.numbers.specs.declared.Sort.{Sort}
use Rattle.numbers.specs.declared.Term.{Term as Place}
use Rattle.numbers.specs.declared.record.Record.{Record}
use Rattle.numbers.specs.declared.refusal.Refusal.{Refusal}
use Rattle.numbers.specs.Records.{Put}
use Rattle.layout.specs.declared.record.TermRecord.{TermRecord}
use Rattle.layout.specs.File.{term_record}
use Rattle.rules.specs.Context.{Ctx, entry}
use Rattle.rules.specs.Prop.{Prop, prop, datatype}
use Rattle.rules.specs.Term.{Double}
use Rattle.rules.specs.Tree.{end, records, holes}
use Rattle.rules.specs.Step.{Want as Mode, done, Prog, ask, answered}
use Rattle.rules.specs.Rules.{one, by, let_opening, closing, let_close, let_step, double_step}
use Rattle.context.proofs.Laws.{ctx_same}
use Rattle.step.specs.declared.state.State.{State}
use Rattle.step.specs.declared.state.Want.{Want}
use Rattle.step.specs.declared.state.Want.TheVariants as want
use Rattle.step.specs.Rooms.{Rooms, rooms, reads, ctx_of, count_of, inner, leaving, Stands, Entries}
use Rattle.step.specs.Modes.{mode, WantIn, answer_of, number_of}
use Rattle.step.specs.Trees.{node_rec, TreesAre}
use Rattle.step.specs.Picture.{PicturesAre}
use Rattle.step.specs.Steps.{LetEntered, EnteredAs, closes, ClosedAs}
use Rattle.step.specs.Contract.{Ready, Left, refusal_of, Refuses, run_of, RanAs}
use Rattle.step.specs.Under.{Doing, kid_at}
use Rattle.step.proofs.Frames.{left_none}
use Rattle.step.proofs.Doing.{doing_start, doing_base, doing_ctx, doing_step, doing_same, doing_stop}
use Rattle.step.proofs.Terms.{double_begins, double_nodes, is_let, let_first, let_second}
use Rattle.rule.specs.declared.next.Rule.{Rule}
use Rattle.rule.specs.declared.next.Rest.TheVariants as rest
use Rattle.rule.specs.Going.{Γ₀, Asked, Resumed}
use Rattle.rule.proofs.Going.{of_number, asks, asks_in, mode_kept, wants_kept, concludes, answer_stands}

-- THE HEAD is asked
pub let_begins : {l : List ℕ} {R : Rooms} {k : Place} {st : State} {w : Want} → Ready l R k.0 st → (term_record l k.0).kind ≡ 6 → WantIn (count_of l st) w
    → Asked l R (record { term = k; want = w; start = st }) R rest.LetBody (term_record l k.0).child1.0 want.Synth (inner st)
unfolding double_step let_step
let_begins {l} {R} {k} {st} {w} rd kind wants =
    let t = rd.base.table in
    let r = term_record l k.0 in
    asks rd wants
    (doing_start _ (kid_at l r.child1.0, (kid_at l r.child2.0, tt)) rd
    (double_begins l k.0 R (mode l R.props w) st (Double.let_in r.name1.0 r.name2.0) r.child1.0 r.child2.0 (is_let t rd.here kind)))
    (omega arith) (omega (arith, double_nodes (is_let t rd.here kind))) (refl, refl) (let_first t rd.here kind, (let_second t rd.here kind, tt)) tt

-- THE BODY, once the head is opened
module _ {l : List ℕ} {R₀ : Rooms} {f : Rule} {R : Rooms} {t : Sort} {s : State} (a : Resumed l R₀ f R rest.LetBody t s) (r : TermRecord) (er : r ≡ term_record l f.term.0) (ps' work' : List ℕ) where
  abbrev k : ℕ
  k = f.term.0

  abbrev w : Mode
  w = mode l R₀.props f.want

  abbrev c₁ : ℕ
  c₁ = (term_record l k).child1.0

  abbrev c₂ : ℕ
  c₂ = (term_record l k).child2.0

  abbrev x : ℕ
  x = (term_record l k).name1.0

  abbrev y : ℕ
  y = (term_record l k).name2.0

  abbrev within : (i j D : ℕ) → Prop → Prog one
  within i j D B = ask w (entry y j (prop B) ∷ entry x i (datatype D) ∷ Γ₀ l R₀ f) λ T. let_close k c₂ i j w T

  head : Doing l R₀ k w f.start R s (let_opening (number_of f.want 12 22) k c₁ (reads l R.props t) within) (kid_at l c₂, tt) a.used a.own a.wide
  head = doing_same (λ z. let_opening (of_number l R₀.props f.want 12 22 z) k c₁ (sym a.stands.means z) within) a.doing

  pub let_refused : (e : Refusal) → EnteredAs l R.props R.work ps' work' r.name1.0 r.name2.0 f.want t k r.child1.0 s (Err e) → Refuses (run_of l R₀ k w f.start) e
  let_refused e m =
      let says = subst (λ (r : TermRecord). EnteredAs l R.props R.work ps' work' r.name1.0 r.name2.0 f.want t k r.child1.0 s (Err e)) er m in
      doing_stop (refusal_of e) head (says one within (kid_at l c₂, tt))

  module _ (s₁ : State) (m : LetEntered l R.props R.work ps' work' r.name1.0 r.name2.0 f.want t k r.child1.0 s s₁) where
    abbrev R₂ : Rooms
    R₂ = rooms R.tree R.goals ps' work'

    new : LetEntered l R.props R.work ps' work' x y f.want t k c₁ s s₁
    new = subst (λ (r : TermRecord). LetEntered l R.props R.work ps' work' r.name1.0 r.name2.0 f.want t k r.child1.0 s s₁) er m

    abbrev s' : State
    s' = leaving s₁ s.context

    opened_left : Left l R R₂ s s' end
    unfolding TreesAre PicturesAre records holes
    opened_left =
        let er = ap (λ (s : State). s.records) new.state in
        let eg = ap (λ (s : State). s.goals) new.state in
        let em = ap (λ (s : State). s.made) new.state in
        record {
          records = omega arith;
          goals = omega arith;
          context = refl;
          asked = ap (λ (s : State). s.asked) new.state;
          trees = tt;
          pictures = tt;
          grown =
              record {
                arena = new.arena;
                more = omega arith;
                props = new.same;
                tree = λ i h. refl;
                goals = λ i h. refl;
                work = new.kept;
                picture = λ k. new.picture;
                props_long = new.long;
                tree_long = refl;
                goals_long = refl;
                work_long = new.work_long;
              };
        }

    opened : Doing l R₀ k w f.start R₂ s' (within s.serials (s.serials + 1) new.datatype new.body) (kid_at l c₂, tt) a.used (a.own + 2) a.wide
    opened =
        let es = ap (λ (s : State). s.serials) new.state in
        doing_step _ 2 head opened_left new.within (omega arith) (new.goes one within (kid_at l c₂, tt))

    two_more : s₁.context ≡ s.context + 2
    two_more = ap (λ (s : State). s.context) new.state

    outer : ctx_of l ps' R.work s.context ≡ Γ₀ l R₀ f
    outer = sym (ctx_same (reads l ps') R.work work' s.context new.kept) ∙ ap (ctx_of l ps' work') a.doing.left.context ∙ doing_ctx a.begun.base opened

    inside : entry y (s.serials + 1) (prop new.body) ∷ entry x s.serials (datatype new.datatype) ∷ Γ₀ l R₀ f ≡ ctx_of l ps' work' (s'.context + 2)
    inside = sym (ap (ctx_of l ps' work') (sym two_more) ∙ new.context ∙ ap (λ (Γ : Ctx). entry y (s.serials + 1) (prop new.body) ∷ entry x s.serials (datatype new.datatype) ∷ Γ) outer)

    deeper_by : s₁ ≡ leaving s' (s'.context + 2)
    deeper_by z = record { records = s₁.records; goals = s₁.goals; serials = s₁.serials; made = s₁.made; context = two_more z; asked = s₁.asked }

    pub let_asks : Asked l R₀ f R₂ (rest.LetEnd (record { 0 = s.serials }) (record { 0 = s.serials + 1 })) c₂ f.want s₁
    let_asks =
        asks_in 2 a.begun a.wants
        (doing_same (λ z. ask (mode_kept f.want a.begun a.wants opened z) (inside z) λ T. let_close k c₂ s.serials (s.serials + 1) w T) opened)
        deeper_by (omega arith) (omega (arith, a.holds.1)) a.fits (omega (arith, a.holds.0)) a.others (wants_kept f.want a.begun a.wants opened)
        (subst (λ (n : ℕ). Entries work' n (count_of l s₁)) two_more (new.entries (doing_base a.begun.base a.doing).entries))

-- THE END, of what the body has
module _ {l : List ℕ} {R₀ : Rooms} {f : Rule} {R : Rooms} {t : Sort} {s : State} {i j : Serial} (a : Resumed l R₀ f R (rest.LetEnd i j) t s) (r : TermRecord) (er : r ≡ term_record l f.term.0) where
  abbrev k₂ : ℕ
  k₂ = f.term.0

  abbrev v : Mode
  v = mode l R₀.props f.want

  abbrev c : ℕ
  c = (term_record l k₂).child2.0

  abbrev last : Prog done
  last = by 14 k₂ a.typ (i.0 ∷ j.0 ∷ [])

  shuts : (o : Result (Unit {0}) Refusal) → ClosedAs l R.props f.want r.child2.0 i.0 t s o → ClosedAs l R.props f.want c i.0 t s o
  shuts o m = subst (λ (r : TermRecord). ClosedAs l R.props f.want r.child2.0 i.0 t s o) er m

  ending : Doing l R₀ k₂ v f.start R s (closes l R.props f.want c i.0 t last) tt a.used a.own a.wide
  unfolding let_close
  ending = doing_same (λ z. closing (of_number l R₀.props f.want 13 24 z) (of_number l R₀.props f.want 16 27 z) c i.0 (sym a.stands.means z) last) a.doing

  pub let_kept : (e : Refusal) → ClosedAs l R.props f.want r.child2.0 i.0 t s (Err e) → Refuses (run_of l R₀ k₂ v f.start) e
  let_kept e m = doing_stop (refusal_of e) ending (shuts (Err e) m done last tt)

  pub let_done : ClosedAs l R.props f.want r.child2.0 i.0 t s (Ok tt) → (nd : Record) → nd ≡ node_rec 14 k₂ t i.0 j.0 2 → (tr : List ℕ) → Put R.tree f.start.records nd tr → (found : Sort) → found ≡ answer_of f.want t
      → RanAs l R₀ (rooms tr R.goals R.props R.work) k₂ f.want f.start (Ok (record { typ = found; state = s }))
  unfolding by
  let_done m nd en tr put found ef =
      let whole = doing_step last 0 ending (left_none ending.left.grown.arena) ending.made (omega arith) (shuts (Ok tt) m done last tt) in
      concludes f t found whole a.stands (subst⁻¹ (λ (U : Sort). Stands l R.props (count_of l s) U (answered v a.typ)) ef (answer_stands a))
      (en ∙ ap (node_rec 14 k₂ t i.0 j.0) (sym a.holds)) put
