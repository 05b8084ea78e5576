-- Case, piece by piece, in either mode. Assumes nothing.
use mathlib.Core.Path.{◌≡◌, refl, ap, sym, subst, subst⁻¹, ◌∙◌}
use mathlib.Core.Bool.{Bool, true, false, not, cond}
use mathlib.Core.List.{List, [], ◌∷◌}
use Prim.Native.Nat.{ℕ}
use native.Mathlib.Omega.{arith}
use Rattle.std.specs.declared.result.Result.TheVariants.{Ok}
use Rattle.numbers.specs.declared.Name.{Name}
use Rattle.numbers.specs.declared.Proposition.{Proposition}
use Rattle.numbers.specs.declared.Serial.{Serial}
use Rattle.numbers.specs.declared.Sort.{Sort}
use Rattle.numbers.specs.declared.Sort.TheVariants as sort
use Rattle.numbers.specs.declared.Term.{Term as Place}
use Rattle.numbers.specs.declared.record.Record.{Record}
use Rattle.numbers.specs.declared.refusal.Refusal.{Refusal}
use Rattle.numbers.specs.Records.{Put}
use Rattle.layout.specs.declared.record.TermRecord.{TermRecord}
use Rattle.layout.specs.File.{props, term_record}
use Rattle.rules.specs.Context.{entry}
use Rattle.rules.specs.Prop.{Ty, or, alpha}
use Rattle.rules.specs.Term.{Triple}
use Rattle.rules.specs.Step.{Want as Mode, of, refusal, done, Prog, conclude, refuse, ask, obey, on_prop, answered}
use Rattle.rules.specs.Rules.{two, arms_agree, case_step, triple_step}
use Rattle.prop.specs.Room.{room_at, type_at}
use Rattle.prop.specs.Compare.{compared_types, is_alpha}
use Rattle.prop.specs.declared.compare.Compared.{Compared}
use Rattle.prop.specs.declared.head.Parts.{Parts}
use Rattle.prop.proofs.Alike.{alpha_types}
use Rattle.context.specs.Context.{Inserted}
use Rattle.step.specs.declared.state.State.{State}
use Rattle.step.specs.declared.state.Want.{Want}
use Rattle.step.specs.declared.state.Want.TheVariants as want
use Rattle.prop.specs.Head.{Split, Unsplit}
use Rattle.step.specs.Rooms.{Rooms, rooms, reads, count_of, inner, numbered, deeper, Stands}
use Rattle.step.specs.Modes.{mode, WantIn, answer_of, number_of}
use Rattle.step.specs.Trees.{node_rec}
use Rattle.step.specs.Contract.{Ready, Refuses, run_of, RanAs}
use Rattle.step.specs.Under.{Doing, kid_at}
use Rattle.step.proofs.Doing.{doing_start, doing_same, doing_stop}
use Rattle.step.proofs.Terms.{triple_begins, triple_nodes, is_case, case_head, case_left, case_right}
use Rattle.step.proofs.Refusing.{mode_refusal}
use Rattle.rule.specs.declared.next.Rule.{Rule}
use Rattle.rule.specs.declared.next.Rest.TheVariants as left
use Rattle.rule.specs.Reading.{after, kids, arming, judging, program}
use Rattle.rule.specs.Going.{Γ₀, Asked, Resumed, ArmsAs}
use Rattle.rule.proofs.Going.{says, of_number, asks, asks_fresh, mode_kept, wants_kept, concludes, answer_stands}

-- THE HEAD is asked
pub case_begins : {l : List ℕ} {R : Rooms} {k : Place} {st : State} {w : Want} → Ready l R k.0 st → (term_record l k.0).kind ≡ 9 → WantIn (count_of l st) w
    → Asked l R (record { term = k; want = w; start = st }) R left.CaseLeft (term_record l k.0).child1.0 want.Synth (inner st)
unfolding triple_step case_step
case_begins {l} {R} {k} {st} {w} rd kind wants =
    let t = rd.base.table in
    let r = term_record l k.0 in
    asks rd wants
    (doing_start _ (kid_at l r.child1.0, (kid_at l r.child2.0, (kid_at l r.child3.0, tt))) rd
    (triple_begins l k.0 R (mode l R.props w) st (Triple.case r.name1.0 r.name2.0) r.child1.0 r.child2.0 r.child3.0 (is_case t rd.here kind)))
    (omega arith) (omega (arith, triple_nodes (is_case t rd.here kind))) (refl, refl) (case_head t rd.here kind, (case_left t rd.here kind, (case_right t rd.here kind, tt))) tt

-- THE LEFT ARM, of what the head has
module _ {l : List ℕ} {R₀ : Rooms} {f : Rule} {R : Rooms} {t : Sort} {s : State} (a : Resumed l R₀ f R left.CaseLeft t s) (count : ℕ) (ec : count ≡ count_of l s) where
  abbrev k : ℕ
  k = f.term.0

  abbrev w : Mode
  w = mode l R₀.props f.want

  abbrev c₁ : ℕ
  c₁ = (term_record l k).child1.0

  opening : Doing l R₀ k w f.start R s (program l R.props k w (Γ₀ l R₀ f) left.CaseLeft (reads l R.props t)) (kids l (after (term_record l k) left.CaseLeft)) a.used a.own a.wide
  opening = doing_same (ap (program l R.props k w (Γ₀ l R₀ f) left.CaseLeft) (sym a.stands.means)) a.doing

  pub case_other : Unsplit or R.props t → (r : TermRecord) → r ≡ term_record l k → (n : ℕ) → n ≡ number_of f.want 12 22 → (e : Refusal) → e ≡ record { number = n; place = r.child1.0 } → Refuses (run_of l R₀ k w f.start) e
  unfolding obey
  case_other bare r er n en e ee =
      let place : r.child1.0 ≡ c₁ = ap (λ (r : TermRecord). r.child1.0) er in
      says (of w 12 22) c₁ (ee ∙ (λ i. record { number = (en ∙ sym (of_number l R₀.props f.want 12 22)) i; place = place i })) (doing_stop (refusal (of w 12 22) c₁) (doing_same (bare (props l) two _ _) opening) refl)

  pub left_asks : (o : Parts) → Split or R.props count t o.left.0 o.right.0 → (r : TermRecord) → r ≡ term_record l k → {work' : List ℕ} {s₁ : State}
      → (s₁ ≡ deeper (numbered s)) × Inserted R.work s.context (record { name = r.name1; serial = record { 0 = s.serials }; typ = sort.Proposition o.left }) work'
      → Asked l R₀ f (rooms R.tree R.goals R.props work') (left.CaseRight (record { 0 = s.serials }) o.right) (term_record l k).child2.0 f.want s₁
  left_asks o split r er {work'} {s₁} en =
      let en' = subst (λ (r : TermRecord). (s₁ ≡ deeper (numbered s)) × Inserted R.work s.context (record { name = r.name1; serial = record { 0 = s.serials }; typ = sort.Proposition o.left }) work') er en in
      let d = doing_same (split.goes (props l) two _ _) opening in
      asks_fresh a.begun a.wants d {A = reads l R.props (sort.Proposition o.left)} (record { among = omega (arith, split.first, ec); means = refl }) en'
      (ap (λ (v : Mode). ask v (entry (term_record l k).name1.0 s.serials (reads l R.props (sort.Proposition o.left)) ∷ Γ₀ l R₀ f) λ S. arming l k w (Γ₀ l R₀ f) s.serials (room_at (props l) R.props o.right.0) S) (mode_kept f.want a.begun a.wants d))
      (omega (arith, a.holds.1)) a.fits (omega (arith, split.second, ec), omega (arith, a.holds.0), omega (arith, a.holds.1)) a.others (wants_kept f.want a.begun a.wants d)

-- THE RIGHT ARM
module _ {l : List ℕ} {R₀ : Rooms} {f : Rule} {R : Rooms} {t : Sort} {s : State} {i : Serial} {b : Proposition} (a : Resumed l R₀ f R (left.CaseRight i b) t s) where
  pub right_asks : (r : TermRecord) → r ≡ term_record l f.term.0 → {work' : List ℕ} {s₁ : State}
      → (s₁ ≡ deeper (numbered s)) × Inserted R.work s.context (record { name = r.name2; serial = record { 0 = s.serials }; typ = sort.Proposition b }) work'
      → Asked l R₀ f (rooms R.tree R.goals R.props work') (left.CaseEnd i (record { 0 = s.serials }) t) (term_record l f.term.0).child3.0 f.want s₁
  right_asks r er {work'} {s₁} en =
      let en' = subst (λ (r : TermRecord). (s₁ ≡ deeper (numbered s)) × Inserted R.work s.context (record { name = r.name2; serial = record { 0 = s.serials }; typ = sort.Proposition b }) work') er en in
      let w = mode l R₀.props f.want in
      asks_fresh a.begun a.wants a.doing {A = reads l R.props (sort.Proposition b)} (record { among = a.holds.0; means = refl }) en'
      (λ z. ask (mode_kept f.want a.begun a.wants a.doing z) (entry (term_record l f.term.0).name2.0 s.serials (reads l R.props (sort.Proposition b)) ∷ Γ₀ l R₀ f) λ T. judging f.term.0 w i.0 s.serials (sym a.stands.means z) T)
      a.holds.2 a.fits (a.stands.among, omega (arith, a.holds.1)) a.others (wants_kept f.want a.begun a.wants a.doing)

-- THE END
pub arms_alike : (l ps : List ℕ) (t u : Sort) (c : Compared) → ((tables : ℕ) → c ≡ compared_types (type_at tables ps t) (type_at tables ps u)) → (x : Bool) → x ≡ is_alpha c → (w : Want) → w ≡ want.Synth → ArmsAs l ps w t u x
arms_alike l ps t u c h x e w ew = subst⁻¹ (λ (w : Want). ArmsAs l ps w t u x) ew (e ∙ alpha_types c (reads l ps t) (reads l ps u) (h (props l)))

pub arms_wanted : (l ps : List ℕ) (t u E : Sort) (w : Want) → w ≡ want.Check E → ArmsAs l ps w t u true
arms_wanted l ps t u E w ew = subst⁻¹ (λ (w : Want). ArmsAs l ps w t u true) ew refl

true_of : (x : Bool) → not x ≡ false → x ≡ true
true_of true e = refl
true_of false e = sym e

false_of : (x : Bool) → not x ≡ true → x ≡ false
false_of true e = sym e
false_of false e = refl

module _ {l : List ℕ} {R₀ : Rooms} {f : Rule} {R : Rooms} {t u : Sort} {s : State} {i j : Serial} (a : Resumed l R₀ f R (left.CaseEnd i j t) u s) (x : Bool) (al : ArmsAs l R.props f.want t u x) where
  abbrev k₂ : ℕ
  k₂ = f.term.0

  abbrev v : Mode
  v = mode l R₀.props f.want

  abbrev S : Ty
  S = reads l R.props t

  abbrev deciding : ℕ → Ty → Bool → Prog done
  deciding n A y = cond y (on_prop A (λ P. conclude a.typ (record { rule = 9; term = k₂; concludes = S; serials = i.0 ∷ j.0 ∷ [] } ∷ [])) (refuse n k₂)) (refuse 26 k₂)

  agrees : (w : Want) → ArmsAs l R.props w t u x → arms_agree (mode l R₀.props w) S a.typ ≡ x
  unfolding arms_agree
  agrees want.Synth e = ap (alpha S) (sym a.stands.means) ∙ sym e
  agrees (want.Check E) e = sym e

  decided : (y : Bool) → x ≡ y → Doing l R₀ k₂ v f.start R s (deciding (number_of f.want 13 24) S y) tt a.used a.own a.wide
  decided y e = doing_same (λ z. deciding (of_number l R₀.props f.want 13 24 z) S ((agrees f.want al ∙ e) z)) a.doing

  pub case_apart : not x ≡ true → (r : Refusal) → r ≡ record { number = 26; place = k₂ } → Refuses (run_of l R₀ k₂ v f.start) r
  unfolding obey
  case_apart h r er = says 26 k₂ er (doing_stop (refusal 26 k₂) (decided false (false_of x h)) refl)

  module _ (h : not x ≡ false) where
    typed : (T : Sort) → t ≡ T → Doing l R₀ k₂ v f.start R s (deciding (number_of f.want 13 24) (reads l R.props T) true) tt a.used a.own a.wide
    typed T e = doing_same (ap (λ (T : Sort). deciding (number_of f.want 13 24) (reads l R.props T) true) e) (decided true (true_of x h))

    pub case_data : (D : Name) → t ≡ sort.Datatype D → (n : ℕ) → n ≡ number_of f.want 13 24 → (r : Refusal) → r ≡ record { number = n; place = k₂ } → Refuses (run_of l R₀ k₂ v f.start) r
    unfolding obey on_prop
    case_data D e n en r er = says (number_of f.want 13 24) k₂ (mode_refusal r n _ k₂ en er) (doing_stop (refusal (number_of f.want 13 24) k₂) (typed (sort.Datatype D) e) refl)

    pub case_done : (p : Proposition) → t ≡ sort.Proposition p → (nd : Record) → nd ≡ node_rec 9 k₂ t i.0 j.0 3 → (tr : List ℕ) → Put R.tree f.start.records nd tr → (found : Sort) → found ≡ answer_of f.want u
        → RanAs l R₀ (rooms tr R.goals R.props R.work) k₂ f.want f.start (Ok (record { typ = found; state = s }))
    unfolding on_prop
    case_done p e nd en tr put found ef =
        concludes f t found (typed (sort.Proposition p) e) (record { among = a.holds.0; means = refl }) (subst⁻¹ (λ (U : Sort). Stands l R.props (count_of l s) U (answered v a.typ)) ef (answer_stands a))
        (en ∙ ap (node_rec 9 k₂ t i.0 j.0) (sym a.holds.1)) put
