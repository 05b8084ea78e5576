-- How each kind of term begins: its rule's program over its children's runs, where its children stand, how many nodes it has. Assumes nothing.
use mathlib.Core.Path.{◌≡◌, refl, ap, subst⁻¹, ◌∙◌}
use mathlib.Core.List.{List, [], ◌∷◌}
use Prim.Native.Nat.{ℕ, ◌+◌, ◌<◌}
use Rattle.layout.specs.declared.record.TermRecord.{TermRecord}
use Rattle.layout.specs.File.{terms, term_record, Kind, Ident, Pair, ProjectFst, ProjectSnd, Function, Application, LetIn, OrLeft, OrRight, Case, Abort, TheUnit, TypeAscription, Sorry, kinds, kind_of}
use Rattle.layout.specs.Form.{term_shape}
use Rattle.rules.specs.Context.{Ctx}
use Rattle.rules.specs.Term.{Leaf, Single, Double, Triple, Term, leaf, single, double, triple, sorry, nodes, place}
use Rattle.rules.specs.Tree.{end}
use Rattle.rules.specs.Step.{Want, obey}
use Rattle.rules.specs.Rules.{run, leaf_step, single_step, double_step, triple_step}
use Rattle.table.specs.Links.{hits, term_children}
use Rattle.table.specs.Reading.{annotated, ascribed, term_of, term_at}
use Rattle.table.proofs.Sums.{hit_here, hit_later}
use Rattle.table.proofs.Links.{term_child}
use Rattle.table.proofs.Reading.{term_step, place_at}
use Rattle.step.specs.declared.state.State.{State}
use Rattle.step.specs.Rooms.{Rooms, ctx_of, st_of, Table}
use Rattle.step.specs.Contract.{run_of}
use Rattle.step.specs.Under.{rest, kid_at}
use Rattle.step.proofs.Programs.{rest_start}

-- HOW A TERM BEGINS, from its shape: the rule's program, over its children
module _ (l : List ℕ) (k : ℕ) (R : Rooms) (w : Want) (st : State) where
  abbrev Γ : Ctx
  Γ = ctx_of l R.props R.work st.context

  pub leaf_begins : (s : Leaf) → term_at l k ≡ leaf k s → run_of l R k w st ≡ rest w end (obey (leaf_step k s w Γ) tt (st_of st))
  unfolding run
  leaf_begins s e = ap (λ (u : Term). run u w Γ (st_of st)) e ∙ rest_start (leaf_step k s) tt w Γ (st_of st)

  pub single_begins : (s : Single) (m : ℕ) → term_at l k ≡ single k s (term_at l m) → run_of l R k w st ≡ rest w end (obey (single_step k s m w Γ) (kid_at l m, tt) (st_of st))
  unfolding run
  single_begins s m e =
      ap (λ (u : Term). run u w Γ (st_of st)) e
      ∙ rest_start (single_step k s (place (term_at l m))) (kid_at l m, tt) w Γ (st_of st)
      ∙ ap (λ (p : ℕ). rest w end (obey (single_step k s p w Γ) (kid_at l m, tt) (st_of st))) (place_at l m)

  pub double_begins : (s : Double) (m n : ℕ) → term_at l k ≡ double k s (term_at l m) (term_at l n) → run_of l R k w st ≡ rest w end (obey (double_step k s m n w Γ) (kid_at l m, (kid_at l n, tt)) (st_of st))
  unfolding run
  double_begins s m n e =
      ap (λ (u : Term). run u w Γ (st_of st)) e
      ∙ rest_start (double_step k s (place (term_at l m)) (place (term_at l n))) (kid_at l m, (kid_at l n, tt)) w Γ (st_of st)
      ∙ (λ i. rest w end (obey (double_step k s (place_at l m i) (place_at l n i) w Γ) (kid_at l m, (kid_at l n, tt)) (st_of st)))

  pub triple_begins : (s : Triple) (m n o : ℕ) → term_at l k ≡ triple k s (term_at l m) (term_at l n) (term_at l o)
      → run_of l R k w st ≡ rest w end (obey (triple_step k s m w Γ) (kid_at l m, (kid_at l n, (kid_at l o, tt))) (st_of st))
  unfolding run
  triple_begins s m n o e =
      ap (λ (u : Term). run u w Γ (st_of st)) e
      ∙ rest_start (triple_step k s (place (term_at l m))) (kid_at l m, (kid_at l n, (kid_at l o, tt))) w Γ (st_of st)
      ∙ ap (λ (p : ℕ). rest w end (obey (triple_step k s p w Γ) (kid_at l m, (kid_at l n, (kid_at l o, tt))) (st_of st))) (place_at l m)

-- its nodes
pub single_nodes : {t a : Term} {k : ℕ} {s : Single} → t ≡ single k s a → nodes t ≡ 1 + nodes a
unfolding nodes
single_nodes e = ap nodes e

pub double_nodes : {t a b : Term} {k : ℕ} {s : Double} → t ≡ double k s a b → nodes t ≡ 1 + (nodes a + nodes b)
unfolding nodes
double_nodes e = ap nodes e

pub triple_nodes : {t a b c : Term} {k : ℕ} {s : Triple} → t ≡ triple k s a b c → nodes t ≡ 1 + (nodes a + (nodes b + nodes c))
unfolding nodes
triple_nodes e = ap nodes e

-- KINDS by their numbers: what the term is, and where its children stand
module _ {l : List ℕ} (table : Table l) {k : ℕ} (h : k < terms l) where
  abbrev rec : TermRecord
  rec = term_record l k

  abbrev c₁ : ℕ
  c₁ = rec.child1.0

  abbrev c₂ : ℕ
  c₂ = rec.child2.0

  abbrev c₃ : ℕ
  c₃ = rec.child3.0

  term_as : (K : Kind) → kind_of rec.kind ≡ K → term_at l k ≡ term_of k (annotated l k) (term_at l) K rec
  term_as K e = term_step table.directed k h ∙ ap (λ (K : Kind). term_of k (annotated l k) (term_at l) K rec) e

  child_as : (K : Kind) → kind_of rec.kind ≡ K → (m : ℕ) → 0 < hits m (term_children (term_shape K).children rec) → (k < m) × (m < terms l)
  child_as K e m x = term_child table.directed k m h (subst⁻¹ (λ (K : Kind). 0 < hits m (term_children (term_shape K).children rec)) e x)

  module _ (K : Kind) (e : kind_of rec.kind ≡ K) where
    only : (term_shape K).children ≡ 1 → (k < c₁) × (c₁ < terms l)
    unfolding term_children
    only n = child_as K e c₁ (subst⁻¹ (λ (j : ℕ). 0 < hits c₁ (term_children j rec)) n (hit_here c₁ []))

    first_of_two : (term_shape K).children ≡ 2 → (k < c₁) × (c₁ < terms l)
    unfolding term_children
    first_of_two n = child_as K e c₁ (subst⁻¹ (λ (j : ℕ). 0 < hits c₁ (term_children j rec)) n (hit_here c₁ (c₂ ∷ [])))

    second_of_two : (term_shape K).children ≡ 2 → (k < c₂) × (c₂ < terms l)
    unfolding term_children
    second_of_two n = child_as K e c₂ (subst⁻¹ (λ (j : ℕ). 0 < hits c₂ (term_children j rec)) n (hit_later c₂ c₁ (c₂ ∷ []) (hit_here c₂ [])))

  module _ (e : rec.kind ≡ 0) where
    kind_ident : kind_of rec.kind ≡ Ident
    unfolding kind_of kinds
    kind_ident = ap kind_of e

    pub is_ident : term_at l k ≡ leaf k (Leaf.ident rec.name1.0)
    unfolding term_of
    is_ident = term_as Ident kind_ident

  module _ (e : rec.kind ≡ 1) where
    kind_pair : kind_of rec.kind ≡ Pair
    unfolding kind_of kinds
    kind_pair = ap kind_of e

    pub is_pair : term_at l k ≡ double k Double.pair (term_at l c₁) (term_at l c₂)
    unfolding term_of
    is_pair = term_as Pair kind_pair

    pub pair_first : (k < c₁) × (c₁ < terms l)
    unfolding term_shape
    pair_first = first_of_two Pair kind_pair refl

    pub pair_second : (k < c₂) × (c₂ < terms l)
    unfolding term_shape
    pair_second = second_of_two Pair kind_pair refl

  module _ (e : rec.kind ≡ 2) where
    kind_fst : kind_of rec.kind ≡ ProjectFst
    unfolding kind_of kinds
    kind_fst = ap kind_of e

    pub is_fst : term_at l k ≡ single k Single.fst (term_at l c₁)
    unfolding term_of
    is_fst = term_as ProjectFst kind_fst

    pub fst_child : (k < c₁) × (c₁ < terms l)
    unfolding term_shape
    fst_child = only ProjectFst kind_fst refl

  module _ (e : rec.kind ≡ 3) where
    kind_snd : kind_of rec.kind ≡ ProjectSnd
    unfolding kind_of kinds
    kind_snd = ap kind_of e

    pub is_snd : term_at l k ≡ single k Single.snd (term_at l c₁)
    unfolding term_of
    is_snd = term_as ProjectSnd kind_snd

    pub snd_child : (k < c₁) × (c₁ < terms l)
    unfolding term_shape
    snd_child = only ProjectSnd kind_snd refl

  module _ (e : rec.kind ≡ 4) where
    kind_fun : kind_of rec.kind ≡ Function
    unfolding kind_of kinds
    kind_fun = ap kind_of e

    pub is_fun : term_at l k ≡ single k (Single.fun rec.name1.0 (annotated l k)) (term_at l c₁)
    unfolding term_of
    is_fun = term_as Function kind_fun

    pub fun_child : (k < c₁) × (c₁ < terms l)
    unfolding term_shape
    fun_child = only Function kind_fun refl

  module _ (e : rec.kind ≡ 5) where
    kind_app : kind_of rec.kind ≡ Application
    unfolding kind_of kinds
    kind_app = ap kind_of e

    pub is_app : term_at l k ≡ double k Double.app (term_at l c₁) (term_at l c₂)
    unfolding term_of
    is_app = term_as Application kind_app

    pub app_first : (k < c₁) × (c₁ < terms l)
    unfolding term_shape
    app_first = first_of_two Application kind_app refl

    pub app_second : (k < c₂) × (c₂ < terms l)
    unfolding term_shape
    app_second = second_of_two Application kind_app refl

  module _ (e : rec.kind ≡ 6) where
    kind_let : kind_of rec.kind ≡ LetIn
    unfolding kind_of kinds
    kind_let = ap kind_of e

    pub is_let : term_at l k ≡ double k (Double.let_in rec.name1.0 rec.name2.0) (term_at l c₁) (term_at l c₂)
    unfolding term_of
    is_let = term_as LetIn kind_let

    pub let_first : (k < c₁) × (c₁ < terms l)
    unfolding term_shape
    let_first = first_of_two LetIn kind_let refl

    pub let_second : (k < c₂) × (c₂ < terms l)
    unfolding term_shape
    let_second = second_of_two LetIn kind_let refl

  module _ (e : rec.kind ≡ 7) where
    kind_left : kind_of rec.kind ≡ OrLeft
    unfolding kind_of kinds
    kind_left = ap kind_of e

    pub is_left : term_at l k ≡ single k Single.left (term_at l c₁)
    unfolding term_of
    is_left = term_as OrLeft kind_left

    pub left_child : (k < c₁) × (c₁ < terms l)
    unfolding term_shape
    left_child = only OrLeft kind_left refl

  module _ (e : rec.kind ≡ 8) where
    kind_right : kind_of rec.kind ≡ OrRight
    unfolding kind_of kinds
    kind_right = ap kind_of e

    pub is_right : term_at l k ≡ single k Single.right (term_at l c₁)
    unfolding term_of
    is_right = term_as OrRight kind_right

    pub right_child : (k < c₁) × (c₁ < terms l)
    unfolding term_shape
    right_child = only OrRight kind_right refl

  module _ (e : rec.kind ≡ 9) where
    kind_case : kind_of rec.kind ≡ Case
    unfolding kind_of kinds
    kind_case = ap kind_of e

    pub is_case : term_at l k ≡ triple k (Triple.case rec.name1.0 rec.name2.0) (term_at l c₁) (term_at l c₂) (term_at l c₃)
    unfolding term_of
    is_case = term_as Case kind_case

    pub case_head : (k < c₁) × (c₁ < terms l)
    unfolding term_shape term_children
    case_head = child_as Case kind_case c₁ (hit_here c₁ (c₂ ∷ c₃ ∷ []))

    pub case_left : (k < c₂) × (c₂ < terms l)
    unfolding term_shape term_children
    case_left = child_as Case kind_case c₂ (hit_later c₂ c₁ (c₂ ∷ c₃ ∷ []) (hit_here c₂ (c₃ ∷ [])))

    pub case_right : (k < c₃) × (c₃ < terms l)
    unfolding term_shape term_children
    case_right = child_as Case kind_case c₃ (hit_later c₃ c₁ (c₂ ∷ c₃ ∷ []) (hit_later c₃ c₂ (c₃ ∷ []) (hit_here c₃ [])))

  module _ (e : rec.kind ≡ 10) where
    kind_abort : kind_of rec.kind ≡ Abort
    unfolding kind_of kinds
    kind_abort = ap kind_of e

    pub is_abort : term_at l k ≡ single k Single.abort (term_at l c₁)
    unfolding term_of
    is_abort = term_as Abort kind_abort

    pub abort_child : (k < c₁) × (c₁ < terms l)
    unfolding term_shape
    abort_child = only Abort kind_abort refl

  module _ (e : rec.kind ≡ 11) where
    kind_unit : kind_of rec.kind ≡ TheUnit
    unfolding kind_of kinds
    kind_unit = ap kind_of e

    pub is_unit : term_at l k ≡ leaf k Leaf.unit
    unfolding term_of
    is_unit = term_as TheUnit kind_unit

  module _ (e : rec.kind ≡ 12) where
    kind_as : kind_of rec.kind ≡ TypeAscription
    unfolding kind_of kinds
    kind_as = ap kind_of e

    pub is_as : term_at l k ≡ ascribed k (annotated l k) (term_at l c₁)
    unfolding term_of
    is_as = term_as TypeAscription kind_as

    pub as_child : (k < c₁) × (c₁ < terms l)
    unfolding term_shape
    as_child = only TypeAscription kind_as refl

  module _ (e : rec.kind ≡ 13) where
    kind_sorry : kind_of rec.kind ≡ Sorry
    unfolding kind_of kinds
    kind_sorry = ap kind_of e

    pub is_sorry : term_at l k ≡ sorry k
    unfolding term_of
    is_sorry = term_as Sorry kind_sorry
