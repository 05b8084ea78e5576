-- Parts of the rules that do not recurse: what the functions for them promise. Each says how a rule's program goes on, or where it stops, for
-- whatever comes after that part. Assumes nothing.
use Rattle.std.specs.Prelude.{◌≡◌, List, [], ◌∷◌, ℕ, zero, suc, ◌+◌, ◌≤◌, length, Option as Optional, Some, None, Result, Ok, Err}
use Rattle.std.proofs.Math.Option.{Option, none, some}
use Rattle.numbers.specs.declared.Serial.{Serial}
use Rattle.numbers.specs.declared.Sort.{Sort}
use Rattle.numbers.specs.declared.Sort.TheVariants as sort
use Rattle.numbers.specs.declared.refusal.Refusal.{Refusal}
use Rattle.numbers.specs.Records.{Same}
use Rattle.layout.specs.File.{props}
use Rattle.rules.specs.Prop.{Prop, Ty, prop}
use Rattle.rules.specs.Context.{entry}
use Rattle.rules.specs.State.{limit}
use Rattle.rules.specs.Step.{Arity, more, Prog, Kids, obey, resolved, objected}
use Rattle.rules.specs.Rules.{by, annotated, abstracted, opening, let_opening, closing}
use Rattle.rules.specs.Term.{ident_name}
use Rattle.table.specs.Reading.{term_at}
use Rattle.prop.specs.Room.{room_at, TypeIn, Arena}
use Rattle.context.specs.Context.{SameEntries}
use Rattle.step.specs.declared.state.State.{State}
use Rattle.step.specs.declared.state.Want.{Want}
use Rattle.step.specs.declared.typing.Resolution.{Resolution}
use Rattle.step.specs.declared.open.Opening.{Opening}
use Rattle.step.specs.declared.open.Abstraction.{Abstraction}
use Rattle.step.specs.Rooms.{st_of, count_of, making, reads, ctx_of, Stands, Entries}
use Rattle.step.specs.Modes.{number_of}
use Rattle.step.specs.Trees.{rule_number}
use Rattle.step.specs.Picture.{SamePicture}
use Rattle.step.specs.Contract.{Refuses}

-- A PROGRAM goes on as another, or stops
abbrev pub Goes : {n : Arity} → Prog n → State → Prog n → State → Type 0
Goes {n} q st q' st' = (ks : Kids n) → obey q ks (st_of st) ≡ obey q' ks (st_of st')

abbrev pub Stops : {n : Arity} → Prog n → State → Refusal → Type 0
Stops {n} q st r = (ks : Kids n) → Refuses (obey q ks (st_of st)) r

-- the same of a program whose next child may be an Ident
abbrev pub GoesAt : {n : Arity} → Option ℕ → Prog (more n) → State → Prog (more n) → State → Type 0
GoesAt {n} x q st q' st' = (ks : Kids (more n)) → ks.0.ident ≡ x → obey q ks (st_of st) ≡ obey q' ks (st_of st')

abbrev pub StopsAt : {n : Arity} → Option ℕ → Prog (more n) → State → Refusal → Type 0
StopsAt {n} x q st r = (ks : Kids (more n)) → ks.0.ident ≡ x → Refuses (obey q ks (st_of st)) r

-- PROPOSITIONS were made, and nothing else happened
pub record Making (l ps ps' : List ℕ) (st st' : State) : Type 0 where
  pub spent : ℕ
  pub state : st' ≡ making spent st
  pub within : st'.made ≤ limit
  pub arena : Arena ps' (count_of l st')
  pub same : Same (count_of l st) ps ps'
  pub long : length ps' ≡ length ps

-- THE ANNOTATION of a term's record: tag 0 none, 1 a proposition, 2 a datatype
abbrev pub annotation_of : (tag number : ℕ) → Optional Sort
annotation_of zero m = None
annotation_of (suc zero) m = Some (sort.Proposition (record { 0 = m }))
annotation_of (suc (suc t)) m = Some (sort.Datatype (record { 0 = m }))

-- its type is among the first c propositions
abbrev pub AnnotationIn : ℕ → Optional Sort → Type 0
AnnotationIn c (Some T) = TypeIn c T
AnnotationIn c None = Unit {0}

-- RESOLVING the annotation T of term p
pub record ResolvedTo (l ps work ps' : List ℕ) (p : ℕ) (w : Want) (T : Sort) (st : State) (U : Sort) (st' : State) : Type 0 where
  pub typ : Ty
  pub stands : Stands l ps' (count_of l st') U typ
  pub making : Making l ps ps' st st'
  pub goes : (a : Arity) (k : Ty → Prog a)
      → Goes (resolved (number_of w 10 20) p (ctx_of l ps work st.context) (reads l ps T) k) st (k typ) st'

abbrev pub ResolvingAs : (l ps work ps' : List ℕ) → ℕ → Want → Sort → State → Result Resolution Refusal → Type 0
ResolvingAs l ps work ps' p w T st (Ok r) = ResolvedTo l ps work ps' p w T st r.typ r.state
ResolvingAs l ps work ps' p w T st (Err r) =
    (a : Arity) (k : Ty → Prog a) → Stops (resolved (number_of w 10 20) p (ctx_of l ps work st.context) (reads l ps T) k) st r

-- what an annotation says to the rules
abbrev pub saying : (l ps : List ℕ) → Optional Sort → Option Ty
saying l ps (Some T) = some (reads l ps T)
saying l ps None = none

-- THE ANNOTATION of the function p against the type A of its parameter
pub record AgreedOn (l ps work ps' : List ℕ) (p : ℕ) (ann : Optional Sort) (A : Sort) (st st' : State) : Type 0 where
  pub making : Making l ps ps' st st'
  pub goes : (a : Arity) (k : Prog a) → Goes (annotated p (ctx_of l ps work st.context) (saying l ps ann) (reads l ps A) k) st k st'

abbrev pub AgreedAs : (l ps work ps' : List ℕ) → ℕ → Optional Sort → Sort → State → Result State Refusal → Type 0
AgreedAs l ps work ps' p ann A st (Ok st') = AgreedOn l ps work ps' p ann A st st'
AgreedAs l ps work ps' p ann A st (Err r) =
    (a : Arity) (k : Prog a) → Stops (annotated p (ctx_of l ps work st.context) (saying l ps ann) (reads l ps A) k) st r

-- THE FUNCTION p OPENED, after its serial i was made: k goes on from the rule's number, the parameter's type and the body's proposition
pub record OpenedTo (l ps ps' : List ℕ) (p : ℕ) (E : Sort) (i : ℕ) (st : State) (rule : ℕ) (A : Sort) (b : ℕ) (st' : State) : Type 0 where
  pub parameter : Ty
  pub body : Prop
  pub parameter_stands : Stands l ps' (count_of l st') A parameter
  pub body_stands : Stands l ps' (count_of l st') (sort.Proposition (record { 0 = b })) (prop body)
  pub making : Making l ps ps' st st'
  pub goes : (a : Arity) (k : ℕ → Ty → Prop → Prog a) → Goes (opening p i (reads l ps E) k) st (k rule parameter body) st'

abbrev pub OpenedAs : (l ps ps' : List ℕ) → ℕ → Sort → ℕ → State → Result Opening Refusal → Type 0
OpenedAs l ps ps' p E i st (Ok o) = OpenedTo l ps ps' p E i st (rule_number o.rule) o.parameter o.body.0 o.state
OpenedAs l ps ps' p E i st (Err r) = (a : Arity) (k : ℕ → Ty → Prop → Prog a) → Stops (opening p i (reads l ps E) k) st r

-- AN OBJECT, the term t: k goes on from its serial
abbrev pub objects : (l ps work : List ℕ) → Want → (t : ℕ) → State → {a : Arity} → (ℕ → Prog (more a)) → Prog (more a)
objects l ps work w t st k = objected (number_of w 13 24) (number_of w 10 20) t (ctx_of l ps work st.context) k

abbrev pub ObjectAs : (l ps work : List ℕ) → Want → (t : ℕ) → State → Result Serial Refusal → Type 0
ObjectAs l ps work w t st (Ok s) =
    (a : Arity) (k : ℕ → Prog (more a)) → GoesAt (ident_name (term_at l t)) (objects l ps work w t st k) st (k s.0) st
ObjectAs l ps work w t st (Err r) =
    (a : Arity) (k : ℕ → Prog (more a)) → StopsAt (ident_name (term_at l t)) (objects l ps work w t st k) st r

-- A LET OPENED at a head of type H: k goes on from the two serials, the datatype and the Exists' body with the first serial put in
pub record LetEntered (l ps work ps' work' : List ℕ) (x y : ℕ) (w : Want) (H : Sort) (p head : ℕ) (st st' : State) : Type 0 where
  pub datatype : ℕ
  pub body : Prop
  pub spent : ℕ
  pub state : st' ≡
      record { records = st.records; goals = st.goals; serials = st.serials + 2; made = st.made + spent; context = st.context + 2; asked = st.asked }
  pub within : st'.made ≤ limit
  pub arena : Arena ps' (count_of l st')
  pub same : Same (count_of l st) ps ps'
  pub long : length ps' ≡ length ps
  pub kept : SameEntries st.context work work'
  pub picture : SamePicture work work'
  pub work_long : length work' ≡ length work
  pub entries : Entries work st.context (count_of l st) → Entries work' st'.context (count_of l st')
  pub context : ctx_of l ps' work' st'.context
      ≡ entry y (st.serials + 1) (prop body) ∷ entry x st.serials (Ty.datatype datatype) ∷ ctx_of l ps' work st.context
  pub goes : (a : Arity) (k : ℕ → ℕ → ℕ → Prop → Prog a)
      → Goes (let_opening (number_of w 12 22) p head (reads l ps H) k) st (k st.serials (st.serials + 1) datatype body) st'

abbrev pub EnteredAs : (l ps work ps' work' : List ℕ) → (x y : ℕ) → Want → Sort → (p head : ℕ) → State → Result State Refusal → Type 0
EnteredAs l ps work ps' work' x y w H p head st (Ok st') = LetEntered l ps work ps' work' x y w H p head st st'
EnteredAs l ps work ps' work' x y w H p head st (Err r) =
    (a : Arity) (k : ℕ → ℕ → ℕ → Prop → Prog a) → Stops (let_opening (number_of w 12 22) p head (reads l ps H) k) st r

-- A LET CLOSED, whose body is p: the witness i does not stay in the type
abbrev pub closes : (l ps : List ℕ) → Want → (p i : ℕ) → Sort → {a : Arity} → Prog a → Prog a
closes l ps w p i T k = closing (number_of w 13 24) (number_of w 16 27) p i (reads l ps T) k

abbrev pub ClosedAs : (l ps : List ℕ) → Want → (p i : ℕ) → Sort → State → Result (Unit {0}) Refusal → Type 0
ClosedAs l ps w p i T st (Ok u) = (a : Arity) (k : Prog a) → Goes (closes l ps w p i T k) st k st
ClosedAs l ps w p i T st (Err r) = (a : Arity) (k : Prog a) → Stops (closes l ps w p i T k) st r

-- THE CONCLUSION of the function p, from the type of its parameter x, whose serial is i, and the proposition of its body
pub record AbstractedTo (l ps ps' : List ℕ) (p x i : ℕ) (A : Sort) (b : ℕ) (st : State) (rule m : ℕ) (st' : State) : Type 0 where
  pub whole : Prop
  pub stands : Stands l ps' (count_of l st') (sort.Proposition (record { 0 = m })) (prop whole)
  pub making : Making l ps ps' st st'
  pub goes : Goes (abstracted p x i (reads l ps A) (room_at (props l) ps b)) st (by rule p (prop whole) (i ∷ [])) st'

abbrev pub AbstractedAs : (l ps ps' : List ℕ) → (p x i : ℕ) → Sort → ℕ → State → Result Abstraction Refusal → Type 0
AbstractedAs l ps ps' p x i A b st (Ok a) = AbstractedTo l ps ps' p x i A b st (rule_number a.rule) a.whole.0 a.state
AbstractedAs l ps ps' p x i A b st (Err r) = Stops (abstracted p x i (reads l ps A) (room_at (props l) ps b)) st r
