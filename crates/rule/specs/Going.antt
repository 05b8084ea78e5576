-- What the pieces of a rule ask and promise: a rule that asks for a child, a rule whose child has answered, and what comes of it. Assumes nothing.
use Rattle.std.specs.Prelude.{◌≡◌, Bool, true, false, cond, List, ℕ, ◌+◌, ◌*◌, ◌<◌, ◌≤◌, length, Result, Ok, Err}
use Rattle.numbers.specs.declared.refusal.Refusal.{Refusal}
use Rattle.numbers.specs.declared.Sort.{Sort}
use Rattle.numbers.specs.Limits.{largest}
use Rattle.layout.specs.File.{term_record, terms}
use Rattle.rules.specs.Prop.{Ty, alpha}
use Rattle.rules.specs.Context.{Ctx}
use Rattle.rules.specs.State.{limit}
use Rattle.rules.specs.Term.{nodes}
use Rattle.rules.specs.Step.{ask}
use Rattle.table.specs.Reading.{term_at}
use Rattle.prop.specs.Room.{TypeIn}
use Rattle.context.specs.Context.{most_entries, context_room}
use Rattle.step.specs.declared.state.State.{State}
use Rattle.step.specs.declared.state.Want.{Want}
use Rattle.step.specs.declared.state.Want.TheVariants as want
use Rattle.step.specs.declared.state.Answer.{Answer}
use Rattle.step.specs.Rooms.{Rooms, rooms, reads, ctx_of, count_of, leaving, Stands, Table, Loaded, most_serials}
use Rattle.step.specs.Modes.{mode, WantIn}
use Rattle.step.specs.declared.inference.Inference.{Inference}
use Rattle.step.specs.Trees.{rule_number}
use Rattle.step.specs.Contract.{Ready, RanAs, synthesizes}
use Rattle.step.specs.Under.{Doing, kid_at}
use Rattle.rule.specs.declared.next.Rest.{Rest}
use Rattle.rule.specs.declared.next.Rest.TheVariants as rest
use Rattle.rule.specs.declared.next.Rule.{Rule}
use Rattle.rule.specs.declared.next.Next.{Next}
use Rattle.rule.specs.declared.next.Next.TheVariants as next
use Rattle.rule.specs.Reading.{after, kids, weight, Inside, program}

-- WHAT A REST HOLDS: its numbers are among the first c propositions; so many serials are the rule's own, so many premises have answered; and rests of
-- rules that are only synthesized
abbrev pub Holds : (c own wide : ℕ) → Want → Rest → Type 0
Holds c own wide w (rest.By n m) = wide ≡ m
Holds c own wide w (rest.Right n b) = (b.0 < c) × (wide ≡ 1) × (own ≤ 2)
Holds c own wide w rest.Second = (w ≡ want.Synth) × (wide ≡ 1) × (own ≤ 2)
Holds c own wide w (rest.Both S) = TypeIn c S × (wide ≡ 2) × (w ≡ want.Synth)
Holds c own wide w rest.Part = (w ≡ want.Synth) × (wide ≡ 1)
Holds c own wide w (rest.Closes n i) = wide ≡ 1
Holds c own wide w (rest.Abstracts i S) = TypeIn c S × (wide ≡ 1) × (w ≡ want.Synth)
Holds c own wide w rest.Argument = (w ≡ want.Synth) × (wide ≡ 1) × (own ≤ 2)
Holds c own wide w (rest.Concludes b) = (b.0 < c) × (wide ≡ 2) × (w ≡ want.Synth)
Holds c own wide w (rest.Instance i b) = (b.0 < c) × (wide ≡ 2) × (w ≡ want.Synth)
Holds c own wide w rest.LetBody = (wide ≡ 1) × (own ≡ 0)
Holds c own wide w (rest.LetEnd i j) = wide ≡ 2
Holds c own wide w rest.CaseLeft = (wide ≡ 1) × (own ≡ 0)
Holds c own wide w (rest.CaseRight i b) = (b.0 < c) × (wide ≡ 2) × (own ≤ 1)
Holds c own wide w (rest.CaseEnd i j S) = TypeIn c S × (wide ≡ 3)
Holds c own wide w rest.Aborts = wide ≡ 1

-- WHICH RULE A REST NAMES: its type lets it hold any number; this says that where it holds one, it is the number of one of the seventeen rules
abbrev pub OfRule : ℕ → Type 0
OfRule n = (i : Inference) × (n ≡ rule_number i)

abbrev pub Names : Rest → Type 0
Names (rest.By n m) = OfRule n
Names (rest.Right n b) = OfRule n
Names rest.Second = Unit {0}
Names (rest.Both S) = Unit {0}
Names rest.Part = Unit {0}
Names (rest.Closes n i) = OfRule n
Names (rest.Abstracts i S) = Unit {0}
Names rest.Argument = Unit {0}
Names (rest.Concludes b) = Unit {0}
Names (rest.Instance i b) = Unit {0}
Names rest.LetBody = Unit {0}
Names (rest.LetEnd i j) = Unit {0}
Names rest.CaseLeft = Unit {0}
Names (rest.CaseRight i b) = Unit {0}
Names (rest.CaseEnd i j S) = Unit {0}
Names rest.Aborts = Unit {0}

-- and the rest that a piece asks with
abbrev pub NamesIn : Result Next Refusal → Type 0
NamesIn (Ok (next.Ask q x v s)) = Names q
NamesIn (Ok (next.Instead x E s)) = Unit {0}
NamesIn (Ok (next.Done a)) = Unit {0}
NamesIn (Err r) = Unit {0}

module _ (l : List ℕ) (R₀ : Rooms) (f : Rule) where
  abbrev pub Γ₀ : Ctx
  Γ₀ = ctx_of l R₀.props R₀.work f.start.context

  -- THE RULE f, begun in the rooms R₀, ASKS for its child x as v; q is then left of it
  pub record Asked (R : Rooms) (q : Rest) (x : ℕ) (v : Want) (s : State) : Type 0 where
    pub begun : Ready l R₀ f.term.0 f.start
    pub wants : WantIn (count_of l f.start) f.want
    pub used : ℕ
    pub own : ℕ
    pub wide : ℕ
    pub doing : Doing l R₀ f.term.0 (mode l R₀.props f.want) f.start R (leaving s f.start.context)
        (ask (mode l R.props v) (ctx_of l R.props R.work s.context) (program l R.props f.term.0 (mode l R₀.props f.want) Γ₀ q))
        (kid_at l x, kids l (after (term_record l f.term.0) q)) used own wide
    pub fits : 1 + used + (nodes (term_at l x) + weight l (after (term_record l f.term.0) q)) ≤ nodes (term_at l f.term.0)
    pub deep : f.start.context ≤ s.context
    pub holds : Holds (count_of l s) own (wide + 1) f.want q
    pub child : (f.term.0 < x) × (x < terms l)
    pub others : Inside l f.term.0 (after (term_record l f.term.0) q)
    pub ready : Ready l R x s
    pub among : WantIn (count_of l s) v

  -- THE CHILD HAS ANSWERED T, and q is left
  pub record Resumed (R : Rooms) (q : Rest) (T : Sort) (s : State) : Type 0 where
    pub begun : Ready l R₀ f.term.0 f.start
    pub wants : WantIn (count_of l f.start) f.want
    pub typ : Ty
    pub stands : Stands l R.props (count_of l s) T typ
    pub used : ℕ
    pub own : ℕ
    pub wide : ℕ
    pub doing : Doing l R₀ f.term.0 (mode l R₀.props f.want) f.start R s
        (program l R.props f.term.0 (mode l R₀.props f.want) Γ₀ q typ) (kids l (after (term_record l f.term.0) q)) used own wide
    pub fits : 1 + used + weight l (after (term_record l f.term.0) q) ≤ nodes (term_at l f.term.0)
    pub holds : Holds (count_of l s) own wide f.want q
    pub others : Inside l f.term.0 (after (term_record l f.term.0) q)

-- WHAT A PIECE ANSWERS for the term k, which is wanted as w from R₀ and st₀: fewer than j children are left after the one that it asks for. Whatever a
-- term that goes on in its place comes to, it comes to. No term whose check is a comparison has another go on in its place
abbrev pub NextIs : (l : List ℕ) (R₀ : Rooms) (k : ℕ) (w : Want) (st₀ : State) (j : ℕ) → Rooms → Result Next Refusal → Type 0
NextIs l R₀ k w st₀ j R (Ok (next.Ask q x v s)) =
    Asked l R₀ (record { term = record { 0 = k }; want = w; start = st₀ }) R q x.0 v s × (length (after (term_record l k) q) < j)
NextIs l R₀ k w st₀ j R (Ok (next.Instead x E s)) =
    (Ready l R x.0 s × TypeIn (count_of l s) E)
    × (((k < x.0) × (x.0 < terms l)) × (synthesizes (term_record l k).kind ≡ false))
    × ((R' : Rooms) (r : Result Answer Refusal) → RanAs l R R' x.0 (want.Check E) s r → RanAs l R₀ R' k w st₀ r)
NextIs l R₀ k w st₀ j R (Ok (next.Done a)) = RanAs l R₀ R k w st₀ (Ok a)
NextIs l R₀ k w st₀ j R (Err r) = RanAs l R₀ R k w st₀ (Err r)

-- a term begun, in the rooms R; no rule has more than three children
pub record Begins (l : List ℕ) (R R' : Rooms) (k : ℕ) (w : Want) (st : State) (n : Result Next Refusal) : Type 0 where
  pub begins : Ready l R k st → NextIs l R k w st 3 R' n
  pub names : NamesIn n

-- the rule f gone on with, after its child answered T. Of a number that is no rule's only `goes` speaks
pub record Resumes (l : List ℕ) (R R' : Rooms) (f : Rule) (q : Rest) (T : Sort) (s : State) (n : Result Next Refusal) : Type 0 where
  pub goes : (R₀ : Rooms) → Resumed l R₀ f R q T s → NextIs l R₀ f.term.0 f.want f.start (length (after (term_record l f.term.0) q)) R' n
  pub names : Names q → NamesIn n

-- WHAT THE PIECES ASK: the table, the propositions, a place for the node, room for an entry
abbrev pub Here : List ℕ → ℕ → Type 0
Here l k = Table l × (k < terms l)

-- all that a term may be begun with, in rooms of which a piece sees these
abbrev pub Begun : (l ps work : List ℕ) → ℕ → State → Type 0
Begun l ps work k st = (tree : List ℕ) × (goals : List ℕ) × Ready l (rooms tree goals ps work) k st

abbrev pub Room : (l ps : List ℕ) → State → Type 0
Room l ps st = Loaded l ps (count_of l st) × (st.made ≤ limit)

abbrev pub Place : List ℕ → State → Type 0
Place tree st = (16 * st.records + 16 ≤ length tree) × (st.records < largest)

abbrev pub Fresh : List ℕ → State → Type 0
Fresh work st = (8 * st.context + 8 ≤ length work) × ((st.context < largest) × (st.serials < largest))

abbrev pub FreshTwo : List ℕ → State → Type 0
FreshTwo work st = (st.context + 2 ≤ most_entries) × (context_room ≤ length work) × (st.serials + 2 ≤ most_serials)

-- what they ask of a rest
abbrev pub Held : (c : ℕ) → List ℕ → State → Rest → Type 0
Held c work st (rest.By n m) = Unit {0}
Held c work st (rest.Right n b) = Unit {0}
Held c work st rest.Second = Unit {0}
Held c work st (rest.Both S) = TypeIn c S
Held c work st rest.Part = Unit {0}
Held c work st (rest.Closes n i) = Unit {0}
Held c work st (rest.Abstracts i S) = TypeIn c S
Held c work st rest.Argument = 8 * st.context ≤ length work
Held c work st (rest.Concludes b) = Unit {0}
Held c work st (rest.Instance i b) = b.0 < c
Held c work st rest.LetBody = FreshTwo work st
Held c work st (rest.LetEnd i j) = Unit {0}
Held c work st rest.CaseLeft = Fresh work st
Held c work st (rest.CaseRight i b) = Fresh work st
Held c work st (rest.CaseEnd i j S) = TypeIn c S
Held c work st rest.Aborts = Unit {0}

-- whether the arms of a case agree: only synthesis asks
abbrev pub ArmsAs : (l ps : List ℕ) → Want → Sort → Sort → Bool → Type 0
ArmsAs l ps want.Synth t u x = x ≡ alpha (reads l ps t) (reads l ps u)
ArmsAs l ps (want.Check E) t u x = x ≡ true

-- HOW A TERM IS BEGUN: of some kinds a check is a synthesis, and a comparison at its end
unfoldable pub begun_as : (kind : ℕ) → Want → Want
begun_as kind w = cond (synthesizes kind) want.Synth w

-- term k, begun so from the rooms `start` with these goals and this work room at its end, has come to T
pub record Ended (l tree ps : List ℕ) (k : ℕ) (w : Want) (st : State) (T : Sort) (s : State) : Type 0 where
  pub start : Rooms
  pub goals : List ℕ
  pub work : List ℕ
  pub ready : Ready l start k st
  pub among : WantIn (count_of l st) w
  pub ran : RanAs l start (rooms tree goals ps work) k (begun_as (term_record l k).kind w) st (Ok (record { typ = T; state = s }))
