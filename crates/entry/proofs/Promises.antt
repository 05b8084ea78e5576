-- The statements of specs/Promises.antt, from `Marks`. Assumes nothing.
use mathlib.Core.Path.{◌≡◌, refl, ap, sym, subst, subst⁻¹, subst₂, ◌∙◌}
use mathlib.Core.Bool.{Bool, true, false, cond, true≢false, false≢true}
use mathlib.Core.List.{List, [], ◌∷◌, map, map-append}
use mathlib.Core.Logic.{◌⊎◌, inl, inr}
use Prim.Native.Nat.{ℕ, ◌+◌, ◌<◌, ◌≤◌}
use native.Mathlib.Omega.{arith}
use borrow.Author.Tests.{ltb-true, ltb-false}
use lib.ListN.{length, get_or, length-map}
use lib.Seq.{get_or_at}
use native.Mathlib.Nat.{eq-or-lt_of_le}
use lib.Dec.{ltb}
use Rattle.numbers.specs.declared.Sort.{Sort}
use Rattle.numbers.specs.declared.Sort.TheVariants as sort
use Rattle.numbers.specs.declared.record.Record.{Record}
use Rattle.numbers.specs.Records.{record_at}
use Rattle.layout.specs.File.{props, PropKind, constant, linked, quantified, atomic, strange, prop_kind}
use Rattle.rules.specs.Prop.{Origin, table, made, Prop, const, link, quant, atom, Ty, prop, datatype}
use Rattle.rules.specs.State.{St}
use Rattle.rules.specs.Term.{Term, sorries}
use Rattle.rules.specs.Tree.{Node, Gap, Trees, end, gap, node, goals, records, holes}
use Rattle.rules.specs.Step.{Out, stop, refused, ok, Answer}
use Rattle.rules.specs.Filling.{At, before, after}
use Rattle.rules.proofs.Goals.{goals_in_order, goals_at}
use Rattle.rules.proofs.Spent.{holes_goals}
use Rattle.table.specs.declared.Purpose.TheVariants.{Check}
use Rattle.table.specs.Passing.{Good}
use Rattle.table.specs.Reading.{term_at}
use Rattle.table.proofs.Passing.{table_sound}
use Rattle.prop.specs.Room.{origin, room_at, room_within}
use Rattle.prop.specs.Room as room
use Rattle.context.specs.Context.{tag_of, number_of}
use Rattle.step.specs.Rooms.{Rooms, reads}
use Rattle.step.specs.Trees.{node_rec, goal_at, NodeIs, GapIs, TreesAre}
use Rattle.step.proofs.Goals.{goal_place, goal_term}
use Rattle.entry.specs.declared.Counts.{Counts}
use Rattle.entry.specs.Mark.{long_enough, root_run, unless_refused, table_run, outcome, counts_of, Holds, Kept, Mark, MarkedAs}
use Rattle.entry.proofs.Answers.{table_ok}
use Rattle.std.specs.Prelude.{Ok, Result, ⊤}
use Rattle.numbers.specs.declared.refusal.Refusal.{Refusal}
use Rattle.entry.specs.Promises.{OnlyThen, AlwaysThen, AcceptedHolds, Sorries, GoalsAreSorries, Agree, AgreeNode, AgreeGoal, SameTree, SameIf, TwoRunsAgree}

-- WHAT AN ACCEPTANCE SAYS
outcome_ok : (l : List ℕ) (R : Rooms) (a : Answer) (st : St) → outcome l R ≡ ok a st → (long_enough R ≡ true) × Good Check l × (root_run l ≡ ok a st)
unfolding outcome
outcome_ok l R a st h = at (long_enough R) refl h
  where
    at : (b : Bool) → long_enough R ≡ b → cond b (table_run l) (refused 1 0) ≡ ok a st → (long_enough R ≡ true) × Good Check l × (root_run l ≡ ok a st)
    at true e h = let z = table_ok l a st h in (e, z.0, z.1)
    at false e h = cc

record Taken (l : List ℕ) (R R' : Rooms) (c : Counts) : Type 0 where
  answer : Answer
  state : St
  is : outcome l R ≡ ok answer state
  counts : c ≡ counts_of answer state
  kept : Kept l R R' answer state

taken : (l : List ℕ) (R R' : Rooms) (c : Counts) (o : Out Answer) → outcome l R ≡ o → MarkedAs l R R' o (Ok c) → Taken l R R' c
taken l R R' c (stop r) e h = cc
taken l R R' c (ok a st) e h = record { answer = a; state = st; is = e; counts = cc; kept = h.1 }

pub only_then : OnlyThen
only_then l R R' c h =
    let t = taken l R R' c (outcome l R) refl h in
    let z = outcome_ok l R t.answer t.state t.is in
    record { long = z.0; good = z.1; answer = t.answer; state = t.state; accepts = z.2; counts = t.counts }

pub always_then : AlwaysThen
unfolding outcome unless_refused
always_then l R R' m h c a =
    let is : outcome l R ≡ ok a.answer a.state =
    ap (λ (b : Bool). cond b (table_run l) (refused 1 0)) a.long ∙ ap (λ (v : Result ⊤ Refusal). unless_refused v (root_run l)) a.good ∙ a.accepts in
    (subst (λ (o : Out Answer). MarkedAs l R R' o m) is h).0 ∙ ap Ok (sym a.counts)

-- SOUNDNESS
none_left : {X : Type 0} (xs : List X) → length xs ≡ 0 → xs ≡ []
none_left [] e = refl
none_left (x ∷ xs) e = absurd (omega (arith, e))

pub accepted_holds : AcceptedHolds
accepted_holds l R R' c h none M ρ =
    let a = only_then l R R' c h in
    let few = sym (holes_goals a.answer.tree) ∙ sym (ap (λ (c : Counts). c.goals) a.counts) ∙ none in
    table_sound l a.good M a.answer a.state a.accepts (none_left (goals a.answer.tree) few) ρ

-- GOALS. Among the gaps' terms, from left to right, a gap's own has its number
pub gap_term : {g : Gap} {ts : Trees} (p : At g ts) → get_or (map (λ (g : Gap). g.term) (goals ts)) (length (before p)) 0 ≡ g.term
gap_term {g} {ts} p =
    let n : ℕ = length (before p) in
    ap (λ (t : List Gap). get_or (map (λ g. g.term) t) n 0) (goals_at p) ∙ ap (λ (t : List ℕ). get_or t n 0) (map-append (λ g. g.term) (before p) (g ∷ after p))
    ∙ get_or_at (map (λ g. g.term) (before p)) g.term (map (λ g. g.term) (after p)) 0 n (length-map (before p) (λ (g : Gap). g.term))

-- and the i-th goal's record has the i-th of them
goal_terms : (l : List ℕ) (R : Rooms) (c : ℕ) (ts : Trees) → TreesAre l R c 0 0 ts → (i : ℕ) → i < holes ts → (goal_at R.goals i).term.0 ≡ get_or (map (λ g. g.term) (goals ts)) i 0
goal_terms l R c ts h i k =
    let x = goal_place i ts k in
    let n : 0 + length (before x.1) ≡ i = omega (arith, x.2) in
    ap (λ (j : ℕ). (goal_at R.goals j).term.0) (sym n) ∙ goal_term l R c 0 0 x.1 h ∙ sym (gap_term x.1) ∙ ap (λ (j : ℕ). get_or (map (λ g. g.term) (goals ts)) j 0) x.2

pub sorries_are : (l : List ℕ) (R : Rooms) (n : ℕ) (t : Term) (ts : Trees) (c : Counts) → map (λ (g : Gap). g.term) (goals ts) ≡ sorries t → c.goals ≡ holes ts
    → TreesAre l R n 0 0 ts → Sorries t R c
sorries_are l R n t ts c order count h =
    record {
      count = count ∙ holes_goals ts ∙ sym (length-map (goals ts) (λ (g : Gap). g.term)) ∙ ap length order;
      each = λ i k. goal_terms l R n ts h i (omega (arith, count)) ∙ ap (λ (t : List ℕ). get_or t i 0) order;
    }

pub goals_are_sorries : GoalsAreSorries
goals_are_sorries l R R' c h =
    let t = taken l R R' c (outcome l R) refl h in
    let z = outcome_ok l R t.answer t.state t.is in
    sorries_are l R' _ (term_at l 0) t.answer.tree c (goals_in_order (term_at l 0) _ _ _ t.answer t.state z.2) (ap (λ (c : Counts). c.goals) t.counts) t.kept.holds.trees

-- AGREEING NUMBERS: where a record stands shows in what it stands for
origin_of : Prop → Origin
origin_of (const o b) = o
origin_of (link o h A B) = o
origin_of (quant o q x D B) = o
origin_of (atom o p xs) = o

room_origin : (p : ℕ) (w : List ℕ) (n : ℕ) → origin_of (room_at p w n) ≡ origin p n
unfolding room_at room_within room.node origin_of
room_origin p w n = at (prop_kind (record_at w n).kind)
  where
    at : (K : PropKind) → origin_of (room.node p n (room_within n p w) K (record_at w n)) ≡ origin p n
    at (constant b) = refl
    at (linked h) = refl
    at (quantified q) = refl
    at atomic = refl
    at strange = refl

abbrev number_in : Origin → ℕ
number_in (table n) = n
number_in made = 0

abbrev in_table : Origin → Bool
in_table (table n) = true
in_table made = false

origin_agrees : (p m n : ℕ) → origin p m ≡ origin p n → (m ≡ n) ⊎ ((p ≤ m) × (p ≤ n))
unfolding origin
origin_agrees p m n h = at (ltb m p) refl (ltb n p) refl h
  where
    at : (b : Bool) → ltb m p ≡ b → (d : Bool) → ltb n p ≡ d → cond b (table m) made ≡ cond d (table n) made → (m ≡ n) ⊎ ((p ≤ m) × (p ≤ n))
    at true e true f h = inl (ap number_in h)
    at true e false f h = absurd (true≢false (ap in_table h))
    at false e true f h = absurd (false≢true (ap in_table h))
    at false e false f h = inr (ltb-false m p e, ltb-false n p f)

abbrev is_prop : Ty → Bool
is_prop (prop P) = true
is_prop (datatype D) = false

abbrev prop_in : Ty → Prop
prop_in (prop P) = P
prop_in (datatype D) = const made true

abbrev datatype_in : Ty → ℕ
datatype_in (prop P) = 0
datatype_in (datatype D) = D

types_agree : (l ps qs : List ℕ) (T U : Sort) → reads l ps T ≡ reads l qs U → (tag_of T ≡ tag_of U) × Agree l ps qs (tag_of T) (number_of T) (number_of U)
types_agree l ps qs (sort.Proposition m) (sort.Proposition n) h =
    let same = ap prop_in h in
    (refl, (same, origin_agrees (props l) m.0 n.0 (sym (room_origin (props l) ps m.0) ∙ ap origin_of same ∙ room_origin (props l) qs n.0)))
types_agree l ps qs (sort.Proposition m) (sort.Datatype d) h = absurd (true≢false (ap is_prop h))
types_agree l ps qs (sort.Datatype d) (sort.Proposition n) h = absurd (false≢true (ap is_prop h))
types_agree l ps qs (sort.Datatype d) (sort.Datatype e) h = (refl, ap datatype_in h)

-- AGREEING TREES
module _ (l : List ℕ) (R S : Rooms) (c d : ℕ) where
  rec_agrees : (rule term first second premises : ℕ) (T U : Sort) (r s : Record) → reads l R.props T ≡ reads l S.props U → r ≡ node_rec rule term T first second premises
      → s ≡ node_rec rule term U first second premises → AgreeNode l R.props S.props r s
  rec_agrees rule term i j w T U r s same e f =
      let t = types_agree l R.props S.props T U same in
      subst₂ (AgreeNode l R.props S.props) (sym e) (sym f) record { kind = refl; tag = t.0; term = refl; number = t.1; first = refl; others = refl }

  node_agrees : (n w : ℕ) (nd : Node) → NodeIs l R c n nd w → NodeIs l S d n nd w → AgreeNode l R.props S.props (record_at R.tree n) (record_at S.tree n)
  node_agrees n w nd x y = rec_agrees _ _ _ _ _ x.typ y.typ _ _ (x.stands.means ∙ sym y.stands.means) x.is y.is

  leaf_agrees : (n m : ℕ) (g : Gap) → GapIs l R c n m g → GapIs l S d n m g → AgreeNode l R.props S.props (record_at R.tree n) (record_at S.tree n)
  leaf_agrees n m g x y = rec_agrees _ _ _ _ _ x.typ y.typ _ _ (x.stands.means ∙ sym y.stands.means) x.leaf y.leaf

  goal_agrees : (n m : ℕ) (g : Gap) → GapIs l R c n m g → GapIs l S d n m g → AgreeGoal l R.props S.props (goal_at R.goals m) (goal_at S.goals m)
  goal_agrees n m g x y =
      let t = types_agree l R.props S.props x.typ y.typ (x.stands.means ∙ sym y.stands.means) in
      subst₂ (AgreeGoal l R.props S.props) (sym x.goal) (sym y.goal) record { term = refl; tag = tag_of x.typ; number = t.1; context = refl; zero = refl }

  nodes_agree : (n m : ℕ) (ts : Trees) → TreesAre l R c n m ts → TreesAre l S d n m ts → (i : ℕ) → n ≤ i → i < n + records ts → AgreeNode l R.props S.props (record_at R.tree i) (record_at S.tree i)
  unfolding TreesAre records
  nodes_agree n m end h k i lo hi = absurd (omega arith)
  nodes_agree n m (gap g ts) h k i lo hi = at (eq-or-lt_of_le lo) (nodes_agree (n + 1) (m + 1) ts h.1 k.1 i)
    where
      at : (n ≡ i) ⊎ (n < i) → (n + 1 ≤ i → i < n + 1 + records ts → AgreeNode l R.props S.props (record_at R.tree i) (record_at S.tree i)) → AgreeNode l R.props S.props (record_at R.tree i) (record_at S.tree i)
      at (inl e) z = subst (λ (i : ℕ). AgreeNode l R.props S.props (record_at R.tree i) (record_at S.tree i)) e (leaf_agrees n m g h.0 k.0)
      at (inr x) z = z (omega arith) (omega arith)
  nodes_agree n m (node nd ps ts) h k i lo hi =
      at (eq-or-lt_of_le lo) (ltb i (n + 1 + records ps)) refl (nodes_agree (n + 1) m ps h.1 k.1 i) (nodes_agree (n + 1 + records ps) (m + holes ps) ts h.2 k.2 i)
    where
      at : (n ≡ i) ⊎ (n < i) → (b : Bool) → ltb i (n + 1 + records ps) ≡ b
          → (n + 1 ≤ i → i < n + 1 + records ps → AgreeNode l R.props S.props (record_at R.tree i) (record_at S.tree i))
          → (n + 1 + records ps ≤ i → i < n + 1 + records ps + records ts → AgreeNode l R.props S.props (record_at R.tree i) (record_at S.tree i))
          → AgreeNode l R.props S.props (record_at R.tree i) (record_at S.tree i)
      at (inl e) b f y z = subst (λ (i : ℕ). AgreeNode l R.props S.props (record_at R.tree i) (record_at S.tree i)) e (node_agrees n _ nd h.0 k.0)
      at (inr x) true f y z = y (omega arith) (ltb-true i _ f)
      at (inr x) false f y z = z (ltb-false i _ f) (omega arith)

  goals_agree : (n m : ℕ) (ts : Trees) → TreesAre l R c n m ts → TreesAre l S d n m ts → (i : ℕ) → m ≤ i → i < m + holes ts → AgreeGoal l R.props S.props (goal_at R.goals i) (goal_at S.goals i)
  unfolding TreesAre holes
  goals_agree n m end h k i lo hi = absurd (omega arith)
  goals_agree n m (gap g ts) h k i lo hi = at (eq-or-lt_of_le lo) (goals_agree (n + 1) (m + 1) ts h.1 k.1 i)
    where
      at : (m ≡ i) ⊎ (m < i) → (m + 1 ≤ i → i < m + 1 + holes ts → AgreeGoal l R.props S.props (goal_at R.goals i) (goal_at S.goals i)) → AgreeGoal l R.props S.props (goal_at R.goals i) (goal_at S.goals i)
      at (inl e) z = subst (λ (i : ℕ). AgreeGoal l R.props S.props (goal_at R.goals i) (goal_at S.goals i)) e (goal_agrees n m g h.0 k.0)
      at (inr x) z = z (omega arith) (omega arith)
  goals_agree n m (node nd ps ts) h k i lo hi =
      at (ltb i (m + holes ps)) refl (goals_agree (n + 1) m ps h.1 k.1 i) (goals_agree (n + 1 + records ps) (m + holes ps) ts h.2 k.2 i)
    where
      at : (b : Bool) → ltb i (m + holes ps) ≡ b → (m ≤ i → i < m + holes ps → AgreeGoal l R.props S.props (goal_at R.goals i) (goal_at S.goals i))
          → (m + holes ps ≤ i → i < m + holes ps + holes ts → AgreeGoal l R.props S.props (goal_at R.goals i) (goal_at S.goals i)) → AgreeGoal l R.props S.props (goal_at R.goals i) (goal_at S.goals i)
      at true f y z = y lo (ltb-true i _ f)
      at false f y z = z (ltb-false i _ f) (omega arith)

-- so do the rooms after one answer of the rules, whatever else its counts say
pub same_tree : (l : List ℕ) (R S : Rooms) (a : Answer) (s t : St) (c : Counts) → c.records ≡ records a.tree → c.goals ≡ holes a.tree → Holds l R a s → Holds l S a t → SameTree l R S c
same_tree l R S a s t c e f h k =
    record {
      tree = λ i x. nodes_agree l R S _ _ 0 0 a.tree h.trees k.trees i (omega arith) (omega arith);
      goals = λ i x. goals_agree l R S _ _ 0 0 a.tree h.trees k.trees i (omega arith) (omega arith);
      table = λ i x. h.table i x ∙ sym (k.table i x);
    }

-- TWO RUNS
same_outcome : (l : List ℕ) (R S : Rooms) → long_enough R ≡ long_enough S → outcome l R ≡ outcome l S
unfolding outcome
same_outcome l R S e = ap (λ (b : Bool). cond b (table_run l) (refused 1 0)) e

as_marked : (l : List ℕ) (R R' S S' : Rooms) (m n : Mark) (o : Out Answer) → MarkedAs l R R' o m → MarkedAs l S S' o n → (m ≡ n) × SameIf l R' S' m
as_marked l R R' S S' m n (stop r) h z = (h.0 ∙ sym z.0, subst⁻¹ (SameIf l R' S') h.0 tt)
as_marked l R R' S S' m n (ok a st) h z =
    (h.0 ∙ sym z.0, subst⁻¹ (SameIf l R' S') h.0 (same_tree l R' S' a st st (counts_of a st) refl refl h.1.holds z.1.holds))

pub two_runs_agree : TwoRunsAgree
two_runs_agree l R R' S S' m n h z e = as_marked l R R' S S' m n (outcome l R) h (subst⁻¹ (λ (o : Out Answer). MarkedAs l S S' o n) (same_outcome l R S e) z)
