-- Document 01, "Tree, goals, filling": the records of a proof tree and of its goals, and which bytes hold a given tree. Assumes nothing.
use Rattle.std.specs.Prelude.{◌≡◌, List, [], ◌∷◌, ℕ, ◌+◌, ◌*◌, ◌<◌, length, get_or}
use Rattle.numbers.specs.declared.Sort.{Sort}
use Rattle.numbers.specs.declared.record.Record.{Record}
use Rattle.numbers.specs.Limits.{none}
use Rattle.numbers.specs.Records.{word_at, record_at}
use Rattle.context.specs.Context.{tag_of, number_of, sort_of}
use Rattle.rules.specs.Tree.{Node, Gap, Trees, end, gap, node, records, holes, width}
use Rattle.step.specs.declared.inference.Inference.{Inference}
use Rattle.step.specs.declared.inference.Inference.TheVariants as by
use Rattle.step.specs.declared.node.Goal.{Goal}
use Rattle.step.specs.declared.node.NodeRecord.{NodeRecord}
use Rattle.step.specs.Rooms.{Rooms, Stands}

-- Document 01, the rules' numbers in the tree
abbrev pub rule_number : Inference → ℕ
rule_number by.Ident = 0
rule_number by.TrueIntro = 1
rule_number by.AndIntro = 2
rule_number by.AndElimFst = 3
rule_number by.AndElimSnd = 4
rule_number by.ImplIntro = 5
rule_number by.ImplElim = 6
rule_number by.OrIntroFst = 7
rule_number by.OrIntroSnd = 8
rule_number by.OrElim = 9
rule_number by.FalsumElim = 10
rule_number by.ForAllIntro = 11
rule_number by.ForAllElim = 12
rule_number by.ExistsIntro = 13
rule_number by.ExistsElim = 14
rule_number by.Sorry = 15
rule_number by.AlphaEq = 16

-- A TREE RECORD: rule, tag, term, proposition or datatype, two serials, premises, zeros
abbrev pub node_rec : (rule term : ℕ) → Sort → (first second premises : ℕ) → Record
node_rec rule k T i j n =
    record { kind = rule; count = tag_of T; a = k; b = number_of T; c = i; parameters = j ∷ n ∷ 0 ∷ 0 ∷ [] }

-- what any record says as a node; and node n of a room
abbrev pub as_node : Record → NodeRecord
as_node r =
    record {
      rule = r.kind;
      term = record { 0 = r.a };
      conclusion = sort_of r.count r.b;
      first = record { 0 = r.c };
      second = record { 0 = get_or r.parameters 0 0 };
      premises = get_or r.parameters 1 0;
    }

abbrev pub node_at : List ℕ → ℕ → NodeRecord
node_at w n = as_node (record_at w n)

-- its serials, where there are some
abbrev pub first_serial : List ℕ → ℕ
first_serial is = get_or is 0 none

abbrev pub second_serial : List ℕ → ℕ
second_serial is = get_or is 1 none

-- A GOAL RECORD: term, proposition, context length, zero, 16 bits each
unfoldable pub goal_at : List ℕ → ℕ → Goal
goal_at w i =
    record {
      term = record { 0 = word_at w (8 * i) };
      proposition = record { 0 = word_at w (8 * i + 2) };
      context = word_at w (8 * i + 4);
      zero = word_at w (8 * i + 6);
    }

abbrev pub goal_rec : (term : ℕ) → Sort → (context : ℕ) → Goal
goal_rec k T n = record { term = record { 0 = k }; proposition = record { 0 = number_of T }; context = n; zero = 0 }

abbrev pub SameGoals : ℕ → List ℕ → List ℕ → Type 0
SameGoals n old new = (i : ℕ) → i < n → goal_at new i ≡ goal_at old i

-- `new` is `old` with the goal g at number n
pub record PutGoal (old : List ℕ) (n : ℕ) (g : Goal) (new : List ℕ) : Type 0 where
  pub here : goal_at new n ≡ g
  pub size : length new ≡ length old
  pub others : (m : ℕ) → (m ≡ n → ⊥) → goal_at new m ≡ goal_at old m

-- THE TREE IN ITS ROOM. Record n is this node, over so many premises; the conclusion's number is among the first c propositions
pub record NodeIs (l : List ℕ) (R : Rooms) (c n : ℕ) (nd : Node) (premises : ℕ) : Type 0 where
  pub typ : Sort
  pub stands : Stands l R.props c typ nd.concludes
  pub is : record_at R.tree n ≡ node_rec nd.rule nd.term typ (first_serial nd.serials) (second_serial nd.serials) premises

-- record n and goal m are this gap: a Sorry leaf (rule 15) and what it wants
pub record GapIs (l : List ℕ) (R : Rooms) (c n m : ℕ) (g : Gap) : Type 0 where
  pub typ : Sort
  pub stands : Stands l R.props c typ g.wanted
  pub leaf : record_at R.tree n ≡ node_rec 15 g.term typ none none 0
  pub goal : goal_at R.goals m ≡ goal_rec g.term typ (length g.ctx)

-- from record n and goal m on stand these trees, each parent before its premises
unfoldable pub TreesAre : (l : List ℕ) → Rooms → (c n m : ℕ) → Trees → Type 0
TreesAre l R c n m end = Unit {0}
TreesAre l R c n m (gap g ts) = GapIs l R c n m g × TreesAre l R c (n + 1) (m + 1) ts
TreesAre l R c n m (node nd ps ts) =
    NodeIs l R c n nd (width ps) × TreesAre l R c (n + 1) m ps × TreesAre l R c (n + 1 + records ps) (m + holes ps) ts
