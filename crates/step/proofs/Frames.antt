-- What rooms that have grown keep: types, contexts and trees mean the same. Assumes nothing.
use mathlib.Core.Path.{◌≡◌, refl, ap, subst₂, subst⁻¹, ◌∙◌}
use mathlib.Core.List.{List}
use Prim.Native.Nat.{ℕ, ◌+◌, ◌<◌, ◌≤◌}
use native.Mathlib.Omega.{arith}
use Rattle.numbers.specs.declared.Sort.{Sort}
use Rattle.numbers.specs.Records.{record_at, Same}
use Rattle.layout.specs.File.{props}
use Rattle.rules.specs.Prop.{Ty}
use Rattle.rules.specs.Tree.{Node, Gap, Trees, end, gap, node, ◌⊕◌, records, holes}
use Rattle.rules.proofs.Spent.{records_beside, holes_beside}
use Rattle.prop.specs.Room.{TypeIn, Arena}
use Rattle.prop.proofs.Rooms.{room_same, type_same, type_more}
use Rattle.context.specs.Context.{entry_at}
use Rattle.context.proofs.Laws.{ctx_same, ctx_read_same}
use Rattle.step.specs.declared.state.State.{State}
use Rattle.step.specs.Rooms.{Rooms, reads, ctx_of, count_of, leaving, Stands, Entries, Loaded}
use Rattle.step.specs.Trees.{goal_at, NodeIs, GapIs, TreesAre}
use Rattle.step.specs.Picture.{PicturesAre}
use Rattle.step.specs.Contract.{Grown, Left}
use Rattle.step.proofs.Pictures.{pictures_kept, pictures_beside}

-- GROWN
pub entries_kept : {R R' : Rooms} {c d r g n a : ℕ} (f : Grown R R' c d r g n a) (m : ℕ) → m ≤ n → Entries R.work m c → Entries R'.work m d
entries_kept {R = R} {c = c} {d = d} f m h e i k = subst⁻¹ (λ e. TypeIn d e.typ) (f.work i (omega arith)) (type_more c d (entry_at R.work i).typ f.more (e i k))

module _ (l : List ℕ) {R R' : Rooms} {c d r g n a : ℕ} (ok : Arena R.props c) (f : Grown R R' c d r g n a) where
  pub type_kept : (T : Sort) → TypeIn c T → reads l R'.props T ≡ reads l R.props T
  type_kept T h = type_same R'.props ok f.props (props l) T h

  pub stands_kept : {T : Sort} {A : Ty} → Stands l R.props c T A → Stands l R'.props d T A
  stands_kept {T} s = record { among = type_more c d T f.more s.among; means = type_kept T s.among ∙ s.means }

  pub ctx_kept : (m : ℕ) → m ≤ n → Entries R.work m c → ctx_of l R'.props R'.work m ≡ ctx_of l R.props R.work m
  ctx_kept m h e =
      ctx_same (reads l R'.props) R.work R'.work m (λ i k. f.work i (omega arith))
      ∙ ctx_read_same (reads l R'.props) (reads l R.props) R.work m (λ i k. type_kept (entry_at R.work i).typ (e i k))

  pub loaded_kept : Loaded l R.props c → Loaded l R'.props d
  loaded_kept x =
      record {
        arena = f.arena;
        first = omega (arith, x.first, f.more);
        table = λ m k. room_same R'.props ok f.props (props l) m (omega (arith, x.first)) ∙ x.table m k;
        long = omega (arith, x.long, f.props_long);
      }

pub grown_none : {R : Rooms} {c r g n a : ℕ} → Arena R.props c → Grown R R c c r g n a
grown_none ok =
    record {
      arena = ok;
      more = omega arith;
      props = λ m h. refl;
      tree = λ m h. refl;
      goals = λ m h. refl;
      work = λ m h. refl;
      picture = λ k i h. refl;
      props_long = refl;
      tree_long = refl;
      goals_long = refl;
      work_long = refl;
    }

pub grown_trans : {R R' R'' : Rooms} {c d e r s g h n m a b : ℕ} → Grown R R' c d r g n a → Grown R' R'' d e s h m b → r ≤ s → g ≤ h → n ≤ m → b ≡ a → Grown R R'' c e r g n a
grown_trans f k rs gh nm ba =
    let up = f.more in
    record {
      arena = k.arena;
      more = omega (arith, f.more, k.more);
      props = λ i l. k.props i (omega arith) ∙ f.props i l;
      tree = λ i l. k.tree i (omega arith) ∙ f.tree i l;
      goals = λ i l. k.goals i (omega arith) ∙ f.goals i l;
      work = λ i l. k.work i (omega arith) ∙ f.work i l;
      picture = λ p i l. k.picture (omega arith) i l ∙ f.picture p i l;
      props_long = k.props_long ∙ f.props_long;
      tree_long = k.tree_long ∙ f.tree_long;
      goals_long = k.goals_long ∙ f.goals_long;
      work_long = k.work_long ∙ f.work_long;
    }

-- TREES that stand in records and goals which are kept, and whose propositions are
abbrev pub Between : ℕ → ℕ → List ℕ → List ℕ → Type 0
Between low high old new = (i : ℕ) → low ≤ i → i < high → record_at new i ≡ record_at old i

abbrev pub BetweenGoals : ℕ → ℕ → List ℕ → List ℕ → Type 0
BetweenGoals low high old new = (i : ℕ) → low ≤ i → i < high → goal_at new i ≡ goal_at old i

module _ (l : List ℕ) (R R' : Rooms) {c d : ℕ} (ok : Arena R.props c) (same : Same c R.props R'.props) (up : c ≤ d) where
  stands_on : {T : Sort} {A : Ty} → Stands l R.props c T A → Stands l R'.props d T A
  stands_on {T} s = record { among = type_more c d T up s.among; means = type_same R'.props ok same (props l) T s.among ∙ s.means }

  -- moved by so many records
  pub node_on : {n n' p : ℕ} {nd : Node} → record_at R'.tree n' ≡ record_at R.tree n → NodeIs l R c n nd p → NodeIs l R' d n' nd p
  node_on e h = record { typ = h.typ; stands = stands_on h.stands; is = e ∙ h.is }

  gap_on : {n n' m : ℕ} {q : Gap} → record_at R'.tree n' ≡ record_at R.tree n → goal_at R'.goals m ≡ goal_at R.goals m → GapIs l R c n m q → GapIs l R' d n' m q
  gap_on e f h = record { typ = h.typ; stands = stands_on h.stands; leaf = e ∙ h.leaf; goal = f ∙ h.goal }

  pub trees_on : (by n n' m : ℕ) (ts : Trees) → n' ≡ n + by → ((i : ℕ) → n ≤ i → i < n + records ts → record_at R'.tree (i + by) ≡ record_at R.tree i) → BetweenGoals m (m + holes ts) R.goals R'.goals
      → TreesAre l R c n m ts → TreesAre l R' d n' m ts
  unfolding TreesAre records holes
  trees_on by n n' m end e b g h = tt
  trees_on by n n' m (gap q ts) e b g h = (
    gap_on (ap (record_at R'.tree) e ∙ b n (omega arith) (omega arith)) (g m (omega arith) (omega arith)) h.0,
    trees_on by (n + 1) (n' + 1) (m + 1) ts (omega arith) (λ i lo hi. b i (omega arith) (omega arith)) (λ i lo hi. g i (omega arith) (omega arith)) h.1,
  )
  trees_on by n n' m (node nd ps ts) e b g h = (
    node_on (ap (record_at R'.tree) e ∙ b n (omega arith) (omega arith)) h.0,
    trees_on by (n + 1) (n' + 1) m ps (omega arith) (λ i lo hi. b i (omega arith) (omega arith)) (λ i lo hi. g i (omega arith) (omega arith)) h.1,
    trees_on by (n + 1 + records ps) (n' + 1 + records ps) (m + holes ps) ts (omega arith) (λ i lo hi. b i (omega arith) (omega arith)) (λ i lo hi. g i (omega arith) (omega arith)) h.2,
  )

pub trees_kept : (l : List ℕ) (R R' : Rooms) {c d : ℕ} → Arena R.props c → Same c R.props R'.props → c ≤ d → (n m : ℕ) (ts : Trees)
    → Between n (n + records ts) R.tree R'.tree → BetweenGoals m (m + holes ts) R.goals R'.goals → TreesAre l R c n m ts → TreesAre l R' d n m ts
trees_kept l R R' ok same up n m ts b g h =
    trees_on l R R' ok same up 0 n n m ts (omega arith) (λ i lo hi. ap (record_at R'.tree) (omega arith) ∙ b i lo hi) g h

-- SIDE BY SIDE
pub trees_beside : (l : List ℕ) (R : Rooms) (c n m : ℕ) (ts us : Trees) → TreesAre l R c n m ts → TreesAre l R c (n + records ts) (m + holes ts) us → TreesAre l R c n m (ts ⊕ us)
unfolding TreesAre records holes ◌⊕◌
trees_beside l R c n m end us h k = subst₂ (λ (i j : ℕ). TreesAre l R c i j us) (omega arith) (omega arith) k
trees_beside l R c n m (gap q ts) us h k = (h.0, trees_beside l R c (n + 1) (m + 1) ts us h.1 (subst₂ (λ (i j : ℕ). TreesAre l R c i j us) (omega arith) (omega arith) k))
trees_beside l R c n m (node nd ps ts) us h k = (
  h.0,
  h.1,
  trees_beside l R c (n + 1 + records ps) (m + holes ps) ts us h.2 (subst₂ (λ (i j : ℕ). TreesAre l R c i j us) (omega arith) (omega arith) k),
)

-- LEFT
pub left_none : {l : List ℕ} {R : Rooms} {st : State} → Arena R.props (count_of l st) → Left l R R st st end
unfolding TreesAre PicturesAre records holes
left_none ok = record { records = omega arith; goals = omega arith; context = refl; asked = refl; trees = tt; pictures = tt; grown = grown_none ok }

-- what one part leaves, then another
pub left_trans : {l : List ℕ} {R R₁ R₂ : Rooms} {st s₁ s₂ : State} {ts us : Trees} → Left l R R₁ st s₁ ts → Left l R₁ R₂ s₁ s₂ us → Left l R R₂ st s₂ (ts ⊕ us)
left_trans {l} {R} {R₁} {R₂} {st} {s₁} {s₂} {ts} {us} a b =
    let er = a.records in
    let eg = a.goals in
    let ec = a.context in
    let ea = a.asked in
    record {
      records = omega (arith, a.records, b.records, records_beside ts us);
      goals = omega (arith, a.goals, b.goals, holes_beside ts us);
      context = b.context ∙ a.context;
      asked = b.asked ∙ a.asked;
      trees =
          trees_beside l R₂ (count_of l s₂) st.records st.goals ts us
          (trees_kept l R₁ R₂ a.grown.arena b.grown.props b.grown.more st.records st.goals ts (λ i lo hi. b.grown.tree i (omega arith)) (λ i lo hi. b.grown.goals i (omega arith)) a.trees)
          (subst₂ (λ (i j : ℕ). TreesAre l R₂ (count_of l s₂) i j us) er eg b.trees);
      pictures =
          pictures_beside l R₂.props R₂.work st.asked (count_of l s₂) st.goals ts us
          (pictures_kept l R₁.props R₂.props R₁.work R₂.work a.grown.arena b.grown.props b.grown.more st.asked st.goals ts (λ k. b.grown.picture (omega arith)) a.pictures)
          (subst₂ (λ (i j : ℕ). PicturesAre l R₂.props R₂.work i (count_of l s₂) j us) ea eg b.pictures);
      grown = grown_trans a.grown b.grown (omega arith) (omega arith) (omega arith) ea;
    }

-- a part that ran with more entries leaves the same with fewer
pub left_leave : {l : List ℕ} {R R₁ : Rooms} {st s₁ : State} {ts : Trees} (n : ℕ) → n ≤ st.context → Left l R R₁ st s₁ ts → Left l R R₁ (leaving st n) (leaving s₁ n) ts
left_leave n h a =
    record {
      records = a.records;
      goals = a.goals;
      context = refl;
      asked = a.asked;
      trees = a.trees;
      pictures = a.pictures;
      grown =
          record {
            arena = a.grown.arena;
            more = a.grown.more;
            props = a.grown.props;
            tree = a.grown.tree;
            goals = a.grown.goals;
            work = λ i k. a.grown.work i (omega arith);
            picture = a.grown.picture;
            props_long = a.grown.props_long;
            tree_long = a.grown.tree_long;
            goals_long = a.grown.goals_long;
            work_long = a.grown.work_long;
          };
    }
