-- From the run to the mark. Assumes nothing.
use mathlib.Core.Path.{◌≡◌, refl, ap, ap₂, sym, subst, subst⁻¹, ◌∙◌}
use mathlib.Core.Bool.{Bool, true, false, cond}
use mathlib.Core.List.{List, ◌++◌}
use Prim.Native.Nat.{ℕ, ◌+◌, ◌*◌, ◌≤◌}
use native.Mathlib.Omega.{arith}
use borrow.Author.Tests.{leb-true, le-leb}
use lib.ListN.{length, take, drop, length-append}
use lib.Dec.{leb}
use lib.Seq.{length-take-le}
use Rattle.numbers.specs.declared.refusal.Refusal.{Refusal}
use Rattle.numbers.specs.Records.{Same}
use Rattle.numbers.specs.Refusals.{refusal_at}
use Rattle.numbers.specs.Rooms.{cleared}
use Rattle.layout.specs.File.{props}
use Rattle.rules.specs.State.{St}
use Rattle.rules.specs.Tree.{records, holes}
use Rattle.rules.specs.Step.{Out, stop, refused, ok, Answer}
use Rattle.table.specs.declared.Purpose.{Purpose}
use Rattle.table.specs.declared.Purpose.TheVariants.{Check}
use Rattle.table.specs.Tests.{tests, test_room, unless, Tested}
use Rattle.table.specs.Passing.{Good}
use Rattle.prop.proofs.Rooms.{node_kept}
use Rattle.step.specs.declared.state.State.{State}
use Rattle.step.specs.Rooms.{Rooms, rooms, st_of, count_of}
use Rattle.step.specs.Trees.{SameGoals}
use Rattle.step.proofs.Frames.{trees_kept}
use Rattle.std.specs.Prelude.{Ok, Err, Result, ⊤}
use Rattle.entry.specs.Mark.{tree_bytes, goals_bytes, props_bytes, work_bytes, long_enough, root_run, unless_refused, table_run, outcome, Emptied, Holds, Kept, Mark, MarkedAs, Marks}
use Rattle.entry.specs.Rest.{Rest}
use Rattle.entry.specs.Ran.{Exact, Ran}
use Rattle.step.specs.Contract.{Refuses}
use Rattle.entry.proofs.Answers.{both_true}
use Rattle.entry.proofs.Rests.{cleared_exact, cleared_parts, cleared_front, same_record, same_goal, front_byte}

-- ROOMS WITH THE SAME RECORDS AND GOALS hold the same
module _ {l : List ℕ} {a : Answer} {st : St} (R R' : Rooms) (h : Holds l R a st) where
  holds_on : Same (records a.tree) R.tree R'.tree → SameGoals (holes a.tree) R.goals R'.goals → Same (props l + st.made) R.props R'.props
      → length R.tree ≤ length R'.tree → length R.goals ≤ length R'.goals → length R.props ≤ length R'.props → Holds l R' a st
  holds_on t g p tl gl pl =
      record {
        trees = trees_kept l R R' h.made p (omega arith) 0 0 a.tree (λ i lo hi. t i (omega arith)) (λ i lo hi. g i (omega arith)) h.trees;
        table = λ n k. p n (omega arith) ∙ h.table n k;
        made = record { each = node_kept R'.props h.made p; room = omega (arith, h.made.room) };
        tree_room = omega (arith, h.tree_room);
        goals_room = omega (arith, h.goals_room);
      }

-- AFTER THE RUN
pub finish_refused : (l : List ℕ) (o : Out Answer) (R R' : Rooms) (x : Refusal) → Refuses o x → Emptied R R' → MarkedAs l R R' o (Err x)
finish_refused l o R R' x h z = subst⁻¹ (λ (o : Out Answer). MarkedAs l R R' o (Err x)) h (refl, z)

-- an acceptance: its counts are the tree's, and what is left of the rooms is kept
pub kept_rest : (l : List ℕ) (o : Out Answer) (R R' : Rooms) (st : State) (r : Ran l o R st) → Rest st.records st.goals (count_of l st) R R' → Kept l R R' r.answer (st_of st)
kept_rest l o R R' st r z =
    record {
      holds =
          holds_on R R' r.holds
          (λ i h. same_record (16 * st.records) R.tree R'.tree z.tree.kept i (omega (arith, r.records)))
          (λ i h. same_goal (8 * st.goals) R.goals R'.goals z.goals.kept i (omega (arith, r.goals)))
          (λ i h. same_record (16 * count_of l st) R.props R'.props z.props.kept i (omega arith))
          (omega (arith, z.tree.long)) (omega (arith, z.goals.long)) (omega (arith, z.props.long));
      tree = subst (λ (k : ℕ). cleared (16 * k) R'.tree ≡ cleared tree_bytes R.tree) r.records z.tree.rest;
      goals = subst (λ (k : ℕ). cleared (8 * k) R'.goals ≡ cleared goals_bytes R.goals) r.goals z.goals.rest;
      props = z.props.rest;
      work = z.work;
    }

abbrev counted : State → Mark
counted st = Ok (record { records = st.records; goals = st.goals; serials = st.serials; made = st.made })

accepted : (l : List ℕ) (o : Out Answer) (R R' : Rooms) (st : State) → Ran l o R st → Rest st.records st.goals (count_of l st) R R' → MarkedAs l R R' o (counted st)
accepted l o R R' st r z =
    subst⁻¹ (λ (o : Out Answer). MarkedAs l R R' o (counted st)) r.accepts (
      ap₂ (λ (x y : ℕ). Ok (record { records = x; goals = y; serials = st.serials; made = st.made })) r.records r.goals,
      kept_rest l o R R' st r z,
    )

pub finish_accepted : (l : List ℕ) (o : Out Answer) (R R' : Rooms) (st : State) (c : ℕ) → c ≡ count_of l st → Ran l o R st → Rest st.records st.goals c R R'
    → MarkedAs l R R' o (counted st)
finish_accepted l o R R' st c f r z = accepted l o R R' st r (subst (λ (c : ℕ). Rest st.records st.goals c R R') f z)

-- ROOMS OF JUST THE LISTED SIZES: what they held before the run does not count
module _ {R R₁ : Rooms} (e : Exact R) (f : Exact R₁) where
  pub emptied_over : {R' : Rooms} → Emptied R₁ R' → Emptied R R'
  emptied_over z =
      record {
        tree = z.tree ∙ cleared_exact tree_bytes R.tree R₁.tree e.tree f.tree;
        goals = z.goals ∙ cleared_exact goals_bytes R.goals R₁.goals e.goals f.goals;
        props = z.props ∙ cleared_exact props_bytes R.props R₁.props e.props f.props;
        work = z.work ∙ cleared_exact work_bytes R.work R₁.work e.work f.work;
      }

  pub kept_over : {l : List ℕ} {R' : Rooms} {a : Answer} {st : St} → Kept l R₁ R' a st → Kept l R R' a st
  kept_over k =
      record {
        holds = k.holds;
        tree = k.tree ∙ cleared_exact tree_bytes R.tree R₁.tree e.tree f.tree;
        goals = k.goals ∙ cleared_exact goals_bytes R.goals R₁.goals e.goals f.goals;
        props = k.props ∙ cleared_exact props_bytes R.props R₁.props e.props f.props;
        work = k.work ∙ cleared_exact work_bytes R.work R₁.work e.work f.work;
      }

pub marked_over : (l : List ℕ) (R R₁ R' : Rooms) (m : Mark) → Exact R → Exact R₁ → (o : Out Answer) → MarkedAs l R₁ R' o m → MarkedAs l R R' o m
marked_over l R R₁ R' m e f (stop r) h = (h.0, emptied_over e f h.1)
marked_over l R R₁ R' m e f (ok a st) h = (h.0, kept_over e f h.1)

-- what the tests of a table answer, in a room that is long enough
pub verdict_is : (p : Purpose) (l work left : List ℕ) (v : Result ⊤ Refusal) → length work ≡ work_bytes → Tested p l work left v → v ≡ tests p l
unfolding unless
verdict_is p l work left v h t = t.verdict ∙ rw (le-leb test_room (length work) (omega arith))

pub tests_refuse : (l work left : List ℕ) (x : Refusal) → length work ≡ work_bytes → Tested Check l work left (Err x) → Refuses (table_run l) x
unfolding unless_refused
tests_refuse l work left x e t = ap (λ (v : Result ⊤ Refusal). unless_refused v (root_run l)) (sym (verdict_is Check l work left (Err x) e t))

pub tests_pass : (l work left : List ℕ) → length work ≡ work_bytes → Tested Check l work left (Ok tt) → Good Check l
tests_pass l work left e t = sym (verdict_is Check l work left (Ok tt) e t)

-- ROOMS OF ANY LENGTH
-- the first bytes of each, as many as are listed
abbrev pub firsts : Rooms → Rooms
firsts R = rooms (take tree_bytes R.tree) (take goals_bytes R.goals) (take props_bytes R.props) (take work_bytes R.work)

-- these bytes written, the others as before
abbrev pub followed : Rooms → Rooms → Rooms
followed S R = rooms (S.tree ++ drop tree_bytes R.tree) (S.goals ++ drop goals_bytes R.goals) (S.props ++ drop props_bytes R.props) (S.work ++ drop work_bytes R.work)

module _ (R : Rooms) (long : long_enough R ≡ true) where
  pub lengths : (tree_bytes ≤ length R.tree) × (goals_bytes ≤ length R.goals) × (props_bytes ≤ length R.props) × (work_bytes ≤ length R.work)
  unfolding long_enough
  lengths =
      let a = both_true (leb tree_bytes (length R.tree)) _ long in
      let b = both_true (leb goals_bytes (length R.goals)) _ a.1 in
      let c = both_true (leb props_bytes (length R.props)) (leb work_bytes (length R.work)) b.1 in
      (leb-true tree_bytes _ a.0, leb-true goals_bytes _ b.0, leb-true props_bytes _ c.0, leb-true work_bytes _ c.1)

  pub firsts_exact : Exact (firsts R)
  firsts_exact =
      record {
        tree = length-take-le tree_bytes R.tree lengths.0;
        goals = length-take-le goals_bytes R.goals lengths.1;
        props = length-take-le props_bytes R.props lengths.2;
        work = length-take-le work_bytes R.work lengths.3;
      }

module _ (tree goals ps work : List ℕ) (b : Bool) (is : b ≡ long_enough (rooms tree goals ps work)) where
  pub long_true : b ≡ true → long_enough (rooms tree goals ps work) ≡ true
  long_true h = sym is ∙ h

  pub long_false : b ≡ false → long_enough (rooms tree goals ps work) ≡ false
  long_false h = sym is ∙ h

  pub tree_long : b ≡ true → tree_bytes ≤ length tree
  tree_long h = (lengths (rooms tree goals ps work) (long_true h)).0

  pub goals_long : b ≡ true → goals_bytes ≤ length goals
  goals_long h = (lengths (rooms tree goals ps work) (long_true h)).1

  pub props_long : b ≡ true → props_bytes ≤ length ps
  props_long h = (lengths (rooms tree goals ps work) (long_true h)).2

  pub work_long : b ≡ true → work_bytes ≤ length work
  work_long h = (lengths (rooms tree goals ps work) (long_true h)).3

module _ (l : List ℕ) (R S : Rooms) (long : long_enough R ≡ true) where
  pub emptied_whole : Emptied (firsts R) S → Emptied R (followed S R)
  emptied_whole z =
      record {
        tree = ap (λ (t : List ℕ). t ++ drop tree_bytes R.tree) z.tree ∙ cleared_parts tree_bytes R.tree (lengths R long).0;
        goals = ap (λ (t : List ℕ). t ++ drop goals_bytes R.goals) z.goals ∙ cleared_parts goals_bytes R.goals (lengths R long).1;
        props = ap (λ (t : List ℕ). t ++ drop props_bytes R.props) z.props ∙ cleared_parts props_bytes R.props (lengths R long).2;
        work = ap (λ (t : List ℕ). t ++ drop work_bytes R.work) z.work ∙ cleared_parts work_bytes R.work (lengths R long).3;
      }

  pub kept_whole : {a : Answer} {st : St} → Kept l (firsts R) S a st → Kept l R (followed S R) a st
  kept_whole {a} {st} k =
      let h = k.holds in
      let t = length-append S.tree (drop tree_bytes R.tree) in
      let g = length-append S.goals (drop goals_bytes R.goals) in
      let p = length-append S.props (drop props_bytes R.props) in
      record {
        holds =
            holds_on S (followed S R) h
            (λ i x. same_record (16 * records a.tree) S.tree _ (λ j y. front_byte S.tree _ (16 * records a.tree) j h.tree_room y) i (omega arith))
            (λ i x. same_goal (8 * holes a.tree) S.goals _ (λ j y. front_byte S.goals _ (8 * holes a.tree) j h.goals_room y) i (omega arith))
            (λ i x. same_record (16 * (props l + st.made)) S.props _ (λ j y. front_byte S.props _ (16 * (props l + st.made)) j h.made.room y) i (omega arith))
            (omega arith) (omega arith) (omega arith);
        tree = cleared_front (16 * records a.tree) tree_bytes S.tree R.tree (lengths R long).0 h.tree_room k.tree;
        goals = cleared_front (8 * holes a.tree) goals_bytes S.goals R.goals (lengths R long).1 h.goals_room k.goals;
        props = cleared_front (16 * (props l + st.made)) props_bytes S.props R.props (lengths R long).2 h.made.room k.props;
        work = ap (λ (t : List ℕ). t ++ drop work_bytes R.work) k.work ∙ cleared_parts work_bytes R.work (lengths R long).3;
      }

module _ (l : List ℕ) (m : Mark) (R S : Rooms) (long : long_enough R ≡ true) where
  marked_whole : (o : Out Answer) → MarkedAs l (firsts R) S o m → MarkedAs l R (followed S R) o m
  marked_whole (stop r) h = (h.0, emptied_whole l R S long h.1)
  marked_whole (ok a st) h = (h.0, kept_whole l R S long h.1)

  pub marks_long : MarkedAs l (firsts R) S (table_run l) m → Marks l R (followed S R) m
  unfolding outcome
  marks_long h = subst⁻¹ (λ (b : Bool). MarkedAs l R (followed S R) (cond b (table_run l) (refused 1 0)) m) long (marked_whole (table_run l) h)

pub marks_short : (l : List ℕ) (R R' : Rooms) (x : Refusal) → long_enough R ≡ false → Emptied R R' → x ≡ refusal_at 1 0 → Marks l R R' (Err x)
unfolding outcome
marks_short l R R' x short z e = subst⁻¹ (λ (b : Bool). MarkedAs l R R' (cond b (table_run l) (refused 1 0)) (Err x)) short (ap Err e, z)

-- short rooms, told one by one
pub left_short : {t g p w t' g' p' w' : List ℕ} → t' ≡ t → g' ≡ g → p' ≡ p → w' ≡ w → (l : List ℕ) (R : Rooms) (m : Mark) → Marks l R (rooms t g p w) m → Marks l R (rooms t' g' p' w') m
left_short {t} {g} {p} {w} {t'} {g'} {p'} {w'} et eg ep ew l R m h =
    subst⁻¹ (λ (x : List ℕ). Marks l R (rooms x g' p' w') m) et
    (subst⁻¹ (λ (x : List ℕ). Marks l R (rooms t x p' w') m) eg
    (subst⁻¹ (λ (x : List ℕ). Marks l R (rooms t g x w') m) ep (subst⁻¹ (λ (x : List ℕ). Marks l R (rooms t g p x) m) ew h)))
