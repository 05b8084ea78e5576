-- Laws of the counts, of the tree's records and of the goals; and the loop of `shift`. Assumes nothing.
use mathlib.Core.Path.{◌≡◌, refl, ap, sym, ◌∙◌}
use mathlib.Core.List.{List}
use mathlib.Core.Logic.{◌⊎◌, inl, inr}
use Prim.Native.Nat.{ℕ, ◌+◌, ◌-◌, ◌*◌, ◌<◌, ◌≤◌}
use native.Mathlib.Omega.{arith}
use native.Mathlib.Nat.{eq-or-lt_of_le}
use lib.ListN.{length, length-set}
use Rattle.numbers.specs.declared.Term.{Term}
use Rattle.numbers.specs.declared.Proposition.{Proposition as Number}
use Rattle.numbers.specs.declared.Sort.{Sort}
use Rattle.numbers.specs.declared.Sort.TheVariants.{Proposition, Datatype}
use Rattle.numbers.specs.declared.record.Record.{Record}
use Rattle.numbers.specs.Records.{word_at, put_word, record_at, Put}
use Rattle.numbers.proofs.Records.{word_far, word_same}
use Rattle.layout.specs.declared.record.TermRecord.{TermRecord}
use Rattle.layout.specs.File.{props, as_term, term_record}
use Rattle.step.specs.declared.node.Goal.{Goal}
use Rattle.step.specs.Shift.{Shifted}
use Rattle.step.specs.Trees.{node_rec, as_node, goal_at, PutGoal}

-- A TERM'S RECORD, behind the table's propositions
pub term_is : (l : List ℕ) (p k : ℕ) (r : TermRecord) → p ≡ props l → r ≡ as_term (record_at l (p + k + 1)) → r ≡ term_record l k
term_is l p k r e h = h ∙ ap (λ (p : ℕ). as_term (record_at l (p + k + 1))) e

-- RECORDS of the tree and of the goals
-- `node_at` reads back what `node` said
pub node_back : (rule k i j n : ℕ) (T : Sort)
    → as_node (node_rec rule k T i j n) ≡ record { rule = rule; term = record { 0 = k }; conclusion = T; first = record { 0 = i }; second = record { 0 = j }; premises = n }
node_back rule k i j n (Proposition p) = refl
node_back rule k i j n (Datatype d) = refl

-- a goal is what its four words say
goal_words : (w : List ℕ) (n : ℕ) (g : Goal) → word_at w (8 * n) ≡ g.term.0 → word_at w (8 * n + 2) ≡ g.proposition.0 → word_at w (8 * n + 4) ≡ g.context → word_at w (8 * n + 6) ≡ g.zero → goal_at w n ≡ g
unfolding goal_at
goal_words w n g t p c z i = record { term = record { 0 = t i }; proposition = record { 0 = p i }; context = c i; zero = z i }

pub goal_is : (w : List ℕ) (n m c z : ℕ) (t : Term) (p : Number) → m ≡ n → t.0 ≡ word_at w (8 * m) → p.0 ≡ word_at w (8 * m + 2) → c ≡ word_at w (8 * m + 4) → z ≡ word_at w (8 * m + 6)
    → record { term = t; proposition = p; context = c; zero = z } ≡ goal_at w n
goal_is w n m c z t p e et ep ec ez = sym (goal_words w m _ (sym et) (sym ep) (sym ec) (sym ez)) ∙ ap (goal_at w) e

-- the room after the four stores of `put_goal`, store by store
abbrev stored₁ : List ℕ → ℕ → Goal → List ℕ
stored₁ w n g = put_word w (8 * n) g.term.0

abbrev stored₂ : List ℕ → ℕ → Goal → List ℕ
stored₂ w n g = put_word (stored₁ w n g) (8 * n + 2) g.proposition.0

abbrev stored₃ : List ℕ → ℕ → Goal → List ℕ
stored₃ w n g = put_word (stored₂ w n g) (8 * n + 4) g.context

abbrev put_goal : List ℕ → ℕ → Goal → List ℕ
put_goal w n g = put_word (stored₃ w n g) (8 * n + 6) g.zero

module _ (w : List ℕ) (n : ℕ) (g : Goal) where
  -- a word outside its eight bytes is as it was
  word_outside : (j : ℕ) → (8 * n ≤ j + 1 → j < 8 * n + 8 → ⊥) → word_at (put_goal w n g) j ≡ word_at w j
  word_outside j h =
      let no : (o : ℕ) → o ≤ 6 → (j ≡ 8 * n + o → ⊥) × (j ≡ 8 * n + o + 1 → ⊥) × (j + 1 ≡ 8 * n + o → ⊥) =
      λ o l. (λ e. h (omega arith) (omega arith), λ e. h (omega arith) (omega arith), λ e. h (omega arith) (omega arith)) in
      word_far (stored₃ w n g) (8 * n + 6) g.zero j (no 6 (omega arith)).0 (no 6 (omega arith)).1 (no 6 (omega arith)).2
      ∙ word_far (stored₂ w n g) (8 * n + 4) g.context j (no 4 (omega arith)).0 (no 4 (omega arith)).1 (no 4 (omega arith)).2
      ∙ word_far (stored₁ w n g) (8 * n + 2) g.proposition.0 j (no 2 (omega arith)).0 (no 2 (omega arith)).1 (no 2 (omega arith)).2
      ∙ word_far w (8 * n) g.term.0 j (λ e. h (omega arith) (omega arith)) (λ e. h (omega arith) (omega arith)) (λ e. h (omega arith) (omega arith))

  other_goal : (m : ℕ) → (m ≡ n → ⊥) → goal_at (put_goal w n g) m ≡ goal_at w m
  unfolding goal_at
  other_goal m d =
      goal_words (put_goal w n g) m (goal_at w m)
      (word_outside (8 * m) (λ a b. d (omega arith)))
      (word_outside (8 * m + 2) (λ a b. d (omega arith)))
      (word_outside (8 * m + 4) (λ a b. d (omega arith)))
      (word_outside (8 * m + 6) (λ a b. d (omega arith)))

  goal_here : 8 * n + 8 ≤ length w → goal_at (put_goal w n g) n ≡ g
  goal_here h =
      let i = 8 * n in
      let w₁ : List ℕ = stored₁ w n g in
      let w₂ : List ℕ = stored₂ w n g in
      let w₃ : List ℕ = stored₃ w n g in
      let s₁ : length w₁ ≡ length w = simp length-set in
      let s₂ : length w₂ ≡ length w = simp length-set in
      let s₃ : length w₃ ≡ length w = simp length-set in
      goal_words (put_goal w n g) n g
      (word_far w₃ (i + 6) g.zero i (omega arith) (omega arith) (omega arith)
      ∙ word_far w₂ (i + 4) g.context i (omega arith) (omega arith) (omega arith)
      ∙ word_far w₁ (i + 2) g.proposition.0 i (omega arith) (omega arith) (omega arith)
      ∙ word_same w i g.term.0 (omega arith))
      (word_far w₃ (i + 6) g.zero (i + 2) (omega arith) (omega arith) (omega arith)
      ∙ word_far w₂ (i + 4) g.context (i + 2) (omega arith) (omega arith) (omega arith)
      ∙ word_same w₁ (i + 2) g.proposition.0 (omega arith))
      (word_far w₃ (i + 6) g.zero (i + 4) (omega arith) (omega arith) (omega arith)
      ∙ word_same w₂ (i + 4) g.context (omega arith))
      (word_same w₃ (i + 6) g.zero (omega arith))

  put_is : 8 * n + 8 ≤ length w → PutGoal w n g (put_goal w n g)
  put_is h = record { here = goal_here h; size = simp length-set; others = other_goal }

-- the same with a name for the room after each store, as `put_goal` has them
pub goal_put : (w w₁ w₂ w₃ w₄ : List ℕ) (n m : ℕ) (g : Goal) → m ≡ n → 8 * n + 8 ≤ length w → w₁ ≡ put_word w (8 * m) g.term.0 → w₂ ≡ put_word w₁ (8 * m + 2) g.proposition.0 → w₃ ≡ put_word w₂ (8 * m + 4) g.context → w₄ ≡ put_word w₃ (8 * m + 6) g.zero → PutGoal w n g w₄
goal_put w w₁ w₂ w₃ w₄ n m g e h q₁ q₂ q₃ q₄ = let q : w₄ ≡ put_goal w m g = cc in rw (q, e) (put_is w n g h)

-- THE LOOP OF `shift`: the records from i up have moved, the last first
pub record Moving (old : List ℕ) (low high i : ℕ) (new : List ℕ) : Type 0 where
  pub size : length new ≡ length old
  pub least : low ≤ i
  pub most : i ≤ high
  pub room : 16 * high + 16 ≤ length new
  pub kept : (m : ℕ) → m ≤ i → record_at new m ≡ record_at old m
  pub moved : (m : ℕ) → i ≤ m → m < high → record_at new (m + 1) ≡ record_at old m

pub moving_none : (t : List ℕ) (low high : ℕ) → low ≤ high → 16 * high + 16 ≤ length t → Moving t low high high t
moving_none t low high h r =
    record { size = refl; least = h; most = omega arith; room = r; kept = λ m l. refl; moved = λ m l k. absurd (omega arith) }

module _ (old : List ℕ) (low high i : ℕ) (t : List ℕ) (s : Moving old low high i t) where
  pub moving_read : low < i → 16 * (i - 1) + 16 ≤ length t
  moving_read h = omega (arith, s.most, s.room)

  pub moving_write : low < i → 16 * (i - 1 + 1) + 16 ≤ length t
  moving_write h = omega (arith, s.most, s.room)

  pub moving_more : (u : List ℕ) (r : Record) → low < i → r ≡ record_at t (i - 1) → Put t (i - 1 + 1) r u → Moving old low high (i - 1) u
  moving_more u r l er put =
      record {
        size = put.size ∙ s.size;
        least = omega arith;
        most = omega (arith, s.most);
        room = omega (arith, s.room, put.size);
        kept = λ m h. put.others m (omega arith) ∙ s.kept m (omega arith);
        moved = λ m h k. go m k (eq-or-lt_of_le h);
      }
    where
      next : (m : ℕ) → i - 1 ≡ m → m + 1 ≡ i - 1 + 1
      next m e = omega arith

      go : (m : ℕ) → m < high → (i - 1 ≡ m) ⊎ (i - 1 < m) → record_at u (m + 1) ≡ record_at old m
      go m k (inl e) = ap (record_at u) (next m e) ∙ put.here ∙ er ∙ s.kept (i - 1) (omega arith) ∙ ap (record_at old) e
      go m k (inr h) = put.others (m + 1) (omega arith) ∙ s.moved m (omega arith) k

  pub moving_done : i ≤ low → Shifted low high old t
  moving_done h =
      record { size = s.size; moved = λ m l k. s.moved m (omega (arith, s.least)) k; below = λ m l. s.kept m (omega (arith, s.least)) }
