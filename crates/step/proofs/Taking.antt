-- The functions of a goal's picture: the loop that copies entries, and what the head's stores and words are. Assumes nothing.
use mathlib.Core.Path.{◌≡◌, refl, ap, ap₂, sym, subst, ◌∙◌}
use mathlib.Core.List.{List}
use mathlib.Core.Logic.{◌⊎◌, inl, inr}
use Prim.Native.Nat.{ℕ, ◌+◌, ◌*◌, ◌/◌, ◌%◌, ◌<◌, ◌≤◌}
use native.Mathlib.Nat.{eq-or-lt_of_le}
use native.Mathlib.Omega.{arith}
use lib.ListN.{length, get_or, set}
use lib.Seq.{get_or-set_other}
use Rattle.numbers.specs.declared.Sort.{Sort}
use Rattle.numbers.specs.Limits.{none}
use Rattle.numbers.specs.Records.{word_at, put_word}
use Rattle.numbers.proofs.Records.{length_word, word_far, word_same}
use Rattle.context.specs.declared.identifier_context.Entry.{Entry}
use Rattle.context.specs.Context.{most_entries, context_room, entry_at, Inserted}
use Rattle.context.proofs.Laws.{entry_kept}
use Rattle.step.specs.declared.state.State.{State}
use Rattle.step.specs.Rooms.{first_pictured, run_room, starting}
use Rattle.step.specs.Picture.{serials_at, made_at, length_at, type_entry, pictured_state, pictured_type, pictured_at, Copied, Taken}

byte_far : (l : List ℕ) (i v j : ℕ) → (i ≤ j → j < i + 2 → ⊥) → get_or (put_word l i v) j 0 ≡ get_or l j 0
byte_far l i v j h =
    get_or-set_other (set l i (v % 256)) (i + 1) j (v / 256) 0 (λ e. h (omega arith) (omega arith))
    ∙ get_or-set_other l i j (v % 256) 0 (λ e. h (omega arith) (omega arith))

-- COPYING, one entry after the other
abbrev pub Apart : (from to n : ℕ) → Type 0
Apart from to n = (from + n ≤ to) ⊎ (to + n ≤ from)

pub copied_none : (w : List ℕ) (from to : ℕ) → Copied w from to 0 w
copied_none w from to = record { size = refl; entries = λ i h. absurd (omega arith); outside = λ i h. refl }

module _ (old : List ℕ) (from to n i : ℕ) (w : List ℕ) (apart : Apart from to n) (few : i < n) (c : Copied old from to i w) where
  pub copied_read : 8 * (from + n) ≤ length old → 8 * (from + i) + 8 ≤ length w
  copied_read h = omega (arith, c.size)

  pub copied_write : 8 * (to + n) ≤ length old → 8 * (to + i) + 8 ≤ length w
  copied_write h = omega (arith, c.size)

  -- what is read is as it was before the first
  unread : Apart from to n → (j : ℕ) → 8 * (from + i) ≤ j → j < 8 * (from + i) + 8 → 8 * to ≤ j → j < 8 * (to + i) → ⊥
  unread (inl h) j lo hi lo' hi' = absurd (omega arith)
  unread (inr h) j lo hi lo' hi' = absurd (omega arith)

  pub copied_more : (e : Entry) (new : List ℕ) → e ≡ entry_at w (from + i) → Inserted w (to + i) e new → Copied old from to (i + 1) new
  copied_more e new read ins =
      record {
        size = ins.size ∙ c.size;
        entries = λ j h. at j (eq-or-lt_of_le (omega arith));
        outside = λ j h. ins.outside j (λ lo hi. h (omega arith) (omega arith)) ∙ c.outside j (λ lo hi. h lo (omega arith));
      }
    where
      at : (j : ℕ) → (j ≡ i) ⊎ (j < i) → entry_at new (to + j) ≡ entry_at old (from + j)
      at j (inl q) =
          ap (λ (j : ℕ). entry_at new (to + j)) q
          ∙ ins.here
          ∙ read
          ∙ entry_kept old w (from + i) (λ k lo hi. c.outside k (unread apart k lo hi))
          ∙ ap (λ (j : ℕ). entry_at old (from + j)) (sym q)
      at j (inr h) = ins.others (to + j) (omega arith) ∙ c.entries j h

-- TAKING: the three counts, the type and the entries, with a name for the room after each
module _ (w w₁ w₂ w₃ w₄ w₅ : List ℕ) (T : Sort) (st : State) (e : Entry) (room : run_room ≤ length w) (few : st.context ≤ most_entries) (q₁ : w₁ ≡ put_word w serials_at st.serials)
    (q₂ : w₂ ≡ put_word w₁ made_at st.made) (q₃ : w₃ ≡ put_word w₂ length_at st.context) (ins : Inserted w₃ type_entry e w₄) (typ : e.typ ≡ T)
    (copied : Copied w₄ 0 first_pictured st.context w₅) where
  size₁ : length w₁ ≡ length w
  size₁ = ap length q₁ ∙ length_word w serials_at st.serials

  size₂ : length w₂ ≡ length w
  size₂ = ap length q₂ ∙ length_word w₁ made_at st.made ∙ size₁

  size₃ : length w₃ ≡ length w
  size₃ = ap length q₃ ∙ length_word w₂ length_at st.context ∙ size₂

  -- the head's counts are not written again
  late : (j : ℕ) → j < context_room + 8 → get_or w₅ j 0 ≡ get_or w₃ j 0
  late j h = copied.outside j (λ lo hi. absurd (omega arith)) ∙ ins.outside j (λ lo hi. absurd (omega arith))

  late_word : (j : ℕ) → j < context_room + 7 → word_at w₅ j ≡ word_at w₃ j
  late_word j h = ap₂ (λ (a b : ℕ). a + 256 * b) (late j (omega arith)) (late (j + 1) (omega arith))

  word₃ : (j : ℕ) → j + 1 < length_at → word_at w₃ j ≡ word_at w₂ j
  word₃ j h = ap (λ (w : List ℕ). word_at w j) q₃ ∙ word_far w₂ length_at st.context j (omega arith) (omega arith) (omega arith)

  word₂ : (j : ℕ) → j + 1 < made_at → word_at w₂ j ≡ word_at w₁ j
  word₂ j h = ap (λ (w : List ℕ). word_at w j) q₂ ∙ word_far w₁ made_at st.made j (omega arith) (omega arith) (omega arith)

  takes_state : pictured_state w₅ ≡ starting st
  unfolding pictured_state
  takes_state =
      let a : word_at w₅ serials_at ≡ st.serials =
      late_word serials_at (omega arith)
      ∙ word₃ serials_at (omega arith)
      ∙ word₂ serials_at (omega arith)
      ∙ ap (λ (w : List ℕ). word_at w serials_at) q₁
      ∙ word_same w serials_at st.serials (omega arith) in
      let b : word_at w₅ made_at ≡ st.made =
      late_word made_at (omega arith)
      ∙ word₃ made_at (omega arith)
      ∙ ap (λ (w : List ℕ). word_at w made_at) q₂
      ∙ word_same w₁ made_at st.made (omega (arith, size₁)) in
      let c : word_at w₅ length_at ≡ st.context =
      late_word length_at (omega arith)
      ∙ ap (λ (w : List ℕ). word_at w length_at) q₃
      ∙ word_same w₂ length_at st.context (omega (arith, size₂)) in
      λ i. record { records = 0; goals = 0; serials = a i; made = b i; context = c i; asked = none }

  takes_type : pictured_type w₅ ≡ T
  unfolding pictured_type
  takes_type =
      ap (λ (e : Entry). e.typ) (entry_kept w₄ w₅ type_entry (λ j lo hi. copied.outside j (λ a b. absurd (omega arith))) ∙ ins.here) ∙ typ

  -- the context's entries stay
  before : (j : ℕ) → j < context_room → get_or w₄ j 0 ≡ get_or w j 0
  before j h =
      ins.outside j (λ lo hi. absurd (omega arith))
      ∙ ap (λ (w : List ℕ). get_or w j 0) q₃
      ∙ byte_far w₂ length_at st.context j (λ lo hi. absurd (omega arith))
      ∙ ap (λ (w : List ℕ). get_or w j 0) q₂
      ∙ byte_far w₁ made_at st.made j (λ lo hi. absurd (omega arith))
      ∙ ap (λ (w : List ℕ). get_or w j 0) q₁
      ∙ byte_far w serials_at st.serials j (λ lo hi. absurd (omega arith))

  takes_entries : (i : ℕ) → i < st.context → pictured_at w₅ i ≡ entry_at w i
  unfolding pictured_at
  takes_entries i h =
      let z : 0 + i ≡ i = omega arith in
      copied.entries i h ∙ ap (entry_at w₄) z ∙ entry_kept w w₄ i (λ j lo hi. before j (omega arith))

  pub takes : Taken w T st w₅
  takes =
      record {
        state = takes_state;
        wanted = takes_type;
        entries = takes_entries;
        size = copied.size ∙ ins.size ∙ size₃;
        below = λ j h. copied.outside j (λ lo hi. absurd (omega arith)) ∙ before j h;
      }

-- RECALLING: the words of the head
pub recalls_type : (w : List ℕ) (e : Entry) → e ≡ entry_at w type_entry → e.typ ≡ pictured_type w
unfolding pictured_type
recalls_type w e q = ap (λ (e : Entry). e.typ) q

pub recalls_state : (w : List ℕ) (a b c : ℕ) → a ≡ word_at w serials_at → b ≡ word_at w made_at → c ≡ word_at w length_at
    → record { records = 0; goals = 0; serials = a; made = b; context = c; asked = none } ≡ pictured_state w
unfolding pictured_state
recalls_state w a b c qa qb qc i = record { records = 0; goals = 0; serials = qa i; made = qb i; context = qc i; asked = none }

module _ (w : List ℕ) (c : ℕ) (qc : c ≡ word_at w length_at) where
  recalls_length : c ≡ (pictured_state w).context
  unfolding pictured_state
  recalls_length = qc

  pub recalls_few : (pictured_state w).context ≤ most_entries → c ≤ most_entries
  recalls_few h = omega (arith, recalls_length)

  pub recalls_entries : (new : List ℕ) → Copied w first_pictured 0 c new → Copied w first_pictured 0 (pictured_state w).context new
  recalls_entries new h = subst (λ (n : ℕ). Copied w first_pictured 0 n new) recalls_length h
