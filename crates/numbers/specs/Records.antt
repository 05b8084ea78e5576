-- 16-bit numbers and 16-byte records in a list of bytes.
-- Assumes nothing.
use Rattle.std.specs.Prelude.{◌≡◌, List, [], ◌∷◌, ℕ, ◌+◌, ◌*◌, ◌/◌, ◌%◌, ◌<◌, length, get_or, set}
use Rattle.numbers.specs.declared.record.Record.{Record}

-- the 16-bit number, low byte first
abbrev pub word_at : List ℕ → ℕ → ℕ
word_at l i = get_or l i 0 + 256 * get_or l (i + 1) 0

abbrev pub put_word : List ℕ → ℕ → ℕ → List ℕ
put_word l i v = set (set l i (v % 256)) (i + 1) (v / 256)

-- the record at number n; past the list's end its fields are 0
unfoldable pub record_at : List ℕ → ℕ → Record
record_at l n =
    record {
      kind = get_or l (16 * n) 0;
      count = get_or l (16 * n + 1) 0;
      a = word_at l (16 * n + 2);
      b = word_at l (16 * n + 4);
      c = word_at l (16 * n + 6);
      parameters = word_at l (16 * n + 8) ∷ word_at l (16 * n + 10) ∷ word_at l (16 * n + 12) ∷ word_at l (16 * n + 14) ∷ [];
    }

-- `new` is `old` with the record r at number n
pub record Put (old : List ℕ) (n : ℕ) (r : Record) (new : List ℕ) : Type 0 where
  pub here : record_at new n ≡ r
  pub size : length new ≡ length old
  pub others : (m : ℕ) → (m ≡ n → ⊥) → record_at new m ≡ record_at old m

-- the records below number n are the same
abbrev pub Same : ℕ → List ℕ → List ℕ → Type 0
Same n old new = (m : ℕ) → m < n → record_at new m ≡ record_at old m
