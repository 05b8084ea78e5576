-- How the code of test 5 counts names: a byte for each record, 0 or 1, or 2 for more.
-- Assumes nothing.
use Rattle.std.specs.Prelude.{◌≡◌, Bool, cond, List, [], ◌∷◌, ℕ, ◌+◌, ◌<◌, ◌≤◌, min, length, get_or}
use Rattle.table.specs.declared.Purpose.{Purpose}
use Rattle.layout.specs.File.{props, terms}
use Rattle.table.specs.Links.{hits, prop_named, term_named}

-- from byte `base` on the room shows how often each of `bound` records was named
abbrev pub Shows : (base bound : ℕ) → (ℕ → ℕ) → List ℕ → Type 0
Shows base bound f w = (j : ℕ) → j < bound → get_or w (base + j) 0 ≡ min 2 (f j)

-- record j was named `more j` times in between; other bytes stayed
pub record Names (base bound : ℕ) (more : ℕ → ℕ) (old new : List ℕ) : Type 0 where
  pub size : length new ≡ length old
  pub shows : (f : ℕ → ℕ) → Shows base bound f old → Shows base bound (λ j. f j + more j) new
  pub others : (i : ℕ) → (base ≤ i → i < base + bound → ⊥) → get_or new i 0 ≡ get_or old i 0

-- how often a link that may be unused names record j
abbrev pub used_hits : Bool → ℕ → ℕ → ℕ
used_hits used m j = cond used (hits j (m ∷ [])) 0

-- the room shows every count
pub record NamesShown (p : Purpose) (l w : List ℕ) : Type 0 where
  pub prop : Shows 0 (props l) (prop_named p l) w
  pub term : Shows (props l) (terms l) (term_named l) w
