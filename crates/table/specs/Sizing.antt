-- How the code of test 6 keeps heights and depths: a byte of the work room for each record.
-- Assumes nothing.
use Rattle.std.specs.Prelude.{◌≡◌, List, ℕ, zero, suc, ◌<◌, max, length, get_or}
use Rattle.numbers.specs.declared.record.Record.{Record}
use Rattle.layout.specs.File.{prop_kind}
use Rattle.layout.specs.Form.{prop_shape}
use Rattle.table.specs.Links.{prop_links, hits}

-- the height of a record over those that the room holds of its children
unfoldable pub height_over : ℕ → Record → List ℕ → ℕ
height_over zero r w = 1
height_over (suc zero) r w = suc (get_or w r.c 0)
height_over (suc (suc k)) r w = suc (max (get_or w r.a 0) (get_or w r.b 0))

abbrev pub height_of : Record → List ℕ → ℕ
height_of r w = height_over (prop_shape (prop_kind r.kind)).children r w

-- the children's heights are in the room, and leave room for one more
abbrev pub ChildrenHigh : Record → List ℕ → Type 0
ChildrenHigh r w = (m : ℕ) → 0 < hits m (prop_links r) → (m < length w) × (get_or w m 0 < 255)

-- the room has a byte for every term that is named
abbrev pub Within : (ℕ → ℕ) → List ℕ → Type 0
Within named w = (t : ℕ) → 0 < named t → t < length w

-- every term that is named stands at depth d, the others where they stood
pub record Deepened (named : ℕ → ℕ) (d : ℕ) (old new : List ℕ) : Type 0 where
  pub size : length new ≡ length old
  pub here : (t : ℕ) → 0 < named t → get_or new t 0 ≡ d
  pub others : (t : ℕ) → named t ≡ 0 → get_or new t 0 ≡ get_or old t 0
