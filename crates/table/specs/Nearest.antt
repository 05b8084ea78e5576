-- The nearest quantifier above a proposition record, and how the work room holds it: two bytes for each record.
-- Assumes nothing.
use Rattle.std.specs.Prelude.{◌≡◌, Bool, true, cond, List, ℕ, zero, suc, ◌+◌, ◌*◌, ◌<◌, length, eqb, Option, Some, None}
use Rattle.numbers.specs.declared.record.Record.{Record}
use Rattle.numbers.specs.Limits.{none}
use Rattle.numbers.specs.Records.{word_at}
use Rattle.rules.specs.Prop.{Param, free, bound}
use Rattle.layout.specs.File.{props, prop_record, PropKind, constant, linked, quantified, atomic, strange, prop_kind}
use Rattle.layout.specs.Form.{prop_shape}
use Rattle.table.specs.Links.{prop_links, hits}
use Rattle.table.specs.Reading.{parent}

unfoldable pub nearer : PropKind → ℕ → Option ℕ → Option ℕ
nearer (constant b) n g = g
nearer (linked h) n g = g
nearer (quantified q) n g = Some n
nearer atomic n g = g
nearer strange n g = g

unfoldable pub nearest_above : List ℕ → Option ℕ → (ℕ → Option ℕ) → Option ℕ
nearest_above l None up = None
nearest_above l (Some p) up = nearer (prop_kind (prop_record l p).kind) p (up p)

unfoldable pub nearest_within : ℕ → List ℕ → ℕ → Option ℕ
nearest_within zero l n = None
nearest_within (suc f) l n = nearest_above l (parent l n) (nearest_within f l)

unfoldable pub nearest : List ℕ → ℕ → Option ℕ
nearest l n = nearest_within (props l) l n

-- the room holds its number, or none
abbrev pub marked : Option ℕ → ℕ
marked None = none
marked (Some q) = q

abbrev pub Above : List ℕ → List ℕ → Type 0
Above l w = (n : ℕ) → n < props l → word_at w (2 * n) ≡ marked (nearest l n)

-- what the code answers of a name x
abbrev pub param_of : ℕ → Option ℕ → Param
param_of x None = free x
param_of x (Some k) = bound k

-- HOW THE ROOM IS WRITTEN. Nothing above any of p records yet
pub record Vacant (p : ℕ) (old new : List ℕ) : Type 0 where
  pub size : length new ≡ length old
  pub each : (n : ℕ) → n < p → word_at new (2 * n) ≡ none

-- q above the record m, if the link is used; the other records' words stay
pub record Noted (used : Bool) (m q : ℕ) (old new : List ℕ) : Type 0 where
  pub size : length new ≡ length old
  pub here : used ≡ true → word_at new (2 * m) ≡ q
  pub others : (n : ℕ) → (used ≡ true → n ≡ m → ⊥) → word_at new (2 * n) ≡ word_at old (2 * n)

-- record r's children have their words in the room, and so has r, which is number n
pub record ChildrenFit (r : Record) (n : ℕ) (w : List ℕ) : Type 0 where
  pub self : 2 * n + 1 < length w
  pub child : (m : ℕ) → 0 < hits m (prop_links r) → 2 * m + 1 < length w

-- above each child: n for a quantifier, else what r has above it
pub record ChildrenNoted (r : Record) (n : ℕ) (old new : List ℕ) : Type 0 where
  pub size : length new ≡ length old
  pub child : (m : ℕ) → 0 < hits m (prop_links r)
      → word_at new (2 * m) ≡ cond (eqb (prop_shape (prop_kind r.kind)).children 1) n (word_at old (2 * n))
  pub others : (m : ℕ) → hits m (prop_links r) ≡ 0 → word_at new (2 * m) ≡ word_at old (2 * m)
