-- Document 01, "The rules" (lookup begins with the entry that came last) and "The shape of each place" (an entry holds its type): the
-- entries that bytes hold, and the context of the rules that they stand for.
-- Assumes nothing.
use Rattle.std.specs.Prelude.{◌≡◌, List, [], ◌∷◌, ℕ, zero, suc, ◌+◌, ◌*◌, ◌<◌, ◌≤◌, length, get_or, Option as Optional, Some, None}
use Rattle.std.proofs.Math.Option.{Option, none, some}
use Rattle.numbers.specs.declared.Sort.{Sort}
use Rattle.numbers.specs.declared.Sort.TheVariants.{Proposition, Datatype}
use Rattle.numbers.specs.Limits.{most_terms}
use Rattle.numbers.specs.Records.{word_at}
use Rattle.rules.specs.Prop.{Ty}
use Rattle.rules.specs.Context.{Entry as Hypothesis, Ctx, entry, find}
use Rattle.context.specs.declared.identifier_context.Entry.{Entry}

-- the code's LIMIT and ROOM: no term enters more than two, and an entry takes eight bytes
abbrev pub most_entries : ℕ
most_entries = 2 * most_terms

abbrev pub context_room : ℕ
context_room = 8 * most_entries

-- TYPES are kept as two numbers: a tag, 0 for a proposition and 1 for a datatype, and the number itself
abbrev pub tag_of : Sort → ℕ
tag_of (Proposition p) = 0
tag_of (Datatype d) = 1

abbrev pub number_of : Sort → ℕ
number_of (Proposition p) = p.0
number_of (Datatype d) = d.0

abbrev pub sort_of : ℕ → ℕ → Sort
sort_of zero n = Proposition (record { 0 = n })
sort_of (suc t) n = Datatype (record { 0 = n })

-- ENTRIES. Entry i of any bytes: name, serial, tag and number, 16 bits each
unfoldable pub entry_at : List ℕ → ℕ → Entry
entry_at w i =
    record {
      name = record { 0 = word_at w (8 * i) };
      serial = record { 0 = word_at w (8 * i + 2) };
      typ = sort_of (word_at w (8 * i + 4)) (word_at w (8 * i + 6));
    }

-- the first n entries are the same
abbrev pub SameEntries : ℕ → List ℕ → List ℕ → Type 0
SameEntries n old new = (i : ℕ) → i < n → entry_at new i ≡ entry_at old i

-- `new` is `old` with the entry e at number n: no other entry changed, and no byte outside its eight
pub record Inserted (old : List ℕ) (n : ℕ) (e : Entry) (new : List ℕ) : Type 0 where
  pub here : entry_at new n ≡ e
  pub size : length new ≡ length old
  pub others : (m : ℕ) → (m ≡ n → ⊥) → entry_at new m ≡ entry_at old m
  pub outside : (i : ℕ) → (8 * n ≤ i → i < 8 * n + 8 → ⊥) → get_or new i 0 ≡ get_or old i 0

-- THE CONTEXT. What an entry is to the rules. f says what a type stands for, since a proposition's number is read in another room
abbrev pub stands : (Sort → Ty) → Entry → Hypothesis
stands f e = entry e.name.0 e.serial.0 (f e.typ)

-- the first n entries, the latest first
unfoldable pub ctx_at : (Sort → Ty) → List ℕ → ℕ → Ctx
ctx_at f w zero = []
ctx_at f w (suc n) = stands f (entry_at w n) ∷ ctx_at f w n

-- what an answer is to the rules
abbrev pub found : (Sort → Ty) → Optional Entry → Option Hypothesis
found f (Some e) = some (stands f e)
found f None = none

-- what is held is one of the first n entries
abbrev pub Among : List ℕ → ℕ → Optional Entry → Type 0
Among w n (Some e) = (i : ℕ) × (i < n) × (e ≡ entry_at w i)
Among w n None = Unit {0}

-- the answer r for the name x is what the rules find, whatever types stand for
pub record Latest (w : List ℕ) (n x : ℕ) (r : Optional Entry) : Type 0 where
  pub finds : (f : Sort → Ty) → found f r ≡ find x (ctx_at f w n)
  pub among : Among w n r
