-- Document 01, "Tree, goals, filling": a table's propositions at the front of their room, each record as in the file, but that an atom says
-- which of its names are bound and by what. Assumes nothing.
use Rattle.std.specs.Prelude.{◌≡◌, List, ℕ, ◌<◌, ◌≤◌, length}
use Rattle.numbers.specs.declared.record.Record.{Record}
use Rattle.numbers.specs.Records.{record_at}
use Rattle.rules.specs.Prop.{Param, free, ser, bound}
use Rattle.layout.specs.File.{props, prop_record, PropKind, constant, linked, quantified, atomic, strange, prop_kind}
use Rattle.table.specs.Reading.{binders, settled, prop_at}
use Rattle.prop.specs.declared.atom.Parameter.{Parameter}
use Rattle.prop.specs.Room.{room_at, Arena}
use Rattle.prop.specs.Atom.{parameter_at, becomes, with_parameters}

-- A PARAMETER of record n: a name is settled. (A table has no others.)
unfoldable pub named : List ℕ → ℕ → Param → Param
named l n (free x) = settled x 0 (binders l n)
named l n (ser i) = ser i
named l n (bound k) = bound k

-- AN ATOM r, which is record n
abbrev pub loaded_at : List ℕ → ℕ → Record → ℕ → Parameter
loaded_at l n r i = becomes (named l n) (parameter_at r i)

abbrev pub loaded_atom : List ℕ → ℕ → Record → Record
loaded_atom l n r = with_parameters r (loaded_at l n r 0) (loaded_at l n r 1) (loaded_at l n r 2) (loaded_at l n r 3)

-- A RECORD of the table, in the room
unfoldable pub loaded_as : List ℕ → ℕ → PropKind → Record → Record
loaded_as l n (constant b) r = r
loaded_as l n (linked h) r = r
loaded_as l n (quantified q) r = r
loaded_as l n atomic r = loaded_atom l n r
loaded_as l n strange r = r

abbrev pub loaded_from : List ℕ → ℕ → Record → Record
loaded_from l n r = loaded_as l n (prop_kind r.kind) r

abbrev pub loaded_record : List ℕ → ℕ → Record
loaded_record l n = loaded_from l n (prop_record l n)

-- THE ROOM: the table's first c records are there, and nothing else is written
pub record Loading (l : List ℕ) (c : ℕ) (old new : List ℕ) : Type 0 where
  pub records : (n : ℕ) → n < c → record_at new n ≡ loaded_record l n
  pub others : (m : ℕ) → c ≤ m → record_at new m ≡ record_at old m
  pub size : length new ≡ length old

-- all of them, and each stands for what it stands for in the table
pub record Loaded (l old new : List ℕ) : Type 0 where
  pub all : Loading l (props l) old new
  pub arena : Arena new (props l)
  pub means : (n : ℕ) → n < props l → room_at (props l) new n ≡ prop_at l n
