-- Document 01, "Tree, goals, filling": the propositions room. First come the table's records, behind them those that a run made; in an atom, b now says
-- of what kind each parameter is. What a record number stands for, and what a room is whose first c records are propositions.
-- Assumes nothing.
use Rattle.std.specs.Prelude.{◌≡◌, Bool, true, false, ◌&&◌, cond, List, [], ◌∷◌, ℕ, zero, suc, ◌*◌, ◌/◌, ◌%◌, ◌^◌, ◌<◌, ◌≤◌, length, get_or, take, ltb}
use Rattle.numbers.specs.declared.Sort.{Sort}
use Rattle.numbers.specs.declared.Sort.TheVariants.{Proposition, Datatype}
use Rattle.numbers.specs.declared.record.Record.{Record}
use Rattle.numbers.specs.Records.{record_at}
use Rattle.rules.specs.Prop.{Param, free, ser, bound, Origin, table, made, Prop, const, link, quant, atom, Ty, prop, datatype}
use Rattle.layout.specs.File.{PropKind, constant, linked, quantified, atomic, strange, prop_kind}
use Rattle.layout.specs.Form.{prop_form}
use Rattle.table.specs.Links.{all_links, prop_links}

-- PARAMETERS: kinds 0 free name, 1 serial, 2 bound, two bits each, the first lowest
unfoldable pub param : ℕ → ℕ → Param
param zero x = free x
param (suc zero) x = ser x
param (suc (suc k)) x = bound x

abbrev pub kind_0 : ℕ → ℕ
kind_0 b = b % 4

abbrev pub kind_1 : ℕ → ℕ
kind_1 b = b / 4 % 4

abbrev pub kind_2 : ℕ → ℕ
kind_2 b = b / 16 % 4

abbrev pub kind_3 : ℕ → ℕ
kind_3 b = b / 64 % 4

unfoldable pub params : Record → List Param
params r =
    take r.count
    (param (kind_0 r.b) (get_or r.parameters 0 0)
    ∷ param (kind_1 r.b) (get_or r.parameters 1 0)
    ∷ param (kind_2 r.b) (get_or r.parameters 2 0)
    ∷ param (kind_3 r.b) (get_or r.parameters 3 0)
    ∷ [])

-- the first `tables` records are the table's, the others were made
unfoldable pub origin : (tables n : ℕ) → Origin
origin tables n = cond (ltb n tables) (table n) made

-- WHAT RECORD n STANDS FOR, from what its children stand for
unfoldable pub node : (tables n : ℕ) → (ℕ → Prop) → PropKind → Record → Prop
node tables n sub (constant b) r = const (origin tables n) b
node tables n sub (linked h) r = link (origin tables n) h (sub r.a) (sub r.b)
node tables n sub (quantified q) r = quant (origin tables n) q r.a r.b (sub r.c)
node tables n sub atomic r = atom (origin tables n) r.a (params r)
node tables n sub strange r = const (origin tables n) false

unfoldable pub room_within : ℕ → ℕ → List ℕ → ℕ → Prop
room_within zero tables w n = const made false
room_within (suc f) tables w n = node tables n (room_within f tables w) (prop_kind (record_at w n).kind) (record_at w n)

-- children have smaller numbers, so a depth of n + 1 is enough
unfoldable pub room_at : ℕ → List ℕ → ℕ → Prop
room_at tables w n = room_within (suc n) tables w n

abbrev pub type_at : ℕ → List ℕ → Sort → Ty
type_at tables w (Proposition n) = prop (room_at tables w n.0)
type_at tables w (Datatype d) = datatype d.0

-- a type that stands for something among the first c records
abbrev pub TypeIn : ℕ → Sort → Type 0
TypeIn c (Proposition n) = n.0 < c
TypeIn c (Datatype d) = Unit {0}

-- A ROOM OF PROPOSITIONS: as in the file, unused fields are zero; an atom's kinds are known ones, and there are none past its parameters
unfoldable pub kinds_fit : Record → Bool
kinds_fit r = ltb r.b (4 ^ r.count) && (ltb (kind_0 r.b) 3 && (ltb (kind_1 r.b) 3 && (ltb (kind_2 r.b) 3 && ltb (kind_3 r.b) 3)))

abbrev pub without_kinds : Record → Record
without_kinds r = record { kind = r.kind; count = r.count; a = r.a; b = 0; c = r.c; parameters = r.parameters }

unfoldable pub form_as : PropKind → Record → Bool
form_as (constant b) r = prop_form r
form_as (linked h) r = prop_form r
form_as (quantified q) r = prop_form r
form_as atomic r = kinds_fit r && prop_form (without_kinds r)
form_as strange r = false

unfoldable pub room_form : Record → Bool
room_form r = form_as (prop_kind r.kind) r

pub record Node (w : List ℕ) (n : ℕ) : Type 0 where
  pub form : room_form (record_at w n) ≡ true
  pub links : all_links (λ m. ltb m n) (prop_links (record_at w n)) ≡ true

pub record Arena (w : List ℕ) (c : ℕ) : Type 0 where
  pub each : (n : ℕ) → n < c → Node w n
  pub room : 16 * c ≤ length w
