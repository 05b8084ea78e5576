-- An atom's parameters as the code reads and writes them: its four places, used or not. Assumes nothing.
use Rattle.std.specs.Prelude.{Bool, true, cond, [], ◌∷◌, ℕ, zero, suc, ◌+◌, ◌*◌, get_or, ltb}
use Rattle.numbers.specs.declared.record.Record.{Record}
use Rattle.rules.specs.Prop.{Param, free, ser, bound}
use Rattle.prop.specs.declared.atom.Parameter.{Parameter}
use Rattle.prop.specs.declared.atom.Parameter.TheVariants.{Free, Identifier, Bound, Unused}
use Rattle.prop.specs.Room.{param, kind_0, kind_1, kind_2, kind_3}

-- the code's word for a parameter; and for a place, where there may be none
abbrev pub coded : Param → Parameter
coded (free x) = Free (record { 0 = x })
coded (ser i) = Identifier (record { 0 = i })
coded (bound k) = Bound k

abbrev pub place : Bool → Param → Parameter
place used x = cond used (coded x) Unused

-- PLACE i of the atom r, of which there are four
abbrev pub kind_at : Record → ℕ → ℕ
kind_at r zero = kind_0 r.b
kind_at r (suc zero) = kind_1 r.b
kind_at r (suc (suc zero)) = kind_2 r.b
kind_at r (suc (suc (suc i))) = kind_3 r.b

abbrev pub number_at : Record → ℕ → ℕ
number_at r zero = get_or r.parameters 0 0
number_at r (suc zero) = get_or r.parameters 1 0
number_at r (suc (suc zero)) = get_or r.parameters 2 0
number_at r (suc (suc (suc i))) = get_or r.parameters 3 0

unfoldable pub parameter_at : Record → ℕ → Parameter
parameter_at r i = place (ltb i r.count) (param (kind_at r i) (number_at r i))

-- what is in a place passes a test; it becomes another parameter
abbrev pub passes : (Param → Bool) → Parameter → Bool
passes t (Free x) = t (free x.0)
passes t (Identifier i) = t (ser i.0)
passes t (Bound k) = t (bound k)
passes t Unused = true

abbrev pub becomes : (Param → Param) → Parameter → Parameter
becomes h (Free x) = coded (h (free x.0))
becomes h (Identifier i) = coded (h (ser i.0))
becomes h (Bound k) = coded (h (bound k))
becomes h Unused = Unused

-- HOW A PLACE IS WRITTEN: its kind, and its number
abbrev pub kind_in : Parameter → ℕ
kind_in (Free x) = 0
kind_in (Identifier i) = 1
kind_in (Bound k) = 2
kind_in Unused = 0

abbrev pub number_in : Parameter → ℕ
number_in (Free x) = x.0
number_in (Identifier i) = i.0
number_in (Bound k) = k
number_in Unused = 0

-- the atom r with these in its four places
unfoldable pub with_parameters : Record → Parameter → Parameter → Parameter → Parameter → Record
with_parameters r p q s t =
    record {
      kind = r.kind;
      count = r.count;
      a = r.a;
      b = kind_in p + 4 * kind_in q + 16 * kind_in s + 64 * kind_in t;
      c = r.c;
      parameters = number_in p ∷ number_in q ∷ number_in s ∷ number_in t ∷ [];
    }
