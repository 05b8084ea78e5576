-- Document 01, "The rules" (made propositions) and refusal 30: a proposition is made only where all its nodes are still allowed; where they are not,
-- nothing is written. Assumes nothing.
use Rattle.std.specs.Prelude.{◌≡◌, Bool, List, ℕ, ◌+◌, ◌<◌, ◌≤◌, Option, Some, None}
use Rattle.numbers.specs.declared.record.Record.{Record}
use Rattle.rules.specs.Prop.{Link, Prop, all, made, const, link, quant, put, bind, size}
use Rattle.layout.specs.File.{prop_kind}
use Rattle.arena.specs.declared.copy.Copied.{Copied}
use Rattle.prop.specs.Room.{node, room_at}
use Rattle.arena.specs.Copy.{Makes}

-- k propositions more, of the `left` that are allowed, and the new number stands for P; or k would be too many
abbrev pub MadeIs : (old : List ℕ) (c left : ℕ) (k : ℕ → ℕ) (P : ℕ → Prop) (new : List ℕ) → Option Copied → Type 0
MadeIs old c left k P new (Some o) = ((tables : ℕ) → k tables ≤ left) × Makes old c k P new o.at.0 o.count
MadeIs old c left k P new None = (new ≡ old) × ((tables : ℕ) → left < k tables)

-- record r, with children that were there before
abbrev pub OneIs : (old : List ℕ) (c left : ℕ) → Record → (new : List ℕ) → Option Copied → Type 0
OneIs old c left r new = MadeIs old c left (λ t. 1) (λ t. node t c (room_at t old) (prop_kind r.kind) r) new

-- WHAT THE RULES MAKE: a quantifier's body n with the identifier s put into it
abbrev pub PutIs : (old : List ℕ) (c left n s : ℕ) (new : List ℕ) → Option Copied → Type 0
PutIs old c left n s new = MadeIs old c left (λ t. size (room_at t old n)) (λ t. put s (room_at t old n)) new

-- ForAll x : D over n, which binds the identifier s
abbrev pub ForAllIs : (old : List ℕ) (c left x D s n : ℕ) (new : List ℕ) → Option Copied → Type 0
ForAllIs old c left x D s n new = MadeIs old c left (λ t. size (room_at t old n) + 1) (λ t. quant made all x D (bind s (room_at t old n))) new

-- a link of a and b, which are not copied
abbrev pub LinkIs : Link → (old : List ℕ) (c left a b : ℕ) (new : List ℕ) → Option Copied → Type 0
LinkIs l old c left a b new = MadeIs old c left (λ t. 1) (λ t. link made l (room_at t old a) (room_at t old b)) new

-- True or False
abbrev pub ConstantIs : Bool → (old : List ℕ) (c left : ℕ) (new : List ℕ) → Option Copied → Type 0
ConstantIs b old c left new = MadeIs old c left (λ t. 1) (λ t. const made b) new
