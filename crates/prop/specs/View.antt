-- What a number of the room stands for, by what stands right below it. Assumes nothing.
use Rattle.std.specs.Prelude.{◌≡◌, Bool, List, ℕ, ◌<◌}
use Rattle.numbers.specs.declared.record.Record.{Record}
use Rattle.numbers.specs.Records.{record_at}
use Rattle.rules.specs.Prop.{Link, Quant, const, link, quant, atom}
use Rattle.prop.specs.declared.node.View.{View}
use Rattle.prop.specs.declared.node.View.TheVariants as is
use Rattle.prop.specs.Room.{params, origin, room_at}

-- number n stands for the link of what a and b stand for; for the quantifier over what m stands for. All have smaller numbers
pub record Joins (l : Link) (w : List ℕ) (n a b : ℕ) : Type 0 where
  pub first : a < n
  pub second : b < n
  pub whole : (tables : ℕ) → room_at tables w n ≡ link (origin tables n) l (room_at tables w a) (room_at tables w b)

pub record Binds (q : Quant) (w : List ℕ) (n D m : ℕ) : Type 0 where
  pub under : m < n
  pub whole : (tables : ℕ) → room_at tables w n ≡ quant (origin tables n) q (record_at w n).a D (room_at tables w m)

-- number n stands for a constant; for some link; for some quantifier; for the atom that r holds
pub record ConstantAt (w : List ℕ) (n : ℕ) : Type 0 where
  pub truth : Bool
  pub whole : (tables : ℕ) → room_at tables w n ≡ const (origin tables n) truth

pub record LinkAt (w : List ℕ) (n a b : ℕ) : Type 0 where
  pub link : Link
  pub joins : Joins link w n a b

pub record QuantifierAt (w : List ℕ) (n m : ℕ) : Type 0 where
  pub quantifier : Quant
  pub datatype : ℕ
  pub binds : Binds quantifier w n datatype m

pub record AtomAt (w : List ℕ) (n : ℕ) (r : Record) : Type 0 where
  pub whole : (tables : ℕ) → room_at tables w n ≡ atom (origin tables n) r.a (params r)

-- what the code's word for it says
abbrev pub ViewIs : List ℕ → ℕ → View → Type 0
ViewIs w n is.Constant = ConstantAt w n
ViewIs w n (is.Link a b) = LinkAt w n a.0 b.0
ViewIs w n (is.Quantifier m) = QuantifierAt w n m.0
ViewIs w n (is.Atom r) = AtomAt w n r
