-- A type taken apart at its head: what the answers of `head` say of the rules' way of doing it. Assumes nothing.
use Rattle.std.specs.Prelude.{◌≡◌, List, ℕ, ◌<◌, Option, Some, None}
use Rattle.numbers.specs.declared.Sort.{Sort}
use Rattle.rules.specs.Prop.{Link, and, or, imp, Quant, all, ex, Prop}
use Rattle.rules.specs.Step.{Arity, Prog, on_link, on_quant}
use Rattle.prop.specs.declared.head.Link.{Link as LinkWord}
use Rattle.prop.specs.declared.head.Link.TheVariants as links
use Rattle.prop.specs.declared.head.Quant.{Quant as QuantWord}
use Rattle.prop.specs.declared.head.Quant.TheVariants as quants
use Rattle.prop.specs.declared.head.Parts.{Parts}
use Rattle.prop.specs.declared.head.Bound.{Bound}
use Rattle.prop.specs.Room.{room_at, type_at}

-- the code's words for the rules' heads
abbrev pub link_of : LinkWord → Link
link_of links.And = and
link_of links.Or = or
link_of links.Impl = imp

abbrev pub quant_of : QuantWord → Quant
quant_of quants.All = all
quant_of quants.Ex = ex

-- a program that asks for the parts goes on with these, or goes on without
pub record Split (h : Link) (ps : List ℕ) (c : ℕ) (T : Sort) (a b : ℕ) : Type 0 where
  pub first : a < c
  pub second : b < c
  pub goes : (tables : ℕ) (n : Arity) (k : Prop → Prop → Prog n) (z : Prog n) → on_link h (type_at tables ps T) k z ≡ k (room_at tables ps a) (room_at tables ps b)

abbrev pub Unsplit : Link → List ℕ → Sort → Type 0
Unsplit h ps T = (tables : ℕ) (n : Arity) (k : Prop → Prop → Prog n) (z : Prog n) → on_link h (type_at tables ps T) k z ≡ z

abbrev pub SplitAs : Link → List ℕ → ℕ → Sort → Option Parts → Type 0
SplitAs h ps c T (Some p) = Split h ps c T p.left.0 p.right.0
SplitAs h ps c T None = Unsplit h ps T

-- the same of a quantifier: the object's name, which no rule uses, the datatype, the body
pub record Over (q : Quant) (ps : List ℕ) (c : ℕ) (T : Sort) (D m : ℕ) : Type 0 where
  pub object : ℕ
  pub body : m < c
  pub goes : (tables : ℕ) (n : Arity) (k : ℕ → ℕ → Prop → Prog n) (z : Prog n) → on_quant q (type_at tables ps T) k z ≡ k object D (room_at tables ps m)

abbrev pub NotOver : Quant → List ℕ → Sort → Type 0
NotOver q ps T = (tables : ℕ) (n : Arity) (k : ℕ → ℕ → Prop → Prog n) (z : Prog n) → on_quant q (type_at tables ps T) k z ≡ z

abbrev pub OverAs : Quant → List ℕ → ℕ → Sort → Option Bound → Type 0
OverAs q ps c T (Some b) = Over q ps c T b.datatype.0 b.body.0
OverAs q ps c T None = NotOver q ps T
