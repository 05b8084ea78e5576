-- An identifier occurs in an atom, or in a part. Assumes nothing.
use mathlib.Core.Path.{◌≡◌, refl, ap, ap₂, sym, ◌∙◌}
use mathlib.Core.Bool.{Bool, true, false, ◌&&◌, ◌||◌, not, and_assoc}
use mathlib.Core.List.{List}
use Prim.Native.Nat.{ℕ, zero, suc}
use native.Mathlib.Omega.{arith}
use lib.Dec.{eqb, ltb}
use borrow.Author.Tests.{ne_eqb}
use Rattle.numbers.specs.declared.record.Record.{Record}
use Rattle.rules.specs.Prop.{Param, free, ser, bound, Prop, const, link, quant, atom, each_param, each, other}
use Rattle.prop.specs.Room.{param, params, room_at}
use Rattle.prop.specs.View.{ConstantAt, LinkAt, QuantifierAt, AtomAt}
use Rattle.prop.specs.Atom.{place, kind_at, number_at, parameter_at, passes}
use Rattle.prop.proofs.Places.{each_place}

pub not_not : (a : Bool) → not (not a) ≡ a
not_not true = refl
not_not false = refl

not_or₄ : (a b c d : Bool) → not (((not a || not b) || not c) || not d) ≡ (a && (b && (c && d)))
not_or₄ true true true d = not_not d
not_or₄ true true false d = refl
not_or₄ true false c d = refl
not_or₄ false b c d = refl

-- A PLACE holds an identifier, an atom holds it in one of its places
module _ (s : ℕ) where
  is_it : (k x : ℕ) → (eqb k 1 && eqb x s) ≡ not (other s (param k x))
  unfolding param other
  is_it zero x = refl
  is_it (suc zero) x = sym (not_not (eqb x s))
  is_it (suc (suc k)) x = ap (λ (b : Bool). b && eqb x s) (ne_eqb (suc (suc k)) 1 (omega arith))

  place_holds : (u : Bool) (x : Param) → (u && not (other s x)) ≡ not (passes (other s) (place u x))
  place_holds true (free x) = refl
  place_holds true (ser i) = refl
  place_holds true (bound k) = refl
  place_holds false x = refl

  pub holds_at_place : (r : Record) (i k x : ℕ) → k ≡ kind_at r i → x ≡ number_at r i
      → ((ltb i r.count && eqb k 1) && eqb x s) ≡ not (passes (other s) (parameter_at r i))
  unfolding parameter_at
  holds_at_place r i k x ek ex =
      and_assoc (ltb i r.count) (eqb k 1) (eqb x s)
      ∙ (λ j. ltb i r.count && (eqb (ek j) 1 && eqb (ex j) s))
      ∙ ap (λ (b : Bool). ltb i r.count && b) (is_it (kind_at r i) (number_at r i))
      ∙ place_holds (ltb i r.count) (param (kind_at r i) (number_at r i))

  pub other_in_all : (r : Record) (a b c d : Bool)
      → a ≡ not (passes (other s) (parameter_at r 0)) → b ≡ not (passes (other s) (parameter_at r 1))
      → c ≡ not (passes (other s) (parameter_at r 2)) → d ≡ not (passes (other s) (parameter_at r 3))
      → not (((a || b) || c) || d) ≡ each_param (other s) (params r)
  other_in_all r a b c d ea eb ec ed =
      let p : ℕ → Bool = λ i. passes (other s) (parameter_at r i) in
      (λ i. not (((ea i || eb i) || ec i) || ed i))
      ∙ not_or₄ (p 0) (p 1) (p 2) (p 3)
      ∙ each_place (other s) r

-- a test that does not ask how deep a parameter stands
pub each_deep : (t : Param → Bool) (d e : ℕ) (P : Prop) → each (λ i. t) d P ≡ each (λ i. t) e P
unfolding each
each_deep t d e (const o b) = refl
each_deep t d e (link o l A B) = ap₂ ◌&&◌ (each_deep t d e A) (each_deep t d e B)
each_deep t d e (quant o q x D B) = each_deep t (suc d) (suc e) B
each_deep t d e (atom o p xs) = refl

-- `each`, in the order of its code
module _ (t : Param → Bool) (w : List ℕ) (n : ℕ) where
  abbrev passed : ℕ → ℕ → Bool
  passed tables m = each (λ d. t) 0 (room_at tables w m)

  pub each_constant : ConstantAt w n → (tables : ℕ) → true ≡ passed tables n
  unfolding each
  each_constant v tables = sym (ap (each (λ d. t) 0) (v.whole tables))

  pub each_atom : (r : Record) → AtomAt w n r → (x : Bool) → x ≡ each_param t (params r) → (tables : ℕ) → x ≡ passed tables n
  unfolding each
  each_atom r v x e tables = e ∙ sym (ap (each (λ d. t) 0) (v.whole tables))

  pub each_quant : (m : ℕ) → QuantifierAt w n m → (x : Bool) → ((tables : ℕ) → x ≡ passed tables m) → (tables : ℕ) → x ≡ passed tables n
  unfolding each
  each_quant m v x e tables = e tables ∙ each_deep t 0 1 (room_at tables w m) ∙ sym (ap (each (λ d. t) 0) (v.binds.whole tables))

  module _ (a b : ℕ) (v : LinkAt w n a b) where
    each_link : (tables : ℕ) → passed tables n ≡ (passed tables a && passed tables b)
    unfolding each
    each_link tables = ap (each (λ d. t) 0) (v.joins.whole tables)

    module _ (x : Bool) (ex : (tables : ℕ) → x ≡ passed tables a) where
      pub each_first : x ≡ false → (tables : ℕ) → x ≡ passed tables n
      each_first e tables = e ∙ sym (each_link tables ∙ ap (λ (x : Bool). x && passed tables b) (sym (ex tables) ∙ e))

      pub each_second : x ≡ true → (y : Bool) → ((tables : ℕ) → y ≡ passed tables b) → (tables : ℕ) → y ≡ passed tables n
      each_second e y ey tables = ey tables ∙ sym (each_link tables ∙ ap (λ (x : Bool). x && passed tables b) (sym (ex tables) ∙ e))
