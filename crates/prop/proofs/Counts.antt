-- Sizes counted with a budget. Assumes nothing.
use mathlib.Core.Path.{◌≡◌, refl, ap, sym, subst, ◌∙◌}
use mathlib.Core.Logic.{◌⊎◌, inl, inr}
use mathlib.Core.Bool.{Bool, true, false, cond}
use mathlib.Core.List.{List}
use Prim.Native.Nat.{ℕ, ◌+◌, ◌-◌, ◌<◌, ◌≤◌}
use native.Mathlib.Omega.{arith}
use lib.Dec.{leb}
use mir.Syntax.{w16}
use mir.Val.{Fits}
use borrow.Author.Tests.{leb-true, leb-false, le-leb, lt-leb}
use Rattle.std.specs.Prelude.{Option, Some, None}
use Rattle.numbers.specs.declared.record.Record.{Record}
use Rattle.rules.specs.Prop.{Prop, const, link, quant, atom, size}
use Rattle.prop.specs.Room.{room_at}
use Rattle.prop.specs.declared.node.View.{View}
use Rattle.prop.specs.declared.node.View.TheVariants as is
use Rattle.prop.specs.View.{ConstantAt, LinkAt, QuantifierAt, AtomAt, ViewIs}
use Rattle.prop.specs.Size.{counted}

-- WHAT AN ANSWER SAYS
within_counted : (s left : ℕ) → s ≤ left → Some s ≡ counted s left
unfolding counted
within_counted s left h = ap (λ (b : Bool). cond b (Some s) None) (sym (le-leb s left h))

over_counted : (s left : ℕ) → left < s → None ≡ counted s left
unfolding counted
over_counted s left h = ap (λ (b : Bool). cond b (Some s) None) (sym (lt-leb s left h))

pub counted_within : (s left m : ℕ) → counted s left ≡ Some m → (m ≡ s) × (s ≤ left)
unfolding counted
counted_within s left m e = at (leb s left) refl e
  where
    at : (b : Bool) → leb s left ≡ b → cond b (Some s) None ≡ Some m → (m ≡ s) × (s ≤ left)
    at true t e = ((cc), leb-true s left t)
    at false t e = let z : ◌≡◌ {A = ℕ} 0 1 = cc in absurd (omega arith)

pub counted_over : (s left : ℕ) → counted s left ≡ None → left < s
unfolding counted
counted_over s left e = at (leb s left) refl e
  where
    at : (b : Bool) → leb s left ≡ b → cond b (Some s) None ≡ None → left < s
    at true t e = let z : ◌≡◌ {A = ℕ} 0 1 = cc in absurd (omega arith)
    at false t e = leb-false s left t

-- `nodes_of`, in the order of its code
pub size_some : (P : Prop) → 1 ≤ size P
unfolding size
size_some (const o b) = omega arith
size_some (link o l A B) = omega arith
size_some (quant o q x D B) = omega arith
size_some (atom o p xs) = omega arith

module _ (w : List ℕ) (n left : ℕ) where
  abbrev size_of : ℕ → ℕ → ℕ
  size_of tables m = size (room_at tables w m)

  pub none_left : left ≡ 0 → (tables : ℕ) → None ≡ counted (size_of tables n) left
  none_left e tables = over_counted (size_of tables n) left (omega (arith, size_some (room_at tables w n)))

  module _ (some : left ≡ 0 → ⊥) where
    one_node : (tables : ℕ) → size_of tables n ≡ 1 → Some 1 ≡ counted (size_of tables n) left
    one_node tables e = ap Some (sym e) ∙ within_counted (size_of tables n) left (omega arith)

    pub count_constant : ConstantAt w n → (tables : ℕ) → Some 1 ≡ counted (size_of tables n) left
    unfolding size
    count_constant v tables = one_node tables (ap size (v.whole tables))

    pub count_atom : (r : Record) → AtomAt w n r → (tables : ℕ) → Some 1 ≡ counted (size_of tables n) left
    unfolding size
    count_atom r v tables = one_node tables (ap size (v.whole tables))

    pub count_one : (u : View) → ViewIs w n u → (u ≡ is.Constant) ⊎ ((r : Record) × (u ≡ is.Atom r)) → (tables : ℕ) → Some 1 ≡ counted (size_of tables n) left
    count_one u v (inl e) = count_constant (subst (ViewIs w n) e v)
    count_one u v (inr e) = count_atom e.0 (subst (ViewIs w n) e.1 v)

    -- two parts
    module _ (a b : ℕ) (v : LinkAt w n a b) where
      size_link : (tables : ℕ) → size_of tables n ≡ 1 + (size_of tables a + size_of tables b)
      unfolding size
      size_link tables = ap size (v.joins.whole tables)

      pub over_one : ((tables : ℕ) → None ≡ counted (size_of tables a) (left - 1)) → (o : Option ℕ) → o ≡ None → (tables : ℕ) → o ≡ counted (size_of tables n) left
      over_one e o eo tables =
          eo
          ∙ over_counted (size_of tables n) left
          (omega (arith, counted_over (size_of tables a) (left - 1) (sym (e tables)), size_link tables))

      module _ (x : ℕ) (e : (tables : ℕ) → Some x ≡ counted (size_of tables a) (left - 1)) where
        first_is : (tables : ℕ) → (x ≡ size_of tables a) × (size_of tables a ≤ left - 1)
        first_is tables = counted_within (size_of tables a) (left - 1) x (sym (e tables))

        pub first_fits : x ≤ left - 1
        first_fits = omega (arith, first_is 0)

        pub first_word : Fits w16 left → Fits w16 (1 + x)
        first_word f = omega (arith, first_fits)

        pub over_two : ((tables : ℕ) → None ≡ counted (size_of tables b) (left - 1 - x)) → (o : Option ℕ) → o ≡ None → (tables : ℕ) → o ≡ counted (size_of tables n) left
        over_two f o eo tables =
            eo
            ∙ over_counted (size_of tables n) left
            (omega (arith, first_is tables, counted_over (size_of tables b) (left - 1 - x) (sym (f tables)), size_link tables))

        module _ (y : ℕ) (f : (tables : ℕ) → Some y ≡ counted (size_of tables b) (left - 1 - x)) where
          second_is : (tables : ℕ) → (y ≡ size_of tables b) × (size_of tables b ≤ left - 1 - x)
          second_is tables = counted_within (size_of tables b) (left - 1 - x) y (sym (f tables))

          both_fit : 1 + x + y ≤ left
          both_fit = omega (arith, first_fits, second_is 0)

          pub both_word : Fits w16 left → Fits w16 (1 + x + y)
          both_word f = omega (arith, both_fit)

          pub count_link : (tables : ℕ) → Some (1 + x + y) ≡ counted (size_of tables n) left
          count_link tables =
              ap Some (omega (arith, first_is tables, second_is tables, size_link tables))
              ∙ within_counted (size_of tables n) left (omega (arith, both_fit, first_is tables, second_is tables, size_link tables))

    -- a body
    module _ (m : ℕ) (v : QuantifierAt w n m) where
      size_quant : (tables : ℕ) → size_of tables n ≡ 1 + size_of tables m
      unfolding size
      size_quant tables = ap size (v.binds.whole tables)

      pub over_body : ((tables : ℕ) → None ≡ counted (size_of tables m) (left - 1)) → (o : Option ℕ) → o ≡ None → (tables : ℕ) → o ≡ counted (size_of tables n) left
      over_body e o eo tables =
          eo
          ∙ over_counted (size_of tables n) left
          (omega (arith, counted_over (size_of tables m) (left - 1) (sym (e tables)), size_quant tables))

      module _ (x : ℕ) (e : (tables : ℕ) → Some x ≡ counted (size_of tables m) (left - 1)) where
        body_is : (tables : ℕ) → (x ≡ size_of tables m) × (size_of tables m ≤ left - 1)
        body_is tables = counted_within (size_of tables m) (left - 1) x (sym (e tables))

        body_fits : 1 + x ≤ left
        body_fits = omega (arith, body_is 0)

        pub body_word : Fits w16 left → Fits w16 (1 + x)
        body_word f = omega (arith, body_fits)

        pub count_quant : (tables : ℕ) → Some (1 + x) ≡ counted (size_of tables n) left
        count_quant tables =
            ap Some (omega (arith, body_is tables, size_quant tables))
            ∙ within_counted (size_of tables n) left (omega (arith, body_fits, body_is tables, size_quant tables))
