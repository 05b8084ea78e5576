-- What a number stands for, from the range that its record's kind is in. Assumes nothing.
use mathlib.Core.Path.{◌≡◌, refl, ap, sym, subst⁻¹, ◌∙◌}
use mathlib.Core.Bool.{Bool, true, false}
use mathlib.Core.List.{List}
use Prim.Native.Nat.{ℕ, zero, suc, ◌<◌, ◌≤◌}
use native.Mathlib.Omega.{arith}
use Rattle.numbers.specs.declared.record.Record.{Record}
use Rattle.numbers.specs.Records.{record_at}
use Rattle.rules.specs.Prop.{Link, and, or, imp, Quant, all, ex, Prop, const, atom}
use Rattle.layout.specs.File.{PropKind, constant, linked, quantified, atomic, prop_kind, prop_kinds}
use Rattle.prop.specs.Room.{params, origin, node, room_at, Arena}
use Rattle.prop.proofs.Rooms.{kind_known, room_step}
use Rattle.prop.specs.View.{Joins, Binds, ConstantAt, LinkAt, QuantifierAt, AtomAt}
use Rattle.prop.proofs.Heads.{head_joins, head_binds}

pub kind_constant : (k : ℕ) → k < 2 → (b : Bool) × (prop_kind k ≡ constant b)
unfolding prop_kind prop_kinds
kind_constant zero h = (true, refl)
kind_constant (suc zero) h = (false, refl)
kind_constant (suc (suc k)) h = absurd (omega arith)

pub kind_linked : (k : ℕ) → 2 ≤ k → k < 5 → (l : Link) × (prop_kind k ≡ linked l)
unfolding prop_kind prop_kinds
kind_linked zero g h = absurd (omega arith)
kind_linked (suc zero) g h = absurd (omega arith)
kind_linked (suc (suc zero)) g h = (and, refl)
kind_linked (suc (suc (suc zero))) g h = (or, refl)
kind_linked (suc (suc (suc (suc zero)))) g h = (imp, refl)
kind_linked (suc (suc (suc (suc (suc k))))) g h = absurd (omega arith)

pub kind_quantified : (k : ℕ) → 5 ≤ k → k < 7 → (q : Quant) × (prop_kind k ≡ quantified q)
unfolding prop_kind prop_kinds
kind_quantified zero g h = absurd (omega arith)
kind_quantified (suc zero) g h = absurd (omega arith)
kind_quantified (suc (suc zero)) g h = absurd (omega arith)
kind_quantified (suc (suc (suc zero))) g h = absurd (omega arith)
kind_quantified (suc (suc (suc (suc zero)))) g h = absurd (omega arith)
kind_quantified (suc (suc (suc (suc (suc zero))))) g h = (all, refl)
kind_quantified (suc (suc (suc (suc (suc (suc zero)))))) g h = (ex, refl)
kind_quantified (suc (suc (suc (suc (suc (suc (suc k))))))) g h = absurd (omega arith)

pub kind_atomic : (k : ℕ) → 7 ≤ k → k < 8 → prop_kind k ≡ atomic
unfolding prop_kind prop_kinds
kind_atomic k g h = let e : k ≡ 7 = omega arith in rw e

module _ (w : List ℕ) (c n : ℕ) (ok : Arena w c) (k : n < c) (r : Record) (er : r ≡ record_at w n) where
  abbrev Stands : (ℕ → Prop) → Type 0
  Stands P = (tables : ℕ) → room_at tables w n ≡ P tables

  pub stands : (K : PropKind) → prop_kind r.kind ≡ K → Stands (λ tables. node tables n (room_at tables w) K r)
  stands K e tables =
      room_step ok tables n k
      ∙ ap (λ (s : Record). node tables n (room_at tables w) (prop_kind s.kind) s) (sym er)
      ∙ ap (λ (K : PropKind). node tables n (room_at tables w) K r) e

  pub at_constant : r.kind < 2 → (b : Bool) × Stands (λ tables. const (origin tables n) b)
  unfolding node
  at_constant h = let v = kind_constant r.kind h in (v.0, stands (constant v.0) v.1)

  pub at_linked : 2 ≤ r.kind → r.kind < 5 → (l : Link) × Joins l w n r.a r.b
  at_linked g h = let v = kind_linked r.kind g h in (v.0, head_joins w c n ok k r er r.kind refl v.0 v.1)

  pub at_quantified : 5 ≤ r.kind → r.kind < 7 → (q : Quant) × Binds q w n r.b r.c
  at_quantified g h = let v = kind_quantified r.kind g h in (v.0, head_binds w c n ok k r er r.kind refl v.0 v.1)

  pub at_atomic : 7 ≤ r.kind → Stands (λ tables. atom (origin tables n) r.a (params r))
  unfolding node
  at_atomic g = stands atomic (kind_atomic r.kind g (subst⁻¹ (λ (s : Record). s.kind < 8) er (kind_known (ok.each n k))))

  -- `view_at`, in the order of its code
  pub view_constant : r.kind < 2 → ConstantAt w n
  view_constant h = let v = at_constant h in record { truth = v.0; whole = v.1 }

  pub view_link : 2 ≤ r.kind → r.kind < 5 → LinkAt w n r.a r.b
  view_link g h = let v = at_linked g h in record { link = v.0; joins = v.1 }

  pub view_quantifier : 5 ≤ r.kind → r.kind < 7 → QuantifierAt w n r.c
  view_quantifier g h = let v = at_quantified g h in record { quantifier = v.0; datatype = r.b; binds = v.1 }

  pub view_atom : 7 ≤ r.kind → AtomAt w n r
  view_atom h = record { whole = at_atomic h }

  -- its children, for a call: below the measure t, and in the room
  module _ (lo : 2 ≤ r.kind) (hi : r.kind < 5) where
    pub first_below : (t : ℕ) → n ≡ t → r.a < t
    first_below t e = omega (arith, (at_linked lo hi).1.first)

    pub first_in : r.a < c
    first_in = omega (arith, (at_linked lo hi).1.first)

    pub second_below : (t : ℕ) → n ≡ t → r.b < t
    second_below t e = omega (arith, (at_linked lo hi).1.second)

    pub second_in : r.b < c
    second_in = omega (arith, (at_linked lo hi).1.second)

  module _ (lo : 5 ≤ r.kind) (hi : r.kind < 7) where
    pub body_below : (t : ℕ) → n ≡ t → r.c < t
    body_below t e = omega (arith, (at_quantified lo hi).1.under)

    pub body_in : r.c < c
    body_in = omega (arith, (at_quantified lo hi).1.under)
