-- Propositions made where they are still allowed. Assumes nothing.
use mathlib.Core.Path.{◌≡◌, refl, ap, sym, subst⁻¹, ◌∙◌}
use mathlib.Core.Bool.{Bool, true, and-eq-true_iff}
use mathlib.Core.List.{List, [], ◌∷◌}
use Prim.Native.Nat.{ℕ, ◌+◌, ◌*◌, ◌<◌, ◌≤◌}
use native.Mathlib.Omega.{arith}
use lib.ListN.{length}
use lib.Dec.{ltb}
use borrow.Author.Tests.{lt-ltb}
use Rattle.std.specs.Prelude.{Option, Some, None}
use Rattle.numbers.specs.declared.record.Record.{Record}
use Rattle.numbers.specs.declared.Serial.{Serial}
use Rattle.rules.specs.Prop.{Link, Origin, Prop, all, const, link, quant, put, put_at, bind, bind_at, size}
use Rattle.layout.specs.File.{PropKind, constant, linked, prop_kind, prop_kinds}
use Rattle.layout.specs.Form.{prop_shape, in_prop_shape, prop_form}
use Rattle.table.specs.Links.{all_links, prop_children, prop_links}
use Rattle.arena.specs.declared.copy.Copied.{Copied}
use Rattle.prop.specs.Room.{node, room_at, form_as, room_form, Arena}
use Rattle.prop.specs.Size.{counted}
use Rattle.arena.specs.Copy.{most_records, MoreIs, CopiedIs}
use Rattle.arena.specs.Make.{MadeIs, OneIs, PutIs, ForAllIs, LinkIs, ConstantIs}
use Rattle.prop.proofs.Counts.{counted_within, counted_over}
use Rattle.arena.proofs.Copies.{made_here, top, links_as}

-- ONE RECORD
module _ (old new : List ℕ) (c left : ℕ) where
  pub made_one : (q : Record) (o : Copied) → Arena old c → room_form q ≡ true → all_links (λ m. ltb m c) (prop_links q) ≡ true → c + left ≤ most_records
      → 16 * most_records ≤ length old → (left ≡ 0 → ⊥) → MoreIs old c q new o
      → OneIs old c left q new (Some o)
  made_one q o ok form links lim long some m =
      ((λ t. omega arith), top _ _ ok (λ i l. refl) (omega arith) refl (omega arith) long form links (λ t. refl) (λ t l. refl) m)

  -- what the new number stands for, said in another way
  made_as : (k : ℕ → ℕ) (P Q : ℕ → Prop) (r : Option Copied) → ((tables : ℕ) → tables ≤ c → P tables ≡ Q tables) → MadeIs old c left k P new r → MadeIs old c left k Q new r
  made_as k P Q (Some o) f g =
      let h = g.1 in
      (g.0, record { count = h.count; below = h.below; arena = h.arena; same = h.same; long = h.long; means = λ t l. h.means t l ∙ f t l })
  made_as k P Q None f g = g

-- TRUE AND FALSE
module _ (kind : ℕ) (b : Bool) (e : prop_kind kind ≡ constant b) where
  abbrev leaf : Record
  leaf = record { kind = kind; count = 0; a = 0; b = 0; c = 0; parameters = 0 ∷ 0 ∷ 0 ∷ 0 ∷ [] }

  pub leaf_form : room_form leaf ≡ true
  unfolding room_form form_as prop_form prop_shape
  leaf_form = subst⁻¹ (λ (K : PropKind). form_as K leaf ≡ true) e (subst⁻¹ (λ (K : PropKind). in_prop_shape (prop_shape K) leaf ≡ true) e refl)

  pub leaf_links : (ok : ℕ → Bool) → all_links ok (prop_links leaf) ≡ true
  unfolding all_links prop_children prop_shape
  leaf_links ok = links_as ok leaf (constant b) e refl

  pub made_constant : (old new : List ℕ) (c left : ℕ) (r : Option Copied) → OneIs old c left leaf new r → ConstantIs b old c left new r
  unfolding node
  made_constant old new c left r =
      made_as old new c left _ _ _ r
      (λ t h. ap (λ (K : PropKind). node t c (room_at t old) K leaf) e ∙ ap (λ (o : Origin). const o b) (made_here t c h))

-- A LINK
module _ (kind a b : ℕ) (l : Link) (e : prop_kind kind ≡ linked l) where
  abbrev joint : Record
  joint = record { kind = kind; count = 0; a = a; b = b; c = 0; parameters = 0 ∷ 0 ∷ 0 ∷ 0 ∷ [] }

  pub joint_form : room_form joint ≡ true
  unfolding room_form form_as prop_form prop_shape
  joint_form = subst⁻¹ (λ (K : PropKind). form_as K joint ≡ true) e (subst⁻¹ (λ (K : PropKind). in_prop_shape (prop_shape K) joint ≡ true) e refl)

  pub joint_links : (c : ℕ) → (a < c) × (b < c) → all_links (λ m. ltb m c) (prop_links joint) ≡ true
  unfolding all_links prop_children prop_shape
  joint_links c i = links_as (λ m. ltb m c) joint (linked l) e ((and-eq-true_iff _ _).1 (lt-ltb a c i.0, (and-eq-true_iff _ _).1 (lt-ltb b c i.1, refl)))

  pub made_link : (old new : List ℕ) (c left : ℕ) (r : Option Copied) → OneIs old c left joint new r → LinkIs l old c left a b new r
  unfolding node
  made_link old new c left r g =
      made_as old new c left _ _ _ r
      (λ t h. ap (λ (K : PropKind). node t c (room_at t old) K joint) e ∙ ap (λ (o : Origin). link o l (room_at t old a) (room_at t old b)) (made_here t c h))
      g

-- COPIES, after their nodes were counted
module _ (old : List ℕ) (c n left : ℕ) (m : Option ℕ) (em : (tables : ℕ) → m ≡ counted (size (room_at tables old n)) left) where
  module _ (e : m ≡ None) where
    pub over_all : (tables : ℕ) → left < size (room_at tables old n)
    over_all tables = counted_over (size (room_at tables old n)) left (sym (em tables) ∙ e)

    pub over_more : (tables : ℕ) → left < size (room_at tables old n) + 1
    over_more tables = omega (arith, over_all tables)

  module _ (k : ℕ) (e : m ≡ Some k) where
    is_counted : (tables : ℕ) → (k ≡ size (room_at tables old n)) × (size (room_at tables old n) ≤ left)
    is_counted tables = counted_within (size (room_at tables old n)) left k (sym (em tables) ∙ e)

    pub none_over : k ≡ left → (tables : ℕ) → left < size (room_at tables old n) + 1
    none_over z tables = omega (arith, is_counted tables)

    pub made_put : (s : Serial) (new : List ℕ) (p : Copied) → CopiedIs old c n (put_at s.0) 0 new p → PutIs old c left n s.0 new (Some p)
    unfolding put
    made_put s new p i = ((λ t. (is_counted t).1), i)

    module _ (lim : c + left ≤ most_records) where
      pub copy_fits : (tables : ℕ) → c + size (room_at tables old n) ≤ most_records
      copy_fits tables = omega (arith, is_counted tables)

      -- the quantifier's record on top
      module _ (some : k ≡ left → ⊥) (long : 16 * most_records ≤ length old) (s : Serial) (mid : List ℕ) (p : Copied)
          (i : CopiedIs old c n (bind_at s.0) 0 mid p) where
        pub top_fits : p.count < most_records
        top_fits = omega (arith, i.count 0, is_counted 0)

        pub top_long : 16 * most_records ≤ length mid
        top_long = omega (arith, i.long)

        module _ (x D : ℕ) where
          abbrev binder : Record
          binder = record { kind = 5; count = 0; a = x; b = D; c = p.at.0; parameters = 0 ∷ 0 ∷ 0 ∷ 0 ∷ [] }

          binder_form : room_form binder ≡ true
          unfolding room_form form_as prop_form prop_shape prop_kind prop_kinds
          binder_form = refl

          binder_links : all_links (λ m. ltb m p.count) (prop_links binder) ≡ true
          unfolding all_links prop_children prop_shape prop_kind prop_kinds
          binder_links = (and-eq-true_iff _ _).1 (lt-ltb p.at.0 p.count i.below, refl)

          pub made_forall : (new : List ℕ) (q : Copied) → MoreIs mid p.count binder new q → ForAllIs old c left x D s.0 n new (Some q)
          unfolding node bind prop_kind prop_kinds
          made_forall new q m = (
            (λ t. omega (arith, is_counted t)),
            top _ _ i.arena i.same (omega (arith, i.count 0)) i.long top_fits long binder_form binder_links
                (λ t. omega (arith, i.count t))
                (λ t l. λ j. quant (made_here t p.count (omega (arith, i.count 0)) j) all x D (i.means t l j))
                m,
          )
