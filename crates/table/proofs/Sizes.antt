-- Heights and test 7's answers from the children's, depths from the holder's.
-- Assumes nothing.
use mathlib.Core.Path.{◌≡◌, refl, ap, ap₂, sym, ◌∙◌}
use mathlib.Core.Bool.{Bool, ◌&&◌}
use mathlib.Core.List.{List, map}
use Prim.Native.Nat.{ℕ, suc, ◌<◌, ◌≤◌, max}
use lib.ListN.{take}
use native.Mathlib.Omega.{arith}
use Rattle.numbers.specs.declared.record.Record.{Record}
use Rattle.rules.specs.Prop.{Param, Prop, const, link, quant, atom, each_param, each, named_not, closed}
use Rattle.table.specs.declared.Purpose.{Purpose}
use Rattle.layout.specs.File.{props, terms, prop_record, term_record, PropKind, constant, linked, quantified, atomic, strange, prop_kind}
use Rattle.layout.specs.Form.{prop_shape}
use Rattle.table.specs.Links.{term_links, hits}
use Rattle.table.specs.Reading.{binders, settled, prop_of, prop_at}
use Rattle.table.specs.Size.{height, holder, below, depth_within, depth}
use Rattle.table.specs.Closed.{closed_params}
use Rattle.table.specs.Passing.{Formed, Linked}
use Rattle.table.proofs.Links.{directed, holder_child, holder_above}
use Rattle.table.proofs.Reading.{prop_step, count_range, climb_up}

module _ (l : List ℕ) (n : ℕ) (sub : ℕ → Prop) where
  none_of : (K : PropKind) (r : Record) → (prop_shape K).children ≡ 0 → height (prop_of l n sub K r) ≡ 1
  unfolding prop_shape prop_of height
  none_of (constant b) r e = refl
  none_of (linked h) r e = absurd (omega arith)
  none_of (quantified q) r e = absurd (omega arith)
  none_of atomic r e = refl
  none_of strange r e = refl

  one_of : (K : PropKind) (r : Record) → (prop_shape K).children ≡ 1 → height (prop_of l n sub K r) ≡ suc (height (sub r.c))
  unfolding prop_shape prop_of height
  one_of (constant b) r e = absurd (omega arith)
  one_of (linked h) r e = absurd (omega arith)
  one_of (quantified q) r e = refl
  one_of atomic r e = absurd (omega arith)
  one_of strange r e = absurd (omega arith)

  two_of : (K : PropKind) (r : Record) → 1 < (prop_shape K).children → height (prop_of l n sub K r) ≡ suc (max (height (sub r.a)) (height (sub r.b)))
  unfolding prop_shape prop_of height
  two_of (constant b) r e = absurd (omega arith)
  two_of (linked h) r e = refl
  two_of (quantified q) r e = absurd (omega arith)
  two_of atomic r e = absurd (omega arith)
  two_of strange r e = absurd (omega arith)

module _ {p : Purpose} {l : List ℕ} (h : Linked p l) (n : ℕ) (k : n < props l) where
  pub height_none : (prop_shape (prop_kind (prop_record l n).kind)).children ≡ 0 → height (prop_at l n) ≡ 1
  height_none e = ap height (prop_step (directed h) n k) ∙ none_of l n (prop_at l) (prop_kind (prop_record l n).kind) (prop_record l n) e

  pub height_one : (prop_shape (prop_kind (prop_record l n).kind)).children ≡ 1 → height (prop_at l n) ≡ suc (height (prop_at l (prop_record l n).c))
  height_one e = ap height (prop_step (directed h) n k) ∙ one_of l n (prop_at l) (prop_kind (prop_record l n).kind) (prop_record l n) e

  pub height_two : 1 < (prop_shape (prop_kind (prop_record l n).kind)).children
      → height (prop_at l n) ≡ suc (max (height (prop_at l (prop_record l n).a)) (height (prop_at l (prop_record l n).b)))
  height_two e = ap height (prop_step (directed h) n k) ∙ two_of l n (prop_at l) (prop_kind (prop_record l n).kind) (prop_record l n) e

pub depth_root : (l : List ℕ) → depth l 0 ≡ 1
unfolding depth depth_within
depth_root l = refl

pub depth_child : {p : Purpose} {l : List ℕ} → Linked p l → (t c : ℕ) → t < terms l → 0 < hits c (term_links (term_record l t)) → depth l c ≡ suc (depth l t)
unfolding depth depth_within below
depth_child {l = l} h t c k x =
    climb_up (holder l) (λ t. t) (λ c t e. (holder_above (directed h) t c e).2) (λ f t. depth_within f l t) 1 (λ t d. suc d) (λ t. refl) (λ f t e. rw e) (λ f c t e. rw e)
    c t c t (omega arith) (omega arith) (holder_child h t c k x)

-- TEST 7, from the children's answers. It asks the same of a parameter wherever that stands
each_anywhere : (t : Param → Bool) (d e : ℕ) (P : Prop) → each (λ d. t) d P ≡ each (λ d. t) e P
unfolding each
each_anywhere t d e (const o b) = refl
each_anywhere t d e (link o h A B) = ap₂ ◌&&◌ (each_anywhere t d e A) (each_anywhere t d e B)
each_anywhere t d e (quant o q x D B) = each_anywhere t (suc d) (suc e) B
each_anywhere t d e (atom o p xs) = refl

module _ (l : List ℕ) (n : ℕ) (sub : ℕ → Prop) where
  closed_none_of : (K : PropKind) (r : Record) → (prop_shape K).least ≤ r.count → r.count ≤ (prop_shape K).most → (prop_shape K).children ≡ 0 → closed (prop_of l n sub K r) ≡ closed_params l n r
  unfolding prop_shape prop_of closed each each_param
  closed_none_of (constant b) r lo hi e =
      let q : r.count ≡ 0 = omega arith in
      sym (ap (λ c. each_param named_not (map (λ x. settled x 0 (binders l n)) (take c r.parameters))) q)
  closed_none_of (linked h) r lo hi e = absurd (omega arith)
  closed_none_of (quantified q) r lo hi e = absurd (omega arith)
  closed_none_of atomic r lo hi e = refl
  closed_none_of strange r lo hi e = absurd (omega arith)

  closed_one_of : (K : PropKind) (r : Record) → (prop_shape K).children ≡ 1 → closed (prop_of l n sub K r) ≡ closed (sub r.c)
  unfolding prop_shape prop_of closed each
  closed_one_of (constant b) r e = absurd (omega arith)
  closed_one_of (linked h) r e = absurd (omega arith)
  closed_one_of (quantified q) r e = each_anywhere named_not 1 0 (sub r.c)
  closed_one_of atomic r e = absurd (omega arith)
  closed_one_of strange r e = absurd (omega arith)

  closed_two_of : (K : PropKind) (r : Record) → 1 < (prop_shape K).children → closed (prop_of l n sub K r) ≡ closed (sub r.a) && closed (sub r.b)
  unfolding prop_shape prop_of closed each
  closed_two_of (constant b) r e = absurd (omega arith)
  closed_two_of (linked h) r e = refl
  closed_two_of (quantified q) r e = absurd (omega arith)
  closed_two_of atomic r e = absurd (omega arith)
  closed_two_of strange r e = absurd (omega arith)

module _ {p : Purpose} {l : List ℕ} (h : Linked p l) (n : ℕ) (k : n < props l) where
  pub closed_none : Formed l → (prop_shape (prop_kind (prop_record l n).kind)).children ≡ 0 → closed (prop_at l n) ≡ closed_params l n (prop_record l n)
  closed_none f e =
      let r = count_range f n k in
      ap closed (prop_step (directed h) n k) ∙ closed_none_of l n (prop_at l) (prop_kind (prop_record l n).kind) (prop_record l n) r.0 r.1 e

  pub closed_one : (prop_shape (prop_kind (prop_record l n).kind)).children ≡ 1 → closed (prop_at l n) ≡ closed (prop_at l (prop_record l n).c)
  closed_one e = ap closed (prop_step (directed h) n k) ∙ closed_one_of l n (prop_at l) (prop_kind (prop_record l n).kind) (prop_record l n) e

  pub closed_two : 1 < (prop_shape (prop_kind (prop_record l n).kind)).children
      → closed (prop_at l n) ≡ closed (prop_at l (prop_record l n).a) && closed (prop_at l (prop_record l n).b)
  closed_two e = ap closed (prop_step (directed h) n k) ∙ closed_two_of l n (prop_at l) (prop_kind (prop_record l n).kind) (prop_record l n) e
