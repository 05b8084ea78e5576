-- The code that moves a record's links: no number overflows, and the record is the moved one.
-- Assumes nothing.
use mathlib.Core.Path.{◌≡◌, ap, sym, subst, ◌∙◌}
use mathlib.Core.Bool.{Bool, true, cond}
use mathlib.Core.List.{[], ◌∷◌}
use Prim.Native.Nat.{ℕ, zero, suc, ◌+◌, ◌-◌, ◌≤◌}
use native.Mathlib.Omega.{arith}
use lib.Dec.{eqb, ltb}
use lib.ListN.{get_or}
use borrow.Author.Tests.{ltb-true, eqb-true}
use Rattle.numbers.specs.declared.record.Record.{Record}
use Rattle.numbers.specs.Limits.{most_propositions, most_terms}
use Rattle.layout.specs.declared.form.PropShape.{PropShape}
use Rattle.layout.specs.declared.form.TermShape.{TermShape}
use Rattle.layout.specs.File.{as_term, prop_kind, kind_of}
use Rattle.layout.specs.Form.{prop_shape, term_shape}
use Rattle.table.specs.Links.{prop_children, term_children, annotation_links}
use Rattle.table.proofs.Sums.{hit_here, hit_later}
use Rattle.editing.specs.Edited.{moved_children, moved_prop, moved_subterms, moved_term}
use Rattle.editing.specs.Copied.{Within, PropMoves, TermMoves}

-- A FIELD THAT IS A LINK is one of the links
module _ (most : ℕ) (r : Record) where
  left_link : (k : ℕ) → Within most (prop_children k r) → ltb 1 k ≡ true → r.a ≤ most
  unfolding prop_children
  left_link zero w x = absurd (omega (arith, ltb-true 1 0 x))
  left_link (suc zero) w x = absurd (omega (arith, ltb-true 1 1 x))
  left_link (suc (suc k)) w x = w r.a (hit_here r.a (r.b ∷ []))

  right_link : (k : ℕ) → Within most (prop_children k r) → ltb 1 k ≡ true → r.b ≤ most
  unfolding prop_children
  right_link zero w x = absurd (omega (arith, ltb-true 1 0 x))
  right_link (suc zero) w x = absurd (omega (arith, ltb-true 1 1 x))
  right_link (suc (suc k)) w x = w r.b (hit_later r.b r.a (r.b ∷ []) (hit_here r.b []))

  body_link : (k : ℕ) → Within most (prop_children k r) → eqb k 1 ≡ true → r.c ≤ most
  unfolding prop_children
  body_link zero w x = absurd (omega (arith, eqb-true 0 1 x))
  body_link (suc zero) w x = w r.c (hit_here r.c [])
  body_link (suc (suc k)) w x = absurd (omega (arith, eqb-true (suc (suc k)) 1 x))

  first_link : (k : ℕ) → Within most (term_children k (as_term r)) → ltb 0 k ≡ true → get_or r.parameters 0 0 ≤ most
  unfolding term_children
  first_link zero w x = absurd (omega (arith, ltb-true 0 0 x))
  first_link (suc zero) w x = w _ (hit_here _ [])
  first_link (suc (suc zero)) w x = w _ (hit_here _ _)
  first_link (suc (suc (suc k))) w x = w _ (hit_here _ _)

  second_link : (k : ℕ) → Within most (term_children k (as_term r)) → ltb 1 k ≡ true → get_or r.parameters 1 0 ≤ most
  unfolding term_children
  second_link zero w x = absurd (omega (arith, ltb-true 1 0 x))
  second_link (suc zero) w x = absurd (omega (arith, ltb-true 1 1 x))
  second_link (suc (suc zero)) w x = w _ (hit_later _ _ _ (hit_here _ []))
  second_link (suc (suc (suc k))) w x = w _ (hit_later _ _ _ (hit_here _ _))

  third_link : (k : ℕ) → Within most (term_children k (as_term r)) → ltb 2 k ≡ true → get_or r.parameters 2 0 ≤ most
  unfolding term_children
  third_link zero w x = absurd (omega (arith, ltb-true 2 0 x))
  third_link (suc zero) w x = absurd (omega (arith, ltb-true 2 1 x))
  third_link (suc (suc zero)) w x = absurd (omega (arith, ltb-true 2 2 x))
  third_link (suc (suc (suc k))) w x = w _ (hit_later _ _ _ (hit_later _ _ _ (hit_here _ [])))

  type_link : Within most (annotation_links r.count r.a) → eqb r.count 1 ≡ true → r.a ≤ most
  unfolding annotation_links
  type_link w x = subst (λ b. Within most (cond b (r.a ∷ []) [])) x w r.a (hit_here r.a [])

-- PROPOSITIONS, with what the code knows of the kind
module _ {p : ℕ} {r : Record} (h : PropMoves p r) (s : PropShape) (e : s ≡ prop_shape (prop_kind r.kind)) where
  links : Within most_propositions (prop_children s.children r)
  links = subst (λ (s : PropShape). Within most_propositions (prop_children s.children r)) (sym e) h.links

  pub left_moves : (p ≤ most_propositions) × (ltb 1 s.children ≡ true → r.a ≤ most_propositions)
  left_moves = (h.room, left_link most_propositions r s.children links)

  pub right_moves : (p ≤ most_propositions) × (ltb 1 s.children ≡ true → r.b ≤ most_propositions)
  right_moves = (h.room, right_link most_propositions r s.children links)

  pub body_moves : (p ≤ most_propositions) × (eqb s.children 1 ≡ true → r.c ≤ most_propositions)
  body_moves = (h.room, body_link most_propositions r s.children links)

pub prop_moved : (p : ℕ) (r : Record) (s : PropShape) → s ≡ prop_shape (prop_kind r.kind) → (x y z : ℕ)
    → x ≡ cond (ltb 1 s.children) (p + r.a) r.a → y ≡ cond (ltb 1 s.children) (p + r.b) r.b → z ≡ cond (eqb s.children 1) (p + r.c) r.c
    → record { kind = r.kind; count = r.count; a = x; b = y; c = z; parameters = r.parameters } ≡ moved_prop p r
prop_moved p r s e x y z a b c =
    (λ i. record { kind = r.kind; count = r.count; a = a i; b = b i; c = c i; parameters = r.parameters }) ∙ ap (λ (s : PropShape). moved_children s.children p r) e

-- TERMS
module _ {p t : ℕ} {r : Record} (h : TermMoves p t r) where
  pub type_moves : (p ≤ most_propositions) × (eqb r.count 1 ≡ true → r.a ≤ most_propositions)
  type_moves = (h.room, type_link most_propositions r h.typ)

  module _ (s : TermShape) (e : s ≡ term_shape (kind_of r.kind)) where
    subterms : Within most_terms (term_children s.children (as_term r))
    subterms = subst (λ (s : TermShape). Within most_terms (term_children s.children (as_term r))) (sym e) h.links

    pub first_moves : (t - 1 ≤ most_propositions) × (ltb 0 s.children ≡ true → get_or r.parameters 0 0 ≤ most_propositions)
    first_moves = (omega (arith, h.few), λ x. omega (arith, first_link most_terms r s.children subterms x))

    pub second_moves : (t - 1 ≤ most_propositions) × (ltb 1 s.children ≡ true → get_or r.parameters 1 0 ≤ most_propositions)
    second_moves = (omega (arith, h.few), λ x. omega (arith, second_link most_terms r s.children subterms x))

    pub third_moves : (t - 1 ≤ most_propositions) × (ltb 2 s.children ≡ true → get_or r.parameters 2 0 ≤ most_propositions)
    third_moves = (omega (arith, h.few), λ x. omega (arith, third_link most_terms r s.children subterms x))

    -- the code moves by t - 1
    subterm : (b : Bool) (m x : ℕ) → x ≡ cond b (t - 1 + m) m → x ≡ cond b (t + m - 1) m
    subterm b m x z = z ∙ ap (λ (n : ℕ). cond b n m) (omega (arith, h.some))

    pub term_moved : (v x y z : ℕ) → v ≡ cond (eqb r.count 1) (p + r.a) r.a
        → x ≡ cond (ltb 0 s.children) (t - 1 + get_or r.parameters 0 0) (get_or r.parameters 0 0)
        → y ≡ cond (ltb 1 s.children) (t - 1 + get_or r.parameters 1 0) (get_or r.parameters 1 0)
        → z ≡ cond (ltb 2 s.children) (t - 1 + get_or r.parameters 2 0) (get_or r.parameters 2 0)
        → record { kind = r.kind; count = r.count; a = v; b = r.b; c = r.c; parameters = x ∷ y ∷ z ∷ get_or r.parameters 3 0 ∷ [] } ≡ moved_term p t r
    term_moved v x y z d a b c =
        (λ i. record { kind = r.kind; count = r.count; a = d i; b = r.b; c = r.c; parameters = subterm (ltb 0 s.children) (get_or r.parameters 0 0) x a i ∷ subterm (ltb 1 s.children) (get_or r.parameters 1 0) y b i ∷ subterm (ltb 2 s.children) (get_or r.parameters 2 0) z c i ∷ get_or r.parameters 3 0 ∷ [] })
        ∙ ap (λ (s : TermShape). moved_subterms s.children p t r) e
