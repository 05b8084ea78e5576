-- The propositions of a table joined with a filling: the old ones stand for what they stood for.
-- Assumes nothing.
use Rattle.std.specs.Prelude.{Option, Some, None}
use mathlib.Core.Path.{◌≡◌, refl, ap, sym, subst, ◌∙◌}
use mathlib.Core.Bool.{Bool, true, false}
use mathlib.Core.List.{List, map}
use Prim.Native.Nat.{ℕ, zero, suc, ◌+◌, ◌-◌, ◌<◌, ◌≤◌}
use native.Mathlib.Omega.{arith}
use lib.ListN.{take}
use lib.Dec.{ltb}
use borrow.Author.Tests.{ltb-true, ltb-false, le-ltb}
use Rattle.numbers.specs.declared.record.Record.{Record}
use Rattle.layout.specs.File.{props, prop_record, PropKind, constant, linked, quantified, atomic, strange, prop_kind}
use Rattle.rules.specs.Prop.{Prop, atom, table}
use Rattle.table.specs.Links.{prop_links, hits}
use Rattle.table.specs.Reading.{first, parent, object, above, binders_within, binders, settled, prop_of, prop_within, prop_at}
use Rattle.table.specs.Passing.{Directed}
use Rattle.table.proofs.Firsts.{first_at, first_clear, first_nobody}
use Rattle.table.proofs.Links.{child_below, parent_above}
use Rattle.table.proofs.Reading.{prop_of_same, binders_enough}
use Rattle.editing.specs.Edited.{new_prop, Joined}
use Rattle.editing.proofs.Moves.{hit_moved, hits_none, prop_links_moved}
use Rattle.editing.proofs.Joins.{props_joined, prop_cases}

-- A SEARCH over more numbers, of which the new ones do not pass
pub never : (b : Bool) → b ≡ true → b ≡ false → ⊥
never b x y = let z : ◌≡◌ {A = ℕ} 0 1 = cc in omega arith

pub least_only : (t : ℕ → Bool) (i j : ℕ) → t i ≡ true → t j ≡ true → ((m : ℕ) → m < i → t m ≡ false) → ((m : ℕ) → m < j → t m ≡ false) → i ≡ j
least_only t i j x y a b = at (ltb i j) refl (ltb j i) refl
  where
    at : (c : Bool) → ltb i j ≡ c → (d : Bool) → ltb j i ≡ d → i ≡ j
    at true e d f = absurd (never (t i) x (b i (ltb-true i j e)))
    at false e true f = absurd (never (t j) y (a j (ltb-true j i f)))
    at false e false f = omega (arith, ltb-false i j e, ltb-false j i f)

module _ (t u : ℕ → Bool) (a b : ℕ) (same : (i : ℕ) → i < a → u i ≡ t i) (past : (i : ℕ) → a ≤ i → i < a + b → u i ≡ false) where
  early : (i : ℕ) → i < a + b → u i ≡ true → i < a
  early i k e = at (ltb i a) refl
    where
      at : (c : Bool) → ltb i a ≡ c → i < a
      at true d = ltb-true i a d
      at false d = absurd (never (u i) e (past i (ltb-false i a d) k))

  first_longer : first u (a + b) ≡ first t a
  first_longer = at (first u (a + b)) refl (first t a) refl
    where
      at : (g : Option ℕ) → first u (a + b) ≡ g → (h : Option ℕ) → first t a ≡ h → first u (a + b) ≡ first t a
      at (Some i) e (Some j) d =
          let x = first_at u (a + b) i e in
          let y = first_at t a j d in
          let k = early i x.0 x.1 in
          e ∙ ap Some (least_only t i j (sym (same i k) ∙ x.1) y.1 (λ m l. sym (same m (omega arith)) ∙ x.2 m l) y.2) ∙ sym d
      at (Some i) e None d =
          let x = first_at u (a + b) i e in
          let k = early i x.0 x.1 in
          absurd (never (t i) (sym (same i k) ∙ x.1) (first_clear t a d i k))
      at None e h d = e ∙ sym (first_nobody t a (λ i k. sym (same i k) ∙ first_clear u (a + b) e i (omega arith)))

-- PROPOSITIONS of one reading in another table, if the quantifiers above are the same
prop_of_binders : (l l' : List ℕ) (n : ℕ) (sub : ℕ → Prop) (K : PropKind) (r : Record) → binders l n ≡ binders l' n → prop_of l n sub K r ≡ prop_of l' n sub K r
unfolding prop_of
prop_of_binders l l' n sub (constant b) r e = refl
prop_of_binders l l' n sub (linked h) r e = refl
prop_of_binders l l' n sub (quantified q) r e = refl
prop_of_binders l l' n sub atomic r e = ap (λ (ys : List ℕ). atom (table n) r.a (map (λ x. settled x 0 ys) (take r.count r.parameters))) e
prop_of_binders l l' n sub strange r e = refl

-- A TABLE WITH MORE PROPOSITIONS, of which the new ones name none of the old
module _ (l l' : List ℕ) (d : Directed l) (more : props l ≤ props l') (same : (n : ℕ) → n < props l → prop_record l' n ≡ prop_record l n)
    (unnamed : (n : ℕ) → n < props l → (p : ℕ) → p < props l' → props l ≤ p → hits n (prop_links (prop_record l' p)) ≡ 0) where
  parent_same : (n : ℕ) → n < props l → parent l' n ≡ parent l n
  unfolding parent
  parent_same n k =
      ap (first (λ p. ltb 0 (hits n (prop_links (prop_record l' p))))) (let so : props l' ≡ props l + (props l' - props l) = omega arith in so)
      ∙ first_longer (λ p. ltb 0 (hits n (prop_links (prop_record l p)))) (λ p. ltb 0 (hits n (prop_links (prop_record l' p)))) (props l) (props l' - props l)
      (λ p x. ap (λ (r : Record). ltb 0 (hits n (prop_links r))) (same p x))
      (λ p x y. le-ltb 0 (hits n (prop_links (prop_record l' p))) (omega (arith, unnamed n k p (omega arith) x)))

  within_same : (c n : ℕ) → n < props l → binders_within c l' n ≡ binders_within c l n
  unfolding binders_within above
  within_same zero n k = refl
  within_same (suc c) n k = ap (λ (g : Option ℕ). above l' g (binders_within c l')) (parent_same n k) ∙ at (parent l n) refl (within_same c)
    where
      at : (g : Option ℕ) → parent l n ≡ g → ((m : ℕ) → m < props l → binders_within c l' m ≡ binders_within c l m) → above l' g (binders_within c l') ≡ above l g (binders_within c l)
      at None z rest = refl
      at (Some m) z rest =
          let x : m < props l = (parent_above d m n z).0 in
          λ i. object (prop_kind (same m x i).kind) (same m x i).a (rest m x i)

  pub binders_kept : (n : ℕ) → n < props l → binders l' n ≡ binders l n
  unfolding binders
  binders_kept n k = within_same (props l') n k ∙ binders_enough d (props l') n more

  reads_same : (c n : ℕ) → n < props l → prop_within c l' n ≡ prop_within c l n
  unfolding prop_within
  reads_same zero n k = refl
  reads_same (suc c) n k =
      ap (λ (r : Record). prop_of l' n (prop_within c l') (prop_kind r.kind) r) (same n k)
      ∙ prop_of_binders l' l n (prop_within c l') (prop_kind (prop_record l n).kind) (prop_record l n) (binders_kept n k)
      ∙ prop_of_same l n (prop_within c l') (prop_within c l) (prop_kind (prop_record l n).kind) (prop_record l n)
      (λ m x. reads_same c m (omega (arith, child_below d n m k x)))

  pub prop_kept : (n : ℕ) → n < props l → prop_at l' n ≡ prop_at l n
  unfolding prop_at
  prop_kept n k = reads_same (suc n) n k

module _ {old f : List ℕ} {q : ℕ} {r : Record} {e : List ℕ} (J : Joined old f q r e) (d : Directed old) where
  -- no proposition of the filling names one of the old table
  unnamed : (n : ℕ) → n < props old → (p : ℕ) → p < props e → props old ≤ p → hits n (prop_links (prop_record e p)) ≡ 0
  unnamed n k =
      prop_cases J (λ p r. props old ≤ p → hits n (prop_links r) ≡ 0) (λ p x y. absurd (omega arith)) λ j x y.
      hits_none n _ λ z.
      let w = hit_moved (new_prop (props old)) n (prop_links (prop_record f j)) (subst (λ ms. 0 < hits n ms) (prop_links_moved (props old) (prop_record f j)) z) in
      omega (arith, w.1)

  -- so the old propositions stand for what they stood for
  pub prop_same : (n : ℕ) → n < props old → prop_at e n ≡ prop_at old n
  prop_same = prop_kept old e d (omega (arith, props_joined J)) J.old_prop unnamed
