-- The nearest quantifiers above: how the code writes them into the work room, how it looks a name up along them, and test 7.
-- Assumes nothing.
use Rattle.std.specs.Prelude.{Option, Some, None, is_some}
use mathlib.Core.Path.{◌≡◌, refl, ap, ap₂, sym, ◌∙◌, subst, subst₂, subst⁻¹}
use mathlib.Core.Bool.{Bool, true, false, ◌&&◌, cond}
use mathlib.Core.List.{List, [], ◌∷◌, map}
use mathlib.Core.Logic.{◌⊎◌, inl, inr}
use Prim.Native.Nat.{ℕ, zero, suc, ◌+◌, ◌*◌, ◌-◌, ◌<◌, ◌≤◌}
use native.Mathlib.Nat.{eq-or-lt_of_le}
use native.Mathlib.Numerals.{add-one}
use native.Mathlib.Omega.{arith}
use Rattle.std.specs.List.{list_all}
use lib.ListN.{length}
use lib.Dec.{eqb, ltb}
use borrow.Author.Tests.{eq-eqb, ne_eqb, eqb-true, eqb-false, lt-ltb, ltb-true}
use Rattle.numbers.specs.declared.record.Record.{Record}
use Rattle.numbers.specs.Limits.{none}
use Rattle.numbers.specs.Records.{word_at}
use Rattle.rules.specs.Prop.{Param, free, bound, each_param, named_not, closed}
use Rattle.table.specs.declared.Purpose.{Purpose}
use Rattle.table.specs.declared.Purpose.TheVariants.{Check, Filling}
use Rattle.layout.specs.declared.form.PropShape.{PropShape}
use Rattle.layout.specs.File.{props, expected, prop_record, PropKind, constant, linked, quantified, atomic, strange, prop_kind}
use Rattle.layout.specs.Form.{prop_shape}
use Rattle.table.specs.Links.{prop_children, prop_links, hits}
use Rattle.table.specs.Reading.{parent, binders, settled, prop_at}
use Rattle.table.specs.Nearest.{nearer, nearest, marked, Above, param_of, Vacant, Noted, ChildrenFit, ChildrenNoted}
use Rattle.table.specs.Closed.{closed_params}
use Rattle.table.specs.Tests.{open_goal, test_room}
use Rattle.table.specs.Passing.{Counted, Formed, WellLinked}
use Rattle.table.proofs.Sums.{hit_here, hit_later, hit_either, hit_not}
use Rattle.layout.proofs.Strange.{Nots, past}
use Rattle.table.proofs.Links.{directed, child_below, parent_above}
use Rattle.table.proofs.Reading.{nearest_child, nearest_root, binders_none, binders_at}
use Rattle.table.proofs.Sizes.{closed_none, closed_one, closed_two}

-- A RECORD'S CHILDREN: the body, or the left and the right one
body_hit : (k : ℕ) (r : Record) → eqb k 1 ≡ true → 0 < hits r.c (prop_children k r)
unfolding prop_children
body_hit zero r e = absurd (omega (arith, eqb-true 0 1 e))
body_hit (suc zero) r e = hit_here r.c []
body_hit (suc (suc k)) r e = absurd (omega (arith, eqb-true (suc (suc k)) 1 e))

left_hit : (k : ℕ) (r : Record) → ltb 1 k ≡ true → 0 < hits r.a (prop_children k r)
unfolding prop_children
left_hit zero r e = absurd (omega (arith, ltb-true 1 0 e))
left_hit (suc zero) r e = absurd (omega (arith, ltb-true 1 1 e))
left_hit (suc (suc k)) r e = hit_here r.a (r.b ∷ [])

right_hit : (k : ℕ) (r : Record) → ltb 1 k ≡ true → 0 < hits r.b (prop_children k r)
unfolding prop_children
right_hit zero r e = absurd (omega (arith, ltb-true 1 0 e))
right_hit (suc zero) r e = absurd (omega (arith, ltb-true 1 1 e))
right_hit (suc (suc k)) r e = hit_later r.b r.a (r.b ∷ []) (hit_here r.b [])

-- the words that the code writes for them
module _ (r : Record) (n q : ℕ) (w w₁ w₂ w₃ : List ℕ) where
  noted_child : (k : ℕ) → Noted (eqb k 1) r.c n w w₁ → Noted (ltb 1 k) r.a q w₁ w₂ → Noted (ltb 1 k) r.b q w₂ w₃
      → (m : ℕ) → 0 < hits m (prop_children k r) → word_at w₃ (2 * m) ≡ cond (eqb k 1) n q
  unfolding prop_children
  noted_child zero body left right m x = absurd (hit_not m x)
  noted_child (suc zero) body left right m x = at (hit_either m r.c [] x)
    where
      at : (r.c ≡ m) ⊎ (0 < hits m []) → word_at w₃ (2 * m) ≡ n
      at (inl e) =
          right.others m (λ t _. absurd (omega (arith, ltb-true 1 1 t)))
          ∙ left.others m (λ t _. absurd (omega (arith, ltb-true 1 1 t)))
          ∙ ap (λ i. word_at w₁ (2 * i)) (sym e)
          ∙ body.here (eq-eqb 1 1 refl)
      at (inr x) = absurd (hit_not m x)
  noted_child (suc (suc k)) body left right m x = rw (ne_eqb (suc (suc k)) 1 (omega arith)) (at (hit_either m r.a (r.b ∷ []) x))
    where
      two : ltb 1 (suc (suc k)) ≡ true
      two = lt-ltb 1 (suc (suc k)) (omega arith)

      second : r.b ≡ m → word_at w₃ (2 * m) ≡ q
      second e = ap (λ i. word_at w₃ (2 * i)) (sym e) ∙ right.here two

      first : (b : Bool) → eqb r.b m ≡ b → r.a ≡ m → word_at w₃ (2 * m) ≡ q
      first true t e = second (eqb-true r.b m t)
      first false t e = right.others m (λ _ d. eqb-false r.b m t (sym d)) ∙ ap (λ i. word_at w₂ (2 * i)) (sym e) ∙ left.here two

      last : (r.b ≡ m) ⊎ (0 < hits m []) → word_at w₃ (2 * m) ≡ q
      last (inl e) = second e
      last (inr x) = absurd (hit_not m x)

      at : (r.a ≡ m) ⊎ (0 < hits m (r.b ∷ [])) → word_at w₃ (2 * m) ≡ q
      at (inl e) = first (eqb r.b m) refl e
      at (inr x) = last (hit_either m r.b [] x)

  noted_other : (k : ℕ) → Noted (eqb k 1) r.c n w w₁ → Noted (ltb 1 k) r.a q w₁ w₂ → Noted (ltb 1 k) r.b q w₂ w₃
      → (m : ℕ) → hits m (prop_children k r) ≡ 0 → word_at w₃ (2 * m) ≡ word_at w (2 * m)
  noted_other k body left right m z =
      right.others m (λ t e. no r.b (right_hit k r t) e) ∙ left.others m (λ t e. no r.a (left_hit k r t) e) ∙ body.others m (λ t e. no r.c (body_hit k r t) e)
    where
      no : (i : ℕ) → 0 < hits i (prop_children k r) → m ≡ i → ⊥
      no i x e = omega (arith, ap (λ i. hits i (prop_children k r)) e)

module _ (r : Record) (s : PropShape) (shape : s ≡ prop_shape (prop_kind r.kind)) where
  linked_so : (i : ℕ) → 0 < hits i (prop_children s.children r) → 0 < hits i (prop_links r)
  linked_so i = subst (λ s. 0 < hits i (prop_children s.children r)) shape

  module _ (n : ℕ) (w : List ℕ) (fit : ChildrenFit r n w) where
    pub body_fits : eqb s.children 1 ≡ true → 2 * r.c + 1 < length w
    body_fits t = fit.child r.c (linked_so r.c (body_hit s.children r t))

    module _ (w₁ : List ℕ) (body : Noted (eqb s.children 1) r.c n w w₁) where
      pub left_fits : ltb 1 s.children ≡ true → 2 * r.a + 1 < length w₁
      left_fits t = omega (arith, fit.child r.a (linked_so r.a (left_hit s.children r t)), body.size)

      pub right_fits : (q : ℕ) (w₂ : List ℕ) → Noted (ltb 1 s.children) r.a q w₁ w₂ → ltb 1 s.children ≡ true → 2 * r.b + 1 < length w₂
      right_fits q w₂ left t = omega (arith, fit.child r.b (linked_so r.b (right_hit s.children r t)), body.size, left.size)

  pub children_noted : (n q : ℕ) (w w₁ w₂ w₃ : List ℕ) → q ≡ word_at w (2 * n)
      → Noted (eqb s.children 1) r.c n w w₁ → Noted (ltb 1 s.children) r.a q w₁ w₂ → Noted (ltb 1 s.children) r.b q w₂ w₃ → ChildrenNoted r n w w₃
  children_noted n q w w₁ w₂ w₃ e body left right =
      record {
        size = right.size ∙ left.size ∙ body.size;
        child = subst₂ (λ s q. (m : ℕ) → 0 < hits m (prop_children s.children r) → word_at w₃ (2 * m) ≡ cond (eqb s.children 1) n q) shape e (noted_child r n q w w₁ w₂ w₃ s.children body left right);
        others = subst (λ s. (m : ℕ) → hits m (prop_children s.children r) ≡ 0 → word_at w₃ (2 * m) ≡ word_at w (2 * m)) shape (noted_other r n q w w₁ w₂ w₃ s.children body left right);
      }

-- ALL RECORDS, from the largest number down. The room is right of each record whose parent, if it has one, is not below n
pub record Descent (l : List ℕ) (n : ℕ) (old w : List ℕ) : Type 0 where
  pub size : length w ≡ length old
  pub within : n ≤ props l
  pub right : (m : ℕ) → m < props l → ((j : ℕ) → parent l m ≡ Some j → n ≤ j) → word_at w (2 * m) ≡ marked (nearest l m)

-- a kind with one child is a quantifier
marked_nearer : (K : PropKind) (n : ℕ) (g : Option ℕ) → marked (nearer K n g) ≡ cond (eqb (prop_shape K).children 1) n (marked g)
unfolding nearer prop_shape
marked_nearer (constant b) n g = refl
marked_nearer (linked h) n g = refl
marked_nearer (quantified q) n g = refl
marked_nearer atomic n g = refl
marked_nearer strange n g = refl

module _ {l : List ℕ} (h : WellLinked l) where
  pub descent_start : (p : ℕ) (w v : List ℕ) → p ≡ props l → Vacant p w v → Descent l p v v
  descent_start p w v e empty = record { size = refl; within = omega arith; right = λ m k above. at m k above (parent l m) refl }
    where
      at : (m : ℕ) → m < props l → ((j : ℕ) → parent l m ≡ Some j → p ≤ j) → (u : Option ℕ) → parent l m ≡ u → word_at v (2 * m) ≡ marked (nearest l m)
      at m k above (Some j) d = absurd (omega (arith, above j d, (parent_above (directed h.linked) j m d).0))
      at m k above None d = empty.each m (omega arith) ∙ ap marked (sym (nearest_root (directed h.linked) m d))

  module _ (n : ℕ) (old w : List ℕ) (d : Descent l n old w) where
    module _ (pos : 0 < n) (r : Record) (e : r ≡ prop_record l (n - 1)) where
      abbrev children : List ℕ
      children = prop_links (prop_record l (n - 1))

      pub descent_fits : (p : ℕ) (room : List ℕ) → Counted l → Vacant p room old → test_room ≤ length room → ChildrenFit r (n - 1) w
      descent_fits p room c empty long =
          subst⁻¹ (λ r. ChildrenFit r (n - 1) w) e
          record { self = omega arith; child = λ m x. omega (arith, child_below (directed h.linked) (n - 1) m (omega arith) x) }

      pub descent_step : (v : List ℕ) → ChildrenNoted r (n - 1) w v → Descent l (n - 1) old v
      descent_step v noted =
          record {
            size = noted.size ∙ d.size;
            within = omega arith;
            right = λ m k above. at m k above (eq-or-lt_of_le {n = 0} {m = hits m children} (omega arith));
          }
        where
          new : ChildrenNoted (prop_record l (n - 1)) (n - 1) w v
          new = subst (λ r. ChildrenNoted r (n - 1) w v) e noted

          here : n - 1 < props l
          here = omega arith

          -- its own parent has a larger number
          own : word_at w (2 * (n - 1)) ≡ marked (nearest l (n - 1))
          own = d.right (n - 1) here (λ j q. omega (arith, (parent_above (directed h.linked) j (n - 1) q).2))

          past : (m j : ℕ) → parent l m ≡ Some j → 0 ≡ hits m children → (n - 1 ≡ j) ⊎ (n - 1 < j) → n ≤ j
          past m j q z (inl x) = absurd (omega (arith, (parent_above (directed h.linked) j m q).1, ap (λ i. hits m (prop_links (prop_record l i))) x))
          past m j q z (inr x) = omega arith

          at : (m : ℕ) → m < props l → ((j : ℕ) → parent l m ≡ Some j → n - 1 ≤ j) → (0 ≡ hits m children) ⊎ (0 < hits m children) → word_at v (2 * m) ≡ marked (nearest l m)
          at m k above (inl z) = new.others m (sym z) ∙ d.right m k (λ j q. past m j q z (eq-or-lt_of_le (above j q)))
          at m k above (inr x) =
              new.child m x
              ∙ ap (cond (eqb (prop_shape (prop_kind (prop_record l (n - 1)).kind)).children 1) (n - 1)) own
              ∙ sym (ap marked (nearest_child h.linked (n - 1) m here x) ∙ marked_nearer (prop_kind (prop_record l (n - 1)).kind) (n - 1) (nearest l (n - 1)))

-- A NAME looked up along the room. The objects of the quantifiers from q upwards
abbrev chain : List ℕ → ℕ → List ℕ
chain l q = cond (eqb q none) [] ((prop_record l q).a ∷ binders l q)

-- looked for from q on, k quantifiers passed, the name x is what it is from the start
pub record Climb (l : List ℕ) (x start k q : ℕ) : Type 0 where
  pub same : settled x 0 (chain l start) ≡ settled x k (chain l q)
  pub stands : (q ≡ none → ⊥) → (k ≤ q) × (q < props l)

module _ {l : List ℕ} (c : Counted l) (h : WellLinked l) (w : List ℕ) (above : Above l w) where
  -- the word of record n leads to what is above n
  up : (n q : ℕ) → n < props l → q ≡ word_at w (2 * n) → (chain l q ≡ binders l n) × ((q ≡ none → ⊥) → (n < q) × (q < props l))
  up n q k e = at (nearest l n) refl
    where
      at : (g : Option ℕ) → nearest l n ≡ g → (chain l q ≡ binders l n) × ((q ≡ none → ⊥) → (n < q) × (q < props l))
      at None d =
          let z : q ≡ none = e ∙ above n k ∙ ap marked d in
          (rw (eq-eqb q none z) (sym (binders_none (directed h.linked) n d)), λ x. absurd (x z))
      at (Some m) d =
          let z : q ≡ m = e ∙ above n k ∙ ap marked d in
          let b = binders_at (directed h.linked) n m d in
          (rw (ne_eqb q none (omega (arith, c.propositions))) (ap (λ i. (prop_record l i).a ∷ binders l i) z ∙ sym b.2), λ x. (omega arith, omega arith))

  module _ (n start : ℕ) (inside : n < props l) (first : start ≡ word_at w (2 * n)) where
    pub climb_start : (x : ℕ) → Climb l x start 0 start
    climb_start x = record { same = refl; stands = λ d. let b = (up n start inside first).1 d in (omega arith, b.1) }

    module _ (x k q : ℕ) (so : Climb l x start k q) where
      from_here : settled x 0 (binders l n) ≡ settled x k (chain l q)
      from_here = ap (settled x 0) (sym (up n start inside first).0) ∙ so.same

      pub climb_end : q ≡ none → free x ≡ settled x 0 (binders l n)
      unfolding settled
      climb_end e = sym (from_here ∙ rw (eq-eqb q none e))

      module _ (on : q ≡ none → ⊥) (r : Record) (e : r ≡ prop_record l q) where
        pub climb_found : r.a ≡ x → bound k ≡ settled x 0 (binders l n)
        unfolding settled
        climb_found y = sym (from_here ∙ rw (ne_eqb q none on, eq-eqb x (prop_record l q).a (sym y ∙ ap (λ (r : Record). r.a) e)))

        module _ (y : r.a ≡ x → ⊥) (q' : ℕ) (next : q' ≡ word_at w (2 * q)) where
          pub climb_falls : props l - q' < props l - q
          climb_falls = at (eqb q' none) refl (so.stands on).1
            where
              at : (b : Bool) → eqb q' none ≡ b → q < props l → props l - q' < props l - q
              at true t b = omega (arith, eqb-true q' none t, c.propositions)
              at false t b = omega (arith, (up q q' b next).1 (eqb-false q' none t))

          pub climb_step : Climb l x start (k + 1) q'
          unfolding settled
          climb_step =
              let b = so.stands on in
              let u = up q q' b.1 next in
              record {
                same = so.same ∙ rw (ne_eqb q none on, ne_eqb x (prop_record l q).a (λ t. y (ap (λ (r : Record). r.a) e ∙ sym t)), u.0, add-one k);
                stands = λ d. let v = u.1 d in (omega arith, v.1);
              }

-- TEST 7. One parameter, as it was settled
pub some_bound : (x : ℕ) (o : Option ℕ) (P : Param) → param_of x o ≡ P → is_some o ≡ named_not P
unfolding named_not
some_bound x None P e = rw (sym e)
some_bound x (Some k) P e = rw (sym e)

-- all of them
pub all_params : (t : Param → Bool) (g : ℕ → Param) (xs : List ℕ) → list_all (λ x. t (g x)) xs ≡ each_param t (map g xs)
unfolding each_param
all_params t g [] = refl
all_params t g (x ∷ xs) = ap (λ (b : Bool). t (g x) && b) (all_params t g xs)

-- a record, from its children's answers
module _ {l : List ℕ} (h : WellLinked l) (n : ℕ) (inside : n < props l) (r : Record) (e : r ≡ prop_record l n)
    (s : PropShape) (shape : s ≡ prop_shape (prop_kind r.kind)) where
  children_are : s.children ≡ (prop_shape (prop_kind (prop_record l n).kind)).children
  children_are = ap (λ (s : PropShape). s.children) shape ∙ ap (λ (r : Record). (prop_shape (prop_kind r.kind)).children) e

  child_in : (i : ℕ) → 0 < hits i (prop_children s.children r) → i < n
  child_in i x = child_below (directed h.linked) n i inside (subst (λ r. 0 < hits i (prop_links r)) e (linked_so r s shape i x))

  pub shut_none : Formed l → s.children ≡ 0 → (b : Bool) → b ≡ closed_params l n r → b ≡ closed (prop_at l n)
  shut_none f z b q = q ∙ ap (closed_params l n) e ∙ sym (closed_none h.linked n inside f (sym children_are ∙ z))

  module _ (z : s.children ≡ 1) where
    pub body_below : r.c < n
    body_below = child_in r.c (body_hit s.children r (eq-eqb s.children 1 z))

    pub shut_one : (b : Bool) → b ≡ closed (prop_at l r.c) → b ≡ closed (prop_at l n)
    shut_one b q = q ∙ ap (λ (r : Record). closed (prop_at l r.c)) e ∙ sym (closed_one h.linked n inside (sym children_are ∙ z))

  module _ (z : Nots s.children 2) where
    two : 1 < s.children
    two = past s.children 2 z

    pub left_below : r.a < n
    left_below = child_in r.a (left_hit s.children r (lt-ltb 1 s.children two))

    pub right_below : r.b < n
    right_below = child_in r.b (right_hit s.children r (lt-ltb 1 s.children two))

    pub shut_two : (a b : Bool) → a ≡ closed (prop_at l r.a) → b ≡ closed (prop_at l r.b) → a && b ≡ closed (prop_at l n)
    shut_two a b p q =
        ap₂ ◌&&◌ p q
        ∙ ap (λ (r : Record). closed (prop_at l r.a) && closed (prop_at l r.b)) e
        ∙ sym (closed_two h.linked n inside (subst (λ k. 1 < k) children_are two))

-- the whole test
module _ (l : List ℕ) (p : Purpose) where
  pub no_goal : p ≡ Filling → None ≡ open_goal p l
  unfolding open_goal
  no_goal q = rw q

  module _ (q : p ≡ Check) (goal : ℕ) (e : goal ≡ expected l) where
    pub goal_shut : (b : Bool) → b ≡ closed (prop_at l goal) → b ≡ true → None ≡ open_goal p l
    unfolding open_goal
    goal_shut b x t = let z : closed (prop_at l (expected l)) ≡ true = ap (λ i. closed (prop_at l i)) (sym e) ∙ sym x ∙ t in rw (q, z)

    pub goal_open : (b : Bool) → b ≡ closed (prop_at l goal) → b ≡ false → Some goal ≡ open_goal p l
    unfolding open_goal
    goal_open b x t = let z : closed (prop_at l (expected l)) ≡ false = ap (λ i. closed (prop_at l i)) (sym e) ∙ sym x ∙ t in rw (q, z, e)
