-- What the code of test 6 keeps in the work room: heights from the children's, depths from the holder's.
-- Assumes nothing.
use mathlib.Core.Path.{◌≡◌, refl, ap, sym, subst, subst⁻¹, ◌∙◌}
use mathlib.Core.Bool.{Bool, true, false}
use mathlib.Core.List.{List, []}
use mathlib.Core.Logic.{◌⊎◌, inl, inr}
use Prim.Native.Nat.{ℕ, zero, suc, ◌+◌, ◌<◌, ◌≤◌, max}
use native.Mathlib.Nat.{eq-or-lt_of_le}
use native.Mathlib.Omega.{arith}
use borrow.Author.Tests.{lt-ltb, le-ltb}
use lib.ListN.{length, get_or, set, length-set}
use lib.Seq.{get_or-set_same, get_or-set_other}
use lib.Dec.{ltb}
use Rattle.numbers.specs.declared.record.Record.{Record}
use Rattle.numbers.specs.Limits.{most_height, most_depth}
use Rattle.layout.specs.declared.form.PropShape.{PropShape}
use Rattle.layout.specs.declared.form.TermShape.{TermShape}
use Rattle.layout.specs.declared.record.TermRecord.{TermRecord}
use Rattle.layout.specs.File.{props, terms, prop_record, term_record, prop_kind, kind_of}
use Rattle.layout.specs.Form.{prop_shape, term_shape}
use Rattle.table.specs.Links.{hits, prop_children, prop_links, term_children, term_links}
use Rattle.table.specs.Naming.{used_hits}
use Rattle.table.specs.Passing.{WellLinked}
use Rattle.table.specs.Reading.{prop_at}
use Rattle.table.specs.Size.{height, depth, too_high, too_deep}
use Rattle.table.specs.Sizing.{height_over, height_of, ChildrenHigh, Within, Deepened}
use Rattle.table.proofs.Sums.{hit_here, hit_later, hit_not, hit_either}
use Rattle.table.proofs.Links.{directed, child_below, term_child, holder_child, holder_above, holder_some}
use Rattle.table.proofs.Namings.{term_hits}
use Rattle.table.proofs.Sizes.{height_none, height_one, height_two, depth_root, depth_child}

-- A RECORD WITH k CHILDREN: which they are, and its height over theirs
body_named : (k : ℕ) (r : Record) → k ≡ 1 → 0 < hits r.c (prop_children k r)
unfolding prop_children
body_named k r e = subst⁻¹ (λ (j : ℕ). 0 < hits r.c (prop_children j r)) e (hit_here r.c [])

left_named : (k : ℕ) (r : Record) → 2 ≤ k → 0 < hits r.a (prop_children k r)
unfolding prop_children
left_named zero r h = absurd (omega arith)
left_named (suc zero) r h = absurd (omega arith)
left_named (suc (suc k)) r h = hit_here r.a _

right_named : (k : ℕ) (r : Record) → 2 ≤ k → 0 < hits r.b (prop_children k r)
unfolding prop_children
right_named zero r h = absurd (omega arith)
right_named (suc zero) r h = absurd (omega arith)
right_named (suc (suc k)) r h = hit_later r.b r.a _ (hit_here r.b [])

over_none : (k : ℕ) (r : Record) (w : List ℕ) → k ≡ 0 → height_over k r w ≡ 1
unfolding height_over
over_none k r w e = ap (λ (j : ℕ). height_over j r w) e

over_one : (k : ℕ) (r : Record) (w : List ℕ) → k ≡ 1 → height_over k r w ≡ suc (get_or w r.c 0)
unfolding height_over
over_one k r w e = ap (λ (j : ℕ). height_over j r w) e

over_two : (k : ℕ) (r : Record) (w : List ℕ) → 2 ≤ k → height_over k r w ≡ suc (max (get_or w r.a 0) (get_or w r.b 0))
unfolding height_over
over_two zero r w h = absurd (omega arith)
over_two (suc zero) r w h = absurd (omega arith)
over_two (suc (suc k)) r w h = refl

-- the same, with the record's shape in hand
module _ (r : Record) (w : List ℕ) (s : PropShape) (e : s ≡ prop_shape (prop_kind r.kind)) where
  many : s.children ≡ (prop_shape (prop_kind r.kind)).children
  many = ap (λ (s : PropShape). s.children) e

  both_many : 2 ≤ s.children → 2 ≤ (prop_shape (prop_kind r.kind)).children
  both_many q = omega (arith, many)

  pub body_high : ChildrenHigh r w → s.children ≡ 1 → (r.c < length w) × (get_or w r.c 0 < 255)
  body_high h q = h r.c (body_named _ r (sym many ∙ q))

  pub left_high : ChildrenHigh r w → 2 ≤ s.children → (r.a < length w) × (get_or w r.a 0 < 255)
  left_high h q = h r.a (left_named _ r (both_many q))

  pub right_high : ChildrenHigh r w → 2 ≤ s.children → (r.b < length w) × (get_or w r.b 0 < 255)
  right_high h q = h r.b (right_named _ r (both_many q))

  pub leaf_height : s.children ≡ 0 → 1 ≡ height_of r w
  leaf_height q = sym (over_none _ r w (sym many ∙ q))

  pub body_height : s.children ≡ 1 → get_or w r.c 0 + 1 ≡ height_of r w
  body_height q = omega (arith, over_one _ r w (sym many ∙ q))

  pub two_height : 2 ≤ s.children → (m : ℕ) → m ≡ max (get_or w r.a 0) (get_or w r.b 0) → m + 1 ≡ height_of r w
  two_height q m h = omega (arith, over_two _ r w (both_many q))

-- HEIGHTS of the records below n, each within the limit
abbrev pub Heights : List ℕ → List ℕ → ℕ → Type 0
Heights l w n = (j : ℕ) → j < n → (get_or w j 0 ≡ height (prop_at l j)) × (get_or w j 0 ≤ most_height)

module _ (l w : List ℕ) (n : ℕ) (r : Record) (e : r ≡ prop_record l n) (k : n < props l) (g : WellLinked l) (h : Heights l w n) where
  pub children_high : n ≤ length w → ChildrenHigh r w
  children_high f m x =
      let b = child_below (directed g.linked) n m k (subst (λ (r : Record). 0 < hits m (prop_links r)) e x) in
      (omega arith, omega (arith, (h m b).1))

  child_height : (m : ℕ) → 0 < hits m (prop_links (prop_record l n)) → get_or w m 0 ≡ height (prop_at l m)
  child_height m x = (h m (child_below (directed g.linked) n m k x)).0

  by_children : (c : ℕ) → (prop_shape (prop_kind (prop_record l n).kind)).children ≡ c → height_of (prop_record l n) w ≡ height (prop_at l n)
  by_children zero q = over_none _ _ w q ∙ sym (height_none g.linked n k q)
  by_children (suc zero) q = over_one _ _ w q ∙ ap suc (child_height _ (body_named _ _ q)) ∙ sym (height_one g.linked n k q)
  by_children (suc (suc c)) q =
      let t : 2 ≤ (prop_shape (prop_kind (prop_record l n).kind)).children = omega arith in
      let a = child_height _ (left_named _ (prop_record l n) t) in
      let b = child_height _ (right_named _ (prop_record l n) t) in
      omega (arith, over_two _ (prop_record l n) w t, height_two g.linked n k t)

  pub height_found : (x : ℕ) → x ≡ height_of r w → x ≡ height (prop_at l n)
  height_found x q = q ∙ ap (λ (r : Record). height_of r w) e ∙ by_children _ refl

  pub heights_next : (x : ℕ) → x ≡ height_of r w → x ≤ most_height → n < length w → Heights l (set w n x) (n + 1)
  heights_next x q le f j b = at (eq-or-lt_of_le {n = j} {m = n} (omega arith))
    where
      at : (j ≡ n) ⊎ (j < n) → (get_or (set w n x) j 0 ≡ height (prop_at l j)) × (get_or (set w n x) j 0 ≤ most_height)
      at (inl i) =
          let v : get_or (set w n x) j 0 ≡ x = ap (λ (i : ℕ). get_or (set w n x) i 0) i ∙ get_or-set_same w n x 0 f in
          (v ∙ height_found x q ∙ ap (λ (i : ℕ). height (prop_at l i)) (sym i), omega arith)
      at (inr i) =
          let v : get_or (set w n x) j 0 ≡ get_or w j 0 = get_or-set_other w n j x 0 (λ o. omega arith) in
          (v ∙ (h j i).0, omega (arith, (h j i).1))

pub is_high : (l : List ℕ) (n x : ℕ) → x ≡ height (prop_at l n) → most_height < x → too_high l n ≡ true
unfolding too_high
is_high l n x e h = lt-ltb most_height (height (prop_at l n)) (omega arith)

pub not_high : (l : List ℕ) (n x : ℕ) → x ≡ height (prop_at l n) → x ≤ most_height → too_high l n ≡ false
unfolding too_high
not_high l n x e h = le-ltb most_height (height (prop_at l n)) (omega arith)

-- A DEPTH FOR EACH CHILD, one after another
pub used_within : (m : ℕ) (u : Bool) (w : List ℕ) → Within (used_hits u m) w → u ≡ true → m < length w
used_within m u w h e = h m (subst⁻¹ (λ (v : Bool). 0 < used_hits v m m) e (hit_here m []))

pub deepened_one : (m d : ℕ) (u : Bool) (w : List ℕ) → Within (used_hits u m) w → u ≡ true → Deepened (used_hits u m) d w (set w m d)
deepened_one m d u w h e =
    let k = used_within m u w h e in
    subst⁻¹ (λ (v : Bool). Deepened (used_hits v m) d w (set w m d)) e
    record { size = length-set w m d; here = λ t x. same t (hit_either t m [] x) k; others = λ t x. get_or-set_other w m t d 0 (λ q. other t (sym q) x) }
  where
    same : (t : ℕ) → (m ≡ t) ⊎ (0 < hits t []) → m < length w → get_or (set w m d) t 0 ≡ d
    same t (inl q) k = ap (λ (i : ℕ). get_or (set w m d) i 0) (sym q) ∙ get_or-set_same w m d 0 k
    same t (inr x) k = absurd (hit_not t x)

    other : (t : ℕ) → m ≡ t → used_hits true m t ≡ 0 → ⊥
    other t q x = omega (arith, subst (λ (i : ℕ). 0 < used_hits true m i) q (hit_here m []), x)

deepened_then : {f g : ℕ → ℕ} {d : ℕ} {x y z : List ℕ} → Deepened f d x y → Deepened g d y z → Deepened (λ t. f t + g t) d x z
deepened_then {f} {g} {d} {x} {y} {z} a b =
    record { size = b.size ∙ a.size; here = λ t h. at t h (eq-or-lt_of_le {n = 0} {m = g t} (omega arith)); others = λ t h. b.others t (omega arith) ∙ a.others t (omega arith) }
  where
    at : (t : ℕ) → 0 < f t + g t → (0 ≡ g t) ⊎ (0 < g t) → get_or z t 0 ≡ d
    at t h (inl e) = b.others t (sym e) ∙ a.here t (omega arith)
    at t h (inr l) = b.here t l

deepened_same : {f g : ℕ → ℕ} {d : ℕ} {x y : List ℕ} → Deepened f d x y → ((t : ℕ) → f t ≡ g t) → Deepened g d x y
deepened_same {f} {g} {d} {x} {y} a e = record { size = a.size; here = λ t h. a.here t (omega (arith, e t)); others = λ t h. a.others t (omega (arith, e t)) }

-- a term's three links
abbrev one : TermRecord → TermShape → ℕ → ℕ
one r s = used_hits (ltb 0 s.children) r.child1.0

abbrev two : TermRecord → TermShape → ℕ → ℕ
two r s = used_hits (ltb 1 s.children) r.child2.0

abbrev three : TermRecord → TermShape → ℕ → ℕ
three r s = used_hits (ltb 2 s.children) r.child3.0

module _ (r : TermRecord) (s : TermShape) (e : s ≡ term_shape (kind_of r.kind)) where
  each_child : (t : ℕ) → one r s t + (two r s t + three r s t) ≡ hits t (term_links r)
  each_child t = term_hits s.children r t ∙ ap (λ (s : TermShape). hits t (term_children s.children r)) e

  pub children_within : (w v : List ℕ) → Within (λ t. hits t (term_links r)) w → length v ≡ length w → Within (one r s) v × Within (two r s) v × Within (three r s) v
  children_within w v h q =
      let in_room : (t : ℕ) → 0 < hits t (term_links r) → t < length v = λ t x. omega (arith, h t x) in
      (λ t x. in_room t (omega (arith, each_child t)), λ t x. in_room t (omega (arith, each_child t)), λ t x. in_room t (omega (arith, each_child t)))

  pub children_deepened : (d : ℕ) (x y z w : List ℕ) → Deepened (one r s) d x y → Deepened (two r s) d y z → Deepened (three r s) d z w → Deepened (λ t. hits t (term_links r)) d x w
  children_deepened d x y z w a b c = deepened_same (deepened_then a (deepened_then b c)) each_child

-- DEPTHS of the root and of the children of the terms below t
pub record Depths (l w : List ℕ) (t : ℕ) : Type 0 where
  pub root : get_or w 0 0 ≡ depth l 0
  pub child : (s c : ℕ) → s < t → 0 < hits c (term_links (term_record l s)) → get_or w c 0 ≡ depth l c

pub depths_start : (l w : List ℕ) → 0 < length w → Depths l (set w 0 1) 0
depths_start l w h = record { root = get_or-set_same w 0 1 0 h ∙ sym (depth_root l); child = λ s c k. absurd (omega arith) }

module _ (l w : List ℕ) (t : ℕ) (g : WellLinked l) (k : t < terms l) where
  -- a term other than the root has a holder, of a smaller number
  pub depth_here : Depths l w t → get_or w t 0 ≡ depth l t
  depth_here h = at (eq-or-lt_of_le {n = 0} {m = t} (omega arith))
    where
      at : (0 ≡ t) ⊎ (0 < t) → get_or w t 0 ≡ depth l t
      at (inl e) = subst (λ (i : ℕ). get_or w i 0 ≡ depth l i) e h.root
      at (inr z) = let o = holder_some g.linked t z k in let b = holder_above (directed g.linked) o.0 t o.1 in h.child o.0 t b.2 b.1

  module _ (r : TermRecord) (e : r ≡ term_record l t) where
    pub subterms_within : terms l ≤ length w → Within (λ c. hits c (term_links r)) w
    subterms_within f c x = omega (arith, (term_child (directed g.linked) t c k (subst (λ (r : TermRecord). 0 < hits c (term_links r)) e x)).1)

    -- a term has one holder
    unnamed : (s c : ℕ) → s < t → 0 < hits c (term_links (term_record l s)) → 0 < hits c (term_links (term_record l t)) → ⊥
    unnamed s c b x y =
        let p = holder_child g.linked s c (omega arith) x in
        let q = holder_child g.linked t c k y in
        let z : s ≡ t = cc in
        omega arith

    pub depths_next : (v : List ℕ) (d : ℕ) → Depths l w t → d ≡ depth l t → Deepened (λ c. hits c (term_links r)) (d + 1) w v → Depths l v (t + 1)
    depths_next v d h q n = record { root = m.others 0 (none 0 (λ y. omega (arith, (term_child (directed g.linked) t 0 k y).0))) ∙ h.root; child = λ s c b x. at s c x (eq-or-lt_of_le {n = s} {m = t} (omega arith)) }
      where
        m : Deepened (λ c. hits c (term_links (term_record l t))) (d + 1) w v
        m = subst (λ (r : TermRecord). Deepened (λ c. hits c (term_links r)) (d + 1) w v) e n

        none : (c : ℕ) → (0 < hits c (term_links (term_record l t)) → ⊥) → hits c (term_links (term_record l t)) ≡ 0
        none c o = omega arith

        at : (s c : ℕ) → 0 < hits c (term_links (term_record l s)) → (s ≡ t) ⊎ (s < t) → get_or v c 0 ≡ depth l c
        at s c x (inl i) =
            let y : 0 < hits c (term_links (term_record l t)) = subst (λ (s : ℕ). 0 < hits c (term_links (term_record l s))) i x in
            omega (arith, m.here c y, depth_child g.linked t c k y)
        at s c x (inr b) = m.others c (none c (unnamed s c b x)) ∙ h.child s c b x

pub is_deep : (l : List ℕ) (t d : ℕ) → d ≡ depth l t → most_depth < d → too_deep l t ≡ true
unfolding too_deep
is_deep l t d e h = lt-ltb most_depth (depth l t) (omega arith)

pub not_deep : (l : List ℕ) (t d : ℕ) → d ≡ depth l t → d ≤ most_depth → too_deep l t ≡ false
unfolding too_deep
not_deep l t d e h = le-ltb most_depth (depth l t) (omega arith)
