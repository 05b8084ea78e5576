-- What a room of propositions stands for, one record at a time, and what stays when the room grows. Assumes nothing.
use mathlib.Core.Path.{◌≡◌, refl, ap, subst, subst⁻¹, ◌∙◌}
use mathlib.Core.Bool.{true, false≢true}
use mathlib.Core.List.{List, [], ◌∷◌}
use mathlib.Core.Logic.{◌⊎◌, inl, inr}
use Prim.Native.Nat.{ℕ, zero, suc, ◌+◌, ◌*◌, ◌<◌, ◌≤◌}
use native.Mathlib.Nat.{eq-or-lt_of_le}
use native.Mathlib.Omega.{arith}
use lib.ListN.{length}
use lib.Dec.{ltb}
use borrow.Author.Tests.{ltb-true}
use Rattle.numbers.specs.declared.Sort.{Sort}
use Rattle.numbers.specs.declared.Sort.TheVariants.{Proposition, Datatype}
use Rattle.numbers.specs.declared.record.Record.{Record}
use Rattle.numbers.specs.Records.{record_at, Put, Same}
use Rattle.rules.specs.Prop.{Link, Quant, Prop, link, quant, prop}
use Rattle.layout.specs.File.{PropKind, constant, linked, quantified, atomic, strange, prop_kind}
use Rattle.layout.specs.Form.{prop_shape}
use Rattle.table.specs.Links.{all_links, prop_children, prop_links, hits}
use Rattle.layout.proofs.Strange.{strange_prop}
use Rattle.table.proofs.Sums.{hit_here, hit_later, hit_ok}
use Rattle.prop.specs.Room.{origin, node, room_within, room_at, type_at, TypeIn, form_as, room_form, Node, Arena}

-- A RECORD'S CHILDREN, by its kind
pub hit_parts : (h : Link) (K : PropKind) (r : Record) → K ≡ linked h
    → (0 < hits r.a (prop_children (prop_shape K).children r)) × (0 < hits r.b (prop_children (prop_shape K).children r))
unfolding prop_shape prop_children
hit_parts h K r e =
    subst⁻¹ (λ (K : PropKind). (0 < hits r.a (prop_children (prop_shape K).children r)) × (0 < hits r.b (prop_children (prop_shape K).children r))) e
    (hit_here r.a (r.b ∷ []), hit_later r.b r.a (r.b ∷ []) (hit_here r.b []))

pub hit_body : (q : Quant) (K : PropKind) (r : Record) → K ≡ quantified q → 0 < hits r.c (prop_children (prop_shape K).children r)
unfolding prop_shape prop_children
hit_body q K r e = subst⁻¹ (λ (K : PropKind). 0 < hits r.c (prop_children (prop_shape K).children r)) e (hit_here r.c [])

-- ONE RECORD: its kind is known, and its children have smaller numbers
module _ {w : List ℕ} {n : ℕ} (d : Node w n) where
  pub child_under : (m : ℕ) → 0 < hits m (prop_links (record_at w n)) → m < n
  child_under m x = ltb-true m n (hit_ok (λ m. ltb m n) m (prop_links (record_at w n)) d.links x)

  pub parts_under : (h : Link) → prop_kind (record_at w n).kind ≡ linked h → ((record_at w n).a < n) × ((record_at w n).b < n)
  parts_under h e =
      let x = hit_parts h (prop_kind (record_at w n).kind) (record_at w n) e in
      (child_under (record_at w n).a x.0, child_under (record_at w n).b x.1)

  pub body_under : (q : Quant) → prop_kind (record_at w n).kind ≡ quantified q → (record_at w n).c < n
  body_under q e = child_under (record_at w n).c (hit_body q (prop_kind (record_at w n).kind) (record_at w n) e)

  pub not_strange : prop_kind (record_at w n).kind ≡ strange → ⊥
  unfolding room_form form_as
  not_strange e = false≢true (subst (λ (K : PropKind). form_as K (record_at w n) ≡ true) e d.form)

  pub kind_known : (record_at w n).kind < 8
  kind_known = let h : 8 ≤ (record_at w n).kind → ⊥ = λ l. not_strange (strange_prop (record_at w n).kind l) in omega arith

-- a record's reading asks only for its children's
pub node_same : (tables n : ℕ) (sub sub' : ℕ → Prop) (K : PropKind) (r : Record) → ((m : ℕ) → 0 < hits m (prop_children (prop_shape K).children r) → sub m ≡ sub' m)
    → node tables n sub K r ≡ node tables n sub' K r
unfolding node prop_children prop_shape
node_same tables n sub sub' (constant b) r e = refl
node_same tables n sub sub' (linked h) r e = λ i. link (origin tables n) h (e r.a (hit_here r.a (r.b ∷ [])) i) (e r.b (hit_later r.b r.a (r.b ∷ []) (hit_here r.b [])) i)
node_same tables n sub sub' (quantified q) r e = ap (quant (origin tables n) q r.a r.b) (e r.c (hit_here r.c []))
node_same tables n sub sub' atomic r e = refl
node_same tables n sub sub' strange r e = refl

-- A ROOM
module _ {w : List ℕ} {c : ℕ} (ok : Arena w c) where
  enough : (tables f g n : ℕ) → n < f → n < g → n < c → room_within f tables w n ≡ room_within g tables w n
  unfolding room_within
  enough tables zero g n a b k = absurd (omega arith)
  enough tables (suc f) zero n a b k = absurd (omega arith)
  enough tables (suc f) (suc g) n a b k =
      node_same tables n (room_within f tables w) (room_within g tables w) (prop_kind (record_at w n).kind) (record_at w n)
      (λ m x. let u = child_under (ok.each n k) m x in enough tables f g m (omega arith) (omega arith) (omega arith))

  -- a number stands for what its record says of what its children's numbers stand for
  pub room_step : (tables n : ℕ) → n < c → room_at tables w n ≡ node tables n (room_at tables w) (prop_kind (record_at w n).kind) (record_at w n)
  unfolding room_at room_within
  room_step tables n k =
      node_same tables n (room_within n tables w) (room_at tables w) (prop_kind (record_at w n).kind) (record_at w n)
      (λ m x. let u = child_under (ok.each n k) m x in enough tables n (suc m) m u (omega arith) (omega arith))

  pub arena_less : (d : ℕ) → d ≤ c → Arena w d
  arena_less d h = record { each = λ n l. ok.each n (omega arith); room = omega (arith, ok.room) }

pub type_more : (c d : ℕ) (t : Sort) → c ≤ d → TypeIn c t → TypeIn d t
type_more c d (Proposition n) h k = omega arith
type_more c d (Datatype x) h k = tt

-- A ROOM THAT KEEPS ITS FIRST c RECORDS keeps what they stand for
module _ {old : List ℕ} (new : List ℕ) {c : ℕ} (ok : Arena old c) (same : Same c old new) where
  kept_within : (tables f n : ℕ) → n < c → room_within f tables new n ≡ room_within f tables old n
  unfolding room_within
  kept_within tables zero n k = refl
  kept_within tables (suc f) n k =
      ap (λ (r : Record). node tables n (room_within f tables new) (prop_kind r.kind) r) (same n k)
      ∙ node_same tables n (room_within f tables new) (room_within f tables old) (prop_kind (record_at old n).kind) (record_at old n)
      (λ m x. let u = child_under (ok.each n k) m x in kept_within tables f m (omega arith))

  pub room_same : (tables n : ℕ) → n < c → room_at tables new n ≡ room_at tables old n
  unfolding room_at
  room_same tables n k = kept_within tables (suc n) n k

  pub type_same : (tables : ℕ) (t : Sort) → TypeIn c t → type_at tables new t ≡ type_at tables old t
  type_same tables (Proposition n) k = ap prop (room_same tables n.0 k)
  type_same tables (Datatype d) k = refl

  pub node_kept : (n : ℕ) → n < c → Node new n
  node_kept n k =
      let d = ok.each n k in
      record {
        form = subst⁻¹ (λ (r : Record). room_form r ≡ true) (same n k) d.form;
        links = subst⁻¹ (λ (r : Record). all_links (λ m. ltb m n) (prop_links r) ≡ true) (same n k) d.links;
      }

-- ONE RECORD MORE
pub same_put : {old new : List ℕ} {c : ℕ} {r : Record} → Put old c r new → Same c old new
same_put p m l = p.others m (omega arith)

module _ {old new : List ℕ} {c : ℕ} {r : Record} (ok : Arena old c) (p : Put old c r new) (form : room_form r ≡ true)
    (links : all_links (λ m. ltb m c) (prop_links r) ≡ true) where
  node_put : Node new c
  node_put =
      record {
        form = subst⁻¹ (λ (r : Record). room_form r ≡ true) p.here form;
        links = subst⁻¹ (λ (r : Record). all_links (λ m. ltb m c) (prop_links r) ≡ true) p.here links;
      }

  pub arena_put : 16 * c + 16 ≤ length old → Arena new (c + 1)
  arena_put h = record { each = λ n l. at n (eq-or-lt_of_le (omega arith)); room = omega (arith, p.size) }
    where
      at : (n : ℕ) → (n ≡ c) ⊎ (n < c) → Node new n
      at n (inl e) = subst⁻¹ (Node new) e node_put
      at n (inr l) = node_kept new ok (same_put p) n l

  -- the new record stands for what it says of what its children stood for
  pub room_put : 16 * c + 16 ≤ length old → (tables : ℕ) → room_at tables new c ≡ node tables c (room_at tables old) (prop_kind r.kind) r
  room_put h tables =
      room_step (arena_put h) tables c (omega arith)
      ∙ ap (λ (r : Record). node tables c (room_at tables new) (prop_kind r.kind) r) p.here
      ∙ node_same tables c (room_at tables new) (room_at tables old) (prop_kind r.kind) r
      (λ m x. room_same new ok (same_put p) tables m (ltb-true m c (hit_ok (λ m. ltb m c) m (prop_links r) links x)))
