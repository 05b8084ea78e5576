-- A table's propositions put into their room: parameters, atoms, records, and what the room then stands for. Assumes nothing.
use Rattle.std.specs.Prelude.{Option, Some, None}
use mathlib.Core.Path.{◌≡◌, refl, ap, sym, subst, subst⁻¹, ◌∙◌}
use mathlib.Core.Bool.{true, false, ◌&&◌}
use mathlib.Core.List.{List, [], ◌∷◌, map}
use Prim.Native.Nat.{ℕ, zero, suc, ◌*◌, ◌<◌, ◌≤◌}
use native.Mathlib.Omega.{arith}
use lib.ListN.{length, get_or, take}
use lib.Dec.{eqb, ltb, leb}
use borrow.Author.Tests.{eqb-true, lt-ltb, leb-true}
use Rattle.numbers.specs.declared.Name.{Name}
use Rattle.numbers.specs.declared.record.Record.{Record}
use Rattle.numbers.specs.Records.{record_at}
use Rattle.rules.specs.Prop.{Param, free, Origin, table, Prop, const, link, quant, atom}
use Rattle.layout.specs.File.{props, prop_record, PropKind, constant, linked, quantified, atomic, strange, prop_kind, prop_kinds}
use Rattle.layout.specs.Form.{prop_shape, in_prop_shape, prop_form}
use Rattle.layout.proofs.Strange.{strange_prop}
use Rattle.table.specs.Links.{all_links, prop_children, prop_links, hits}
use Rattle.table.specs.Reading.{binders, settled, prop_of, prop_at}
use Rattle.table.specs.Nearest.{param_of}
use Rattle.table.specs.Passing.{Formed, WellLinked}
use Rattle.table.proofs.Sums.{hit_here, hit_later}
use Rattle.table.proofs.Links.{directed, prop_induction}
use Rattle.table.proofs.Reading.{prop_step}
use Rattle.prop.specs.declared.atom.Parameter.{Parameter}
use Rattle.prop.specs.declared.atom.Parameter.TheVariants.{Free, Bound}
use Rattle.prop.specs.Room.{param, kind_0, kind_1, kind_2, kind_3, params, origin, node, room_at, form_as, room_form, Node, Arena}
use Rattle.prop.specs.Atom.{coded, becomes, with_parameters}
use Rattle.arena.specs.Load.{named, loaded_atom, loaded_as, loaded_from, loaded_record, Loading, Loaded}
use Rattle.prop.proofs.Rooms.{room_step}
use Rattle.prop.proofs.Views.{kind_atomic}
use Rattle.prop.proofs.Atoms.{split, form_of}
use Rattle.prop.proofs.Places.{changed_form, changed_params}

-- ONE PARAMETER, as it was settled
module _ (l : List ℕ) (n : ℕ) (p : Parameter) (x : Name) (e : p ≡ Free x) (o : Option ℕ) (f : param_of x.0 o ≡ settled x.0 0 (binders l n)) where
  as_settled : (q : Option ℕ) → o ≡ q → coded (param_of x.0 q) ≡ becomes (named l n) p
  unfolding named
  as_settled q g =
      ap (λ (q : Option ℕ). coded (param_of x.0 q)) (sym g) ∙ ap (λ (y : Param). coded y) f ∙ ap (λ (p : Parameter). becomes (named l n) p) (sym e)

  pub load_free : o ≡ None → Free x ≡ becomes (named l n) p
  load_free g = as_settled None g

  pub load_bound : (k : ℕ) → o ≡ Some k → Bound k ≡ becomes (named l n) p
  load_bound k g = as_settled (Some k) g

-- A RECORD of either sort
loaded_same : (l : List ℕ) (n k : ℕ) (r : Record) → (k ≡ 7 → ⊥) → loaded_as l n (prop_kind k) r ≡ r
unfolding prop_kind prop_kinds loaded_as
loaded_same l n zero r h = refl
loaded_same l n (suc zero) r h = refl
loaded_same l n (suc (suc zero)) r h = refl
loaded_same l n (suc (suc (suc zero))) r h = refl
loaded_same l n (suc (suc (suc (suc zero)))) r h = refl
loaded_same l n (suc (suc (suc (suc (suc zero))))) r h = refl
loaded_same l n (suc (suc (suc (suc (suc (suc zero)))))) r h = refl
loaded_same l n (suc (suc (suc (suc (suc (suc (suc zero))))))) r h = absurd (h refl)
loaded_same l n (suc (suc (suc (suc (suc (suc (suc (suc k)))))))) r h =
    ap (λ (K : PropKind). loaded_as l n K r) (strange_prop (suc (suc (suc (suc (suc (suc (suc (suc k)))))))) (omega arith))

module _ (l : List ℕ) (n : ℕ) (r : Record) (er : r ≡ prop_record l n) where
  pub record_atom : r.kind ≡ 7 → (q : Record) → q ≡ loaded_atom l n r → q ≡ loaded_record l n
  unfolding loaded_as
  record_atom k q e =
      let K : prop_kind r.kind ≡ atomic = kind_atomic r.kind (omega arith) (omega arith) in
      e ∙ sym (ap (λ (K : PropKind). loaded_as l n K r) K) ∙ ap (loaded_from l n) er

  pub record_other : (r.kind ≡ 7 → ⊥) → r ≡ loaded_record l n
  record_other h = sym (loaded_same l n r.kind r h) ∙ ap (loaded_from l n) er

-- the first n of four names
names_only : (r : Record) → r.b ≡ 0
    → params r
    ≡ take r.count (free (get_or r.parameters 0 0) ∷ free (get_or r.parameters 1 0) ∷ free (get_or r.parameters 2 0) ∷ free (get_or r.parameters 3 0) ∷ [])
unfolding params param
names_only r e =
    let p : ℕ → ℕ = λ i. get_or r.parameters i 0 in
    ap (λ (b : ℕ). take r.count (param (kind_0 b) (p 0) ∷ param (kind_1 b) (p 1) ∷ param (kind_2 b) (p 2) ∷ param (kind_3 b) (p 3) ∷ [])) e

first_few : (g : Param → Param) (n : ℕ) (xs : List ℕ) → n ≤ 4 → length xs ≡ 4
    → map g (take n (free (get_or xs 0 0) ∷ free (get_or xs 1 0) ∷ free (get_or xs 2 0) ∷ free (get_or xs 3 0) ∷ [])) ≡ map (λ x. g (free x)) (take n xs)
first_few g n [] k h = absurd (omega arith)
first_few g n (a ∷ []) k h = absurd (omega arith)
first_few g n (a ∷ b ∷ []) k h = absurd (omega arith)
first_few g n (a ∷ b ∷ c ∷ []) k h = absurd (omega arith)
first_few g n (a ∷ b ∷ c ∷ d ∷ e ∷ xs) k h = absurd (omega arith)
first_few g zero (a ∷ b ∷ c ∷ d ∷ []) k h = refl
first_few g (suc zero) (a ∷ b ∷ c ∷ d ∷ []) k h = refl
first_few g (suc (suc zero)) (a ∷ b ∷ c ∷ d ∷ []) k h = refl
first_few g (suc (suc (suc zero))) (a ∷ b ∷ c ∷ d ∷ []) k h = refl
first_few g (suc (suc (suc (suc zero)))) (a ∷ b ∷ c ∷ d ∷ []) k h = refl
first_few g (suc (suc (suc (suc (suc n))))) (a ∷ b ∷ c ∷ d ∷ []) k h = absurd (omega arith)

-- THE FORM that test 4 asks for
counts_in : (r : Record) (K : PropKind) → prop_kind r.kind ≡ K → prop_form r ≡ true → ((prop_shape K).least ≤ r.count) × (r.count ≤ (prop_shape K).most)
unfolding prop_form
counts_in r K e f =
    let s = prop_shape K in
    let g : in_prop_shape s r ≡ true = subst (λ (K : PropKind). in_prop_shape (prop_shape K) r ≡ true) e f in
    let b = split (leb s.least r.count) (leb r.count s.most) (split (leb s.least r.count && leb r.count s.most) _ g).0 in
    (leb-true s.least r.count b.0, leb-true r.count s.most b.1)

names_alone : (r : Record) → prop_kind r.kind ≡ atomic → prop_form r ≡ true → (r.b ≡ 0) × (r.c ≡ 0)
unfolding prop_form prop_shape
names_alone r e f =
    let g : in_prop_shape (prop_shape atomic) r ≡ true = subst (λ (K : PropKind). in_prop_shape (prop_shape K) r ≡ true) e f in
    let b = split (leb 0 r.count && leb r.count 4) ((eqb r.b 0 && eqb r.c 0) && _) g in
    let c = split (eqb r.b 0) (eqb r.c 0) (split (eqb r.b 0 && eqb r.c 0) _ b.1).0 in
    (eqb-true r.b 0 c.0, eqb-true r.c 0 c.1)

-- RECORD r of the table, number n
module _ (l : List ℕ) (n : ℕ) (r : Record) where
  params_are : r.count ≤ 4 → r.b ≡ 0 → length r.parameters ≡ 4
      → params (loaded_atom l n r) ≡ map (λ x. settled x 0 (binders l n)) (take r.count r.parameters)
  unfolding named
  params_are few bare four =
      changed_params (named l n) r ∙ ap (λ (xs : List Param). map (named l n) xs) (names_only r bare) ∙ first_few (named l n) r.count r.parameters few four

  -- its kind and its children stay
  kind_kept : (K : PropKind) → (loaded_as l n K r).kind ≡ r.kind
  unfolding loaded_as with_parameters
  kind_kept (constant b) = refl
  kind_kept (linked h) = refl
  kind_kept (quantified q) = refl
  kind_kept atomic = refl
  kind_kept strange = refl

  links_kept : (K : PropKind) → prop_children (prop_shape K).children (loaded_as l n K r) ≡ prop_children (prop_shape K).children r
  unfolding loaded_as with_parameters prop_shape prop_children
  links_kept (constant b) = refl
  links_kept (linked h) = refl
  links_kept (quantified q) = refl
  links_kept atomic = refl
  links_kept strange = refl

  links_same : prop_links (loaded_from l n r) ≡ prop_links r
  links_same =
      ap (λ (k : ℕ). prop_children (prop_shape (prop_kind k)).children (loaded_from l n r)) (kind_kept (prop_kind r.kind)) ∙ links_kept (prop_kind r.kind)

  -- its form is the room's
  form_kept : prop_form r ≡ true → (K : PropKind) → prop_kind r.kind ≡ K → room_form (loaded_as l n K r) ≡ true
  unfolding loaded_as with_parameters room_form form_as prop_shape
  form_kept f (constant b) e = subst⁻¹ (λ (K : PropKind). form_as K r ≡ true) e f
  form_kept f (linked h) e = subst⁻¹ (λ (K : PropKind). form_as K r ≡ true) e f
  form_kept f (quantified q) e = subst⁻¹ (λ (K : PropKind). form_as K r ≡ true) e f
  form_kept f atomic e = form_of (loaded_atom l n r) e (changed_form (named l n) r (counts_in r atomic e f).1 (names_alone r e f).1)
  form_kept f strange e = absurd (omega (arith, counts_in r strange e f))

  -- what it stands for is the table's, if that is so of its children
  reads_as : (tables : ℕ) (sub sub' : ℕ → Prop) → origin tables n ≡ table n → prop_form r ≡ true → length r.parameters ≡ 4 → (K : PropKind) → prop_kind r.kind ≡ K
      → ((m : ℕ) → 0 < hits m (prop_children (prop_shape K).children r) → sub m ≡ sub' m) → node tables n sub K (loaded_as l n K r) ≡ prop_of l n sub' K r
  unfolding loaded_as with_parameters node prop_of prop_shape prop_children
  reads_as tables sub sub' o f four (constant b) e s = ap (λ (p : Origin). const p b) o
  reads_as tables sub sub' o f four (linked h) e s =
      λ i. link (o i) h (s r.a (hit_here r.a (r.b ∷ [])) i) (s r.b (hit_later r.b r.a (r.b ∷ []) (hit_here r.b [])) i)
  reads_as tables sub sub' o f four (quantified q) e s = λ i. quant (o i) q r.a r.b (s r.c (hit_here r.c []) i)
  reads_as tables sub sub' o f four atomic e s = λ i. atom (o i) r.a (params_are (counts_in r atomic e f).1 (names_alone r e f).0 four i)
  reads_as tables sub sub' o f four strange e s = ap (λ (p : Origin). const p false) o

-- A ROOM with all the records of a table that passed
table_here : (tables n : ℕ) → n < tables → origin tables n ≡ table n
unfolding origin
table_here tables n h = rw (lt-ltb n tables h)

four_params : (l : List ℕ) (n : ℕ) → length (prop_record l n).parameters ≡ 4
unfolding record_at
four_params l n = refl

module _ {l old new : List ℕ} (f : Formed l) (h : WellLinked l) (long : 16 * props l ≤ length old) (so : Loading l (props l) old new) where
  loaded_node : (n : ℕ) → n < props l → Node new n
  loaded_node n k =
      record {
        form = subst⁻¹ (λ (r : Record). room_form r ≡ true) (so.records n k) (form_kept l n (prop_record l n) (f.prop n k) (prop_kind (prop_record l n).kind) refl);
        links =
            subst⁻¹ (λ (r : Record). all_links (λ m. ltb m n) (prop_links r) ≡ true) (so.records n k)
            (subst⁻¹ (λ (ms : List ℕ). all_links (λ m. ltb m n) ms ≡ true) (links_same l n (prop_record l n)) ((directed h.linked).prop n k));
      }

  loaded_arena : Arena new (props l)
  loaded_arena = record { each = loaded_node; room = omega (arith, so.size) }

  loaded_props : (n : ℕ) → n < props l → room_at (props l) new n ≡ prop_at l n
  loaded_props =
      prop_induction (directed h.linked) (λ n. room_at (props l) new n ≡ prop_at l n)
      (λ n k sub.
      let r = prop_record l n in
      room_step loaded_arena (props l) n k
      ∙ ap (λ (r : Record). node (props l) n (room_at (props l) new) (prop_kind r.kind) r) (so.records n k)
      ∙ ap (λ (j : ℕ). node (props l) n (room_at (props l) new) (prop_kind j) (loaded_record l n)) (kind_kept l n r (prop_kind r.kind))
      ∙ reads_as l n r (props l) (room_at (props l) new) (prop_at l) (table_here (props l) n k) (f.prop n k) (four_params l n) (prop_kind r.kind) refl sub
      ∙ sym (prop_step (directed h.linked) n k))

  loaded_all : Loaded l old new
  loaded_all = record { all = so; arena = loaded_arena; means = loaded_props }

pub load_end : (l old new : List ℕ) (n p : ℕ) → Formed l → WellLinked l → 16 * props l ≤ length old → p ≡ props l → n ≡ p → Loading l n old new → Loaded l old new
load_end l old new n p f h long e a so = loaded_all f h long (subst (λ (c : ℕ). Loading l c old new) (a ∙ e) so)
