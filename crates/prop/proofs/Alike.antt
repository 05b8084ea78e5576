-- Comparison: the laws of one answer for both tests, and of propositions by their records. Assumes nothing.
use mathlib.Core.Path.{◌≡◌, refl, ap, ap₂, sym, subst, subst⁻¹, ◌∙◌}
use mathlib.Core.Bool.{Bool, true, false, ◌&&◌, ◌||◌, not, beq, and-eq-true_iff, and_assoc}
use mathlib.Core.List.{List}
use Prim.Native.Nat.{ℕ, ◌<◌, ◌≤◌}
use native.Mathlib.Omega.{arith}
use lib.Dec.{eqb}
use borrow.Author.Tests.{eq-eqb, eqb-true}
use Rattle.numbers.specs.declared.Sort.{Sort}
use Rattle.numbers.specs.declared.Sort.TheVariants.{Proposition, Datatype}
use Rattle.numbers.specs.declared.Name.{Name}
use Rattle.numbers.specs.declared.Proposition.{Proposition as Number}
use Rattle.numbers.specs.declared.record.Record.{Record}
use Rattle.numbers.specs.Records.{record_at}
use Rattle.rules.specs.Prop.{Link, Quant, Prop, const, link, quant, atom, Ty, prop, datatype, same_params, same_link, same_quant, same, same_ty, eq, alpha}
use Rattle.layout.specs.File.{PropKind, constant, linked, quantified, atomic, strange, prop_kind}
use Rattle.prop.specs.declared.compare.Compared.{Compared}
use Rattle.prop.specs.declared.compare.Compared.TheVariants.{Equal, Apart}
use Rattle.prop.specs.Room.{params, node, room_at, type_at, TypeIn, room_form, Arena}
use Rattle.prop.specs.Compare.{compared, compared_props, compared_types, is_alpha, both, same_fields}
use Rattle.prop.proofs.Rooms.{not_strange, kind_known}
use Rattle.prop.proofs.Heads.{link_self, quant_self, other_link, other_quant, same_number}
use Rattle.prop.proofs.Views.{kind_constant, kind_linked, kind_quantified, kind_atomic, stands, at_linked, at_quantified}
use Rattle.prop.proofs.Atoms.{params_self, atom_of, same_atoms}

-- A PROPOSITION is equal to itself
beq_self : (b : Bool) → beq b b ≡ true
beq_self true = refl
beq_self false = refl

true_first : (x y : Bool) → x ≡ true → (x && y) ≡ y
true_first x y e = ap (λ (z : Bool). z && y) e

or_one : (a : Bool) → (a || true) ≡ true
or_one true = refl
or_one false = refl

pub same_self : (n : Bool) (P : Prop) → same n P P ≡ true
unfolding same
same_self n (const o b) = beq_self b
same_self n (link o l A B) = rw (link_self l, same_self n A, same_self n B)
same_self n (quant o q x D B) = rw (quant_self q, eq-eqb x x refl, eq-eqb D D refl, same_self n B) (ap (λ (b : Bool). b && true) (or_one (not n)))
same_self n (atom o p xs) = rw (eq-eqb p p refl, params_self xs)

-- WHAT IS EQUAL IS ALPHA-EQUAL
and_weaker : (a b c d : Bool) → (a ≡ true → c ≡ true) → (b ≡ true → d ≡ true) → (a && b) ≡ true → (c && d) ≡ true
and_weaker a b c d f g e = let h = (and-eq-true_iff a b).0 e in (and-eq-true_iff c d).1 (f h.0, g h.1)

pub same_weaker : (P Q : Prop) → same true P Q ≡ true → same false P Q ≡ true
unfolding same
same_weaker (const o a) (const o' b) e = e
same_weaker (const o a) (link o' k C D) e = e
same_weaker (const o a) (quant o' r y E C) e = e
same_weaker (const o a) (atom o' q ys) e = e
same_weaker (link o l A B) (const o' b) e = e
same_weaker (link o l A B) (link o' k C D) e =
    and_weaker (same_link l k) (same true A C && same true B D) (same_link l k) (same false A C && same false B D) (λ h. h)
    (and_weaker (same true A C) (same true B D) (same false A C) (same false B D) (same_weaker A C) (same_weaker B D)) e
same_weaker (link o l A B) (quant o' r y E C) e = e
same_weaker (link o l A B) (atom o' q ys) e = e
same_weaker (quant o q x D B) (const o' b) e = e
same_weaker (quant o q x D B) (link o' k A C) e = e
same_weaker (quant o q x D B) (quant o' r y E C) e =
    and_weaker (same_quant q r) (eqb x y && (eqb D E && same true B C)) (same_quant q r) (eqb D E && same false B C) (λ h. h)
    (λ h. and_weaker (eqb D E) (same true B C) (eqb D E) (same false B C) (λ h. h) (same_weaker B C) ((and-eq-true_iff (eqb x y) (eqb D E && same true B C)).0 h).1) e
same_weaker (quant o q x D B) (atom o' p ys) e = e
same_weaker (atom o p xs) (const o' b) e = e
same_weaker (atom o p xs) (link o' k C D) e = e
same_weaker (atom o p xs) (quant o' r y E C) e = e
same_weaker (atom o p xs) (atom o' q ys) e = e

eq_weaker : (S T : Ty) → eq S T ≡ true → alpha S T ≡ true
unfolding eq alpha same_ty
eq_weaker (prop P) (prop Q) e = same_weaker P Q e
eq_weaker (prop P) (datatype E) e = e
eq_weaker (datatype D) (prop Q) e = e
eq_weaker (datatype D) (datatype E) e = e

-- AN ANSWER taken apart
alpha_is : (e a : Bool) → (e ≡ true → a ≡ true) → is_alpha (compared e a) ≡ a
unfolding compared
alpha_is true a h = sym (h refl)
alpha_is false true h = refl
alpha_is false false h = refl

pub alpha_types : (c : Compared) (S T : Ty) → c ≡ compared_types S T → is_alpha c ≡ alpha S T
alpha_types c S T e = ap (λ (c : Compared). is_alpha c) e ∙ alpha_is (eq S T) (alpha S T) (eq_weaker S T)

-- `atoms`
pub atoms_yes : (x : Bool) → x ≡ true → Equal ≡ compared x x
unfolding compared
atoms_yes x e = rw e

pub atoms_no : (x : Bool) → x ≡ false → Apart ≡ compared x x
unfolding compared
atoms_no x e = rw e

-- two parts
both_parts : (e a f b : Bool) → (e ≡ true → a ≡ true) → (f ≡ true → b ≡ true) → both (compared e a) (compared f b) ≡ compared (e && f) (a && b)
unfolding compared
both_parts true a f b h g = rw (h refl)
both_parts false true true b h g = rw (g refl)
both_parts false true false true h g = refl
both_parts false true false false h g = refl
both_parts false false f b h g = refl

-- PROPOSITIONS OF TWO KINDS differ
other_constant : (a b : Bool) → (constant a ≡ constant b → ⊥) → beq a b ≡ false
other_constant true true h = absurd (h refl)
other_constant true false h = refl
other_constant false true h = refl
other_constant false false h = absurd (h refl)

module _ (n : Bool) (tables i j : ℕ) (sub : ℕ → Prop) (r s : Record) where
  abbrev against : PropKind → PropKind → Bool
  against K L = same n (node tables i sub K r) (node tables j sub L s)

  links_as : (l : Link) → against (linked l) (linked l) ≡ (same n (sub r.a) (sub s.a) && same n (sub r.b) (sub s.b))
  unfolding node same
  links_as l = true_first (same_link l l) _ (link_self l)

  quants_as : (q : Quant) → against (quantified q) (quantified q) ≡ ((not n || eqb r.a s.a) && (eqb r.b s.b && same n (sub r.c) (sub s.c)))
  unfolding node same
  quants_as q = true_first (same_quant q q) _ (quant_self q)

  atoms_as : against atomic atomic ≡ (eqb r.a s.a && same_params (params r) (params s))
  unfolding node same
  atoms_as = refl

  kinds_apart : (K L : PropKind) → (K ≡ strange → ⊥) → (L ≡ strange → ⊥) → (K ≡ L → ⊥) → against K L ≡ false
  unfolding node same
  kinds_apart (constant a) (constant b) x y h = other_constant a b h
  kinds_apart (constant a) (linked l) x y h = refl
  kinds_apart (constant a) (quantified q) x y h = refl
  kinds_apart (constant a) atomic x y h = refl
  kinds_apart (constant a) strange x y h = absurd (y refl)
  kinds_apart (linked k) (constant b) x y h = refl
  kinds_apart (linked k) (linked l) x y h = rw (other_link k l (λ e. h (sym e)))
  kinds_apart (linked k) (quantified q) x y h = refl
  kinds_apart (linked k) atomic x y h = refl
  kinds_apart (linked k) strange x y h = absurd (y refl)
  kinds_apart (quantified p) (constant b) x y h = refl
  kinds_apart (quantified p) (linked l) x y h = refl
  kinds_apart (quantified p) (quantified q) x y h = rw (other_quant p q (λ e. h (sym e)))
  kinds_apart (quantified p) atomic x y h = refl
  kinds_apart (quantified p) strange x y h = absurd (y refl)
  kinds_apart atomic (constant b) x y h = refl
  kinds_apart atomic (linked l) x y h = refl
  kinds_apart atomic (quantified q) x y h = refl
  kinds_apart atomic atomic x y h = absurd (h refl)
  kinds_apart atomic strange x y h = absurd (y refl)
  kinds_apart strange L x y h = absurd (x refl)

-- `compare`, in the order of its code
module _ (w : List ℕ) (c a b : ℕ) (ok : Arena w c) (ac : a < c) (bc : b < c) where
  abbrev answer : ℕ → ℕ → ℕ → Compared
  answer tables m n = compared_props (room_at tables w m) (room_at tables w n)

  -- both tests fail, or both hold
  no_answer : (tables : ℕ) → ((n : Bool) → same n (room_at tables w a) (room_at tables w b) ≡ false) → Apart ≡ answer tables a b
  unfolding compared
  no_answer tables e = sym (ap₂ compared (e true) (e false))

  yes_answer : (tables : ℕ) → same true (room_at tables w a) (room_at tables w b) ≡ true → Equal ≡ answer tables a b
  unfolding compared
  yes_answer tables e = sym (ap (λ (x : Bool). compared x (same false (room_at tables w a) (room_at tables w b))) e)

  pub cmp_self : (v : Bool) → v ≡ eqb a b → v ≡ true → (tables : ℕ) → Equal ≡ answer tables a b
  cmp_self v h q tables =
      yes_answer tables (ap (λ (x : ℕ). same true (room_at tables w a) (room_at tables w x)) (sym (eqb-true a b (sym h ∙ q))) ∙ same_self true (room_at tables w a))

  module _ (r : Record) (er : r ≡ record_at w a) (s : Record) (es : s ≡ record_at w b) where
    known_a : prop_kind r.kind ≡ strange → ⊥
    known_a h = not_strange (ok.each a ac) (ap (λ (x : Record). prop_kind x.kind) (sym er) ∙ h)

    known_b : prop_kind s.kind ≡ strange → ⊥
    known_b h = not_strange (ok.each b bc) (ap (λ (x : Record). prop_kind x.kind) (sym es) ∙ h)

    laid : (K L : PropKind) → prop_kind r.kind ≡ K → prop_kind s.kind ≡ L → (n : Bool) (tables : ℕ)
        → same n (room_at tables w a) (room_at tables w b) ≡ same n (node tables a (room_at tables w) K r) (node tables b (room_at tables w) L s)
    laid K L eK eL n tables = ap₂ (same n) (stands w c a ok ac r er K eK tables) (stands w c b ok bc s es L eL tables)

    pub cmp_kinds : (r.kind ≡ s.kind → ⊥) → (tables : ℕ) → Apart ≡ answer tables a b
    cmp_kinds h tables =
        no_answer tables
        (λ n. laid (prop_kind r.kind) (prop_kind s.kind) refl refl n tables
        ∙ kinds_apart n tables a b (room_at tables w) r s (prop_kind r.kind) (prop_kind s.kind) known_a known_b
        (λ e. h (same_number r.kind s.kind (prop_kind s.kind) known_b e refl)))

    module _ (e : r.kind ≡ s.kind) where
      laid_same : (K : PropKind) → prop_kind r.kind ≡ K → (n : Bool) (tables : ℕ)
          → same n (room_at tables w a) (room_at tables w b) ≡ same n (node tables a (room_at tables w) K r) (node tables b (room_at tables w) K s)
      laid_same K eK = laid K K eK (ap prop_kind (sym e) ∙ eK)

      pub cmp_constant : r.kind < 2 → (tables : ℕ) → Equal ≡ answer tables a b
      unfolding node same
      cmp_constant h tables = let v = kind_constant r.kind h in yes_answer tables (laid_same (constant v.0) v.1 true tables ∙ beq_self v.0)

      -- two parts
      module _ (lo : 2 ≤ r.kind) (hi : r.kind < 5) where
        pub cmp_first_in : s.a < c
        cmp_first_in = omega (arith, (at_linked w c b ok bc s es (omega arith) (omega arith)).1.first)

        pub cmp_second_in : s.b < c
        cmp_second_in = omega (arith, (at_linked w c b ok bc s es (omega arith) (omega arith)).1.second)

        by_parts : (n : Bool) (tables : ℕ)
            → same n (room_at tables w a) (room_at tables w b) ≡ (same n (room_at tables w r.a) (room_at tables w s.a) && same n (room_at tables w r.b) (room_at tables w s.b))
        by_parts n tables = let v = kind_linked r.kind lo hi in laid_same (linked v.0) v.1 n tables ∙ links_as n tables a b (room_at tables w) r s v.0

        answer_parts : (tables : ℕ) → answer tables a b ≡ both (answer tables r.a s.a) (answer tables r.b s.b)
        answer_parts tables =
            ap₂ compared (by_parts true tables) (by_parts false tables)
            ∙ sym (both_parts _ _ _ _ (same_weaker (room_at tables w r.a) (room_at tables w s.a)) (same_weaker (room_at tables w r.b) (room_at tables w s.b)))

        module _ (u : Compared) (eu : (tables : ℕ) → u ≡ answer tables r.a s.a) where
          pub cmp_first_apart : u ≡ Apart → (tables : ℕ) → u ≡ answer tables a b
          cmp_first_apart h tables = h ∙ sym (answer_parts tables ∙ ap (λ (x : Compared). both x (answer tables r.b s.b)) (sym (eu tables) ∙ h))

          pub cmp_link : (v : Compared) → ((tables : ℕ) → v ≡ answer tables r.b s.b) → (x : Compared) → x ≡ both u v → (tables : ℕ) → x ≡ answer tables a b
          cmp_link v ev x ex tables = ex ∙ ap₂ both (eu tables) (ev tables) ∙ sym (answer_parts tables)

      -- a body
      module _ (lo : 5 ≤ r.kind) (hi : r.kind < 7) where
        pub cmp_body_in : s.c < c
        cmp_body_in = omega (arith, (at_quantified w c b ok bc s es (omega arith) (omega arith)).1.under)

        by_body : (n : Bool) (tables : ℕ)
            → same n (room_at tables w a) (room_at tables w b)
            ≡ ((not n || eqb r.a s.a) && (eqb r.b s.b && same n (room_at tables w r.c) (room_at tables w s.c)))
        by_body n tables = let v = kind_quantified r.kind lo hi in laid_same (quantified v.0) v.1 n tables ∙ quants_as n tables a b (room_at tables w) r s v.0

        answer_body : (tables : ℕ)
            → answer tables a b ≡ both (compared (eqb r.a s.a && eqb r.b s.b) (eqb r.b s.b)) (answer tables r.c s.c)
        answer_body tables =
            ap₂ compared (by_body true tables ∙ sym (and_assoc (eqb r.a s.a) (eqb r.b s.b) _)) (by_body false tables)
            ∙ sym (both_parts _ _ _ _ (λ h. ((and-eq-true_iff (eqb r.a s.a) (eqb r.b s.b)).0 h).1) (same_weaker (room_at tables w r.c) (room_at tables w s.c)))

        module _ (u : Compared) (eu : u ≡ compared (eqb r.a s.a && eqb r.b s.b) (eqb r.b s.b)) where
          pub cmp_binder_apart : u ≡ Apart → (tables : ℕ) → u ≡ answer tables a b
          cmp_binder_apart h tables = h ∙ sym (answer_body tables ∙ ap (λ (x : Compared). both x (answer tables r.c s.c)) (sym eu ∙ h))

          pub cmp_quant : (v : Compared) → ((tables : ℕ) → v ≡ answer tables r.c s.c) → (x : Compared) → x ≡ both u v → (tables : ℕ) → x ≡ answer tables a b
          cmp_quant v ev x ex tables = ex ∙ ap₂ both eu (ev tables) ∙ sym (answer_body tables)

      -- atoms
      pub cmp_atoms : 7 ≤ r.kind → (u : Compared) → u ≡ compared (same_fields r s) (same_fields r s) → (tables : ℕ) → u ≡ answer tables a b
      cmp_atoms lo u eu tables = eu ∙ sym (ap₂ compared (by_fields true) (by_fields false))
        where
          atomic_r : prop_kind r.kind ≡ atomic
          atomic_r = kind_atomic r.kind lo (subst⁻¹ (λ (z : Record). z.kind < 8) er (kind_known (ok.each a ac)))

          by_fields : (n : Bool) → same n (room_at tables w a) (room_at tables w b) ≡ same_fields r s
          by_fields n =
              laid_same atomic atomic_r n tables
              ∙ atoms_as n tables a b (room_at tables w) r s
              ∙ sym (same_atoms r s (atom_of r atomic_r (subst⁻¹ (λ (z : Record). room_form z ≡ true) er (ok.each a ac).form))
              (atom_of s (ap prop_kind (sym e) ∙ atomic_r) (subst⁻¹ (λ (z : Record). room_form z ≡ true) es (ok.each b bc).form)))

-- `compare_types`
pub type_in : (c : ℕ) (S : Sort) (n : Number) → S ≡ Proposition n → TypeIn c S → n.0 < c
type_in c S n e h = subst (TypeIn c) e h

module _ (w : List ℕ) (S T : Sort) where
  abbrev types : ℕ → Compared
  types tables = compared_types (type_at tables w S) (type_at tables w T)

  pub types_props : (m n : Number) → S ≡ Proposition m → T ≡ Proposition n → (u : Compared)
      → ((tables : ℕ) → u ≡ compared_props (room_at tables w m.0) (room_at tables w n.0)) → (tables : ℕ) → u ≡ types tables
  unfolding eq alpha same_ty
  types_props m n e f u h tables = rw (e, f) (h tables)

  pub types_left : (m : Number) (d : Name) → S ≡ Proposition m → T ≡ Datatype d → (tables : ℕ) → Apart ≡ types tables
  unfolding eq alpha same_ty compared
  types_left m d e f tables = rw (e, f)

  pub types_right : (d : Name) (n : Number) → S ≡ Datatype d → T ≡ Proposition n → (tables : ℕ) → Apart ≡ types tables
  unfolding eq alpha same_ty compared
  types_right d n e f tables = rw (e, f)

  module _ (x y : Name) (e : S ≡ Datatype x) (f : T ≡ Datatype y) where
    pub types_same : (v : Bool) → v ≡ eqb x.0 y.0 → v ≡ true → (tables : ℕ) → Equal ≡ types tables
    unfolding eq alpha same_ty compared
    types_same v h q tables = rw (e, f, sym h ∙ q)

    pub types_apart : (v : Bool) → v ≡ eqb x.0 y.0 → v ≡ false → (tables : ℕ) → Apart ≡ types tables
    unfolding eq alpha same_ty compared
    types_apart v h q tables = rw (e, f, sym h ∙ q)
