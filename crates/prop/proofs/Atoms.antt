-- Atoms' records: what their form says, and that records that are the same field by field, and no others, have the same parameters.
-- Assumes nothing.
use mathlib.Core.Path.{◌≡◌, refl, ap, sym, subst, subst⁻¹, ◌∙◌}
use mathlib.Core.Bool.{Bool, true, false, ◌&&◌, false≢true, and-eq-true_iff}
use mathlib.Core.List.{List, [], ◌∷◌}
use Prim.Native.Nat.{ℕ, zero, suc, ◌+◌, ◌*◌, ◌/◌, ◌%◌, ◌^◌, ◌<◌, ◌≤◌}
use native.Mathlib.Nat.{pow-le-pow_right, mod-eq_of_lt, div-div-eq-div-mul}
use native.Mathlib.Omega.{arith}
use lib.ListN.{length, get_or, take}
use lib.Seq.{length-take-le}
use lib.Dec.{eqb, ltb, leb}
use borrow.Author.Tests.{eqb-true, eq-eqb, ltb-true, ltb-false, lt-ltb, le-ltb, leb-true, le-leb}
use Rattle.numbers.specs.declared.record.Record.{Record}
use Rattle.rules.specs.Prop.{Param, free, ser, bound, same_param, same_params}
use Rattle.layout.specs.File.{PropKind, atomic, prop_kind}
use Rattle.layout.specs.Form.{fits, prop_shape, in_prop_shape, prop_form}
use Rattle.prop.specs.Room.{param, kind_0, kind_1, kind_2, kind_3, params, kinds_fit, without_kinds, form_as, room_form}
use Rattle.prop.specs.Compare.{same_fields}

-- THE FORM OF AN ATOM: its kinds are known ones, and from its count on kinds and parameters are zero
pub record Atom (r : Record) : Type 0 where
  pub few : r.count ≤ 4
  pub bare : r.c ≡ 0
  pub kinds : r.b < 4 ^ r.count
  pub known_0 : kind_0 r.b < 3
  pub known_1 : kind_1 r.b < 3
  pub known_2 : kind_2 r.b < 3
  pub known_3 : kind_3 r.b < 3
  pub rest_0 : r.count ≤ 0 → get_or r.parameters 0 0 ≡ 0
  pub rest_1 : r.count ≤ 1 → get_or r.parameters 1 0 ≡ 0
  pub rest_2 : r.count ≤ 2 → get_or r.parameters 2 0 ≡ 0
  pub rest_3 : r.count ≤ 3 → get_or r.parameters 3 0 ≡ 0

pub split : (a b : Bool) → (a && b) ≡ true → (a ≡ true) × (b ≡ true)
split a b = (and-eq-true_iff a b).0

unused : (i n x : ℕ) → fits (ltb i n) x ≡ true → n ≤ i → x ≡ 0
unused i n x e h = eqb-true x 0 (rw (le-ltb i n h) at e)

pub atom_of : (r : Record) → prop_kind r.kind ≡ atomic → room_form r ≡ true → Atom r
unfolding room_form form_as kinds_fit prop_form prop_shape
atom_of r K e =
    let b = r.b in
    let n = r.count in
    let p : ℕ → ℕ = λ i. get_or r.parameters i 0 in
    let f : (kinds_fit r && prop_form (without_kinds r)) ≡ true = subst (λ (K : PropKind). form_as K r ≡ true) K e in
    let s = split (kinds_fit r) (prop_form (without_kinds r)) f in
    let k₀ = split (ltb b (4 ^ n)) (ltb (kind_0 b) 3 && (ltb (kind_1 b) 3 && (ltb (kind_2 b) 3 && ltb (kind_3 b) 3))) s.0 in
    let k₁ = split (ltb (kind_0 b) 3) (ltb (kind_1 b) 3 && (ltb (kind_2 b) 3 && ltb (kind_3 b) 3)) k₀.1 in
    let k₂ = split (ltb (kind_1 b) 3) (ltb (kind_2 b) 3 && ltb (kind_3 b) 3) k₁.1 in
    let k₃ = split (ltb (kind_2 b) 3) (ltb (kind_3 b) 3) k₂.1 in
    let g : in_prop_shape (prop_shape atomic) (without_kinds r) ≡ true = subst (λ (K : PropKind). in_prop_shape (prop_shape K) (without_kinds r) ≡ true) K s.1 in
    let counts = split (leb 0 n && leb n 4) _ g in
    let tail = split (eqb r.c 0) (fits (ltb 0 n) (p 0) && (fits (ltb 1 n) (p 1) && (fits (ltb 2 n) (p 2) && fits (ltb 3 n) (p 3)))) counts.1 in
    let t₀ = split (fits (ltb 0 n) (p 0)) (fits (ltb 1 n) (p 1) && (fits (ltb 2 n) (p 2) && fits (ltb 3 n) (p 3))) tail.1 in
    let t₁ = split (fits (ltb 1 n) (p 1)) (fits (ltb 2 n) (p 2) && fits (ltb 3 n) (p 3)) t₀.1 in
    let t₂ = split (fits (ltb 2 n) (p 2)) (fits (ltb 3 n) (p 3)) t₁.1 in
    record {
      few = leb-true n 4 (split (leb 0 n) (leb n 4) counts.0).1;
      bare = eqb-true r.c 0 tail.0;
      kinds = ltb-true b (4 ^ n) k₀.0;
      known_0 = ltb-true (kind_0 b) 3 k₁.0;
      known_1 = ltb-true (kind_1 b) 3 k₂.0;
      known_2 = ltb-true (kind_2 b) 3 k₃.0;
      known_3 = ltb-true (kind_3 b) 3 k₃.1;
      rest_0 = unused 0 n (p 0) t₀.0;
      rest_1 = unused 1 n (p 1) t₁.0;
      rest_2 = unused 2 n (p 2) t₂.0;
      rest_3 = unused 3 n (p 3) t₂.1;
    }

-- and back
pub join : (a b : Bool) → a ≡ true → b ≡ true → (a && b) ≡ true
join a b e f = (and-eq-true_iff a b).1 (e, f)

used : (i n x : ℕ) → (n ≤ i → x ≡ 0) → fits (ltb i n) x ≡ true
used i n x h = at (ltb i n) refl
  where
    at : (t : Bool) → ltb i n ≡ t → fits t x ≡ true
    at true e = refl
    at false e = eq-eqb x 0 (h (ltb-false i n e))

pub form_of : (q : Record) → prop_kind q.kind ≡ atomic → Atom q → room_form q ≡ true
unfolding room_form form_as kinds_fit prop_form prop_shape
form_of q K a =
    let b = q.b in
    let n = q.count in
    let p : ℕ → ℕ = λ i. get_or q.parameters i 0 in
    let kinds : kinds_fit q ≡ true =
    join _ _ (lt-ltb b (4 ^ n) a.kinds)
    (join _ _ (lt-ltb (kind_0 b) 3 a.known_0)
    (join _ _ (lt-ltb (kind_1 b) 3 a.known_1) (join _ _ (lt-ltb (kind_2 b) 3 a.known_2) (lt-ltb (kind_3 b) 3 a.known_3)))) in
    let rest : (fits (ltb 0 n) (p 0) && (fits (ltb 1 n) (p 1) && (fits (ltb 2 n) (p 2) && fits (ltb 3 n) (p 3)))) ≡ true =
    join _ _ (used 0 n (p 0) a.rest_0) (join _ _ (used 1 n (p 1) a.rest_1) (join _ _ (used 2 n (p 2) a.rest_2) (used 3 n (p 3) a.rest_3))) in
    let shape : in_prop_shape (prop_shape atomic) (without_kinds q) ≡ true =
    join _ _ (join _ _ (le-leb 0 n (omega arith)) (le-leb n 4 a.few)) (join _ _ (eq-eqb q.c 0 a.bare) rest) in
    subst⁻¹ (λ (K : PropKind). form_as K q ≡ true) K
    (join _ _ kinds (subst⁻¹ (λ (K : PropKind). in_prop_shape (prop_shape K) (without_kinds q) ≡ true) K shape))

-- LISTS OF PARAMETERS that are the same
pub param_self : (x : Param) → same_param x x ≡ true
unfolding same_param
param_self (free x) = eq-eqb x x refl
param_self (ser i) = eq-eqb i i refl
param_self (bound k) = eq-eqb k k refl

pub params_self : (xs : List Param) → same_params xs xs ≡ true
unfolding same_params
params_self [] = refl
params_self (x ∷ xs) = rw (param_self x) (params_self xs)

same_length : (xs ys : List Param) → same_params xs ys ≡ true → length xs ≡ length ys
unfolding same_params
same_length [] [] e = refl
same_length [] (y ∷ ys) e = absurd (false≢true e)
same_length (x ∷ xs) [] e = absurd (false≢true e)
same_length (x ∷ xs) (y ∷ ys) e = ap suc (same_length xs ys (split (same_param x y) (same_params xs ys) e).1)

-- each parameter below the count
same_nth : (d : Param) (i n : ℕ) (xs ys : List Param) → same_params (take n xs) (take n ys) ≡ true → i < n → i < length xs → i < length ys → same_param (get_or xs i d) (get_or ys i d) ≡ true
unfolding same_params
same_nth d i zero xs ys e h a b = absurd (omega arith)
same_nth d i (suc n) [] ys e h a b = absurd (omega arith)
same_nth d i (suc n) (x ∷ xs) [] e h a b = absurd (omega arith)
same_nth d zero (suc n) (x ∷ xs) (y ∷ ys) e h a b = (split (same_param x y) (same_params (take n xs) (take n ys)) e).0
same_nth d (suc i) (suc n) (x ∷ xs) (y ∷ ys) e h a b =
    same_nth d i n xs ys (split (same_param x y) (same_params (take n xs) (take n ys)) e).1 (omega arith) (omega arith) (omega arith)

-- two parameters of known kinds
param_same : (k l x y : ℕ) → k < 3 → l < 3 → same_param (param k x) (param l y) ≡ true → (k ≡ l) × (x ≡ y)
unfolding same_param param
param_same zero zero x y a b e = (refl, eqb-true x y e)
param_same zero (suc zero) x y a b e = absurd (false≢true e)
param_same zero (suc (suc l)) x y a b e = absurd (false≢true e)
param_same (suc zero) zero x y a b e = absurd (false≢true e)
param_same (suc zero) (suc zero) x y a b e = (refl, eqb-true x y e)
param_same (suc zero) (suc (suc l)) x y a b e = absurd (false≢true e)
param_same (suc (suc k)) zero x y a b e = absurd (false≢true e)
param_same (suc (suc k)) (suc zero) x y a b e = absurd (false≢true e)
param_same (suc (suc k)) (suc (suc l)) x y a b e = (omega arith, eqb-true x y e)

-- a place of both: below the count a parameter, from there on nothing
place_same : (i n k l x y : ℕ) → k < 3 → l < 3 → (n ≤ i → k ≡ 0) → (n ≤ i → l ≡ 0) → (n ≤ i → x ≡ 0) → (n ≤ i → y ≡ 0)
    → (i < n → same_param (param k x) (param l y) ≡ true) → (k ≡ l) × (x ≡ y)
place_same i n k l x y a b k₀ l₀ x₀ y₀ e = at (ltb i n) refl
  where
    at : (t : Bool) → ltb i n ≡ t → (k ≡ l) × (x ≡ y)
    at true h = param_same k l x y a b (e (ltb-true i n h))
    at false h = let g = ltb-false i n h in (k₀ g ∙ sym (l₀ g), x₀ g ∙ sym (y₀ g))

-- kinds past the count
module _ (n b : ℕ) (h : b < 4 ^ n) where
  below_power : (i : ℕ) → n ≤ i → b < 4 ^ i
  below_power i l = omega (arith, pow-le-pow_right {n = 4} (omega arith) {i = n} {j = i} l)

  pub none_0 : n ≤ 0 → kind_0 b ≡ 0
  none_0 l = omega (arith, below_power 0 l)

  pub none_1 : n ≤ 1 → kind_1 b ≡ 0
  none_1 l = omega (arith, below_power 1 l)

  pub none_2 : n ≤ 2 → kind_2 b ≡ 0
  none_2 l = omega (arith, below_power 2 l)

  pub none_3 : n ≤ 3 → kind_3 b ≡ 0
  none_3 l = omega (arith, below_power 3 l)

-- the kinds make the field
step_4 : (b : ℕ) → b % 4 + 4 * (b / 4) ≡ b
step_4 b = omega arith

kinds_make : (b : ℕ) → b < 256 → kind_0 b + 4 * (kind_1 b + 4 * (kind_2 b + 4 * kind_3 b)) ≡ b
kinds_make b h =
    let d : b / 64 < 4 = omega arith in
    let e : kind_3 b ≡ b / 64 = mod-eq_of_lt d in
    let f : kind_2 b + 4 * (b / 64) ≡ b / 16 = ap (λ (q : ℕ). kind_2 b + 4 * q) (sym (div-div-eq-div-mul b 16 4)) ∙ step_4 (b / 16) in
    let g : kind_1 b + 4 * (b / 16) ≡ b / 4 = ap (λ (q : ℕ). kind_1 b + 4 * q) (sym (div-div-eq-div-mul b 4 4)) ∙ step_4 (b / 4) in
    ap (λ (x : ℕ). kind_0 b + 4 * (kind_1 b + 4 * (kind_2 b + 4 * x))) e ∙ ap (λ (x : ℕ). kind_0 b + 4 * (kind_1 b + 4 * x)) f ∙ ap (λ (x : ℕ). kind_0 b + 4 * x) g ∙ step_4 b

-- TWO ATOMS with the same parameters have the same fields
either : (a b : Bool) → (a ≡ true → b ≡ true) → (b ≡ true → a ≡ true) → a ≡ b
either true b f g = sym (f refl)
either false true f g = g refl
either false false f g = refl

abbrev four : Record → List Param
four r =
    param (kind_0 r.b) (get_or r.parameters 0 0)
    ∷ param (kind_1 r.b) (get_or r.parameters 1 0)
    ∷ param (kind_2 r.b) (get_or r.parameters 2 0)
    ∷ param (kind_3 r.b) (get_or r.parameters 3 0)
    ∷ []

module _ (r s : Record) where
  abbrev equal_at : ℕ → Bool
  equal_at i = eqb (get_or r.parameters i 0) (get_or s.parameters i 0)

  fields_params : same_fields r s ≡ true → (r.a ≡ s.a) × (params r ≡ params s)
  unfolding params
  fields_params e =
      let t₀ = split (eqb r.a s.a) _ e in
      let t₁ = split (eqb r.count s.count) _ t₀.1 in
      let t₂ = split (eqb r.b s.b) _ t₁.1 in
      let t₃ = split (equal_at 0) _ t₂.1 in
      let t₄ = split (equal_at 1) _ t₃.1 in
      let t₅ = split (equal_at 2) (equal_at 3) t₄.1 in
      let n = eqb-true r.count s.count t₁.0 in
      let b = eqb-true r.b s.b t₂.0 in
      let p₀ = eqb-true (get_or r.parameters 0 0) (get_or s.parameters 0 0) t₃.0 in
      let p₁ = eqb-true (get_or r.parameters 1 0) (get_or s.parameters 1 0) t₄.0 in
      let p₂ = eqb-true (get_or r.parameters 2 0) (get_or s.parameters 2 0) t₅.0 in
      let p₃ = eqb-true (get_or r.parameters 3 0) (get_or s.parameters 3 0) t₅.1 in (
        eqb-true r.a s.a t₀.0,
        λ i. take (n i) (param (kind_0 (b i)) (p₀ i) ∷ param (kind_1 (b i)) (p₁ i) ∷ param (kind_2 (b i)) (p₂ i) ∷ param (kind_3 (b i)) (p₃ i) ∷ []),
      )

  module _ (ar : Atom r) (at : Atom s) (e : same_params (params r) (params s) ≡ true) where
    count_same : r.count ≡ s.count
    unfolding params
    count_same =
        sym (length-take-le r.count (four r) (omega (arith, ar.few)))
        ∙ same_length (params r) (params s) e
        ∙ length-take-le s.count (four s) (omega (arith, at.few))

    place_at : (i : ℕ) → i < 4 → i < r.count → same_param (get_or (four r) i (free 0)) (get_or (four s) i (free 0)) ≡ true
    unfolding params
    place_at i h l = same_nth (free 0) i r.count (four r) (four s) (rw (← count_same) at e) l (omega arith) (omega arith)

    s_kinds : s.b < 4 ^ r.count
    s_kinds = rw count_same at.kinds

    s_few : (i : ℕ) → r.count ≤ i → s.count ≤ i
    s_few i h = omega (arith, count_same)

    at_0 : (kind_0 r.b ≡ kind_0 s.b) × (get_or r.parameters 0 0 ≡ get_or s.parameters 0 0)
    at_0 =
        place_same 0 r.count _ _ _ _ ar.known_0 at.known_0 (none_0 r.count r.b ar.kinds) (none_0 r.count s.b s_kinds) ar.rest_0 (λ h. at.rest_0 (s_few 0 h))
        (place_at 0 (omega arith))

    at_1 : (kind_1 r.b ≡ kind_1 s.b) × (get_or r.parameters 1 0 ≡ get_or s.parameters 1 0)
    at_1 =
        place_same 1 r.count _ _ _ _ ar.known_1 at.known_1 (none_1 r.count r.b ar.kinds) (none_1 r.count s.b s_kinds) ar.rest_1 (λ h. at.rest_1 (s_few 1 h))
        (place_at 1 (omega arith))

    at_2 : (kind_2 r.b ≡ kind_2 s.b) × (get_or r.parameters 2 0 ≡ get_or s.parameters 2 0)
    at_2 =
        place_same 2 r.count _ _ _ _ ar.known_2 at.known_2 (none_2 r.count r.b ar.kinds) (none_2 r.count s.b s_kinds) ar.rest_2 (λ h. at.rest_2 (s_few 2 h))
        (place_at 2 (omega arith))

    at_3 : (kind_3 r.b ≡ kind_3 s.b) × (get_or r.parameters 3 0 ≡ get_or s.parameters 3 0)
    at_3 =
        place_same 3 r.count _ _ _ _ ar.known_3 at.known_3 (none_3 r.count r.b ar.kinds) (none_3 r.count s.b s_kinds) ar.rest_3 (λ h. at.rest_3 (s_few 3 h))
        (place_at 3 (omega arith))

    small : (n b : ℕ) → n ≤ 4 → b < 4 ^ n → b < 256
    small n b l h = below_power n b h 4 l

    kinds_same : r.b ≡ s.b
    kinds_same =
        sym (kinds_make r.b (small r.count r.b ar.few ar.kinds))
        ∙ (λ i. at_0.0 i + 4 * (at_1.0 i + 4 * (at_2.0 i + 4 * at_3.0 i)))
        ∙ kinds_make s.b (small s.count s.b at.few at.kinds)

    fields_of : r.a ≡ s.a → same_fields r s ≡ true
    fields_of q =
        rw (eq-eqb _ _ q, eq-eqb _ _ count_same, eq-eqb _ _ kinds_same, eq-eqb _ _ at_0.1, eq-eqb _ _ at_1.1, eq-eqb _ _ at_2.1, eq-eqb _ _ at_3.1)

  pub same_atoms : Atom r → Atom s → same_fields r s ≡ (eqb r.a s.a && same_params (params r) (params s))
  same_atoms ar at = either (same_fields r s) (eqb r.a s.a && same_params (params r) (params s)) to from
    where
      to : same_fields r s ≡ true → (eqb r.a s.a && same_params (params r) (params s)) ≡ true
      to e = let f = fields_params e in rw (eq-eqb _ _ f.0, ← f.1) (params_self (params r))

      from : (eqb r.a s.a && same_params (params r) (params s)) ≡ true → same_fields r s ≡ true
      from e = let f = split (eqb r.a s.a) (same_params (params r) (params s)) e in fields_of ar at f.1 (eqb-true r.a s.a f.0)
