-- An atom's four places: read, tested, changed and written. Assumes nothing.
use mathlib.Core.Path.{◌≡◌, refl, ap, sym, subst⁻¹, ◌∙◌}
use mathlib.Core.Bool.{Bool, true, false, ◌&&◌, ◌||◌, not, false≢true, and-true, and_assoc}
use mathlib.Core.List.{List, [], ◌∷◌, map}
use Prim.Native.Nat.{ℕ, zero, suc, min, ◌+◌, ◌*◌, ◌/◌, ◌%◌, ◌^◌, ◌<◌, ◌≤◌}
use native.Mathlib.Omega.{arith}
use lib.ListN.{get_or, take}
use lib.Seq.{take-nil}
use lib.Dec.{ltb}
use borrow.Author.Tests.{lt-ltb, le-ltb}
use Rattle.numbers.specs.declared.record.Record.{Record}
use Rattle.rules.specs.Prop.{Param, free, ser, bound, each_param}
use Rattle.prop.specs.declared.atom.Parameter.{Parameter}
use Rattle.prop.specs.declared.atom.Parameter.TheVariants.{Free, Identifier, Bound, Unused}
use Rattle.prop.specs.Room.{param, kind_0, kind_1, kind_2, kind_3, params}
use Rattle.prop.specs.Atom.{place, kind_at, number_at, parameter_at, passes, becomes, kind_in, number_in, with_parameters}
use Rattle.prop.proofs.Atoms.{Atom}

-- `kind_at` and `number_at`, in the order of their code
pub kind_at_place : (r : Record) (i m : ℕ) → m ≡ min i 3 → r.b / 2 ^ (2 * m) % 4 ≡ kind_at r i
kind_at_place r zero m e = ap (λ (j : ℕ). r.b / 2 ^ (2 * j) % 4) e ∙ omega arith
kind_at_place r (suc zero) m e = ap (λ (j : ℕ). r.b / 2 ^ (2 * j) % 4) e
kind_at_place r (suc (suc zero)) m e = ap (λ (j : ℕ). r.b / 2 ^ (2 * j) % 4) e
kind_at_place r (suc (suc (suc i))) m e = let three : m ≡ 3 = omega arith in ap (λ (j : ℕ). r.b / 2 ^ (2 * j) % 4) three

pub number_at_place : (r : Record) (i m k : ℕ) → k ≡ m → m ≡ min i 3 → get_or r.parameters k 0 ≡ number_at r i
number_at_place r zero m k e f = ap (λ (j : ℕ). get_or r.parameters j 0) (omega arith)
number_at_place r (suc zero) m k e f = ap (λ (j : ℕ). get_or r.parameters j 0) (omega arith)
number_at_place r (suc (suc zero)) m k e f = ap (λ (j : ℕ). get_or r.parameters j 0) (omega arith)
number_at_place r (suc (suc (suc i))) m k e f = ap (λ (j : ℕ). get_or r.parameters j 0) (omega arith)

-- `parameter_at`
module _ (r : Record) (i : ℕ) where
  pub at_unused : r.count ≤ i → Unused ≡ parameter_at r i
  unfolding parameter_at
  at_unused h = sym (ap (λ (u : Bool). place u (param (kind_at r i) (number_at r i))) (le-ltb i r.count h))

-- A TEST of all four places is one of the parameters
passes_place : (t : Param → Bool) (u : Bool) (x : Param) → passes t (place u x) ≡ (not u || t x)
passes_place t true (free x) = refl
passes_place t true (ser i) = refl
passes_place t true (bound k) = refl
passes_place t false x = refl

more : (i n : ℕ) → i < 4 → ltb i (suc (suc (suc (suc n)))) ≡ true
more i n h = lt-ltb i (suc (suc (suc (suc n)))) (omega arith)

module _ (t : Param → Bool) (x y z v : Param) where
  first_pass : (n : ℕ)
      → ((not (ltb 0 n) || t x) && ((not (ltb 1 n) || t y) && ((not (ltb 2 n) || t z) && (not (ltb 3 n) || t v))))
      ≡ each_param t (take n (x ∷ y ∷ z ∷ v ∷ []))
  unfolding each_param
  first_pass zero = refl
  first_pass (suc zero) = refl
  first_pass (suc (suc zero)) = refl
  first_pass (suc (suc (suc zero))) = refl
  first_pass (suc (suc (suc (suc n)))) =
      rw (more 0 n (omega arith), more 1 n (omega arith), more 2 n (omega arith), more 3 n (omega arith), take-nil {A = Param} n)
      (ap (λ (b : Bool). t x && (t y && (t z && b))) (sym (and-true (t v))))

pub each_place : (t : Param → Bool) (r : Record)
    → (passes t (parameter_at r 0) && (passes t (parameter_at r 1) && (passes t (parameter_at r 2) && passes t (parameter_at r 3)))) ≡ each_param t (params r)
unfolding parameter_at params
each_place t r =
    let n = r.count in
    let x : ℕ → Param = λ i. param (kind_at r i) (number_at r i) in
    let e : (i : ℕ) → passes t (place (ltb i n) (x i)) ≡ (not (ltb i n) || t (x i)) = λ i. passes_place t (ltb i n) (x i) in
    (λ i. e 0 i && (e 1 i && (e 2 i && e 3 i))) ∙ first_pass t (x 0) (x 1) (x 2) (x 3) n

pub all_pass : (t : Param → Bool) (r : Record) (p q s u : Parameter) (a b c d : Bool)
    → p ≡ parameter_at r 0 → q ≡ parameter_at r 1 → s ≡ parameter_at r 2 → u ≡ parameter_at r 3
    → a ≡ passes t p → b ≡ passes t q → c ≡ passes t s → d ≡ passes t u
    → (((a && b) && c) && d) ≡ each_param t (params r)
all_pass t r p q s u a b c d ep eq es eu ea eb ec ed =
    let at : (o : Bool) (p : Parameter) (i : ℕ) → o ≡ passes t p → p ≡ parameter_at r i → o ≡ passes t (parameter_at r i) =
    λ o p i e f. e ∙ ap (λ (p : Parameter). passes t p) f in
    and_assoc (a && b) c d
    ∙ and_assoc a b (c && d)
    ∙ (λ i. at a p 0 ea ep i && (at b q 1 eb eq i && (at c s 2 ec es i && at d u 3 ed eu i))) ∙ each_place t r

-- A CHANGE of a place is one of its parameter
becomes_place : (h : Param → Param) (u : Bool) (x : Param) → becomes h (place u x) ≡ place u (h x)
becomes_place h true (free x) = refl
becomes_place h true (ser i) = refl
becomes_place h true (bound k) = refl
becomes_place h false x = refl

-- WRITTEN: the four kinds in one field, which has no more of them than there are parameters
few_kinds : (n k l m o : ℕ) → n ≤ 4 → k < 3 → l < 3 → m < 3 → o < 3 → (n ≤ 0 → k ≡ 0) → (n ≤ 1 → l ≡ 0) → (n ≤ 2 → m ≡ 0) → (n ≤ 3 → o ≡ 0)
    → k + 4 * l + 16 * m + 64 * o < 4 ^ n
few_kinds zero k l m o h a b c d e f g i = omega (arith, e (omega arith), f (omega arith), g (omega arith), i (omega arith))
few_kinds (suc zero) k l m o h a b c d e f g i = omega (arith, f (omega arith), g (omega arith), i (omega arith))
few_kinds (suc (suc zero)) k l m o h a b c d e f g i = omega (arith, g (omega arith), i (omega arith))
few_kinds (suc (suc (suc zero))) k l m o h a b c d e f g i = omega (arith, i (omega arith))
few_kinds (suc (suc (suc (suc zero)))) k l m o h a b c d e f g i = omega arith
few_kinds (suc (suc (suc (suc (suc n))))) k l m o h a b c d e f g i = absurd (omega arith)

module _ (k l m o : ℕ) (a : k < 3) (b : l < 3) (c : m < 3) (d : o < 3) where
  made_0 : kind_0 (k + 4 * l + 16 * m + 64 * o) ≡ k
  made_0 = omega arith

  made_1 : kind_1 (k + 4 * l + 16 * m + 64 * o) ≡ l
  made_1 = omega arith

  made_2 : kind_2 (k + 4 * l + 16 * m + 64 * o) ≡ m
  made_2 = omega arith

  made_3 : kind_3 (k + 4 * l + 16 * m + 64 * o) ≡ o
  made_3 = omega arith

kind_few : (p : Parameter) → kind_in p < 3
kind_few (Free x) = omega arith
kind_few (Identifier i) = omega arith
kind_few (Bound k) = omega arith
kind_few Unused = omega arith

-- what is written reads back; past the count nothing is written
reads_back : (u : Bool) (x : Param) → u ≡ true → param (kind_in (place u x)) (number_in (place u x)) ≡ x
unfolding param
reads_back true (free x) e = refl
reads_back true (ser i) e = refl
reads_back true (bound k) e = refl
reads_back false x e = absurd (false≢true e)

past_count : (i n : ℕ) (x : Param) → n ≤ i → (kind_in (place (ltb i n) x) ≡ 0) × (number_in (place (ltb i n) x) ≡ 0)
past_count i n x h =
    let e : place (ltb i n) x ≡ Unused = ap (λ (b : Bool). place b x) (le-ltb i n h) in
    (ap (λ (p : Parameter). kind_in p) e, ap (λ (p : Parameter). number_in p) e)

module _ (x y z v x' y' z' v' : Param) where
  take_same : (n : ℕ) → (ltb 0 n ≡ true → x' ≡ x) → (ltb 1 n ≡ true → y' ≡ y) → (ltb 2 n ≡ true → z' ≡ z) → (ltb 3 n ≡ true → v' ≡ v)
      → take n (x' ∷ y' ∷ z' ∷ v' ∷ []) ≡ take n (x ∷ y ∷ z ∷ v ∷ [])
  take_same zero a b c d = refl
  take_same (suc zero) a b c d = rw (a refl)
  take_same (suc (suc zero)) a b c d = rw (a refl, b refl)
  take_same (suc (suc (suc zero))) a b c d = rw (a refl, b refl, c refl)
  take_same (suc (suc (suc (suc n)))) a b c d =
      rw (a (more 0 n (omega arith)), b (more 1 n (omega arith)), c (more 2 n (omega arith)), d (more 3 n (omega arith)))

-- the atom r with these parameters for its own
module _ (r : Record) (x y z v : Param) where
  abbrev at : ℕ → Param → Parameter
  at i x = place (ltb i r.count) x

  abbrev new_atom : Record
  new_atom = with_parameters r (at 0 x) (at 1 y) (at 2 z) (at 3 v)

  abbrev field : ℕ
  field = kind_in (at 0 x) + 4 * kind_in (at 1 y) + 16 * kind_in (at 2 z) + 64 * kind_in (at 3 v)

  e₀ : kind_0 field ≡ kind_in (at 0 x)
  e₀ = made_0 _ _ _ _ (kind_few (at 0 x)) (kind_few (at 1 y)) (kind_few (at 2 z)) (kind_few (at 3 v))

  e₁ : kind_1 field ≡ kind_in (at 1 y)
  e₁ = made_1 _ _ _ _ (kind_few (at 0 x)) (kind_few (at 1 y)) (kind_few (at 2 z)) (kind_few (at 3 v))

  e₂ : kind_2 field ≡ kind_in (at 2 z)
  e₂ = made_2 _ _ _ _ (kind_few (at 0 x)) (kind_few (at 1 y)) (kind_few (at 2 z)) (kind_few (at 3 v))

  e₃ : kind_3 field ≡ kind_in (at 3 v)
  e₃ = made_3 _ _ _ _ (kind_few (at 0 x)) (kind_few (at 1 y)) (kind_few (at 2 z)) (kind_few (at 3 v))

  pub written_atom : r.count ≤ 4 → r.c ≡ 0 → Atom new_atom
  unfolding with_parameters
  written_atom few bare =
      let n = r.count in
      record {
        few = few;
        bare = bare;
        kinds =
            few_kinds n _ _ _ _ few (kind_few (at 0 x)) (kind_few (at 1 y)) (kind_few (at 2 z)) (kind_few (at 3 v))
            (λ h. (past_count 0 n x h).0) (λ h. (past_count 1 n y h).0) (λ h. (past_count 2 n z h).0) (λ h. (past_count 3 n v h).0);
        known_0 = rw e₀ (kind_few (at 0 x));
        known_1 = rw e₁ (kind_few (at 1 y));
        known_2 = rw e₂ (kind_few (at 2 z));
        known_3 = rw e₃ (kind_few (at 3 v));
        rest_0 = λ h. (past_count 0 n x h).1;
        rest_1 = λ h. (past_count 1 n y h).1;
        rest_2 = λ h. (past_count 2 n z h).1;
        rest_3 = λ h. (past_count 3 n v h).1;
      }

  pub written_params : params new_atom ≡ take r.count (x ∷ y ∷ z ∷ v ∷ [])
  unfolding with_parameters params
  written_params =
      take_same x y z v _ _ _ _ r.count
      (λ u. ap (λ (k : ℕ). param k (number_in (at 0 x))) e₀ ∙ reads_back _ x u)
      (λ u. ap (λ (k : ℕ). param k (number_in (at 1 y))) e₁ ∙ reads_back _ y u)
      (λ u. ap (λ (k : ℕ). param k (number_in (at 2 z))) e₂ ∙ reads_back _ z u)
      (λ u. ap (λ (k : ℕ). param k (number_in (at 3 v))) e₃ ∙ reads_back _ v u)

-- the atom r with its own parameters changed
take_map : (h : Param → Param) (n : ℕ) (xs : List Param) → take n (map h xs) ≡ map h (take n xs)
take_map h zero xs = refl
take_map h (suc n) [] = refl
take_map h (suc n) (x ∷ xs) = ap (λ (ys : List Param). h x ∷ ys) (take_map h n xs)

module _ (h : Param → Param) (r : Record) where
  abbrev pub changed_atom : Record
  changed_atom =
      with_parameters r (becomes h (parameter_at r 0)) (becomes h (parameter_at r 1)) (becomes h (parameter_at r 2)) (becomes h (parameter_at r 3))

  pub all_changed : (p₀ p₁ p₂ p₃ q₀ q₁ q₂ q₃ : Parameter) (o : Record)
      → p₀ ≡ parameter_at r 0 → p₁ ≡ parameter_at r 1 → p₂ ≡ parameter_at r 2 → p₃ ≡ parameter_at r 3
      → q₀ ≡ becomes h p₀ → q₁ ≡ becomes h p₁ → q₂ ≡ becomes h p₂ → q₃ ≡ becomes h p₃
      → o ≡ with_parameters r q₀ q₁ q₂ q₃ → o ≡ changed_atom
  all_changed p₀ p₁ p₂ p₃ q₀ q₁ q₂ q₃ o e₀ e₁ e₂ e₃ f₀ f₁ f₂ f₃ g =
      let at : (q p : Parameter) (i : ℕ) → q ≡ becomes h p → p ≡ parameter_at r i → q ≡ becomes h (parameter_at r i) =
      λ q p i f e. f ∙ ap (λ (p : Parameter). becomes h p) e in
      g ∙ (λ i. with_parameters r (at q₀ p₀ 0 f₀ e₀ i) (at q₁ p₁ 1 f₁ e₁ i) (at q₂ p₂ 2 f₂ e₂ i) (at q₃ p₃ 3 f₃ e₃ i))

  pub one_changed : (p q : Parameter) (o : Record) → r.count ≤ 1 → p ≡ parameter_at r 0 → q ≡ becomes h p → o ≡ with_parameters r q Unused Unused Unused
      → o ≡ changed_atom
  one_changed p q o few e f g =
      all_changed p Unused Unused Unused q Unused Unused Unused o e (at_unused r 1 few) (at_unused r 2 (omega arith)) (at_unused r 3 (omega arith)) f refl refl refl g

  abbrev new : ℕ → Param
  new i = h (param (kind_at r i) (number_at r i))

  changes : changed_atom ≡ new_atom r (new 0) (new 1) (new 2) (new 3)
  unfolding parameter_at
  changes =
      let e : (i : ℕ) → becomes h (parameter_at r i) ≡ place (ltb i r.count) (new i) =
      λ i. becomes_place h (ltb i r.count) (param (kind_at r i) (number_at r i)) in
      λ i. with_parameters r (e 0 i) (e 1 i) (e 2 i) (e 3 i)

  pub changed_form : r.count ≤ 4 → r.c ≡ 0 → Atom changed_atom
  changed_form few bare = subst⁻¹ Atom changes (written_atom r (new 0) (new 1) (new 2) (new 3) few bare)

  pub changed_params : params changed_atom ≡ map h (params r)
  unfolding params
  changed_params =
      ap params changes
      ∙ written_params r (new 0) (new 1) (new 2) (new 3)
      ∙ take_map h r.count
      (param (kind_at r 0) (number_at r 0) ∷ param (kind_at r 1) (number_at r 1) ∷ param (kind_at r 2) (number_at r 2) ∷ param (kind_at r 3) (number_at r 3) ∷ [])
