-- Laws of the context: callers cite these, and not the definitions' text.
-- Assumes nothing.
use mathlib.Core.Path.{◌≡◌, refl, ap, ap₂, sym, subst, subst⁻¹, ◌∙◌}
use mathlib.Core.Bool.{Bool, true, false}
use mathlib.Core.List.{List, [], ◌∷◌}
use mathlib.Core.Option.{none, some}
use Prim.Native.Nat.{ℕ, zero, suc, ◌+◌, ◌-◌, ◌*◌, ◌/◌, ◌%◌, ◌<◌, ◌≤◌}
use native.Mathlib.Omega.{arith}
use native.Mathlib.Numerals.{add-one}
use lib.ListN.{length, get_or, set, length-set}
use lib.Seq.{get_or-set_other}
use lib.Dec.{eqb}
use borrow.Author.Tests.{eq-eqb, ne_eqb, eqb-true, eqb-false}
use Rattle.std.specs.Prelude.{Option, Some, None}
use Rattle.numbers.specs.declared.Sort.{Sort}
use Rattle.numbers.specs.declared.Sort.TheVariants.{Proposition, Datatype}
use Rattle.numbers.specs.Records.{word_at, put_word}
use Rattle.numbers.proofs.Records.{word_far, word_same}
use Rattle.rules.specs.Prop.{Ty}
use Rattle.rules.specs.Context.{Ctx, find}
use Rattle.context.specs.declared.identifier_context.Entry.{Entry}
use Rattle.context.specs.Context.{tag_of, number_of, sort_of, entry_at, SameEntries, Inserted, stands, ctx_at, found, Among, Latest}

-- TYPES as two numbers, and back
sort_back : (s : Sort) → sort_of (tag_of s) (number_of s) ≡ s
sort_back (Proposition p) = refl
sort_back (Datatype d) = refl

-- BYTES. An entry is what its eight bytes say
pub entry_kept : (old new : List ℕ) (m : ℕ) → ((i : ℕ) → 8 * m ≤ i → i < 8 * m + 8 → get_or new i 0 ≡ get_or old i 0) → entry_at new m ≡ entry_at old m
unfolding entry_at
entry_kept old new m h =
    let w : (i : ℕ) → 8 * m ≤ i → i < 8 * m + 7 → word_at new i ≡ word_at old i =
    λ i lo hi. ap₂ (λ (a b : ℕ). a + 256 * b) (h i lo (omega arith)) (h (i + 1) (omega arith) (omega arith)) in
    let w₀ = w (8 * m) (omega arith) (omega arith) in
    let w₂ = w (8 * m + 2) (omega arith) (omega arith) in
    let w₄ = w (8 * m + 4) (omega arith) (omega arith) in
    let w₆ = w (8 * m + 6) (omega arith) (omega arith) in
    λ k. record { name = record { 0 = w₀ k }; serial = record { 0 = w₂ k }; typ = sort_of (w₄ k) (w₆ k) }

-- where the bytes below n entries are kept, so are the entries
pub entries_kept : (old new : List ℕ) (n : ℕ) → ((i : ℕ) → i < 8 * n → get_or new i 0 ≡ get_or old i 0) → SameEntries n old new
entries_kept old new n h m l = entry_kept old new m (λ i lo hi. h i (omega arith))

byte_far : (l : List ℕ) (i v j : ℕ) → (i ≤ j → j < i + 2 → ⊥) → get_or (put_word l i v) j 0 ≡ get_or l j 0
byte_far l i v j h =
    get_or-set_other (set l i (v % 256)) (i + 1) j (v / 256) 0 (λ e. h (omega arith) (omega arith))
    ∙ get_or-set_other l i j (v % 256) 0 (λ e. h (omega arith) (omega arith))

-- the room after the four stores of `insert`, store by store
abbrev stored₁ : List ℕ → ℕ → Entry → List ℕ
stored₁ w n e = put_word w (8 * n) e.name.0

abbrev stored₂ : List ℕ → ℕ → Entry → List ℕ
stored₂ w n e = put_word (stored₁ w n e) (8 * n + 2) e.serial.0

abbrev stored₃ : List ℕ → ℕ → Entry → List ℕ
stored₃ w n e = put_word (stored₂ w n e) (8 * n + 4) (tag_of e.typ)

abbrev put_entry : List ℕ → ℕ → Entry → List ℕ
put_entry w n e = put_word (stored₃ w n e) (8 * n + 6) (number_of e.typ)

put_outside : (w : List ℕ) (n : ℕ) (e : Entry) (i : ℕ) → (8 * n ≤ i → i < 8 * n + 8 → ⊥) → get_or (put_entry w n e) i 0 ≡ get_or w i 0
put_outside w n e i h =
    byte_far (stored₃ w n e) (8 * n + 6) (number_of e.typ) i (λ a b. h (omega arith) (omega arith))
    ∙ byte_far (stored₂ w n e) (8 * n + 4) (tag_of e.typ) i (λ a b. h (omega arith) (omega arith))
    ∙ byte_far (stored₁ w n e) (8 * n + 2) e.serial.0 i (λ a b. h (omega arith) (omega arith))
    ∙ byte_far w (8 * n) e.name.0 i (λ a b. h (omega arith) (omega arith))

put_here : (w : List ℕ) (n : ℕ) (e : Entry) → 8 * n + 8 ≤ length w → entry_at (put_entry w n e) n ≡ e
unfolding entry_at
put_here w n e h =
    let i = 8 * n in
    let w₁ : List ℕ = stored₁ w n e in
    let w₂ : List ℕ = stored₂ w n e in
    let w₃ : List ℕ = stored₃ w n e in
    let w₄ : List ℕ = put_entry w n e in
    let s₁ : length w₁ ≡ length w = simp length-set in
    let s₂ : length w₂ ≡ length w = simp length-set in
    let s₃ : length w₃ ≡ length w = simp length-set in
    let x : word_at w₄ i ≡ e.name.0 =
    word_far w₃ (i + 6) (number_of e.typ) i (omega arith) (omega arith) (omega arith)
    ∙ word_far w₂ (i + 4) (tag_of e.typ) i (omega arith) (omega arith) (omega arith)
    ∙ word_far w₁ (i + 2) e.serial.0 i (omega arith) (omega arith) (omega arith)
    ∙ word_same w i e.name.0 (omega arith) in
    let s : word_at w₄ (i + 2) ≡ e.serial.0 =
    word_far w₃ (i + 6) (number_of e.typ) (i + 2) (omega arith) (omega arith) (omega arith)
    ∙ word_far w₂ (i + 4) (tag_of e.typ) (i + 2) (omega arith) (omega arith) (omega arith)
    ∙ word_same w₁ (i + 2) e.serial.0 (omega arith) in
    let t : word_at w₄ (i + 4) ≡ tag_of e.typ =
    word_far w₃ (i + 6) (number_of e.typ) (i + 4) (omega arith) (omega arith) (omega arith)
    ∙ word_same w₂ (i + 4) (tag_of e.typ) (omega arith) in
    let k : word_at w₄ (i + 6) ≡ number_of e.typ = word_same w₃ (i + 6) (number_of e.typ) (omega arith) in
    let y : sort_of (word_at w₄ (i + 4)) (word_at w₄ (i + 6)) ≡ e.typ = ap₂ sort_of t k ∙ sort_back e.typ in
    λ j. record { name = record { 0 = x j }; serial = record { 0 = s j }; typ = y j }

put_entry_lem : (w : List ℕ) (n : ℕ) (e : Entry) → 8 * n + 8 ≤ length w → Inserted w n e (put_entry w n e)
put_entry_lem w n e h =
    record {
      here = put_here w n e h;
      size = simp length-set;
      others = λ m d. entry_kept w (put_entry w n e) m (λ i lo hi. put_outside w n e i (λ a b. d (omega arith)));
      outside = put_outside w n e;
    }

-- the same with a name for the room after each store, as `insert` has them
pub inserted : (w w₁ w₂ w₃ w₄ : List ℕ) (n : ℕ) (e : Entry) (t k : ℕ) → 8 * n + 8 ≤ length w → w₁ ≡ put_word w (8 * n) e.name.0 → w₂ ≡ put_word w₁ (8 * n + 2) e.serial.0 → t ≡ tag_of e.typ → w₃ ≡ put_word w₂ (8 * n + 4) t → k ≡ number_of e.typ → w₄ ≡ put_word w₃ (8 * n + 6) k → Inserted w n e w₄
inserted w w₁ w₂ w₃ w₄ n e t k h q₁ q₂ qt q₃ qk q₄ = let q : w₄ ≡ put_entry w n e = cc in rw q (put_entry_lem w n e h)

-- CONTEXTS
pub ctx_none : (f : Sort → Ty) (w : List ℕ) → ctx_at f w 0 ≡ []
unfolding ctx_at
ctx_none f w = refl

pub ctx_more : (f : Sort → Ty) (w : List ℕ) (n : ℕ) → ctx_at f w (n + 1) ≡ stands f (entry_at w n) ∷ ctx_at f w n
unfolding ctx_at
ctx_more f w n = rw (add-one n) refl

-- a goal's context length is the number of entries, shadowed ones too
pub ctx_length : (f : Sort → Ty) (w : List ℕ) (n : ℕ) → length (ctx_at f w n) ≡ n
unfolding ctx_at
ctx_length f w zero = refl
ctx_length f w (suc n) = ap suc (ctx_length f w n)

-- the same entries are the same context
pub ctx_same : (f : Sort → Ty) (old new : List ℕ) (n : ℕ) → SameEntries n old new → ctx_at f new n ≡ ctx_at f old n
unfolding ctx_at
ctx_same f old new zero h = refl
ctx_same f old new (suc n) h = ap₂ {C = Ctx} ◌∷◌ (ap (stands f) (h n (omega arith))) (ctx_same f old new n (λ i l. h i (omega arith)))

-- two readings of types that agree on the entries' types give the same context
pub ctx_read_same : (f g : Sort → Ty) (w : List ℕ) (n : ℕ) → ((i : ℕ) → i < n → f (entry_at w i).typ ≡ g (entry_at w i).typ) → ctx_at f w n ≡ ctx_at g w n
unfolding ctx_at
ctx_read_same f g w zero h = refl
ctx_read_same f g w (suc n) h =
    let t = h n (omega arith) in
    ap₂ {C = Ctx} ◌∷◌ (λ i. record { name = (entry_at w n).name.0; serial = (entry_at w n).serial.0; ty = t i })
    (ctx_read_same f g w n (λ i l. h i (omega arith)))

-- inserting leaves the contexts below as they were, and puts the entry before them
pub ctx_below : (f : Sort → Ty) {old new : List ℕ} {n : ℕ} {e : Entry} (m : ℕ) → Inserted old n e new → m ≤ n → ctx_at f new m ≡ ctx_at f old m
ctx_below f {old} {new} m p h = ctx_same f old new m (λ i l. p.others i (omega arith))

pub ctx_inserted : (f : Sort → Ty) {old new : List ℕ} {n : ℕ} {e : Entry} → Inserted old n e new → ctx_at f new (n + 1) ≡ stands f e ∷ ctx_at f old n
ctx_inserted f {old} {new} {n} p = ctx_more f new n ∙ ap₂ {C = Ctx} ◌∷◌ (ap (stands f) p.here) (ctx_below f n p (omega arith))

-- LOOKING A NAME UP among the first i entries: the latest has it, or has not, or there is none
find_here : (f : Sort → Ty) (w : List ℕ) (i x : ℕ) (e : Entry) → 0 < i → e ≡ entry_at w (i - 1) → e.name.0 ≡ x → found f (Some e) ≡ find x (ctx_at f w i)
unfolding ctx_at find
find_here f w zero x e p q h = absurd (omega arith)
find_here f w (suc n) x e p q h =
    let d : e ≡ entry_at w n = q ∙ ap (entry_at w) (omega arith) in
    rw (← d, eq-eqb x e.name.0 (sym h)) refl

find_past : (f : Sort → Ty) (w : List ℕ) (i x : ℕ) (e : Entry) → 0 < i → e ≡ entry_at w (i - 1) → (e.name.0 ≡ x → ⊥) → find x (ctx_at f w i) ≡ find x (ctx_at f w (i - 1))
unfolding ctx_at find
find_past f w zero x e p q h = absurd (omega arith)
find_past f w (suc n) x e p q h =
    let d : e ≡ entry_at w n = q ∙ ap (entry_at w) (omega arith) in
    let m : n ≡ suc n - 1 = omega arith in
    rw (← d, ne_eqb x e.name.0 (λ s. h (sym s)), ← m) refl

find_none : (f : Sort → Ty) (w : List ℕ) (i x : ℕ) → i ≤ 0 → found f None ≡ find x (ctx_at f w i)
unfolding ctx_at find
find_none f w zero x h = refl
find_none f w (suc n) x h = absurd (omega arith)

-- what `get_by_name` knows at each turn: the first i entries decide
abbrev pub Decides : List ℕ → (n x i : ℕ) → Type 0
Decides w n x i = (f : Sort → Ty) → find x (ctx_at f w n) ≡ find x (ctx_at f w i)

module _ (w : List ℕ) (n i x : ℕ) (e : Entry) (p : 0 < i) (q : e ≡ entry_at w (i - 1)) (v : Bool) (ev : v ≡ eqb e.name.0 x) (l : Decides w n x i) where
  pub decides_past : v ≡ false → Decides w n x (i - 1)
  decides_past h f = l f ∙ find_past f w i x e p q (eqb-false e.name.0 x (sym ev ∙ h))

  pub latest_here : i ≤ n → v ≡ true → Latest w n x (Some e)
  latest_here m h = record { finds = λ f. find_here f w i x e p q (eqb-true e.name.0 x (sym ev ∙ h)) ∙ sym (l f); among = (i - 1, omega arith, q) }

pub latest_none : (w : List ℕ) (n i x : ℕ) → i ≤ 0 → Decides w n x i → Latest w n x None
latest_none w n i x z l = record { finds = λ f. find_none f w i x z ∙ sym (l f); among = tt }

-- for the caller, who took the answer apart: what the rules find
pub held_finds : (f : Sort → Ty) {w : List ℕ} {n x : ℕ} {r : Option Entry} {e : Entry} → Latest w n x r → r ≡ Some e → find x (ctx_at f w n) ≡ some (stands f e)
held_finds f l q = sym (l.finds f) ∙ ap (found f) q

pub nothing_finds : (f : Sort → Ty) {w : List ℕ} {n x : ℕ} {r : Option Entry} → Latest w n x r → r ≡ None → find x (ctx_at f w n) ≡ none
nothing_finds f l q = sym (l.finds f) ∙ ap (found f) q

-- what holds of each of the first n entries holds of the one that is held
pub held_has : (P : Entry → Type 0) {w : List ℕ} {n x : ℕ} {r : Option Entry} {e : Entry} → Latest w n x r → r ≡ Some e → ((i : ℕ) → i < n → P (entry_at w i)) → P e
held_has P {w} {n} l q h = let m = subst (Among w n) q l.among in subst⁻¹ P m.2 (h m.0 m.1)
