-- A record written into a room: what every number then reads. Assumes nothing.
use mathlib.Core.Path.{◌≡◌, refl, ◌∙◌}
use mathlib.Core.List.{List, [], ◌∷◌}
use Prim.Native.Nat.{ℕ, ◌+◌, ◌*◌, ◌/◌, ◌%◌, ◌<◌, ◌≤◌}
use native.Mathlib.Omega.{arith}
use lib.ListN.{length, get_or, set, length-set}
use lib.Seq.{get_or-set_same, get_or-set_other}
use Rattle.numbers.specs.declared.record.Record.{Record}
use Rattle.numbers.specs.Records.{word_at, put_word, record_at, Put}

pub length_word : (l : List ℕ) (i v : ℕ) → length (put_word l i v) ≡ length l
length_word l i v = simp length-set

-- what stands below or above a word is as it was
get_word : (l : List ℕ) (i v j : ℕ) → (j ≡ i → ⊥) → (j ≡ i + 1 → ⊥) → get_or (put_word l i v) j 0 ≡ get_or l j 0
get_word l i v j h k = get_or-set_other (set l i (v % 256)) (i + 1) j (v / 256) 0 k ∙ get_or-set_other l i j (v % 256) 0 h

pub word_far : (l : List ℕ) (i v j : ℕ) → (j ≡ i → ⊥) → (j ≡ i + 1 → ⊥) → (j + 1 ≡ i → ⊥) → word_at (put_word l i v) j ≡ word_at l j
word_far l i v j h k m =
    let a : get_or (put_word l i v) j 0 ≡ get_or l j 0 = get_word l i v j h k in
    let b : get_or (put_word l i v) (j + 1) 0 ≡ get_or l (j + 1) 0 = get_word l i v (j + 1) m (omega arith) in
    cc

pub word_same : (l : List ℕ) (i v : ℕ) → i + 1 < length l → word_at (put_word l i v) i ≡ v
word_same l i v h =
    let a : get_or (put_word l i v) i 0 ≡ v % 256 = get_or-set_other (set l i (v % 256)) (i + 1) i (v / 256) 0 (omega arith) ∙ get_or-set_same l i (v % 256) 0 (omega arith) in
    let b : get_or (put_word l i v) (i + 1) 0 ≡ v / 256 = get_or-set_same (set l i (v % 256)) (i + 1) (v / 256) 0 (simp length-set h) in
    omega arith

word_set : (l : List ℕ) (i v j : ℕ) → (j ≡ i → ⊥) → (j + 1 ≡ i → ⊥) → word_at (set l i v) j ≡ word_at l j
word_set l i v j h k =
    let a : get_or (set l i v) j 0 ≡ get_or l j 0 = get_or-set_other l i j v 0 h in
    let b : get_or (set l i v) (j + 1) 0 ≡ get_or l (j + 1) 0 = get_or-set_other l i (j + 1) v 0 k in
    cc

-- a list of four is its elements
four : (l : List ℕ) → length l ≡ 4 → get_or l 0 0 ∷ get_or l 1 0 ∷ get_or l 2 0 ∷ get_or l 3 0 ∷ [] ≡ l
four [] h = absurd (omega arith)
four (a ∷ []) h = absurd (omega arith)
four (a ∷ b ∷ []) h = absurd (omega arith)
four (a ∷ b ∷ c ∷ []) h = absurd (omega arith)
four (a ∷ b ∷ c ∷ d ∷ []) h = refl
four (a ∷ b ∷ c ∷ d ∷ e ∷ l) h = absurd (omega arith)

-- the room after the nine stores of `put`, store by store
abbrev pub head : List ℕ → ℕ → Record → List ℕ
head l n r = set (set l (16 * n) r.kind) (16 * n + 1) r.count

abbrev pub stored₁ : List ℕ → ℕ → Record → List ℕ
stored₁ l n r = put_word (head l n r) (16 * n + 2) r.a

abbrev pub stored₂ : List ℕ → ℕ → Record → List ℕ
stored₂ l n r = put_word (stored₁ l n r) (16 * n + 4) r.b

abbrev pub stored₃ : List ℕ → ℕ → Record → List ℕ
stored₃ l n r = put_word (stored₂ l n r) (16 * n + 6) r.c

abbrev pub stored₄ : List ℕ → ℕ → Record → List ℕ
stored₄ l n r = put_word (stored₃ l n r) (16 * n + 8) (get_or r.parameters 0 0)

abbrev pub stored₅ : List ℕ → ℕ → Record → List ℕ
stored₅ l n r = put_word (stored₄ l n r) (16 * n + 10) (get_or r.parameters 1 0)

abbrev pub stored₆ : List ℕ → ℕ → Record → List ℕ
stored₆ l n r = put_word (stored₅ l n r) (16 * n + 12) (get_or r.parameters 2 0)

abbrev pub put_record : List ℕ → ℕ → Record → List ℕ
put_record l n r = put_word (stored₆ l n r) (16 * n + 14) (get_or r.parameters 3 0)

-- a store among the sixteen bytes of record n changes no other record
far_set : (l : List ℕ) (i v n m : ℕ) → (m ≡ n → ⊥) → 16 * n ≤ i → i < 16 * n + 16 → record_at (set l i v) m ≡ record_at l m
unfolding record_at
far_set l i v n m h lo hi =
    let w : (o : ℕ) → o < 15 → word_at (set l i v) (16 * m + o) ≡ word_at l (16 * m + o) = λ o k. word_set l i v (16 * m + o) (omega arith) (omega arith) in
    let e : get_or (set l i v) (16 * m) 0 ≡ get_or l (16 * m) 0 = get_or-set_other l i (16 * m) v 0 (omega arith) in
    let f : get_or (set l i v) (16 * m + 1) 0 ≡ get_or l (16 * m + 1) 0 = get_or-set_other l i (16 * m + 1) v 0 (omega arith) in
    let w₂ = w 2 (omega arith) in
    let w₄ = w 4 (omega arith) in
    let w₆ = w 6 (omega arith) in
    let w₈ = w 8 (omega arith) in
    let w₁₀ = w 10 (omega arith) in
    let w₁₂ = w 12 (omega arith) in
    let w₁₄ = w 14 (omega arith) in
    λ k. record { kind = e k; count = f k; a = w₂ k; b = w₄ k; c = w₆ k; parameters = w₈ k ∷ w₁₀ k ∷ w₁₂ k ∷ w₁₄ k ∷ [] }

far_word : (l : List ℕ) (i v n m : ℕ) → (m ≡ n → ⊥) → 16 * n ≤ i → i + 1 < 16 * n + 16 → record_at (put_word l i v) m ≡ record_at l m
far_word l i v n m h lo hi = far_set (set l i (v % 256)) (i + 1) (v / 256) n m h (omega arith) hi ∙ far_set l i (v % 256) n m h lo (omega arith)

put_others : (l : List ℕ) (n : ℕ) (r : Record) (m : ℕ) → (m ≡ n → ⊥) → record_at (put_record l n r) m ≡ record_at l m
put_others l n r m h =
    far_word _ (16 * n + 14) (get_or r.parameters 3 0) n m h (omega arith) (omega arith)
    ∙ far_word _ (16 * n + 12) (get_or r.parameters 2 0) n m h (omega arith) (omega arith)
    ∙ far_word _ (16 * n + 10) (get_or r.parameters 1 0) n m h (omega arith) (omega arith)
    ∙ far_word _ (16 * n + 8) (get_or r.parameters 0 0) n m h (omega arith) (omega arith)
    ∙ far_word _ (16 * n + 6) r.c n m h (omega arith) (omega arith)
    ∙ far_word _ (16 * n + 4) r.b n m h (omega arith) (omega arith)
    ∙ far_word _ (16 * n + 2) r.a n m h (omega arith) (omega arith)
    ∙ far_set _ (16 * n + 1) r.count n m h (omega arith) (omega arith)
    ∙ far_set l (16 * n) r.kind n m h (omega arith) (omega arith)

put_here : (l : List ℕ) (n : ℕ) (r : Record) → length r.parameters ≡ 4 → 16 * n + 16 ≤ length l → record_at (put_record l n r) n ≡ r
unfolding record_at
put_here l n r four-long h =
    let i = 16 * n in
    let l₀ : List ℕ = set l i r.kind in
    let l₁ : List ℕ = set l₀ (i + 1) r.count in
    let l₂ : List ℕ = put_word l₁ (i + 2) r.a in
    let l₃ : List ℕ = put_word l₂ (i + 4) r.b in
    let l₄ : List ℕ = put_word l₃ (i + 6) r.c in
    let l₅ : List ℕ = put_word l₄ (i + 8) (get_or r.parameters 0 0) in
    let l₆ : List ℕ = put_word l₅ (i + 10) (get_or r.parameters 1 0) in
    let l₇ : List ℕ = put_word l₆ (i + 12) (get_or r.parameters 2 0) in
    let l₈ : List ℕ = put_word l₇ (i + 14) (get_or r.parameters 3 0) in
    let s₁ : length l₁ ≡ length l = simp length-set in
    let s₂ : length l₂ ≡ length l = simp length-set in
    let s₃ : length l₃ ≡ length l = simp length-set in
    let s₄ : length l₄ ≡ length l = simp length-set in
    let s₅ : length l₅ ≡ length l = simp length-set in
    let s₆ : length l₆ ≡ length l = simp length-set in
    let s₇ : length l₇ ≡ length l = simp length-set in
    let kind : get_or l₈ i 0 ≡ r.kind =
    get_word l₇ (i + 14) (get_or r.parameters 3 0) i (omega arith) (omega arith)
    ∙ get_word l₆ (i + 12) (get_or r.parameters 2 0) i (omega arith) (omega arith)
    ∙ get_word l₅ (i + 10) (get_or r.parameters 1 0) i (omega arith) (omega arith)
    ∙ get_word l₄ (i + 8) (get_or r.parameters 0 0) i (omega arith) (omega arith)
    ∙ get_word l₃ (i + 6) r.c i (omega arith) (omega arith)
    ∙ get_word l₂ (i + 4) r.b i (omega arith) (omega arith)
    ∙ get_word l₁ (i + 2) r.a i (omega arith) (omega arith)
    ∙ get_or-set_other l₀ (i + 1) i r.count 0 (omega arith)
    ∙ get_or-set_same l i r.kind 0 (omega arith) in
    let count : get_or l₈ (i + 1) 0 ≡ r.count =
    get_word l₇ (i + 14) (get_or r.parameters 3 0) (i + 1) (omega arith) (omega arith)
    ∙ get_word l₆ (i + 12) (get_or r.parameters 2 0) (i + 1) (omega arith) (omega arith)
    ∙ get_word l₅ (i + 10) (get_or r.parameters 1 0) (i + 1) (omega arith) (omega arith)
    ∙ get_word l₄ (i + 8) (get_or r.parameters 0 0) (i + 1) (omega arith) (omega arith)
    ∙ get_word l₃ (i + 6) r.c (i + 1) (omega arith) (omega arith)
    ∙ get_word l₂ (i + 4) r.b (i + 1) (omega arith) (omega arith)
    ∙ get_word l₁ (i + 2) r.a (i + 1) (omega arith) (omega arith)
    ∙ get_or-set_same l₀ (i + 1) r.count 0 (simp length-set (omega arith)) in
    let wa : word_at l₈ (i + 2) ≡ r.a =
    word_far l₇ (i + 14) (get_or r.parameters 3 0) (i + 2) (omega arith) (omega arith) (omega arith)
    ∙ word_far l₆ (i + 12) (get_or r.parameters 2 0) (i + 2) (omega arith) (omega arith) (omega arith)
    ∙ word_far l₅ (i + 10) (get_or r.parameters 1 0) (i + 2) (omega arith) (omega arith) (omega arith)
    ∙ word_far l₄ (i + 8) (get_or r.parameters 0 0) (i + 2) (omega arith) (omega arith) (omega arith)
    ∙ word_far l₃ (i + 6) r.c (i + 2) (omega arith) (omega arith) (omega arith)
    ∙ word_far l₂ (i + 4) r.b (i + 2) (omega arith) (omega arith) (omega arith)
    ∙ word_same l₁ (i + 2) r.a (omega arith) in
    let wb : word_at l₈ (i + 4) ≡ r.b =
    word_far l₇ (i + 14) (get_or r.parameters 3 0) (i + 4) (omega arith) (omega arith) (omega arith)
    ∙ word_far l₆ (i + 12) (get_or r.parameters 2 0) (i + 4) (omega arith) (omega arith) (omega arith)
    ∙ word_far l₅ (i + 10) (get_or r.parameters 1 0) (i + 4) (omega arith) (omega arith) (omega arith)
    ∙ word_far l₄ (i + 8) (get_or r.parameters 0 0) (i + 4) (omega arith) (omega arith) (omega arith)
    ∙ word_far l₃ (i + 6) r.c (i + 4) (omega arith) (omega arith) (omega arith)
    ∙ word_same l₂ (i + 4) r.b (omega arith) in
    let wc : word_at l₈ (i + 6) ≡ r.c =
    word_far l₇ (i + 14) (get_or r.parameters 3 0) (i + 6) (omega arith) (omega arith) (omega arith)
    ∙ word_far l₆ (i + 12) (get_or r.parameters 2 0) (i + 6) (omega arith) (omega arith) (omega arith)
    ∙ word_far l₅ (i + 10) (get_or r.parameters 1 0) (i + 6) (omega arith) (omega arith) (omega arith)
    ∙ word_far l₄ (i + 8) (get_or r.parameters 0 0) (i + 6) (omega arith) (omega arith) (omega arith)
    ∙ word_same l₃ (i + 6) r.c (omega arith) in
    let wp : word_at l₈ (i + 8) ≡ get_or r.parameters 0 0 =
    word_far l₇ (i + 14) (get_or r.parameters 3 0) (i + 8) (omega arith) (omega arith) (omega arith)
    ∙ word_far l₆ (i + 12) (get_or r.parameters 2 0) (i + 8) (omega arith) (omega arith) (omega arith)
    ∙ word_far l₅ (i + 10) (get_or r.parameters 1 0) (i + 8) (omega arith) (omega arith) (omega arith)
    ∙ word_same l₄ (i + 8) (get_or r.parameters 0 0) (omega arith) in
    let wq : word_at l₈ (i + 10) ≡ get_or r.parameters 1 0 =
    word_far l₇ (i + 14) (get_or r.parameters 3 0) (i + 10) (omega arith) (omega arith) (omega arith)
    ∙ word_far l₆ (i + 12) (get_or r.parameters 2 0) (i + 10) (omega arith) (omega arith) (omega arith)
    ∙ word_same l₅ (i + 10) (get_or r.parameters 1 0) (omega arith) in
    let ws : word_at l₈ (i + 12) ≡ get_or r.parameters 2 0 =
    word_far l₇ (i + 14) (get_or r.parameters 3 0) (i + 12) (omega arith) (omega arith) (omega arith)
    ∙ word_same l₆ (i + 12) (get_or r.parameters 2 0) (omega arith) in
    let wt : word_at l₈ (i + 14) ≡ get_or r.parameters 3 0 =
    word_same l₇ (i + 14) (get_or r.parameters 3 0) (omega arith) in
    let params : word_at l₈ (i + 8) ∷ word_at l₈ (i + 10) ∷ word_at l₈ (i + 12) ∷ word_at l₈ (i + 14) ∷ [] ≡ r.parameters =
    (λ k. wp k ∷ wq k ∷ ws k ∷ wt k ∷ []) ∙ four r.parameters four-long in
    λ k. record { kind = kind k; count = count k; a = wa k; b = wb k; c = wc k; parameters = params k }

pub put_record_lem : (l : List ℕ) (n : ℕ) (r : Record) → length r.parameters ≡ 4 → 16 * n + 16 ≤ length l → Put l n r (put_record l n r)
put_record_lem l n r k h = record { here = put_here l n r k h; size = simp length-set; others = put_others l n r }
