-- Records copied in a row, and the edited table made of four rows, a header and the filling's root.
-- Assumes nothing.
use mathlib.Core.Path.{◌≡◌, refl, ap, sym, subst, subst⁻¹, transport, ◌∙◌}
use mathlib.Core.List.{List}
use mathlib.Core.Logic.{◌⊎◌, inl, inr}
use Prim.Native.Nat.{ℕ, ◌+◌, ◌-◌, ◌*◌, ◌<◌, ◌≤◌}
use native.Mathlib.Omega.{arith}
use lib.ListN.{length}
use Rattle.numbers.specs.declared.record.Record.{Record}
use Rattle.numbers.specs.Records.{record_at, Put}
use Rattle.layout.specs.File.{props, terms}
use Rattle.table.specs.Passing.{Counted, Directed}
use Rattle.table.proofs.Links.{child_below, term_child, annotation_in}
use Rattle.editing.specs.Edited.{new_term, moved_prop, moved_term, all_props, all_terms, edited_size, recounted, term_bytes, Joined, Edited}
use Rattle.editing.specs.Copied.{PropMoves, TermMoves, Copied, Waiting}
use Rattle.editing.proofs.Joins.{same_or, props_joined}

-- A ROW, record by record
pub copied_none : (g : Record → Record) (src : List ℕ) (first : ℕ) (l : List ℕ) (to : ℕ) → Copied g src first 0 l to l
copied_none g src first l to = record { size = refl; here = λ i k. absurd (omega arith); before = λ m k. refl }

pub copied_more : (g : Record → Record) (src : List ℕ) (first n : ℕ) (old : List ℕ) (to : ℕ) (mid : List ℕ) (r m : Record) (new : List ℕ) → Copied g src first n old to mid
    → r ≡ record_at src (first + n) → m ≡ g r → Put mid (to + n) m new → Copied g src first (n + 1) old to new
copied_more g src first n old to mid r m new c e h p =
    record {
      size = p.size ∙ c.size;
      here = λ i k. at i k (same_or i n);
      before = λ m k. p.others m (λ z. omega arith) ∙ c.before m k;
    }
  where
    at : (i : ℕ) → i < n + 1 → (i ≡ n) ⊎ (i ≡ n → ⊥) → record_at new (to + i) ≡ g (record_at src (first + i))
    at i k (inl z) = subst⁻¹ (λ i. record_at new (to + i) ≡ g (record_at src (first + i))) z (p.here ∙ h ∙ ap g e)
    at i k (inr z) = p.others (to + i) (λ w. z (omega arith)) ∙ c.here i (omega arith)

pub copied_all : (g : Record → Record) (src : List ℕ) (first n i : ℕ) (old : List ℕ) (to : ℕ) (new : List ℕ) → i ≤ n → n ≤ i → Copied g src first i old to new → Copied g src first n old to new
copied_all g src first n i old to new a b c = subst (λ i. Copied g src first i old to new) (omega arith) c

-- WHAT MAY BE MOVED: the filling's records, to a table that keeps the limits
module _ {old f : List ℕ} (o : Counted old) (g : Counted f) (d : Directed f) where
  term_moves : (i n : ℕ) → i < terms f → props f + i + 1 ≡ n → TermMoves (props old) (terms old) (record_at f n)
  term_moves i n k e =
      subst (λ n. TermMoves (props old) (terms old) (record_at f n)) e
      record {
        room = o.propositions;
        some = o.some;
        few = o.few;
        links = λ m x. omega (arith, (term_child d i m k x).1, g.few);
        typ = λ m x. omega (arith, annotation_in d i m k x, g.propositions);
      }

  -- in rows, with the counts as the code has them
  module _ (P p : ℕ) (P-is : P ≡ props old) (p-is : p ≡ props f) where
    pub prop_row : (i : ℕ) → i < p → PropMoves P (record_at f (1 + i))
    prop_row i k =
        let next : i + 1 ≡ 1 + i = omega arith in
        subst (λ n. PropMoves P (record_at f n)) next
        record { room = omega (arith, o.propositions); links = λ m x. omega (arith, child_below d i m (omega arith) x, g.propositions) }

    pub term_row : (T t : ℕ) → T ≡ terms old → t ≡ terms f → (i : ℕ) → i < t - 1 → TermMoves P T (record_at f (p + 2 + i))
    term_row T t T-is t-is i k = transport (λ j. TermMoves (sym P-is j) (sym T-is j) (record_at f (p + 2 + i))) (term_moves (i + 1) (p + 2 + i) (omega arith) (omega arith))

  -- its root in particular
  module _ (p t : ℕ) (p-is : p ≡ props old) (t-is : t ≡ terms old) (r : Record) (r-is : r ≡ term_bytes f 0) where
    pub root_moves : TermMoves p t r
    root_moves = transport (λ i. TermMoves (sym p-is i) (sym t-is i) (sym r-is i)) (term_moves 0 (props f + 0 + 1) g.some refl)

props_at : (l : List ℕ) → props l ≡ (record_at l 0).c
unfolding record_at
props_at l = refl

-- ANOTHER RECORD FOR TERM q of a joined table
module _ {old f : List ℕ} {q : ℕ} {r : Record} {e : List ℕ} (J : Joined old f q r e) (k : q < terms old) where
  pub joined_inside : 1 ≤ terms f → 16 * (props e + q + 1) + 16 ≤ length e
  joined_inside pos = omega (arith, J.size, props_joined J)

  pub joined_put : (s : Record) (new : List ℕ) → Put e (props e + q + 1) s new → Joined old f q s new
  joined_put s new p =
      record {
        size = p.size ∙ J.size;
        head = p.others 0 (λ z. omega arith) ∙ J.head;
        old_prop = λ n x. p.others (n + 1) (λ z. omega (arith, props_joined J)) ∙ J.old_prop n x;
        added_prop = λ j x. p.others (props old + j + 1) (λ z. omega (arith, props_joined J)) ∙ J.added_prop j x;
        old_term = λ t x z. at t ∙ p.others (props e + t + 1) (λ w. z (omega arith)) ∙ J.old_term t x z;
        here = at q ∙ p.here;
        added_term = λ i x y. at (new_term (terms old) i) ∙ p.others (props e + new_term (terms old) i + 1) (λ w. omega arith) ∙ J.added_term i x y;
      }
    where
      at : (t : ℕ) → term_bytes new t ≡ record_at new (props e + t + 1)
      at t = ap (λ (n : ℕ). record_at new (n + t + 1)) (props_at new ∙ ap (λ (h : Record). h.c) (p.others 0 (λ z. omega arith)) ∙ sym (props_at e))

-- THE CODE'S HEADER AND FOUR ROWS are the old table joined with the filling, the Sorry record still there; P, T, p and t are the counts as the code has them
module _ (old f : List ℕ) (P T p t : ℕ) (P-is : P ≡ props old) (T-is : T ≡ terms old) (p-is : p ≡ props f) (t-is : t ≡ terms f) (some : 1 ≤ terms f)
    (e₀ : List ℕ) (long : length e₀ ≡ edited_size old f)
    (e₁ : List ℕ) (h : Put e₀ 0 (recounted (P + p) (T + (t - 1)) (record_at old 0)) e₁)
    (e₂ : List ℕ) (a : Copied (λ r. r) old 1 P e₁ 1 e₂)
    (e₃ : List ℕ) (b : Copied (moved_prop P) f 1 p e₂ (P + 1) e₃)
    (e₄ : List ℕ) (c : Copied (λ r. r) old (P + 1) T e₃ (P + p + 1) e₄)
    (e : List ℕ) (d : Copied (moved_term P T) f (p + 2) (t - 1) e₄ (P + p + T + 1) e) where
  head : record_at e 0 ≡ recounted (P + p) (T + (t - 1)) (record_at old 0)
  head = d.before 0 (omega arith) ∙ c.before 0 (omega arith) ∙ b.before 0 (omega arith) ∙ a.before 0 (omega arith) ∙ h.here

  term_place : (n m : ℕ) → P + p + n + 1 ≡ m → term_bytes e n ≡ record_at e m
  term_place n m z = ap (λ (x : ℕ). record_at e (x + n + 1)) (props_at e ∙ ap (λ (h : Record). h.c) head) ∙ ap (record_at e) z

  kept : (n : ℕ) → n < terms old → term_bytes e n ≡ term_bytes old n
  kept n x =
      term_place n (P + p + 1 + n) (omega arith)
      ∙ d.before (P + p + 1 + n) (omega arith)
      ∙ c.here n (omega arith)
      ∙ ap (record_at old) (omega arith)

  pub rows_joined : Waiting old f e
  rows_joined q k =
      record {
        size = d.size ∙ c.size ∙ b.size ∙ a.size ∙ h.size ∙ long;
        head = head ∙ (λ i. recounted (so₁ i) (so₂ i) (record_at old 0));
        old_prop = λ n x.
            d.before (n + 1) (omega arith) ∙ c.before (n + 1) (omega arith) ∙ b.before (n + 1) (omega arith) ∙ ap (record_at e₂) (omega arith) ∙ a.here n (omega arith) ∙ ap (record_at old) (omega arith);
        added_prop = λ j x.
            ap (record_at e) (front j) ∙ d.before (P + 1 + j) (omega arith) ∙ c.before (P + 1 + j) (omega arith) ∙ b.here j (omega arith) ∙ (λ i. moved_prop (P-is i) (record_at f (turn j i)));
        old_term = λ n x z. kept n x;
        here = kept q k;
        added_term = λ i x y.
            term_place (new_term (terms old) i) (P + p + T + 1 + (i - 1)) (omega arith)
            ∙ d.here (i - 1) (omega arith)
            ∙ (λ j. moved_term (P-is j) (T-is j) (record_at f (back i x j)));
      }
    where
      so₁ : P + p ≡ all_props old f
      so₁ = omega arith

      so₂ : T + (t - 1) ≡ all_terms old f
      so₂ = omega arith

      front : (j : ℕ) → props old + j + 1 ≡ P + 1 + j
      front j = omega arith

      turn : (j : ℕ) → 1 + j ≡ j + 1
      turn j = omega arith

      back : (i : ℕ) → 0 < i → p + 2 + (i - 1) ≡ props f + i + 1
      back i x = omega arith

-- then the filling's root goes to its place
pub edited_put : {old f e : List ℕ} → Waiting old f e → (q : ℕ) → q < terms old → (m : Record) → m ≡ moved_term (props old) (terms old) (term_bytes f 0)
    → (new : List ℕ) → Put e (props e + q + 1) m new → Edited old f q new
edited_put {old} {f} w q k m m-is new p = subst (λ r. Joined old f q r new) m-is (joined_put (w q k) k m new p)
