-- Resolving: names known and unknown, and what `resolve` answers. Assumes nothing.
use mathlib.Core.Path.{◌≡◌, refl, ap, sym, subst⁻¹, ◌∙◌}
use mathlib.Core.Bool.{Bool, true, false, not, cond}
use mathlib.Core.List.{List}
use mathlib.Core.Option.{Option, none, some}
use Prim.Native.Nat.{ℕ, zero, suc, ◌+◌, ◌<◌, ◌≤◌}
use native.Mathlib.Omega.{arith}
use lib.Dec.{eqb}
use Rattle.std.specs.Prelude.{Option as Optional, Some, None, is_some, Ok, Err, ok_or}
use Rattle.numbers.specs.declared.Sort.{Sort}
use Rattle.numbers.specs.declared.Sort.TheVariants as type
use Rattle.numbers.specs.declared.Name.{Name}
use Rattle.numbers.specs.declared.Proposition.{Proposition}
use Rattle.numbers.specs.Limits.{largest}
use Rattle.rules.specs.Prop.{Param, free, ser, bound, Prop, Ty, prop, datatype, copy, walk, each, size, size_ty}
use Rattle.rules.specs.Context.{Entry, find, known_in, known, settle_as, settle, resolve}
use Rattle.rules.specs.State.{limit}
use Rattle.rules.proofs.Renaming.{size_walk}
use Rattle.context.specs.declared.identifier_context.Entry.{Entry as Held}
use Rattle.context.specs.Context.{entry_at, stands, ctx_at, found, Latest}
use Rattle.arena.specs.declared.copy.Copied.{Copied}
use Rattle.arena.specs.declared.resolve.Unresolved.TheVariants as not_so
use Rattle.prop.specs.declared.atom.Parameter.{Parameter}
use Rattle.prop.specs.declared.atom.Parameter.TheVariants.{Free}
use Rattle.prop.specs.Room.{room_at, type_at, Arena}
use Rattle.prop.specs.Atom.{passes}
use Rattle.prop.specs.Size.{counted}
use Rattle.arena.specs.Copy.{most_records, names, CopiedIs}
use Rattle.arena.specs.Resolve.{all_known, ResolvesTo, ResolvedIs}
use Rattle.prop.proofs.Counts.{counted_within, counted_over}
use Rattle.prop.proofs.Occurs.{not_not}

-- ONE PARAMETER, by what is in its place
in_found : (f : Sort → Ty) (r : Optional Held) → is_some r ≡ known_in (found f r)
unfolding known_in
in_found f (Some y) = refl
in_found f None = refl

module _ (w : List ℕ) (n : ℕ) (p : Parameter) where
  module _ (x : Name) (e : p ≡ Free x) (r : Optional Held) (l : Latest w n x.0 r) where
    pub known_name : (b : Bool) → b ≡ is_some r → b ≡ passes (known (names w n)) p
    unfolding known known_in
    known_name b q = rw e (q ∙ in_found _ r ∙ ap known_in (l.finds _))

-- RESOLVING asks for an entry's serial, and not for its type
module _ (f g : Sort → Ty) (w : List ℕ) {A : Type 0} (h : Option Entry → A) (q : (e : Held) → h (some (stands f e)) ≡ h (some (stands g e))) where
  either : (b : Bool) (e : Held) (o u : Option Entry) → h o ≡ h u → h (cond b (some (stands f e)) o) ≡ h (cond b (some (stands g e)) u)
  either true e o u p = q e
  either false e o u p = p

  find_any : (x n : ℕ) → h (find x (ctx_at f w n)) ≡ h (find x (ctx_at g w n))
  unfolding find ctx_at
  find_any x zero = refl
  find_any x (suc n) = either (eqb x (entry_at w n).name.0) (entry_at w n) _ _ (find_any x n)

module _ (f g : Sort → Ty) (w : List ℕ) (n : ℕ) where
  known_any : (x : Param) → known (ctx_at f w n) x ≡ known (ctx_at g w n) x
  unfolding known known_in
  known_any (free x) = find_any f g w known_in (λ e. refl) x n
  known_any (ser i) = refl
  known_any (bound k) = refl

  settle_any : (x : Param) → settle (ctx_at f w n) x ≡ settle (ctx_at g w n) x
  unfolding settle settle_as
  settle_any (free x) = find_any f g w (settle_as x) (λ e. refl) x n
  settle_any (ser i) = refl
  settle_any (bound k) = refl

  pub resolve_any : (T : Ty) → resolve (ctx_at f w n) T ≡ resolve (ctx_at g w n) T
  unfolding resolve
  resolve_any (prop P) = λ i. cond (each (λ d x. known_any x i) 0 P) (some (prop (walk copy (λ d x. settle_any x i) 0 P))) none
  resolve_any (datatype D) = refl

-- an `ok_or` that gave an error was called on None
pub ok_or_err : {X E : Type 0} {o : Optional X} {e x : E} → Err x ≡ ok_or o e → (o ≡ None) × (x ≡ e)
ok_or_err {o = None} h = (refl, grind arith)
ok_or_err {o = Some y} h = absurd (grind arith)

-- `resolve`, in the order of its code
pub deep_fits : (c left n : ℕ) → n < c → c + left ≤ most_records → 0 + n ≤ largest
unfolding limit
deep_fits c left n h l = omega arith

module _ (old : List ℕ) (n left : ℕ) (m : Optional ℕ) (em : (tables : ℕ) → m ≡ counted (size (room_at tables old n)) left) where
  many : m ≡ None → (tables : ℕ) → left < size (room_at tables old n)
  many h tables = counted_over _ left (sym (em tables) ∙ h)

  module _ (k : ℕ) (h : m ≡ Some k) where
    few : (tables : ℕ) → size (room_at tables old n) ≤ left
    few tables = (counted_within _ left k (sym (em tables) ∙ h)).1

    pub copy_fits : (c : ℕ) → c + left ≤ most_records → (tables : ℕ) → c + size (room_at tables old n) ≤ most_records
    copy_fits c l tables = omega (arith, few tables)

module _ (old : List ℕ) (c left : ℕ) (w : List ℕ) (n : ℕ) (t : Sort) (ok : Arena old c) where
  pub same_datatype : (D : Name) → t ≡ type.Datatype D → ResolvedIs old c left w n t old (Ok (record { typ = t; count = c }))
  unfolding resolve size_ty
  same_datatype D e =
      subst⁻¹ (λ (s : Sort). ResolvesTo old c left w n s old s c) e
      (record {
        count = λ tables l. omega arith;
        within = omega arith;
        below = tt;
        arena = ok;
        same = λ i l. refl;
        long = refl;
        means = λ f tables l. refl;
      })

  module _ (p : Proposition) (e : t ≡ type.Proposition p) where
    abbrev settled : ℕ → Prop
    settled tables = walk copy (λ d. settle (names w n)) 0 (room_at tables old p.0)

    module _ (b : Bool) (eb : (tables : ℕ) → b ≡ all_known w n (room_at tables old p.0)) where
      resolved_if : (f : Sort → Ty) (tables : ℕ) (v : Bool) → b ≡ v → resolve (ctx_at f w n) (type_at tables old t) ≡ cond v (some (prop (settled tables))) none
      unfolding resolve all_known
      resolved_if f tables v h =
          resolve_any f _ w n (type_at tables old t)
          ∙ ap (λ (s : Sort). resolve (names w n) (type_at tables old s)) e
          ∙ ap (λ (v : Bool). cond v (some (prop (settled tables))) none) (sym (eb tables) ∙ h)

      pub name_unknown : not b ≡ true → ResolvedIs old c left w n t old (Err not_so.Unknown)
      name_unknown h = (refl, λ f tables. resolved_if f tables false (sym (not_not b) ∙ ap not h))

      module _ (h : b ≡ true) (m : Optional ℕ) (em : (tables : ℕ) → m ≡ counted (size (room_at tables old p.0)) left) where
        known_all : (f : Sort → Ty) (tables : ℕ) → resolve (ctx_at f w n) (type_at tables old t) ≡ some (prop (settled tables))
        known_all f tables = resolved_if f tables true h

        settled_size : (tables : ℕ) → size (settled tables) ≡ size (room_at tables old p.0)
        settled_size tables = size_walk copy (λ d. settle (names w n)) 0 (room_at tables old p.0)

        pub too_many : m ≡ None → ResolvedIs old c left w n t old (Err not_so.Full)
        unfolding size_ty
        too_many q = (refl, λ f tables. (prop (settled tables), known_all f tables, omega (arith, many old p.0 left m em q tables, settled_size tables)))

        module _ (k : ℕ) (q : m ≡ Some k) where
          pub name_known : (new : List ℕ) (o : Copied) → CopiedIs old c p.0 (λ d. settle (names w n)) 0 new o
              → ResolvedIs old c left w n t new (Ok (record { typ = type.Proposition o.at; count = o.count }))
          unfolding size_ty
          name_known new o i =
              record {
                count = λ tables l. omega (arith, i.count tables, settled_size tables, ap size (i.means tables l));
                within = omega (arith, few old p.0 left m em k q 0, i.count 0);
                below = i.below;
                arena = i.arena;
                same = i.same;
                long = i.long;
                means = λ f tables l. known_all f tables ∙ ap (λ (P : Prop). some (prop P)) (sym (i.means tables l));
              }
