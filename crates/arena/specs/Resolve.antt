-- Document 01, "The rules" (names) and "Refusal numbers" (30): what the answers of `resolve` say. Assumes nothing.
use Rattle.std.specs.Prelude.{◌≡◌, Bool, List, ℕ, ◌+◌, ◌<◌, ◌≤◌, length, Result, Ok, Err}
use Rattle.std.proofs.Math.Option.{none, some}
use Rattle.numbers.specs.declared.Sort.{Sort}
use Rattle.numbers.specs.Records.{Same}
use Rattle.rules.specs.Prop.{Prop, Ty, each, size_ty}
use Rattle.rules.specs.Context.{known, resolve}
use Rattle.context.specs.Context.{ctx_at}
use Rattle.arena.specs.declared.resolve.Resolved.{Resolved}
use Rattle.arena.specs.declared.resolve.Unresolved.{Unresolved}
use Rattle.arena.specs.declared.resolve.Unresolved.TheVariants.{Unknown, Full}
use Rattle.prop.specs.Room.{type_at, TypeIn, Arena}
use Rattle.arena.specs.Copy.{names}

-- the names of a proposition are all known
unfoldable pub all_known : List ℕ → ℕ → Prop → Bool
all_known w n P = each (λ d. known (names w n)) 0 P

-- u is the type t resolved in the context of the first n entries of the work room w. All its nodes are made, from c up to e and at most `left` of
-- them; below c nothing changes. What the entries' types stand for (f) does not matter
pub record ResolvesTo (old : List ℕ) (c left : ℕ) (w : List ℕ) (n : ℕ) (t : Sort) (new : List ℕ) (u : Sort) (e : ℕ) : Type 0 where
  pub count : (tables : ℕ) → tables ≤ c → e ≡ c + size_ty (type_at tables new u)
  pub within : e ≤ c + left
  pub below : TypeIn e u
  pub arena : Arena new e
  pub same : Same c old new
  pub long : length new ≡ length old
  pub means : (f : Sort → Ty) (tables : ℕ) → tables ≤ c → resolve (ctx_at f w n) (type_at tables old t) ≡ some (type_at tables new u)

-- what the answers say: the resolved type; or a name is unknown; or all are known, and there would be too many nodes
abbrev pub ResolvedIs : (old : List ℕ) (c left : ℕ) (w : List ℕ) (n : ℕ) (t : Sort) (new : List ℕ) → Result Resolved Unresolved → Type 0
ResolvedIs old c left w n t new (Ok r) = ResolvesTo old c left w n t new r.typ r.count
ResolvedIs old c left w n t new (Err Unknown) = (new ≡ old) × ((f : Sort → Ty) (tables : ℕ) → resolve (ctx_at f w n) (type_at tables old t) ≡ none)
ResolvedIs old c left w n t new (Err Full) =
    (new ≡ old) × ((f : Sort → Ty) (tables : ℕ) → (B : Ty) × (resolve (ctx_at f w n) (type_at tables old t) ≡ some B) × (left < size_ty B))
