-- Copies of a proposition, its parameters changed. Assumes nothing.
use Rattle.std.specs.Prelude.{◌≡◌, true, List, map, ℕ, ◌+◌, ◌<◌, ◌≤◌, length}
use Rattle.numbers.specs.declared.record.Record.{Record}
use Rattle.numbers.specs.Limits.{most_propositions}
use Rattle.numbers.specs.Records.{Put, Same}
use Rattle.rules.specs.Prop.{Param, Prop, datatype, copy, walk, size}
use Rattle.rules.specs.Context.{Ctx}
use Rattle.rules.specs.State.{limit}
use Rattle.context.specs.Context.{ctx_at}
use Rattle.arena.specs.declared.copy.Copied.{Copied}
use Rattle.prop.specs.Room.{params, room_at, room_form, Arena}

-- the room's records: a table's, and as many as a run may make
abbrev pub most_records : ℕ
most_records = most_propositions + limit

-- the first n entries of the work room as resolving asks for them: by name and serial, of whatever type
abbrev pub names : List ℕ → ℕ → Ctx
names w n = ctx_at (λ t. datatype 0) w n

-- q is the atom r with its parameters changed
pub record AtomIs (h : Param → Param) (r q : Record) : Type 0 where
  pub kind : q.kind ≡ r.kind
  pub predicate : q.a ≡ r.a
  pub form : room_form q ≡ true
  pub means : params q ≡ map h (params r)

-- one record more
abbrev pub MoreIs : List ℕ → ℕ → Record → List ℕ → Copied → Type 0
MoreIs old c r new o = (o.at.0 ≡ c) × (o.count ≡ c + 1) × Put old c r new

-- number m stands for P, in k records more, from c up to e; below c nothing changes. P and k may depend on how many records are the table's
pub record Makes (old : List ℕ) (c : ℕ) (k : ℕ → ℕ) (P : ℕ → Prop) (new : List ℕ) (m e : ℕ) : Type 0 where
  pub count : (tables : ℕ) → e ≡ c + k tables
  pub below : m < e
  pub arena : Arena new e
  pub same : Same c old new
  pub long : length new ≡ length old
  pub means : (tables : ℕ) → tables ≤ c → room_at tables new m ≡ P tables

-- number m stands for the copy of what n stands for, all of it made
abbrev pub IsCopy : (old : List ℕ) (c n : ℕ) (h : ℕ → Param → Param) (d : ℕ) (new : List ℕ) (m e : ℕ) → Type 0
IsCopy old c n h d new m e = Makes old c (λ t. size (room_at t old n)) (λ t. walk copy h d (room_at t old n)) new m e

abbrev pub CopiedIs : List ℕ → ℕ → ℕ → (ℕ → Param → Param) → ℕ → List ℕ → Copied → Type 0
CopiedIs old c n h d new o = IsCopy old c n h d new o.at.0 o.count
