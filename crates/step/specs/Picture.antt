-- Document 01, "Tree, goals, filling": a filling starts with the context and the counts reached at its hole. A run keeps these of one goal, which its
-- caller asks for by number: the picture of that goal, in the work room behind the context's entries. Assumes nothing.
use Rattle.std.specs.Prelude.{◌≡◌, List, [], ◌∷◌, ℕ, zero, suc, ◌+◌, ◌*◌, ◌<◌, ◌≤◌, length, get_or}
use Rattle.numbers.specs.declared.Sort.{Sort}
use Rattle.numbers.specs.Limits.{none}
use Rattle.numbers.specs.Records.{word_at}
use Rattle.rules.specs.Prop.{Ty}
use Rattle.rules.specs.Context.{Ctx}
use Rattle.rules.specs.State.{limit}
use Rattle.rules.specs.Tree.{Gap, Trees, end, gap, node, holes}
use Rattle.prop.specs.Room.{TypeIn}
use Rattle.context.specs.declared.identifier_context.Entry.{Entry}
use Rattle.context.specs.Context.{most_entries, context_room, entry_at, stands}
use Rattle.step.specs.declared.state.State.{State}
use Rattle.step.specs.Rooms.{st_of, count_of, starting, reads, ctx_of, Stands, Entries, first_pictured, serials_cap, entries_cap}

-- THE PLACE. Its head is three numbers of 16 bits (the counts at the hole: serials, propositions made, entries) and an entry, of which only the type
-- says something: it is the wanted one. The hole's entries follow
abbrev pub serials_at : ℕ
serials_at = context_room

abbrev pub made_at : ℕ
made_at = context_room + 2

abbrev pub length_at : ℕ
length_at = context_room + 4

abbrev pub type_entry : ℕ
type_entry = most_entries + 1

unfoldable pub pictured_state : List ℕ → State
pictured_state w = record { records = 0; goals = 0; serials = word_at w serials_at; made = word_at w made_at; context = word_at w length_at; asked = none }

unfoldable pub pictured_type : List ℕ → Sort
pictured_type w = (entry_at w type_entry).typ

unfoldable pub pictured_at : List ℕ → ℕ → Entry
pictured_at w i = entry_at w (first_pictured + i)

-- what its first n entries are to the rules, the latest first
unfoldable pub pictured_ctx : (Sort → Ty) → List ℕ → ℕ → Ctx
pictured_ctx f w zero = []
pictured_ctx f w (suc n) = stands f (pictured_at w n) ∷ pictured_ctx f w n

-- nothing behind the context's entries changed
abbrev pub SamePicture : List ℕ → List ℕ → Type 0
SamePicture old new = (i : ℕ) → context_room ≤ i → get_or new i 0 ≡ get_or old i 0

-- THE PICTURE OF A GAP, where there are now c propositions: its types are among those that there were at the hole. Each term before the hole gave at
-- most two serials and two entries
pub record PictureIs (l ps w : List ℕ) (c : ℕ) (g : Gap) : Type 0 where
  pub counts : st_of (pictured_state w) ≡ g.state
  pub wanted : Stands l ps (count_of l (pictured_state w)) (pictured_type w) g.wanted
  pub entries : (i : ℕ) → i < (pictured_state w).context → TypeIn (count_of l (pictured_state w)) (pictured_at w i).typ
  pub context : pictured_ctx (reads l ps) w (pictured_state w).context ≡ g.ctx
  pub still : count_of l (pictured_state w) ≤ c
  pub few_made : (pictured_state w).made ≤ limit
  pub few_serials : (pictured_state w).serials + 2 ≤ serials_cap l
  pub few_entries : (pictured_state w).context + 2 ≤ entries_cap l

-- of these trees, whose first gap is goal m, goal a has its picture
unfoldable pub PicturesAre : (l ps w : List ℕ) → (a c m : ℕ) → Trees → Type 0
PicturesAre l ps w a c m end = Unit {0}
PicturesAre l ps w a c m (gap g ts) = (m ≡ a → PictureIs l ps w c g) × PicturesAre l ps w a c (m + 1) ts
PicturesAre l ps w a c m (node nd ps' ts) = PicturesAre l ps w a c m ps' × PicturesAre l ps w a c (m + holes ps') ts

-- n ENTRIES COPIED, from one number on to another
pub record Copied (old : List ℕ) (from to n : ℕ) (new : List ℕ) : Type 0 where
  pub size : length new ≡ length old
  pub entries : (i : ℕ) → i < n → entry_at new (to + i) ≡ entry_at old (from + i)
  pub outside : (i : ℕ) → (8 * to ≤ i → i < 8 * (to + n) → ⊥) → get_or new i 0 ≡ get_or old i 0

-- TAKING the picture of a hole that wants T at st
pub record Taken (old : List ℕ) (T : Sort) (st : State) (new : List ℕ) : Type 0 where
  pub state : pictured_state new ≡ starting st
  pub wanted : pictured_type new ≡ T
  pub entries : (i : ℕ) → i < st.context → pictured_at new i ≡ entry_at old i
  pub size : length new ≡ length old
  pub below : (i : ℕ) → i < context_room → get_or new i 0 ≡ get_or old i 0

-- it is taken if the next goal is the one that is asked for
pub record Pictured (old : List ℕ) (T : Sort) (st : State) (new : List ℕ) : Type 0 where
  pub taken : st.asked ≡ st.goals → Taken old T st new
  pub kept : (st.asked ≡ st.goals → ⊥) → new ≡ old

-- STARTING from the picture of g: in a work room that has the context back, T and st are what a filling's run begins with
pub record StartsAt (l ps w : List ℕ) (g : Gap) (T : Sort) (st : State) : Type 0 where
  pub counts : st_of st ≡ g.state
  pub wanted : Stands l ps (count_of l st) T g.wanted
  pub entries : Entries w st.context (count_of l st)
  pub context : ctx_of l ps w st.context ≡ g.ctx
  pub few_made : st.made ≤ limit
  pub few_serials : st.serials + 2 ≤ serials_cap l
  pub few_entries : st.context + 2 ≤ entries_cap l
