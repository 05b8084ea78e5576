-- What keeps the picture of a goal, what taking it gives, and what starts from it. Assumes nothing.
use mathlib.Core.Path.{◌≡◌, refl, ap, ap₂, sym, subst, subst₂, subst⁻¹, ◌∙◌}
use mathlib.Core.List.{List, ◌∷◌}
use Prim.Native.Nat.{ℕ, zero, suc, ◌+◌, ◌*◌, ◌<◌, ◌≤◌}
use native.Mathlib.Omega.{arith}
use lib.ListN.{length, length-append}
use Rattle.numbers.specs.declared.Sort.{Sort}
use Rattle.numbers.specs.Limits.{none}
use Rattle.numbers.specs.Records.{word_at, Same}
use Rattle.layout.specs.File.{props}
use Rattle.rules.specs.Prop.{Ty}
use Rattle.rules.specs.Context.{Ctx}
use Rattle.rules.specs.Tree.{Gap, Trees, end, gap, node, ◌⊕◌, goals, holes}
use Rattle.rules.specs.Filling.{At, here, past_gap, past_node, within, before}
use Rattle.rules.proofs.Spent.{holes_goals}
use Rattle.prop.specs.Room.{TypeIn, Arena}
use Rattle.prop.proofs.Rooms.{type_same, arena_less}
use Rattle.context.specs.declared.identifier_context.Entry.{Entry}
use Rattle.context.specs.Context.{most_entries, context_room, entry_at, Inserted, stands, ctx_at}
use Rattle.context.proofs.Laws.{entry_kept}
use Rattle.step.specs.declared.state.State.{State}
use Rattle.step.specs.Rooms.{st_of, count_of, reads, Stands, first_pictured}
use Rattle.step.specs.Picture.{serials_at, made_at, length_at, type_entry, pictured_state, pictured_type, pictured_at, pictured_ctx, SamePicture, PictureIs, PicturesAre, Copied, StartsAt}

-- THE SAME BYTES show the same
module _ (old new : List ℕ) (s : SamePicture old new) where
  word_behind : (i : ℕ) → context_room ≤ i → word_at new i ≡ word_at old i
  word_behind i h = ap₂ (λ (a b : ℕ). a + 256 * b) (s i h) (s (i + 1) (omega arith))

  entry_behind : (m : ℕ) → most_entries ≤ m → entry_at new m ≡ entry_at old m
  entry_behind m h = entry_kept old new m (λ i lo hi. s i (omega arith))

  state_same : pictured_state new ≡ pictured_state old
  unfolding pictured_state
  state_same =
      let a = word_behind serials_at (omega arith) in
      let b = word_behind made_at (omega arith) in
      let c = word_behind length_at (omega arith) in
      λ i. record { records = 0; goals = 0; serials = a i; made = b i; context = c i; asked = none }

  type_behind : pictured_type new ≡ pictured_type old
  unfolding pictured_type
  type_behind = ap (λ (e : Entry). e.typ) (entry_behind type_entry (omega arith))

  at_same : (i : ℕ) → pictured_at new i ≡ pictured_at old i
  unfolding pictured_at
  at_same i = entry_behind (first_pictured + i) (omega arith)

-- an entry of the context may be entered
pub entered_picture : {old new : List ℕ} {n : ℕ} {e : Entry} → Inserted old n e new → n < most_entries → SamePicture old new
entered_picture ins h i k = ins.outside i (λ lo hi. absurd (omega arith))

-- two readings of the same entries
ctx_agree : (f g : Sort → Ty) (old new : List ℕ) (n : ℕ) → ((i : ℕ) → i < n → pictured_at new i ≡ pictured_at old i) → ((i : ℕ) → i < n → f (pictured_at old i).typ ≡ g (pictured_at old i).typ) → pictured_ctx f new n ≡ pictured_ctx g old n
unfolding pictured_ctx
ctx_agree f g old new zero e h = refl
ctx_agree f g old new (suc n) e h =
    let t = h n (omega arith) in
    ap₂ {C = Ctx} ◌∷◌ (ap (stands f) (e n (omega arith)) ∙ (λ i. record { name = (pictured_at old n).name.0; serial = (pictured_at old n).serial.0; ty = t i }))
    (ctx_agree f g old new n (λ i l. e i (omega arith)) (λ i l. h i (omega arith)))

-- the entries put back are the context
pub ctx_back : (f : Sort → Ty) (old new : List ℕ) (n : ℕ) → ((i : ℕ) → i < n → entry_at new i ≡ pictured_at old i) → ctx_at f new n ≡ pictured_ctx f old n
unfolding pictured_ctx ctx_at
ctx_back f old new zero e = refl
ctx_back f old new (suc n) e = ap₂ {C = Ctx} ◌∷◌ (ap (stands f) (e n (omega arith))) (ctx_back f old new n (λ i l. e i (omega arith)))

-- A PICTURE IS KEPT with its bytes and the propositions that it knows
module _ (l ps ps' : List ℕ) {c d : ℕ} (ok : Arena ps c) (same : Same c ps ps') (up : c ≤ d) where
  -- by more propositions
  grown_picture : {w : List ℕ} {g : Gap} → PictureIs l ps w c g → PictureIs l ps' w d g
  grown_picture {w} {g} p =
      let n = count_of l (pictured_state w) in
      let read : (T : Sort) → TypeIn n T → reads l ps' T ≡ reads l ps T = λ T h. type_same ps' (arena_less ok n p.still) (λ m k. same m (omega (arith, p.still))) (props l) T h in
      record {
        counts = p.counts;
        wanted = record { among = p.wanted.among; means = read (pictured_type w) p.wanted.among ∙ p.wanted.means };
        entries = p.entries;
        context = ctx_agree (reads l ps') (reads l ps) w w (pictured_state w).context (λ i h. refl) (λ i h. read (pictured_at w i).typ (p.entries i h)) ∙ p.context;
        still = omega (arith, p.still);
        few_made = p.few_made;
        few_serials = p.few_serials;
        few_entries = p.few_entries;
      }

-- by bytes
moved_picture : (l ps w w' : List ℕ) {c : ℕ} {g : Gap} → SamePicture w w' → PictureIs l ps w c g → PictureIs l ps w' c g
moved_picture l ps w w' {c} {g} s p =
    let e = state_same w w' s in
    record {
      counts = ap st_of e ∙ p.counts;
      wanted = subst₂ (λ (st : State) (T : Sort). Stands l ps (count_of l st) T g.wanted) (sym e) (sym (type_behind w w' s)) p.wanted;
      entries =
          λ i h. subst₂ (λ (st : State) (x : Entry). TypeIn (count_of l st) x.typ) (sym e) (sym (at_same w w' s i))
          (p.entries i (subst (λ (st : State). i < st.context) e h));
      context =
          ap (pictured_ctx (reads l ps) w') (ap (λ (st : State). st.context) e)
          ∙ ctx_agree (reads l ps) (reads l ps) w w' (pictured_state w).context (λ i h. at_same w w' s i) (λ i h. refl)
          ∙ p.context;
      still = subst⁻¹ (λ (st : State). count_of l st ≤ c) e p.still;
      few_made = rw e p.few_made;
      few_serials = rw e p.few_serials;
      few_entries = rw e p.few_entries;
    }

-- the pictures of trees
module _ (l ps ps' w w' : List ℕ) {c d : ℕ} (ok : Arena ps c) (same : Same c ps ps') (up : c ≤ d) (a : ℕ) where
  pub pictures_kept : (m : ℕ) (ts : Trees) → (a < m + holes ts → SamePicture w w') → PicturesAre l ps w a c m ts → PicturesAre l ps' w' a d m ts
  unfolding PicturesAre holes
  pictures_kept m end s h = tt
  pictures_kept m (gap g ts) s h = (
    λ e. grown_picture l ps ps' ok same up (moved_picture l ps w w' (s (omega arith)) (h.0 e)),
    pictures_kept (m + 1) ts (λ k. s (omega arith)) h.1,
  )
  pictures_kept m (node nd us ts) s h = (pictures_kept m us (λ k. s (omega arith)) h.0, pictures_kept (m + holes us) ts (λ k. s (omega arith)) h.1)

-- side by side
pub pictures_beside : (l ps w : List ℕ) (a c m : ℕ) (ts us : Trees) → PicturesAre l ps w a c m ts → PicturesAre l ps w a c (m + holes ts) us → PicturesAre l ps w a c m (ts ⊕ us)
unfolding PicturesAre holes ◌⊕◌
pictures_beside l ps w a c m end us h k = subst (λ (i : ℕ). PicturesAre l ps w a c i us) (omega arith) k
pictures_beside l ps w a c m (gap g ts) us h k = (h.0, pictures_beside l ps w a c (m + 1) ts us h.1 (subst (λ (i : ℕ). PicturesAre l ps w a c i us) (omega arith) k))
pictures_beside l ps w a c m (node nd vs ts) us h k = (h.0, pictures_beside l ps w a c (m + holes vs) ts us h.1 (subst (λ (i : ℕ). PicturesAre l ps w a c i us) (omega arith) k))

-- the goal that is asked for, where it stands
pub picture_at : {l ps w : List ℕ} {a c : ℕ} {g : Gap} (m : ℕ) {ts : Trees} (p : At g ts) → m + length (before p) ≡ a → PicturesAre l ps w a c m ts → PictureIs l ps w c g
unfolding PicturesAre before
picture_at m (here {ts = ts}) e h = h.0 (omega arith)
picture_at m (past_gap {h = q} p) e h = picture_at (m + 1) p (omega arith) h.1
picture_at m (past_node {ps = us} p) e h = picture_at (m + holes us) p (omega (arith, holes_goals us, length-append (goals us) (before p))) h.1
picture_at m (within p) e h = picture_at m p e h.0

-- A FILLING'S START
entry_back : {old new : List ℕ} {n : ℕ} → Copied old first_pictured 0 n new → (i : ℕ) → i < n → entry_at new i ≡ pictured_at old i
unfolding pictured_at
entry_back {old} {new} c i h = let e : i ≡ 0 + i = omega arith in ap (entry_at new) e ∙ c.entries i h

pub recalled : {l ps old new : List ℕ} {c : ℕ} {g : Gap} {T : Sort} {st : State} → PictureIs l ps old c g → T ≡ pictured_type old → st ≡ pictured_state old → Copied old first_pictured 0 (pictured_state old).context new
    → StartsAt l ps new g T st
recalled {l} {ps} {old} {new} {c} {g} {T} {st} p et es copied =
    subst₂ (λ (T : Sort) (st : State). StartsAt l ps new g T st) (sym et) (sym es)
    record {
      counts = p.counts;
      wanted = p.wanted;
      entries = λ i h. subst⁻¹ (λ (x : Entry). TypeIn (count_of l (pictured_state old)) x.typ) (back i h) (p.entries i h);
      context = ctx_back (reads l ps) old new (pictured_state old).context back ∙ p.context;
      few_made = p.few_made;
      few_serials = p.few_serials;
      few_entries = p.few_entries;
    }
  where
    back : (i : ℕ) → i < (pictured_state old).context → entry_at new i ≡ pictured_at old i
    back i h = entry_back copied i h
