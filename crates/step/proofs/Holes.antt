-- The picture at a Sorry: what `picture` writes is the picture of that hole, and nothing else of a run changes. Assumes nothing.
use mathlib.Core.Path.{◌≡◌, refl, ap, sym, subst, subst₂, ◌∙◌}
use mathlib.Core.Bool.{Bool, true, false}
use mathlib.Core.List.{List}
use Prim.Native.Nat.{ℕ, ◌<◌}
use native.Mathlib.Omega.{arith}
use lib.ListN.{length, get_or}
use lib.Dec.{eqb}
use borrow.Author.Tests.{eqb-true, eqb-false}
use Rattle.numbers.specs.declared.Sort.{Sort}
use Rattle.prop.specs.Room.{TypeIn}
use Rattle.context.specs.declared.identifier_context.Entry.{Entry}
use Rattle.context.specs.Context.{most_entries, entry_at}
use Rattle.context.proofs.Laws.{entries_kept}
use Rattle.table.specs.Reading.{term_at}
use Rattle.step.specs.declared.state.State.{State}
use Rattle.step.specs.Rooms.{Rooms, reads, ctx_of, st_of, count_of, Stands}
use Rattle.step.specs.Picture.{pictured_state, pictured_at, pictured_ctx, SamePicture, PictureIs, Taken, Pictured}
use Rattle.step.specs.Contract.{Ready}
use Rattle.step.proofs.Doing.{nodes_some}
use Rattle.step.proofs.Pictures.{ctx_back}

-- the picture taken where term k is to be run is that hole's
pub pictured_hole : {l : List ℕ} {R : Rooms} {k : ℕ} {st : State} → Ready l R k st → (T : Sort) → TypeIn (count_of l st) T → (w : List ℕ) → Taken R.work T st w
    → PictureIs l R.props w (count_of l st) (record { term = k; ctx = ctx_of l R.props R.work st.context; wanted = reads l R.props T; state = st_of st })
pictured_hole {l} {R} {k} {st} rd T among w t =
    let e = t.state in
    let n = nodes_some (term_at l k) in
    record {
      counts = ap st_of e;
      wanted =
          subst₂ (λ (s : State) (U : Sort). Stands l R.props (count_of l s) U (reads l R.props T)) (sym e) (sym t.wanted) (record { among = among; means = refl });
      entries = λ i h. at i (subst (λ (s : State). i < s.context) e h);
      context =
          ap (pictured_ctx (reads l R.props) w) (ap (λ (s : State). s.context) e)
          ∙ sym (ctx_back (reads l R.props) w R.work st.context (λ i h. sym (t.entries i h)));
      still = rw e (omega arith);
      few_made = rw e rd.base.made;
      few_serials = rw e (omega (arith, rd.serials, n));
      few_entries = rw e (omega (arith, rd.context, n));
    }
  where
    at : (i : ℕ) → i < st.context → TypeIn (count_of l (pictured_state w)) (pictured_at w i).typ
    at i h = subst₂ (λ (s : State) (x : Entry). TypeIn (count_of l s) x.typ) (sym t.state) (sym (t.entries i h)) (rd.base.entries i h)

-- WHETHER IT WAS TAKEN or not
module _ {old : List ℕ} {T : Sort} {st : State} {new : List ℕ} (p : Pictured old T st new) where
  either : (P : Type 0) → (Taken old T st new → P) → (new ≡ old → P) → P
  either P f g = at (eqb st.asked st.goals) refl
    where
      at : (b : Bool) → eqb st.asked st.goals ≡ b → P
      at true e = f (p.taken (eqb-true st.asked st.goals e))
      at false e = g (p.kept (eqb-false st.asked st.goals e))

  -- an earlier goal's picture is kept
  pub pictured_earlier : st.asked < st.goals → SamePicture old new
  pictured_earlier h i k = ap (λ (w : List ℕ). get_or w i 0) (p.kept (λ e. omega arith))

  pub pictured_size : length new ≡ length old
  pictured_size = either (length new ≡ length old) (λ t. t.size) (ap length)

  -- the context's entries are
  pub pictured_entries : (i : ℕ) → i < most_entries → entry_at new i ≡ entry_at old i
  pictured_entries i h =
      either (entry_at new i ≡ entry_at old i) (λ t. entries_kept old new most_entries (λ j k. t.below j k) i h) (ap (λ (w : List ℕ). entry_at w i))
