-- A term's rule gone on with from premise to premise: what holds at each, what becomes of the term, and what falls. Assumes nothing.
use mathlib.Core.Path.{◌≡◌, refl, ap, subst, subst⁻¹, ◌∙◌}
use mathlib.Core.Bool.{Bool, true, false, cond}
use mathlib.Core.List.{List}
use Prim.Native.Nat.{ℕ, ◌+◌, ◌-◌, ◌*◌, ◌<◌, ◌≤◌}
use native.Mathlib.Omega.{arith}
use lib.ListN.{length}
use Rattle.numbers.specs.declared.Sort.{Sort}
use Rattle.numbers.specs.declared.Term.{Term as Place}
use Rattle.std.specs.declared.result.Result.{Result}
use Rattle.std.specs.declared.result.Result.TheVariants.{Ok, Err}
use Rattle.numbers.specs.declared.refusal.Refusal.{Refusal}
use Rattle.layout.specs.File.{terms, term_record}
use Rattle.prop.specs.Room.{TypeIn}
use Rattle.step.specs.declared.state.State.{State}
use Rattle.step.specs.declared.state.Want.{Want}
use Rattle.step.specs.declared.state.Want.TheVariants as want
use Rattle.step.specs.declared.state.Answer.{Answer}
use Rattle.step.specs.Rooms.{Rooms, rooms, count_of, leaving}
use Rattle.step.specs.Modes.{mode, WantIn}
use Rattle.step.specs.Contract.{Ready, Refuses, run_of, RanAs, synthesizes}
use Rattle.rule.specs.declared.next.Rest.{Rest}
use Rattle.rule.specs.declared.next.Rule.{Rule}
use Rattle.rule.specs.declared.next.Next.{Next}
use Rattle.rule.specs.declared.next.Next.TheVariants as next
use Rattle.rule.specs.Reading.{after, Inside}
use Rattle.rule.specs.Going.{Held, Here, Room, Asked, Resumed, NextIs, Begins, Resumes, begun_as, Ended}
use Rattle.rule.proofs.Going.{went, stopped, resumed_base, resumed_put, held}
use Rattle.rule.proofs.Settles.{begun_so, refused_so}

-- WHAT FALLS: the terms from this one on, and on one term `run` comes before `check` and `synthesize`, and these before `perform`; from one premise to
-- the next, the children that are left
unfoldable pub rank : List ℕ → (k i : ℕ) → ℕ
rank l k i = (terms l - k) * 4 + i

abbrev pub left : List ℕ → ℕ → Next → ℕ
left l k (next.Ask q x v s) = 1 + length (after (term_record l k) q)
left l k (next.Instead x v s) = 0
left l k (next.Done a) = 0

pub rank_below : (l : List ℕ) (k i j t : ℕ) → rank l k i ≡ t → j < i → rank l k j < t
unfolding rank
rank_below l k i j t e h = omega arith

rank_child : (l : List ℕ) (k x i t : ℕ) → rank l k 0 ≡ t → i < 4 → (k < x) × (x < terms l) → rank l x i < t
unfolding rank
rank_child l k x i t e few h = let up = h.0 in let in_table = h.1 in omega arith

left_below : (l : List ℕ) (R₀ : Rooms) (k : ℕ) (w : Want) (st : State) (R : Rooms) (j : ℕ) (n : Next) → NextIs l R₀ k w st j R (Ok n) → left l k n ≤ j
left_below l R₀ k w st R j (next.Ask q x v s) a = let less = a.1 in omega arith
left_below l R₀ k w st R j (next.Instead x v s) a = omega arith
left_below l R₀ k w st R j (next.Done b) a = omega arith

-- HOW A TERM IS BEGUN, once more, and among which propositions
pub begun_again : (kind : ℕ) {v : Want} (w : Want) → v ≡ begun_as kind w → v ≡ begun_as kind v
unfolding begun_as
begun_again kind {v} w e = subst⁻¹ (λ (v : Want). v ≡ begun_as kind v) e (at (synthesizes kind))
  where
    at : (b : Bool) → cond b want.Synth w ≡ cond b want.Synth (cond b want.Synth w)
    at true = refl
    at false = refl

pub begun_among : (c kind : ℕ) {v : Want} (w : Want) → v ≡ begun_as kind w → WantIn c w → WantIn c v
unfolding begun_as
begun_among c kind {v} w e among = subst⁻¹ (WantIn c) e (at (synthesizes kind))
  where
    at : (b : Bool) → WantIn c (cond b want.Synth w)
    at true = tt
    at false = among

pub next_as : (l : List ℕ) (R R' : Rooms) (k : ℕ) (st : State) (j : ℕ) (n : Result Next Refusal) {v w : Want} → v ≡ w → NextIs l R k w st j R' n → NextIs l R k v st j R' n
next_as l R R' k st j n e b = subst⁻¹ (λ (v : Want). NextIs l R k v st j R' n) e b

pub begins_as : {l : List ℕ} {R R' : Rooms} {k : ℕ} {st : State} {v w : Want} {n : Result Next Refusal} → v ≡ w → Begins l R R' k w st n → Begins l R R' k v st n
begins_as e b = record { begins = λ rd. next_as _ _ _ _ _ _ _ e (b.begins rd); names = b.names }

-- THE TERM k, which is wanted as w and begun as v: at each turn of the loop some children are left
module _ (l : List ℕ) (R₀ : Rooms) (k : Place) (v : Want) (st : State) where
  abbrev f : Rule
  f = record { term = k; want = v; start = st }

  abbrev pub Goes : Rooms → Result Next Refusal → Type 0
  Goes R n = (j : ℕ) × NextIs l R₀ k.0 v st j R n

  abbrev pub Going : Rooms → Next → Type 0
  Going R n = Goes R (Ok n)

  -- (`goes_first`, `goes_again` and `goes_less` take of a contract only what they use: `begins` or `goes`)
  pub goes_first : Ready l R₀ k.0 st → (R : Rooms) (n : Result Next Refusal) → (Ready l R₀ k.0 st → NextIs l R₀ k.0 v st 3 R n) → Goes R n
  goes_first rd R n begins = (3, begins rd)

  pub go_first : Ready l R₀ k.0 st → (R : Rooms) (n : Result Next Refusal) → Begins l R₀ R k.0 v st n → Goes R n
  go_first rd R n b = goes_first rd R n b.begins

  module _ (R : Rooms) (n : Next) (g : Going R n) where
    pub told : (m : Next) → n ≡ m → NextIs l R₀ k.0 v st g.0 R (Ok m)
    told m e = subst (λ (n : Next). NextIs l R₀ k.0 v st g.0 R (Ok n)) e g.1

    -- another term in its place
    module _ (x : Place) (E : Sort) (s : State) (e : n ≡ next.Instead x E s) where
      abbrev instead : NextIs l R₀ k.0 v st g.0 R (Ok (next.Instead x E s))
      instead = told (next.Instead x E s) e

      pub go_instead : (t : ℕ) → rank l k.0 0 ≡ t → (rank l x.0 1 < t) × (Ready l R x.0 s × TypeIn (count_of l s) E)
      go_instead t et = (rank_child l k.0 x.0 1 t et (omega arith) instead.1.0, instead.0)

    -- a child
    module _ (q : Rest) (x : Place) (u : Want) (s : State) (e : n ≡ next.Ask q x u s) where
      abbrev asked : Asked l R₀ f R q x.0 u s
      asked = (told (next.Ask q x u s) e).0

      pub go_child : (t : ℕ) → rank l k.0 0 ≡ t → (rank l x.0 2 < t) × (Ready l R x.0 s × WantIn (count_of l s) u)
      go_child t et = (rank_child l k.0 x.0 2 t et (omega arith) asked.child, (asked.ready, asked.among))

      pub go_stop : (r : Refusal) → Refuses (run_of l R x.0 (mode l R.props u) s) r → Refuses (run_of l R₀ k.0 (mode l R₀.props v) st) r
      go_stop r m = stopped asked R r m

      module _ (R₁ : Rooms) (a : Answer) (m : RanAs l R R₁ x.0 u s (Ok a)) (s₂ : State) (es : s₂ ≡ leaving a.state st.context) where
        resumed : Resumed l R₀ f R₁ q a.typ s₂
        resumed = subst⁻¹ (Resumed l R₀ f R₁ q a.typ) es (went asked m)

        pub go_resume : Here l k.0
            × ((Room l R₁.props s₂ × TypeIn (count_of l s₂) a.typ)
            × (Held (count_of l s₂) R₁.work s₂ q × (Inside l k.0 (after (term_record l k.0) q) × (16 * st.records + 16 ≤ length R₁.tree))))
        go_resume =
            let b = resumed_base resumed in
            ((b.table, resumed.begun.here), (((b.loaded, b.made), resumed.stands.among), (held q resumed, (resumed.others, resumed_put resumed))))

        module _ (tr ps wk : List ℕ) where
          abbrev R₂ : Rooms
          R₂ = rooms tr R₁.goals ps wk

          abbrev GoesOn : Result Next Refusal → Type 0
          GoesOn o = (R : Rooms) → Resumed l R f R₁ q a.typ s₂ → NextIs l R k.0 v st (length (after (term_record l k.0) q)) R₂ o

          pub goes_again : (o : Result Next Refusal) → GoesOn o → Goes R₂ o
          goes_again o goes = (_, goes R₀ resumed)

          pub goes_less : (m : Next) → GoesOn (Ok m) → left l k.0 m < left l k.0 n
          goes_less m goes =
              let fewer = left_below l R₀ k.0 v st R₂ _ m (goes R₀ resumed) in
              let was = ap (left l k.0) e in
              omega (arith, fewer, was)

          pub go_again : (o : Result Next Refusal) → Resumes l R₁ R₂ f q a.typ s₂ o → Goes R₂ o
          go_again o rs = goes_again o rs.goes

          pub go_less : (m : Next) → Resumes l R₁ R₂ f q a.typ s₂ (Ok m) → left l k.0 m < left l k.0 n
          go_less m rs = goes_less m rs.goes

    -- what becomes of the term
    module _ (rd : Ready l R₀ k.0 st) (w : Want) (ev : v ≡ begun_as (term_record l k.0).kind w) where
      abbrev pub go_ended : WantIn (count_of l st) w → (a : Answer) → n ≡ next.Done a → Ended l R.tree R.props k.0 w st a.typ a.state
      go_ended among a e =
          record {
            start = R₀;
            goals = R.goals;
            work = R.work;
            ready = rd;
            among = among;
            ran = subst (λ (v : Want). RanAs l R₀ R k.0 v st (Ok a)) ev (told (next.Done a) e);
          }

      pub go_there : (x : Place) (E : Sort) (s : State) → n ≡ next.Instead x E s → (R' : Rooms) (o : Result Answer Refusal) → RanAs l R R' x.0 (want.Check E) s o → RanAs l R₀ R' k.0 w st o
      go_there x E s e R' o m =
          let there = instead x E s e in
          subst (λ (w : Want). RanAs l R₀ R' k.0 w st o) (ev ∙ begun_so _ there.1.1) (there.2 R' o m)

  -- or it is refused
  module _ (rd : Ready l R₀ k.0 st) (w : Want) (ev : v ≡ begun_as (term_record l k.0).kind w) where
    pub go_refused : (r : Refusal) → Refuses (run_of l R₀ k.0 (mode l R₀.props v) st) r → Refuses (run_of l R₀ k.0 (mode l R₀.props w) st) r
    go_refused r m = refused_so R₀ rd w r (subst (λ (v : Want). RanAs l R₀ R₀ k.0 v st (Err r)) ev m)
