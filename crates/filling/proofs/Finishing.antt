-- After the filling's run: the answer, and rooms that are clean. Assumes nothing.
use mathlib.Core.Path.{◌≡◌, ap, ap₂, sym, subst, subst⁻¹, ◌∙◌}
use mathlib.Core.List.{List}
use Prim.Native.Nat.{ℕ, ◌-◌, ◌*◌, ◌<◌, ◌≤◌}
use native.Mathlib.Omega.{arith}
use lib.ListN.{length, take}
use lib.Seq.{length-take-le, get_or-take, ext_get_or}
use Rattle.numbers.specs.declared.refusal.Refusal.{Refusal}
use Rattle.numbers.specs.Rooms.{cleared}
use Rattle.rules.specs.Tree.{Gap, records, holes}
use Rattle.rules.specs.Step.{Out, Answer}
use Rattle.editing.specs.Edited.{edited_bytes}
use Rattle.step.specs.declared.state.Answer.{Answer as Answered}
use Rattle.step.specs.Rooms.{Rooms, count_of}
use Rattle.entry.specs.Mark.{tree_bytes, goals_bytes, props_bytes}
use Rattle.entry.specs.Rest.{Trimmed, Rest}
use Rattle.entry.specs.Ran.{Exact, Ran, RanAs}
use Rattle.entry.proofs.Marks.{kept_rest}
use Rattle.filling.specs.declared.answer.Which.TheVariants.{Edit}
use Rattle.std.specs.Prelude.{Result, Ok, Err}
use Rattle.filling.specs.Fill.{Lent, Filled, Refuses, RunAs}
use Rattle.filling.specs.Steps.{Fitting}

-- WHAT THE CLEANING ASKS FOR
module _ (e : List ℕ) (size serials : ℕ) (R : Rooms) (r : Result Answered Refusal) (a : Answered) (is : r ≡ Ok a) (fits : Fitting e size serials R r) where
  pub within : Fitting e size serials R (Ok a)
  within = subst (Fitting e size serials R) is fits

  pub rest_room : (c : ℕ) → c ≡ count_of e a.state → Exact R
      → ((16 * a.state.records ≤ tree_bytes) × (tree_bytes ≤ length R.tree))
      × (((8 * a.state.goals ≤ goals_bytes) × (goals_bytes ≤ length R.goals)) × ((16 * c ≤ props_bytes) × (props_bytes ≤ length R.props)))
  rest_room c k x =
      let few = within.1 in
      let tl = x.tree in
      let gl = x.goals in
      let pl = x.props in
      ((within.2, omega arith), ((within.3, omega arith), (omega arith, omega arith)))

-- the table is kept when the room behind it is cleared
table_kept : (size n : ℕ) (old new : List ℕ) → size ≤ length old → Trimmed size n old new → take size new ≡ take size old
table_kept size n old new h t =
    let a = length-take-le size old h in
    let b = length-take-le size new (omega (arith, t.long)) in
    ext_get_or 0 (take size new) (take size old) (b ∙ sym a)
    (λ i k. let low : i < size = omega arith in get_or-take size new i 0 low ∙ t.kept i low ∙ sym (get_or-take size old i 0 low))

module _ (S S' : Lent) (size serials : ℕ) (g : Gap) (o : Out Answer) (begun : g.state.serials ≡ serials) (answer : Result Answered Refusal) (came : RanAs (take size S.edited) o S.rooms answer) (r : Filled) where
  pub run_refused : (x : Refusal) → answer ≡ Err x → Refuses S S' x Edit r → RunAs S S' (take size S.edited) g r o
  run_refused x e z = subst⁻¹ (RunAs S S' (take size S.edited) g r) (subst (RanAs (take size S.edited) o S.rooms) e came) z

  pub run_accepted : (found : Answered) (c : ℕ) → let st = found.state in answer ≡ Ok found → size ≤ length S.edited → c ≡ count_of (take size S.edited) st
      → Rest st.records st.goals c S.rooms S'.rooms → Trimmed size edited_bytes S.edited S'.edited
      → r ≡ Ok (record { records = st.records; goals = st.goals; serials = st.serials - serials; made = st.made })
      → RunAs S S' (take size S.edited) g r o
  run_accepted found c e fit k z t a =
      let st = found.state in
      let w : Ran (take size S.edited) o S.rooms st = subst (RanAs (take size S.edited) o S.rooms) e came in
      let long = length-take-le size S.edited fit in
      subst⁻¹ (RunAs S S' (take size S.edited) g r) w.accepts
      (record {
        answer =
            a
            ∙ ap₂ (λ (x y : ℕ). Ok (record { records = x; goals = y; serials = st.serials - serials; made = st.made })) w.records w.goals
            ∙ ap (λ (s : ℕ). Ok (record { records = records w.answer.tree; goals = holes w.answer.tree; serials = st.serials - s; made = st.made })) (sym begun);
        rooms = kept_rest (take size S.edited) o S.rooms S'.rooms st w (subst (λ (c : ℕ). Rest st.records st.goals c S.rooms S'.rooms) k z);
        table = ap (λ (n : ℕ). take n S'.edited) long ∙ table_kept size edited_bytes S.edited S'.edited fit t;
        rest = ap (λ (n : ℕ). cleared n S'.edited) long ∙ t.rest;
      })
