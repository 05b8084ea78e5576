-- What a rule does between its premises: propositions are made, a serial is taken, an entry is inserted. What each leaves, and how the rule's program
-- goes on. Assumes nothing.
use mathlib.Core.Path.{◌≡◌, refl, ap, sym, subst, subst⁻¹, ◌∙◌}
use mathlib.Core.Bool.{Bool, true, false, cond}
use mathlib.Core.List.{List, ◌∷◌}
use mathlib.Core.Logic.{◌⊎◌, inl, inr}
use Prim.Native.Nat.{ℕ, ◌+◌, ◌<◌, ◌≤◌}
use native.Mathlib.Nat.{eq-or-lt_of_le}
use native.Mathlib.Omega.{arith}
use borrow.Author.Tests.{le-leb, lt-leb}
use Rattle.std.specs.Prelude.{Option, Some, None}
use Rattle.numbers.specs.declared.Proposition.{Proposition}
use Rattle.numbers.specs.declared.Sort.{Sort}
use Rattle.numbers.specs.declared.Sort.TheVariants as sort
use Rattle.numbers.specs.Limits.{largest}
use Rattle.numbers.specs.Records.{Same}
use Rattle.layout.specs.File.{props}
use Rattle.rules.specs.Prop.{Prop, Ty, prop, put, size}
use Rattle.rules.specs.State.{St, limit, spend, room}
use Rattle.rules.specs.Tree.{Trees, end, records, holes}
use Rattle.rules.specs.Step.{refused, Arity, Prog, make, Kids, obey}
use Rattle.arena.specs.declared.copy.Copied.{Copied}
use Rattle.prop.specs.Room.{room_at, TypeIn, Arena}
use Rattle.table.specs.Passing.{Counted}
use Rattle.arena.specs.Copy.{Makes}
use Rattle.arena.specs.Make.{MadeIs, PutIs}
use Rattle.prop.proofs.Rooms.{type_same, type_more}
use Rattle.context.specs.declared.identifier_context.Entry.{Entry}
use Rattle.context.specs.Context.{entry_at, most_entries, Inserted, stands}
use Rattle.context.proofs.Laws.{ctx_inserted}
use Rattle.step.specs.declared.state.State.{State}
use Rattle.step.specs.Rooms.{Rooms, rooms, reads, ctx_of, st_of, count_of, numbered, Stands, Entries, Loaded, Base}
use Rattle.step.specs.Trees.{TreesAre}
use Rattle.step.specs.Picture.{PicturesAre}
use Rattle.step.specs.Contract.{Left}
use Rattle.step.specs.Steps.{Making}
use Rattle.step.proofs.Pictures.{entered_picture}
use Rattle.step.proofs.Frames.{entries_kept, ctx_kept, loaded_kept, grown_none}

-- WHAT HOLDS OF THE ROOMS still does, after whatever left them so
pub left_base : {l : List ℕ} {R R' : Rooms} {st st' : State} {ts : Trees} → Left l R R' st st' ts → st'.made ≤ limit → Base l R st → Base l R' st'
left_base {l} {R' = R'} {st = st} {st' = st'} a m b =
    let f = a.grown in
    record {
      table = b.table;
      loaded = loaded_kept l b.loaded.arena f b.loaded;
      entries = subst⁻¹ (λ (n : ℕ). Entries R'.work n (count_of l st')) a.context (entries_kept f st.context (omega arith) b.entries);
      made = m;
      tree_room = omega (arith, b.tree_room, f.tree_long);
      goals_room = omega (arith, b.goals_room, f.goals_long);
      work_room = omega (arith, b.work_room, f.work_long);
    }

-- PROPOSITIONS MADE
pub making_none : {l ps : List ℕ} {st : State} → Arena ps (count_of l st) → st.made ≤ limit → Making l ps ps st st
making_none {st = st} ok m =
    record {
      spent = 0;
      state = λ i. record { records = st.records; goals = st.goals; serials = st.serials; made = zero_more i; context = st.context; asked = st.asked };
      within = m;
      arena = ok;
      same = λ m h. refl;
      long = refl;
    }
  where
    zero_more : st.made ≡ st.made + 0
    zero_more = omega arith

module _ {l ps ps' : List ℕ} {st st' : State} (mk : Making l ps ps' st st') where
  pub making_more : count_of l st ≤ count_of l st'
  making_more = let e = ap (λ (s : State). s.made) mk.state in omega arith

  pub making_made : st'.made ≤ limit
  making_made = mk.within

  pub making_serials : st'.serials ≤ st.serials + 0
  making_serials = let e = ap (λ (s : State). s.serials) mk.state in omega arith

  pub making_context : st'.context ≡ st.context
  making_context = ap (λ (s : State). s.context) mk.state

  -- what stood for a type still does
  pub making_stands : {T : Sort} {A : Ty} → Arena ps (count_of l st) → Stands l ps (count_of l st) T A → Stands l ps' (count_of l st') T A
  making_stands {T} ok s =
      record {
        among = type_more (count_of l st) (count_of l st') T making_more s.among;
        means = type_same ps' ok mk.same (props l) T s.among ∙ s.means;
      }

module _ (R : Rooms) {l ps' : List ℕ} {st st' : State} (mk : Making l R.props ps' st st') where
  pub making_left : Left l R (rooms R.tree R.goals ps' R.work) st st' end
  unfolding TreesAre PicturesAre records holes
  making_left =
      let er = ap (λ (s : State). s.records) mk.state in
      let eg = ap (λ (s : State). s.goals) mk.state in
      record {
        records = omega arith;
        goals = omega arith;
        context = making_context mk;
        asked = ap (λ (s : State). s.asked) mk.state;
        trees = tt;
        pictures = tt;
        grown =
            record {
              arena = mk.arena;
              more = making_more mk;
              props = mk.same;
              tree = λ m h. refl;
              goals = λ m h. refl;
              work = λ m h. refl;
              picture = λ k i h. refl;
              props_long = mk.long;
              tree_long = refl;
              goals_long = refl;
              work_long = refl;
            };
      }

  pub making_base : Base l R st → Base l (rooms R.tree R.goals ps' R.work) st'
  making_base b = left_base making_left mk.within b

  -- the context stands for the same
  pub making_ctx : Base l R st → ctx_of l ps' R.work st.context ≡ ctx_of l R.props R.work st.context
  making_ctx b = ctx_kept l b.loaded.arena making_left.grown st.context (omega arith) b.entries

-- THE RULES' TEST
pub make_goes : {n : Arity} (c p : ℕ) (q : Prog n) (ks : Kids n) (st : St) → room c st ≡ true → obey (make c p q) ks st ≡ obey q ks (spend c st)
unfolding obey
make_goes c p q ks st e = ap (λ (b : Bool). cond b (obey q ks (spend c st)) (refused 30 p)) e

pub make_stops : {n : Arity} (c p : ℕ) (q : Prog n) (ks : Kids n) (st : St) → room c st ≡ false → obey (make c p q) ks st ≡ refused 30 p
unfolding obey
make_stops c p q ks st e = ap (λ (b : Bool). cond b (obey q ks (spend c st)) (refused 30 p)) e

-- A PROPOSITION MADE: number m stands for P, which took k propositions, and the rules allow them
pub record MadeFor (l old new : List ℕ) (st st' : State) (k : ℕ) (P : Prop) (m : Proposition) : Type 0 where
  pub making : Making l old new st st'
  pub stands : Stands l new (count_of l st') (sort.Proposition m) (prop P)
  pub allowed : room k (st_of st) ≡ true
  pub spent : st_of st' ≡ spend k (st_of st)

-- so the rule's program goes on
pub made_goes : {l old new : List ℕ} {st st' : State} {k : ℕ} {P : Prop} {m : Proposition} → MadeFor l old new st st' k P m → {n : Arity} (p : ℕ) (q : Prog n) (ks : Kids n) → obey (make k p q) ks (st_of st) ≡ obey q ks (st_of st')
made_goes {st = st} {k = k} d p q ks = make_goes k p q ks (st_of st) d.allowed ∙ ap (obey q ks) (sym d.spent)

-- WHAT THOSE FUNCTIONS ASK, for the count that the code has computed
pub loaded_arena : (l ps : List ℕ) (st : State) (c : ℕ) → c ≡ count_of l st → Loaded l ps (count_of l st) → Arena ps c
loaded_arena l ps st c e h = subst⁻¹ (Arena ps) e h.arena

-- what `grown` says of the counts once there are e propositions where there were c
abbrev pub GrownTo : (st : State) (c e : ℕ) → State → Type 0
GrownTo st c e s = (s.made + c ≡ st.made + e) × (s.records ≡ st.records) × (s.goals ≡ st.goals) × (s.serials ≡ st.serials) × (s.context ≡ st.context) × (s.asked ≡ st.asked)

-- AN ANSWER of `prop`'s functions that make
module _ (l old new : List ℕ) (c left : ℕ) (st : State) (k : ℕ → ℕ) (P : ℕ → Prop) (o : Option Copied) (ec : c ≡ count_of l st) (el : left + st.made ≡ limit) (is : MadeIs old c left k P new o) where
  -- it was made, and `grown` gave the counts
  pub made_for : (s : State) (x : Copied) → o ≡ Some x → GrownTo st c x.count s → MadeFor l old new st s (k (props l)) (P (props l)) x.at
  made_for s x q g =
      let few : k (props l) ≤ left = (subst (MadeIs old c left k P new) q is).0 (props l) in
      let makes : Makes old c k P new x.at.0 x.count = (subst (MadeIs old c left k P new) q is).1 in
      let count : x.count ≡ c + k (props l) = makes.count (props l) in
      let made : s.made + c ≡ st.made + x.count = g.0 in
      let more : s.made ≡ st.made + k (props l) = omega arith in
      let ends : x.count ≡ count_of l s = omega arith in
      record {
        making =
            record {
              spent = k (props l);
              state = λ i. record { records = g.1 i; goals = g.2 i; serials = g.3 i; made = more i; context = g.4 i; asked = g.5 i };
              within = omega arith;
              arena = subst (Arena new) ends makes.arena;
              same = subst (λ (c : ℕ). Same c old new) ec makes.same;
              long = makes.long;
            };
        stands = record { among = subst (λ (e : ℕ). x.at.0 < e) ends makes.below; means = ap prop (makes.means (props l) (omega arith)) };
        allowed = le-leb (st.made + k (props l)) limit (omega arith);
        spent = λ i. record { serials = g.3 i; made = more i };
      }

  -- what `grown` asks
  pub made_more : (x : Copied) → o ≡ Some x → c ≤ x.count
  made_more x q = let count : x.count ≡ c + k (props l) = (subst (MadeIs old c left k P new) q is).1.count (props l) in omega arith

  pub made_few : (x : Copied) → o ≡ Some x → Counted l → st.made + x.count ≤ largest
  unfolding limit
  made_few x q h =
      let few : k (props l) ≤ left = (subst (MadeIs old c left k P new) q is).0 (props l) in
      let count : x.count ≡ c + k (props l) = (subst (MadeIs old c left k P new) q is).1.count (props l) in
      omega (arith, h.propositions)

  -- it would be too many
  pub full_room : o ≡ None → room (k (props l)) (st_of st) ≡ false
  full_room q = let over : left < k (props l) = (subst (MadeIs old c left k P new) q is).1 (props l) in lt-leb (st.made + k (props l)) limit (omega arith)

  pub full_stops : o ≡ None → {n : Arity} (p : ℕ) (q : Prog n) (ks : Kids n) → obey (make (k (props l)) p q) ks (st_of st) ≡ refused 30 p
  full_stops f p q ks = make_stops (k (props l)) p q ks (st_of st) (full_room f)

-- the same of `put_in`, in the form that `search` finds: the body n with the identifier i put in
module _ (l ps ps' : List ℕ) (c left n i : ℕ) (st : State) (o : Option Copied) (ec : c ≡ count_of l st) (el : left + st.made ≡ limit) (is : PutIs ps c left n i ps' o) where
  abbrev count : ℕ → ℕ
  count t = size (room_at t ps n)

  abbrev whole : ℕ → Prop
  whole t = put i (room_at t ps n)

  pub put_more : (x : Copied) → o ≡ Some x → c ≤ x.count
  put_more x q = made_more l ps ps' c left st count whole o ec el is x q

  pub put_few : (x : Copied) → o ≡ Some x → Counted l → st.made + x.count ≤ largest
  put_few x q h = made_few l ps ps' c left st count whole o ec el is x q h

  pub put_made : (s : State) (x : Copied) → o ≡ Some x → GrownTo st c x.count s → MadeFor l ps ps' st s (size (room_at (props l) ps n)) (put i (room_at (props l) ps n)) x.at
  put_made s x q g = made_for l ps ps' c left st count whole o ec el is s x q g

  pub put_stops : o ≡ None → {a : Arity} (p : ℕ) (q : Prog a) (ks : Kids a) → obey (make (size (room_at (props l) ps n)) p q) ks (st_of st) ≡ refused 30 p
  put_stops f p q ks = full_stops l ps ps' c left st count whole o ec el is f p q ks

-- A SERIAL TAKEN
pub numbered_left : {l : List ℕ} {R : Rooms} {st : State} → Arena R.props (count_of l st) → Left l R R st (numbered st) end
unfolding TreesAre PicturesAre records holes
numbered_left ok = record { records = omega arith; goals = omega arith; context = refl; asked = refl; trees = tt; pictures = tt; grown = grown_none ok }

-- AN ENTRY INSERTED. The state that still has as many entries as before is left the same; the new entry is above them
module _ (R : Rooms) (st : State) {e : Entry} {work' : List ℕ} (ins : Inserted R.work st.context e work') where
  pub entered_left : {l : List ℕ} → Arena R.props (count_of l st) → st.context < most_entries → Left l R (rooms R.tree R.goals R.props work') st st end
  unfolding TreesAre PicturesAre records holes
  entered_left ok few =
      record {
        records = omega arith;
        goals = omega arith;
        context = refl;
        asked = refl;
        trees = tt;
        pictures = tt;
        grown =
            record {
              arena = ok;
              more = omega arith;
              props = λ m h. refl;
              tree = λ m h. refl;
              goals = λ m h. refl;
              work = λ m h. ins.others m (omega arith);
              picture = λ k. entered_picture ins few;
              props_long = refl;
              tree_long = refl;
              goals_long = refl;
              work_long = ins.size;
            };
      }

  pub entered_entries : (c : ℕ) → Entries R.work st.context c → TypeIn c e.typ → Entries work' (st.context + 1) c
  entered_entries c old new i h = at (eq-or-lt_of_le (omega arith))
    where
      at : (i ≡ st.context) ⊎ (i < st.context) → TypeIn c (entry_at work' i).typ
      at (inl q) = subst⁻¹ (λ (e : Entry). TypeIn c e.typ) (ap (entry_at work') q ∙ ins.here) new
      at (inr k) = subst⁻¹ (λ (e : Entry). TypeIn c e.typ) (ins.others i (omega arith)) (old i k)

  pub entered_ctx : (l : List ℕ) → ctx_of l R.props work' (st.context + 1) ≡ stands (reads l R.props) e ∷ ctx_of l R.props R.work st.context
  entered_ctx l = ctx_inserted (reads l R.props) ins
