-- A rule asks for a child and goes on from its answer: the laws for any rule. Assumes nothing.
use mathlib.Core.Path.{◌≡◌, refl, ap, sym, subst, subst⁻¹, ◌∙◌}
use mathlib.Core.List.{List, [], ◌∷◌}
use Prim.Native.Nat.{ℕ, suc, ◌+◌, ◌*◌, ◌<◌, ◌≤◌}
use native.Mathlib.Omega.{arith}
use lib.ListN.{length}
use Rattle.numbers.specs.declared.Name.{Name}
use Rattle.numbers.specs.declared.Sort.{Sort}
use Rattle.numbers.specs.declared.Term.{Term as Place}
use Rattle.numbers.specs.declared.record.Record.{Record}
use Rattle.std.specs.declared.result.Result.TheVariants.{Ok, Err}
use Rattle.numbers.specs.declared.refusal.Refusal.{Refusal}
use Rattle.numbers.specs.Records.{Put}
use Rattle.layout.specs.declared.record.TermRecord.{TermRecord}
use Rattle.layout.specs.File.{props, term_record}
use Rattle.rules.specs.Prop.{Prop, Ty, prop}
use Rattle.rules.specs.Context.{Ctx, entry}
use Rattle.rules.specs.Term.{nodes}
use Rattle.rules.specs.Step.{Want as Mode, synth, check, of, Out, refused, Arity, Prog, conclude, serial, ask, Kids, obey, answered}
use Rattle.rules.specs.Rules.{by}
use Rattle.table.specs.Reading.{term_at}
use Rattle.prop.specs.Room.{room_at, TypeIn}
use Rattle.prop.proofs.Rooms.{room_same, type_more}
use Rattle.context.specs.Context.{Inserted, most_entries}
use Rattle.step.specs.declared.state.State.{State}
use Rattle.step.specs.declared.state.Want.{Want}
use Rattle.step.specs.declared.state.Want.TheVariants as want
use Rattle.step.specs.Rooms.{Rooms, rooms, reads, ctx_of, count_of, leaving, numbered, deeper, Stands, Entries, Base}
use Rattle.step.specs.Modes.{mode, WantIn, answer_of, number_of}
use Rattle.step.specs.Trees.{node_rec, first_serial, second_serial}
use Rattle.step.specs.Contract.{Ready, Grown, Refuses, RanAs}
use Rattle.step.specs.Under.{Doing}
use Rattle.step.proofs.Frames.{type_kept}
use Rattle.step.proofs.Doing.{nodes_some, leaving_same, doing_base, doing_ctx, doing_same, doing_step, doing_stands, doing_put, doing_has, doing_ready, doing_went, doing_refused}
use Rattle.step.proofs.Moves.{entered_left, entered_entries, entered_ctx}
use Rattle.rule.specs.declared.next.Rest.{Rest}
use Rattle.rule.specs.declared.next.Rest.TheVariants as rest
use Rattle.rule.specs.declared.next.Rule.{Rule}
use Rattle.rule.specs.declared.next.Next.TheVariants as next
use Rattle.rule.specs.Reading.{after, arity, kids, weight, Inside, pairing, judging, abstracting, instancing, arming, program}
use Rattle.rule.specs.Going.{Holds, Γ₀, Asked, Resumed, NextIs, Fresh, FreshTwo, Held}

-- A REFUSAL that was made of its number and place
pub says : {X : Type 0} {o : Out X} {r : Refusal} (n p : ℕ) → r ≡ record { number = n; place = p } → o ≡ refused n p → Refuses o r
says {o = o} n p e h = subst⁻¹ (λ (r : Refusal). Refuses o r) e h

-- the numbers of the two modes
pub of_number : (l ps : List ℕ) (w : Want) (a b : ℕ) → of (mode l ps w) a b ≡ number_of w a b
unfolding of
of_number l ps want.Synth a b = refl
of_number l ps (want.Check E) a b = refl

-- what a synthesis answers is what it found
pub answered_synth : (l ps : List ℕ) {w : Want} → w ≡ want.Synth → (A : Ty) → answered (mode l ps w) A ≡ A
unfolding answered
answered_synth l ps e A = ap (λ (w : Want). answered (mode l ps w) A) e

-- WHAT IS HELD is read as before once more propositions were made
module _ (l ps ps' : List ℕ) (k : ℕ) (w : Mode) (Γ : Ctx) (c own wide : ℕ) (v : Want) (types : (T : Sort) → TypeIn c T → reads l ps' T ≡ reads l ps T) (same : (n : ℕ) → n < c → room_at (props l) ps' n ≡ room_at (props l) ps n) where
  program_kept : (q : Rest) → Holds c own wide v q → (B : Ty) → program l ps k w Γ q B ≡ program l ps' k w Γ q B
  program_kept (rest.By n m) h B = refl
  program_kept (rest.Right n b) h B = ap (λ (P : Prop). ask (check (prop P)) Γ λ C. by n k (answered w C) []) (sym (same b.0 h.0))
  program_kept rest.Second h B = refl
  program_kept (rest.Both S) h B = ap (λ (A : Ty). pairing k A B) (sym (types S h.0))
  program_kept rest.Part h B = refl
  program_kept (rest.Closes n i) h B = refl
  program_kept (rest.Abstracts i S) h B = ap (λ (A : Ty). abstracting l k i.0 A B) (sym (types S h.0))
  program_kept rest.Argument h B = refl
  program_kept (rest.Concludes b) h B = ap (λ (P : Prop). by 6 k (prop P) []) (sym (same b.0 h.0))
  program_kept (rest.Instance i b) h B = ap (λ (P : Prop). instancing k i.0 P) (sym (same b.0 h.0))
  program_kept rest.LetBody h B = refl
  program_kept (rest.LetEnd i j) h B = refl
  program_kept rest.CaseLeft h B = refl
  program_kept (rest.CaseRight i b) h B = ap (λ (P : Prop). arming l k w Γ i.0 P B) (sym (same b.0 h.0))
  program_kept (rest.CaseEnd i j S) h B = ap (λ (A : Ty). judging k w i.0 j.0 A B) (sym (types S h.0))
  program_kept rest.Aborts h B = refl

holds_more : (c d own wide : ℕ) (w : Want) → c ≤ d → (q : Rest) → Holds c own wide w q → Holds d own wide w q
holds_more c d own wide w m (rest.By n o) h = h
holds_more c d own wide w m (rest.Right n b) h = (omega (arith, h.0), h.1, h.2)
holds_more c d own wide w m rest.Second h = h
holds_more c d own wide w m (rest.Both S) h = (type_more c d S m h.0, h.1, h.2)
holds_more c d own wide w m rest.Part h = h
holds_more c d own wide w m (rest.Closes n i) h = h
holds_more c d own wide w m (rest.Abstracts i S) h = (type_more c d S m h.0, h.1, h.2)
holds_more c d own wide w m rest.Argument h = h
holds_more c d own wide w m (rest.Concludes b) h = (omega (arith, h.0), h.1, h.2)
holds_more c d own wide w m (rest.Instance i b) h = (omega (arith, h.0), h.1, h.2)
holds_more c d own wide w m rest.LetBody h = h
holds_more c d own wide w m (rest.LetEnd i j) h = h
holds_more c d own wide w m rest.CaseLeft h = h
holds_more c d own wide w m (rest.CaseRight i b) h = (omega (arith, h.0), h.1, h.2)
holds_more c d own wide w m (rest.CaseEnd i j S) h = (type_more c d S m h.0, h.1)
holds_more c d own wide w m rest.Aborts h = h

-- A CHILD IS ASKED, after j entries of the rule's own
module _ {l : List ℕ} {R₀ : Rooms} {f : Rule} {R : Rooms} {q : Rest} {x : ℕ} {v : Want} where
  pub asks_in : {s z : State} (j : ℕ) {used own wide : ℕ} → Ready l R₀ f.term.0 f.start → WantIn (count_of l f.start) f.want
      → Doing l R₀ f.term.0 (mode l R₀.props f.want) f.start R s (ask (mode l R.props v) (ctx_of l R.props R.work (s.context + j)) (program l R.props f.term.0 (mode l R₀.props f.want) (Γ₀ l R₀ f) q)) (kids l (x ∷ after (term_record l f.term.0) q)) used own wide → z ≡ leaving s (s.context + j)
      → j ≤ 2 → own ≤ 2 → 1 + used + (nodes (term_at l x) + weight l (after (term_record l f.term.0) q)) ≤ nodes (term_at l f.term.0) → Holds (count_of l s) own (wide + 1) f.want q → Inside l f.term.0 (x ∷ after (term_record l f.term.0) q)
      → WantIn (count_of l s) v → Entries R.work (s.context + j) (count_of l s) → Asked l R₀ f R q x v z
  asks_in {s} j {used} {own} {wide} rd wants d ez few_entries few fits holds inside among entries =
      subst⁻¹ (Asked l R₀ f R q x v) ez
      (record {
        begun = rd;
        wants = wants;
        used = used;
        own = own;
        wide = wide;
        doing =
            subst (λ (z : State). Doing l R₀ f.term.0 (mode l R₀.props f.want) f.start R z (ask (mode l R.props v) (ctx_of l R.props R.work (s.context + j)) (program l R.props f.term.0 (mode l R₀.props f.want) (Γ₀ l R₀ f) q)) (kids l (x ∷ after (term_record l f.term.0) q)) used own wide)
            (leaving_same s f.start.context d.left.context) d;
        fits = fits;
        deep = omega (arith, d.left.context);
        holds = holds;
        child = inside.0;
        others = inside.1;
        ready = doing_ready x j rd d inside.0.1 (omega (arith, fits)) few few_entries refl entries;
        among = among;
      })

  -- the same with no entry of its own
  pub asks : {s : State} {used own wide : ℕ} → Ready l R₀ f.term.0 f.start → WantIn (count_of l f.start) f.want → Doing l R₀ f.term.0 (mode l R₀.props f.want) f.start R s (ask (mode l R.props v) (Γ₀ l R₀ f) (program l R.props f.term.0 (mode l R₀.props f.want) (Γ₀ l R₀ f) q)) (kids l (x ∷ after (term_record l f.term.0) q)) used own wide
      → own ≤ 2 → 1 + used + (nodes (term_at l x) + weight l (after (term_record l f.term.0) q)) ≤ nodes (term_at l f.term.0) → Holds (count_of l s) own (wide + 1) f.want q → Inside l f.term.0 (x ∷ after (term_record l f.term.0) q)
      → WantIn (count_of l s) v → Asked l R₀ f R q x v s
  asks {s} {used} {own} {wide} rd wants d few fits holds inside among =
      let none : s.context + 0 ≡ s.context = omega arith in
      let same : Γ₀ l R₀ f ≡ ctx_of l R.props R.work (s.context + 0) = sym (ap (ctx_of l R.props R.work) (none ∙ d.left.context) ∙ doing_ctx rd.base d) in
      asks_in 0 rd wants (doing_same (ap (λ (Γ : Ctx). ask (mode l R.props v) Γ (program l R.props f.term.0 (mode l R₀.props f.want) (Γ₀ l R₀ f) q)) same) d) (leaving_same s (s.context + 0) (sym none)) (omega arith) few fits holds inside among
      (subst⁻¹ (λ (n : ℕ). Entries R.work n (count_of l s)) none (doing_base rd.base d).entries)

  -- IT HAS ANSWERED
  pub went : {s : State} → Asked l R₀ f R q x v s → {R₁ : Rooms} {T : Sort} {s₁ : State} → RanAs l R R₁ x v s (Ok (record { typ = T; state = s₁ })) → Resumed l R₀ f R₁ q T (leaving s₁ f.start.context)
  went {s} a {R₁} {s₁ = s₁} m =
      let grown : Grown R R₁ (count_of l s) (count_of l s₁) s.records s.goals s.context s.asked = m.accepted.left.grown in
      let g = doing_went x s.context a.doing a.deep refl refl v refl R₁ m in
      record {
        begun = a.begun;
        wants = a.wants;
        typ = g.0;
        stands = g.1;
        used = a.used + nodes (term_at l x);
        own = a.own;
        wide = a.wide + 1;
        doing =
            doing_same
            (program_kept l R.props R₁.props f.term.0 (mode l R₀.props f.want) (Γ₀ l R₀ f) (count_of l s) a.own (a.wide + 1) f.want (type_kept l a.ready.base.loaded.arena grown) (λ n h. room_same R₁.props a.ready.base.loaded.arena grown.props (props l) n h) q a.holds g.0)
            g.2;
        fits = omega (arith, a.fits);
        holds = holds_more (count_of l s) (count_of l s₁) a.own (a.wide + 1) f.want grown.more q a.holds;
        others = a.others;
      }

  -- OR IT WAS REFUSED
  pub stopped : {s : State} → Asked l R₀ f R q x v s → (R₁ : Rooms) (r : Refusal) → RanAs l R R₁ x v s (Err r) → RanAs l R₀ R₁ f.term.0 f.want f.start (Err r)
  stopped {s} a R₁ r m = doing_refused x s.context a.doing a.deep refl refl v refl R₁ r m

-- the answer that asks for it: the child as the term's record has it, the counts as they were made
pub asking : {l : List ℕ} {R₀ R : Rooms} {f : Rule} {q : Rest} {v : Want} {s : State} (j : ℕ) (child : TermRecord → Place) (r : TermRecord) → r ≡ term_record l f.term.0 → (s₁ : State) → s₁ ≡ s → Asked l R₀ f R q (child (term_record l f.term.0)).0 v s
    → length (after (term_record l f.term.0) q) < j → NextIs l R₀ f.term.0 f.want f.start j R (Ok (next.Ask q (child r) v s₁))
asking {l} {R₀} {R} {f} {q} {v} {s} j child r er s₁ es a less =
    (subst⁻¹ (λ (r : TermRecord). Asked l R₀ f R q (child r).0 v s₁) er (subst⁻¹ (Asked l R₀ f R q (child (term_record l f.term.0)).0 v) es a), less)

-- IN THE RULE'S OWN MODE
module _ {l : List ℕ} {R₀ : Rooms} {k : ℕ} {st₀ : State} {R : Rooms} {s : State} {a : Arity} {p : Prog a} {ks : Kids a} {used own wide : ℕ} where
  pub mode_kept : (w : Want) → Ready l R₀ k st₀ → WantIn (count_of l st₀) w → Doing l R₀ k (mode l R₀.props w) st₀ R s p ks used own wide → mode l R₀.props w ≡ mode l R.props w
  mode_kept want.Synth rd wants d = refl
  mode_kept (want.Check E) rd wants d = ap check (sym (doing_stands {T = E} rd.base d (record { among = wants; means = refl })).means)

  pub wants_kept : (w : Want) → Ready l R₀ k st₀ → WantIn (count_of l st₀) w → Doing l R₀ k (mode l R₀.props w) st₀ R s p ks used own wide → WantIn (count_of l s) w
  wants_kept want.Synth rd wants d = tt
  wants_kept (want.Check E) rd wants d = (doing_stands {T = E} rd.base d (record { among = wants; means = refl })).among

-- A FRESH IDENTIFIER of the type T, and its entry
module _ {l : List ℕ} {R₀ : Rooms} {k : ℕ} {w : Mode} {st₀ : State} {R : Rooms} {s : State} (rd : Ready l R₀ k st₀) where
  pub few_entries : {a : Arity} {p : Prog a} {ks : Kids a} {used own wide : ℕ} → Doing l R₀ k w st₀ R s p ks used own wide → s.context < most_entries
  few_entries d = omega (arith, rd.context, rd.base.table.counted.few, nodes_some (term_at l k), d.left.context)

  module _ {a : Arity} {κ : ℕ → Prog a} {ks : Kids a} {used own wide : ℕ} (d : Doing l R₀ k w st₀ R s (serial κ) ks used own wide) {x : Name} {T : Sort} {A : Ty} (stands : Stands l R.props (count_of l s) T A) {work' : List ℕ} {s₁ : State}
      (en : (s₁ ≡ deeper (numbered s)) × Inserted R.work s.context (record { name = x; serial = record { 0 = s.serials }; typ = T }) work') where
    fresh : Doing l R₀ k w st₀ (rooms R.tree R.goals R.props work') (numbered s) (κ s.serials) ks used (own + 1) wide
    unfolding obey
    fresh =
        let a = entered_left R s en.1 {l = l} d.left.grown.arena (few_entries d) in
        let e : suc s.serials ≡ s.serials + 1 = omega arith in
        doing_step (κ s.serials) 1 d (record { records = a.records; goals = a.goals; context = a.context; asked = a.asked; trees = a.trees; pictures = a.pictures; grown = a.grown }) d.made (omega arith)
        (λ i. obey (κ s.serials) ks (record { serials = e i; made = s.made }))

    fresh_ctx : entry x.0 s.serials A ∷ ctx_of l R₀.props R₀.work st₀.context ≡ ctx_of l R.props work' (s.context + 1)
    fresh_ctx =
        let e : ctx_of l R.props R.work s.context ≡ ctx_of l R₀.props R₀.work st₀.context = ap (ctx_of l R.props R.work) d.left.context ∙ doing_ctx rd.base d in
        sym (entered_ctx R s en.1 l ∙ (λ i. entry x.0 s.serials (stands.means i) ∷ e i))

module _ {l : List ℕ} {R₀ : Rooms} {f : Rule} {R : Rooms} {q : Rest} {x : ℕ} {v : Want} {s : State} {κ : ℕ → Prog (arity (x ∷ after (term_record l f.term.0) q))} {used own wide : ℕ} (rd : Ready l R₀ f.term.0 f.start) (wants : WantIn (count_of l f.start) f.want)
    (d : Doing l R₀ f.term.0 (mode l R₀.props f.want) f.start R s (serial κ) (kids l (x ∷ after (term_record l f.term.0) q)) used own wide) where
  pub asks_fresh : {n : Name} {T : Sort} {A : Ty} {work' : List ℕ} {s₁ : State} → Stands l R.props (count_of l s) T A
      → (s₁ ≡ deeper (numbered s)) × Inserted R.work s.context (record { name = n; serial = record { 0 = s.serials }; typ = T }) work'
      → κ s.serials ≡ ask (mode l R.props v) (entry n.0 s.serials A ∷ Γ₀ l R₀ f) (program l R.props f.term.0 (mode l R₀.props f.want) (Γ₀ l R₀ f) q)
      → own ≤ 1 → 1 + used + (nodes (term_at l x) + weight l (after (term_record l f.term.0) q)) ≤ nodes (term_at l f.term.0) → Holds (count_of l s) (own + 1) (wide + 1) f.want q → Inside l f.term.0 (x ∷ after (term_record l f.term.0) q)
      → WantIn (count_of l s) v → Asked l R₀ f (rooms R.tree R.goals R.props work') q x v s₁
  asks_fresh stands en goes few fits holds inside among =
      asks_in 1 rd wants (doing_same (goes ∙ ap (λ (Γ : Ctx). ask (mode l R.props v) Γ (program l R.props f.term.0 (mode l R₀.props f.want) (Γ₀ l R₀ f) q)) (fresh_ctx rd d stands en)) (fresh rd d stands en)) en.0 (omega arith)
      (omega arith) fits holds inside among (entered_entries R s en.1 (count_of l s) (doing_base rd.base d).entries stands.among)

-- THE END
module _ {l : List ℕ} {R₀ : Rooms} {f : Rule} {R : Rooms} {T : Sort} {s : State} {q : Rest} (a : Resumed l R₀ f R q T s) where
  pub resumed_put : 16 * f.start.records + 16 ≤ length R.tree
  resumed_put = doing_put a.begun a.doing

  pub resumed_base : Base l R s
  resumed_base = doing_base a.begun.base a.doing

  -- an entry more, and two
  pub room_for : a.own ≤ 1 → Fresh R.work s
  room_for few =
      let rd = a.begun in
      let d = a.doing in
      let context : s.context < most_entries = few_entries rd d in
      (omega (arith, context, rd.base.work_room, d.left.grown.work_long), (omega (arith, context), omega (arith, rd.serials, rd.base.table.counted.few, d.few_serials, a.fits)))

  pub room_for_two : a.own ≡ 0 → 1 ≤ weight l (after (term_record l f.term.0) q) → FreshTwo R.work s
  room_for_two few some =
      let rd = a.begun in
      let d = a.doing in
      (omega (arith, rd.context, rd.base.table.counted.few, d.left.context, a.fits), omega (arith, rd.base.work_room, d.left.grown.work_long), omega (arith, rd.serials, rd.base.table.counted.few, d.few_serials, a.fits))

  pub answer_stands : Stands l R.props (count_of l s) (answer_of f.want T) (answered (mode l R₀.props f.want) a.typ)
  unfolding answered
  answer_stands = at f.want a.wants a.doing
    where
      at : (w : Want) → WantIn (count_of l f.start) w → {n : Arity} {p : Prog n} {ks : Kids n} {v : Mode} {used own wide : ℕ} → Doing l R₀ f.term.0 v f.start R s p ks used own wide → Stands l R.props (count_of l s) (answer_of w T) (answered (mode l R₀.props w) a.typ)
      at want.Synth h d = a.stands
      at (want.Check E) h d = doing_stands a.begun.base d (record { among = h; means = refl })

-- one node, whatever it says
pub concludes : {l : List ℕ} {R₀ : Rooms} (f : Rule) {R : Rooms} {s : State} {A B : Ty} {n : ℕ} {is : List ℕ} {used own wide : ℕ} (S U : Sort)
    → Doing l R₀ f.term.0 (mode l R₀.props f.want) f.start R s (conclude B (record { rule = n; term = f.term.0; concludes = A; serials = is } ∷ [])) tt used own wide → Stands l R.props (count_of l s) S A
    → Stands l R.props (count_of l s) U (answered (mode l R₀.props f.want) B) → {nd : Record} {tr : List ℕ} → nd ≡ node_rec n f.term.0 S (first_serial is) (second_serial is) wide → Put R.tree f.start.records nd tr
    → RanAs l R₀ (rooms tr R.goals R.props R.work) f.term.0 f.want f.start (Ok (record { typ = U; state = s }))
concludes f S U d stands answers e put = doing_has d {T = S} stands e put answers

-- of what is answered
answered_twice : (w : Mode) (B : Ty) → answered w B ≡ answered w (answered w B)
unfolding answered
answered_twice synth B = refl
answered_twice (check E) B = refl

module _ {l : List ℕ} {R₀ : Rooms} {f : Rule} {R : Rooms} {T : Sort} {s : State} {q : Rest} (a : Resumed l R₀ f R q T s) where
  pub ends_with : (is : List ℕ) {n used own wide : ℕ} → Doing l R₀ f.term.0 (mode l R₀.props f.want) f.start R s (by n f.term.0 (answered (mode l R₀.props f.want) a.typ) is) tt used own wide
      → (found : Sort) → found ≡ answer_of f.want T → (nd : Record) → nd ≡ node_rec n f.term.0 found (first_serial is) (second_serial is) wide → (tr : List ℕ) → Put R.tree f.start.records nd tr
      → RanAs l R₀ (rooms tr R.goals R.props R.work) f.term.0 f.want f.start (Ok (record { typ = found; state = s }))
  unfolding by
  ends_with is d found ef nd en tr put =
      let w = mode l R₀.props f.want in
      let stands : Stands l R.props (count_of l s) found (answered w a.typ) = subst⁻¹ (λ (U : Sort). Stands l R.props (count_of l s) U (answered w a.typ)) ef (answer_stands a) in
      concludes f found found d stands (subst (Stands l R.props (count_of l s) found) (answered_twice w a.typ) stands) en put

  -- the rule goes on with other propositions, of a type that it made
  pub turned : {R' : Rooms} {q' : Rest} {T' : Sort} {A' : Ty} {s' : State} {own wide : ℕ} → Stands l R'.props (count_of l s') T' A'
      → Doing l R₀ f.term.0 (mode l R₀.props f.want) f.start R' s' (program l R'.props f.term.0 (mode l R₀.props f.want) (Γ₀ l R₀ f) q' A') (kids l (after (term_record l f.term.0) q')) a.used own wide
      → weight l (after (term_record l f.term.0) q') ≤ weight l (after (term_record l f.term.0) q) → Holds (count_of l s') own wide f.want q' → Inside l f.term.0 (after (term_record l f.term.0) q') → Resumed l R₀ f R' q' T' s'
  turned {A' = A'} {own = own} {wide = wide} stands d less holds inside =
      record {
        begun = a.begun;
        wants = a.wants;
        typ = A';
        stands = stands;
        used = a.used;
        own = own;
        wide = wide;
        doing = d;
        fits = omega (arith, a.fits);
        holds = holds;
        others = inside;
      }

-- what the pieces ask of a rest
pub held : {l : List ℕ} {R₀ : Rooms} {f : Rule} {R : Rooms} {T : Sort} {s : State} (q : Rest) → Resumed l R₀ f R q T s → Held (count_of l s) R.work s q
held (rest.By n m) a = tt
held (rest.Right n b) a = tt
held rest.Second a = tt
held (rest.Both S) a = a.holds.0
held rest.Part a = tt
held (rest.Closes n i) a = tt
held (rest.Abstracts i S) a = a.holds.0
held {s = s} rest.Argument a = let b = resumed_base a in let d = a.doing in omega (arith, few_entries a.begun d, a.begun.base.work_room, d.left.grown.work_long)
held (rest.Concludes b) a = tt
held (rest.Instance i b) a = a.holds.0
held {l} {f = f} rest.LetBody a = room_for_two a a.holds.1 (omega (arith, nodes_some (term_at l (term_record l f.term.0).child2.0)))
held (rest.LetEnd i j) a = tt
held rest.CaseLeft a = room_for a (omega (arith, a.holds.1))
held (rest.CaseRight i b) a = room_for a a.holds.2
held (rest.CaseEnd i j S) a = a.holds.0
held rest.Aborts a = tt
