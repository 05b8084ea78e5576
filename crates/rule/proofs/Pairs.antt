-- Pair, piece by piece. Assumes nothing.
use mathlib.Core.Path.{◌≡◌, refl, ap, sym, subst, ◌∙◌}
use mathlib.Core.List.{List, []}
use Prim.Native.Nat.{ℕ, ◌+◌, ◌<◌, ◌≤◌}
use native.Mathlib.Omega.{arith}
use Rattle.std.specs.declared.option.Option.TheVariants.{Some, None}
use Rattle.std.specs.declared.result.Result.TheVariants.{Ok, Err}
use Rattle.numbers.specs.declared.Name.{Name}
use Rattle.numbers.specs.declared.Proposition.{Proposition}
use Rattle.numbers.specs.declared.Serial.{Serial}
use Rattle.numbers.specs.declared.Sort.{Sort}
use Rattle.numbers.specs.declared.Sort.TheVariants as sort
use Rattle.numbers.specs.declared.Term.{Term as Place}
use Rattle.numbers.specs.declared.refusal.Refusal.{Refusal}
use Rattle.layout.specs.declared.record.TermRecord.{TermRecord}
use Rattle.layout.specs.File.{props, terms, term_record}
use Rattle.rules.specs.Prop.{made, and, ex, link, Ty, prop, datatype, Prop, put, size}
use Rattle.rules.specs.State.{limit}
use Rattle.rules.specs.Term.{Double, nodes}
use Rattle.rules.specs.Tree.{end}
use Rattle.rules.specs.Step.{synth, check, refusal, refuse, Prog, make, ask, obey, on_prop, on_quant, objected, answered}
use Rattle.rules.specs.Rules.{one, two, by, pair_step, double_step}
use Rattle.table.specs.Reading.{term_at}
use Rattle.arena.specs.declared.copy.Copied.{Copied}
use Rattle.arena.specs.Make.{LinkIs, PutIs}
use Rattle.prop.specs.Room.{room_at, TypeIn}
use Rattle.prop.specs.declared.head.Parts.{Parts}
use Rattle.prop.specs.declared.head.Bound.{Bound}
use Rattle.step.specs.declared.state.State.{State}
use Rattle.step.specs.declared.state.Want.TheVariants as want
use Rattle.prop.specs.Head.{Split, Unsplit, Over, NotOver}
use Rattle.step.specs.Rooms.{Rooms, rooms, reads, ctx_of, st_of, count_of, inner}
use Rattle.step.specs.Modes.{mode}
use Rattle.step.specs.Steps.{ObjectAs}
use Rattle.step.specs.Contract.{Ready, Refuses, run_of}
use Rattle.step.specs.Under.{rest, Doing, kid_at}
use Rattle.step.proofs.Programs.{rest_refused}
use Rattle.step.proofs.Doing.{doing_start, doing_same, doing_step, doing_stop}
use Rattle.step.proofs.Moves.{MadeFor, GrownTo, making_left, making_made, making_serials, made_for, made_goes, full_stops}
use Rattle.step.proofs.Terms.{double_begins, double_nodes, is_pair, pair_first, pair_second}
use Rattle.rule.specs.declared.next.Rule.{Rule}
use Rattle.rule.specs.declared.next.Rest.TheVariants as left
use Rattle.rule.specs.Reading.{pairing}
use Rattle.rule.specs.Going.{Asked, Resumed}
use Rattle.rule.proofs.Going.{says, answered_synth, asks, turned}

module _ {l : List ℕ} {R : Rooms} {k : Place} {st : State} (rd : Ready l R k.0 st) (kind : (term_record l k.0).kind ≡ 1) where
  abbrev c₁ : ℕ
  c₁ = (term_record l k.0).child1.0

  abbrev c₂ : ℕ
  c₂ = (term_record l k.0).child2.0

  fits : 1 + 0 + (nodes (term_at l c₁) + (nodes (term_at l c₂) + 0)) ≤ nodes (term_at l k.0)
  fits = omega (arith, double_nodes (is_pair rd.base.table rd.here kind))

  pub pair_child : (k.0 < c₁) × (c₁ < terms l)
  pair_child = pair_first rd.base.table rd.here kind

  inside : ((k.0 < c₁) × (c₁ < terms l)) × (((k.0 < c₂) × (c₂ < terms l)) × Unit {0})
  inside = (pair_child, (pair_second rd.base.table rd.here kind, tt))

  -- SYNTHESIZED: the left part is asked
  pub pairing_begins : Asked l R (record { term = k; want = want.Synth; start = st }) R left.Second c₁ want.Synth (inner st)
  unfolding double_step pair_step
  pairing_begins =
      asks rd tt (doing_start _ (kid_at l c₁, (kid_at l c₂, tt)) rd (double_begins l k.0 R synth st Double.pair c₁ c₂ (is_pair rd.base.table rd.here kind)))
      (omega arith) fits (refl, refl, omega arith) inside tt

  -- CHECKED
  module _ (wanted : Sort) (among : TypeIn (count_of l st) wanted) where
    abbrev A : Ty
    A = reads l R.props wanted

    abbrev f : Rule
    f = record { term = k; want = want.Check wanted; start = st }

    starts : run_of l R k.0 (check A) st ≡ rest (check A) end (obey (pair_step k.0 c₁ (check A) (ctx_of l R.props R.work st.context)) (kid_at l c₁, (kid_at l c₂, tt)) (st_of st))
    unfolding double_step
    starts = double_begins l k.0 R (check A) st Double.pair c₁ c₂ (is_pair rd.base.table rd.here kind)

    module _ (count : ℕ) (ec : count ≡ count_of l st) where
      -- against an And: the left part is asked
      pub pair_begins : (o : Parts) → Split and R.props count wanted o.left.0 o.right.0 → Asked l R f R (left.Right 2 o.right) c₁ (want.Check (sort.Proposition o.left)) (inner st)
      unfolding pair_step answered
      pair_begins o split =
          asks rd among (doing_start _ (kid_at l c₁, (kid_at l c₂, tt)) rd (starts ∙ ap (λ (q : Prog two). rest (check A) end (obey q (kid_at l c₁, (kid_at l c₂, tt)) (st_of st))) (split.goes (props l) two _ _)))
          (omega arith) fits (omega (arith, split.second), refl, omega arith) inside (omega (arith, split.first))

    -- against an Exists
    module _ (bare : Unsplit and R.props wanted) (count : ℕ) (ec : count ≡ count_of l st) where
      abbrev opens : ℕ → Prop → ℕ → Prog two
      opens D B i = make (size B) k.0 (ask (check (datatype D)) (ctx_of l R.props R.work st.context) λ _. ask (check (prop (put i B))) (ctx_of l R.props R.work st.context) λ _. by 13 k.0 A [])

      others : run_of l R k.0 (check A) st ≡ rest (check A) end (obey (on_quant ex A (λ x D B. objected 13 10 c₁ (ctx_of l R.props R.work st.context) (opens D B)) (refuse 11 k.0)) (kid_at l c₁, (kid_at l c₂, tt)) (st_of st))
      unfolding pair_step
      others = starts ∙ ap (λ (q : Prog two). rest (check A) end (obey q (kid_at l c₁, (kid_at l c₂, tt)) (st_of st))) (bare (props l) two _ _)

      pub exists_other : NotOver ex R.props wanted → (r : Refusal) → r ≡ record { number = 11; place = k.0 } → Refuses (run_of l R k.0 (check A) st) r
      unfolding obey
      exists_other other r er =
          says 11 k.0 er
          (others
          ∙ ap (λ (q : Prog two). rest (check A) end (obey q (kid_at l c₁, (kid_at l c₂, tt)) (st_of st))) (other (props l) two _ _)
          ∙ rest_refused (check A) end (refusal 11 k.0))

      module _ (u : Bound) (over : Over ex R.props count wanted u.datatype.0 u.body.0) where
        abbrev d : Name
        d = u.datatype

        abbrev b : Proposition
        b = u.body

        abbrev B : Prop
        B = room_at (props l) R.props b.0

        begun : Doing l R k.0 (check A) st R (inner st) (objected 13 10 c₁ (ctx_of l R.props R.work st.context) (opens d.0 B)) (kid_at l c₁, (kid_at l c₂, tt)) 0 0 0
        begun = doing_start _ (kid_at l c₁, (kid_at l c₂, tt)) rd (others ∙ ap (λ (q : Prog two). rest (check A) end (obey q (kid_at l c₁, (kid_at l c₂, tt)) (st_of st))) (over.goes (props l) two _ _))

        module _ (t : TermRecord) (et : t ≡ term_record l k.0) where
          pub exists_object : (r : Refusal) → ObjectAs l R.props R.work (want.Check wanted) t.child1.0 st (Err r) → Refuses (run_of l R k.0 (check A) st) r
          exists_object r tells =
              let says = subst (λ (t : TermRecord). ObjectAs l R.props R.work (want.Check wanted) t.child1.0 st (Err r)) et tells in
              doing_stop (refusal r.number r.place) begun (says one (opens d.0 B) (kid_at l c₁, (kid_at l c₂, tt)) refl)

          module _ (i : Serial) (known : ObjectAs l R.props R.work (want.Check wanted) t.child1.0 st (Ok i)) (free : ℕ) (el : free + st.made ≡ limit) (ps : List ℕ) where
            goes : obey (objected 13 10 c₁ (ctx_of l R.props R.work st.context) (opens d.0 B)) (kid_at l c₁, (kid_at l c₂, tt)) (st_of st) ≡ obey (opens d.0 B i.0) (kid_at l c₁, (kid_at l c₂, tt)) (st_of st)
            goes = subst (λ (t : TermRecord). ObjectAs l R.props R.work (want.Check wanted) t.child1.0 st (Ok i)) et known one (opens d.0 B) (kid_at l c₁, (kid_at l c₂, tt)) refl

            pub exists_full : PutIs R.props count free b.0 i.0 ps None → (r : Refusal) → r ≡ record { number = 30; place = k.0 } → Refuses (run_of l R k.0 (check A) st) r
            exists_full puts r er =
                says 30 k.0 er
                (doing_stop (refusal 30 k.0) begun
                (goes ∙ full_stops l R.props ps count free (inner st) (λ t. size (room_at t R.props b.0)) (λ t. put i.0 (room_at t R.props b.0)) None ec el puts refl k.0 _ (kid_at l c₁, (kid_at l c₂, tt))))

            pub exists_begins : (o : Copied) → PutIs R.props count free b.0 i.0 ps (Some o) → (g : State) → GrownTo st count o.count g
                → Asked l R f (rooms R.tree R.goals ps R.work) (left.Right 13 o.at) c₁ (want.Check (sort.Datatype d)) (inner g)
            unfolding answered
            exists_begins o puts g eg =
                let makes : MadeFor l R.props ps (inner st) (inner g) (size B) (put i.0 B) o.at =
                made_for l R.props ps count free (inner st) (λ t. size (room_at t R.props b.0)) (λ t. put i.0 (room_at t R.props b.0)) (Some o) ec el puts (inner g) o refl (eg.0, ap (λ (n : ℕ). n + 1) eg.1, eg.2, eg.3, eg.4, eg.5) in
                asks rd among
                (doing_same (ap (λ (P : Ty). ask (check (datatype d.0)) (ctx_of l R.props R.work st.context) λ _. ask (check P) (ctx_of l R.props R.work st.context) λ _. by 13 k.0 A []) (sym makes.stands.means))
                (doing_step _ 0 begun (making_left R makes.making) (making_made makes.making) (making_serials makes.making) (goes ∙ made_goes makes k.0 _ (kid_at l c₁, (kid_at l c₂, tt)))))
                (omega arith) fits (makes.stands.among, refl, omega arith) inside tt

-- THE RIGHT PART is asked
module _ {l : List ℕ} {R₀ : Rooms} {f : Rule} {R : Rooms} {T : Sort} {s : State} where
  pub pair_right : {n : ℕ} {b : Proposition} → Resumed l R₀ f R (left.Right n b) T s → Asked l R₀ f R (left.By n 2) (term_record l f.term.0).child2.0 (want.Check (sort.Proposition b)) s
  pair_right a = asks a.begun a.wants a.doing a.holds.2 a.fits (omega (arith, a.holds.1)) a.others a.holds.0

  pub pairing_second : Resumed l R₀ f R left.Second T s → Asked l R₀ f R (left.Both T) (term_record l f.term.0).child2.0 want.Synth s
  pairing_second a =
      asks a.begun a.wants (doing_same (ap (λ (S : Ty). ask synth _ λ U. pairing f.term.0 S U) (sym a.stands.means)) a.doing)
      a.holds.2 a.fits (a.stands.among, omega (arith, a.holds.1), a.holds.0) a.others tt

-- BOTH PARTS have types t and u; the second is tested first
module _ {l : List ℕ} {R₀ : Rooms} {f : Rule} {R : Rooms} {t u : Sort} {s : State} (a : Resumed l R₀ f R (left.Both t) u s) where
  abbrev k : ℕ
  k = f.term.0

  whole : Doing l R₀ k (mode l R₀.props f.want) f.start R s (pairing k (reads l R.props t) (reads l R.props u)) tt a.used a.own a.wide
  whole = doing_same (ap (pairing k (reads l R.props t)) (sym a.stands.means)) a.doing

  pub both_second : (d : Name) → u ≡ sort.Datatype d → (r : Refusal) → r ≡ record { number = 23; place = k } → Refuses (run_of l R₀ k (mode l R₀.props f.want) f.start) r
  unfolding on_prop obey
  both_second d e r er = says 23 k er (doing_stop (refusal 23 k) whole (ap (λ (U : Sort). obey (pairing k (reads l R.props t) (reads l R.props U)) tt (st_of s)) e))

  module _ (b : Proposition) (eu : u ≡ sort.Proposition b) where
    pub both_first : (d : Name) → t ≡ sort.Datatype d → (r : Refusal) → r ≡ record { number = 25; place = k } → Refuses (run_of l R₀ k (mode l R₀.props f.want) f.start) r
    unfolding on_prop obey
    both_first d e r er = says 25 k er (doing_stop (refusal 25 k) whole (λ i. obey (pairing k (reads l R.props (e i)) (reads l R.props (eu i))) tt (st_of s)))

    module _ (p : Proposition) (et : t ≡ sort.Proposition p) (count : ℕ) (ec : count ≡ count_of l s) (free : ℕ) (el : free + s.made ≡ limit) (ps : List ℕ) where
      abbrev whole_and : ℕ → Prop
      whole_and tables = link made and (room_at tables R.props p.0) (room_at tables R.props b.0)

      making_and : Doing l R₀ k (mode l R₀.props f.want) f.start R s (make 1 k (by 2 k (prop (whole_and (props l))) [])) tt a.used a.own a.wide
      unfolding on_prop
      making_and = doing_same (λ i. pairing k (reads l R.props (et i)) (reads l R.props (eu i))) whole

      pub both_full : LinkIs and R.props count free p.0 b.0 ps None → (r : Refusal) → r ≡ record { number = 30; place = k } → Refuses (run_of l R₀ k (mode l R₀.props f.want) f.start) r
      both_full is r er = says 30 k er (doing_stop (refusal 30 k) making_and (full_stops l R.props ps count free s (λ tables. 1) whole_and None ec el is refl k _ tt))

      pub both_made : (o : Copied) → LinkIs and R.props count free p.0 b.0 ps (Some o) → (s₁ : State) → GrownTo s count o.count s₁ → Resumed l R₀ f (rooms R.tree R.goals ps R.work) (left.By 2 2) (sort.Proposition o.at) s₁
      both_made o is s₁ g =
          let d : MadeFor l R.props ps s s₁ 1 (whole_and (props l)) o.at = made_for l R.props ps count free s (λ tables. 1) whole_and (Some o) ec el is s₁ o refl g in
          turned a d.stands
          (doing_same (ap (λ (A : Ty). by 2 k A []) (sym (answered_synth l R₀.props a.holds.2 (prop (whole_and (props l))))))
          (doing_step _ 0 making_and (making_left R d.making) d.making.within (making_serials d.making) (made_goes d k _ tt)))
          (omega arith) a.holds.1 tt
