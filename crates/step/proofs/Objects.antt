-- The object of a quantifier, and a let opened. Assumes nothing.
use mathlib.Core.Path.{◌≡◌, refl, ap, sym, subst, subst⁻¹, ◌∙◌}
use mathlib.Core.List.{List, [], ◌∷◌}
use mathlib.Core.Option.{Option, none, some}
use Prim.Native.Nat.{ℕ, zero, suc, ◌+◌, ◌<◌, ◌≤◌}
use native.Mathlib.Omega.{arith}
use Rattle.std.specs.Prelude.{Some, None, Ok, Err}
use Rattle.numbers.specs.declared.Name.{Name}
use Rattle.numbers.specs.declared.Sort.{Sort}
use Rattle.numbers.specs.declared.Sort.TheVariants as sort
use Rattle.numbers.specs.declared.refusal.Refusal.{Refusal}
use Rattle.layout.specs.declared.record.TermRecord.{TermRecord}
use Rattle.layout.specs.File.{props, terms, term_record, kinds, kind_of}
use Rattle.rules.specs.Prop.{Prop, Ty, ex, put, size, prop, datatype}
use Rattle.rules.specs.Context.{Entry as Hypothesis, Ctx, find, entry}
use Rattle.rules.specs.State.{St, limit, next}
use Rattle.rules.specs.Term.{Term, ident_name}
use Rattle.rules.specs.Step.{Arity, more, Prog, refuse, Kids, refused, named, obey, on_found, look_up, objected}
use Rattle.rules.specs.Rules.{let_opening}
use Rattle.table.specs.Reading.{annotated, ascribed, term_of, term_at}
use Rattle.table.proofs.Reading.{term_step}
use Rattle.prop.specs.declared.head.Bound.{Bound}
use Rattle.arena.specs.declared.copy.Copied.{Copied}
use Rattle.prop.specs.Room.{room_at, Arena}
use Rattle.arena.specs.Make.{PutIs}
use Rattle.prop.proofs.Rooms.{type_more}
use Rattle.context.specs.declared.identifier_context.Entry.{Entry}
use Rattle.context.specs.Context.{entry_at, most_entries, Inserted, stands, Latest}
use Rattle.context.proofs.Laws.{ctx_inserted, held_finds, nothing_finds}
use Rattle.step.specs.declared.state.State.{State}
use Rattle.step.specs.declared.state.Want.{Want}
use Rattle.prop.specs.Head.{OverAs}
use Rattle.step.specs.Rooms.{Table, rooms, reads, ctx_of, st_of, count_of, numbered, deeper, Entries}
use Rattle.step.specs.Modes.{number_of}
use Rattle.step.specs.Steps.{Stops, ObjectAs, LetEntered}
use Rattle.step.proofs.Refusing.{mode_refusal}
use Rattle.step.proofs.Pictures.{entered_picture}
use Rattle.step.proofs.Terms.{is_ident}
use Rattle.step.proofs.Moves.{GrownTo, MadeFor, made_for, make_goes, make_stops, full_room, entered_entries}

-- A TERM OF ANOTHER KIND is no Ident
other_name : (t : ℕ) (A : Option Ty) (sub : ℕ → Term) (n : ℕ) (r : TermRecord) → (n ≡ 0 → ⊥) → ident_name (term_of t A sub (kind_of n) r) ≡ none
unfolding ident_name term_of ascribed kind_of kinds
other_name t A sub zero r h = absurd (h refl)
other_name t A sub (suc zero) r h = refl
other_name t A sub (suc (suc zero)) r h = refl
other_name t A sub (suc (suc (suc zero))) r h = refl
other_name t A sub (suc (suc (suc (suc zero)))) r h = refl
other_name t A sub (suc (suc (suc (suc (suc zero))))) r h = refl
other_name t A sub (suc (suc (suc (suc (suc (suc zero)))))) r h = refl
other_name t A sub (suc (suc (suc (suc (suc (suc (suc zero))))))) r h = refl
other_name t A sub (suc (suc (suc (suc (suc (suc (suc (suc zero)))))))) r h = refl
other_name t A sub (suc (suc (suc (suc (suc (suc (suc (suc (suc zero))))))))) r h = refl
other_name t A sub (suc (suc (suc (suc (suc (suc (suc (suc (suc (suc zero)))))))))) r h = refl
other_name t A sub (suc (suc (suc (suc (suc (suc (suc (suc (suc (suc (suc zero))))))))))) r h = refl
other_name t none sub (suc (suc (suc (suc (suc (suc (suc (suc (suc (suc (suc (suc zero)))))))))))) r h = refl
other_name t (some B) sub (suc (suc (suc (suc (suc (suc (suc (suc (suc (suc (suc (suc zero)))))))))))) r h = refl
other_name t A sub (suc (suc (suc (suc (suc (suc (suc (suc (suc (suc (suc (suc (suc zero))))))))))))) r h = refl
other_name t A sub (suc (suc (suc (suc (suc (suc (suc (suc (suc (suc (suc (suc (suc (suc n)))))))))))))) r h = refl

-- THE OBJECT THAT TERM t NAMES
module _ {l : List ℕ} (table : Table l) {t : ℕ} (h : t < terms l) (r : TermRecord) (er : r ≡ term_record l t) (work : List ℕ) (w : Want) (st : State) (ps : List ℕ) where
  abbrev Γ : Ctx
  Γ = ctx_of l ps work st.context

  abbrev n₁ : ℕ
  n₁ = number_of w 13 24

  abbrev n₂ : ℕ
  n₂ = number_of w 10 20

  pub object_none : (r.kind ≡ 0 → ⊥) → (n : ℕ) → n ≡ number_of w 13 24 → (e : Refusal) → e ≡ record { number = n; place = t } → ObjectAs l ps work w t st (Err e)
  unfolding objected obey named
  object_none d n en e ee =
      let bare : ident_name (term_at l t) ≡ none =
      ap ident_name (term_step table.directed t h)
      ∙ other_name t (annotated l t) (term_at l) (term_record l t).kind (term_record l t) (subst (λ (r : TermRecord). r.kind ≡ 0 → ⊥) er d) in
      subst⁻¹ (λ (e : Refusal). ObjectAs l ps work w t st (Err e)) (mode_refusal e n n₁ t en ee)
      (λ a k ks i. ap (λ (x : Option ℕ). named x (refused n₁ t) (λ y. obey (look_up n₂ t Γ y (λ e. k e.serial)) ks (st_of st))) (i ∙ bare))

  module _ (kind : r.kind ≡ 0) where
    object_goes : (o : Option Hypothesis) → find r.name1.0 Γ ≡ o → {a : Arity} (k : ℕ → Prog (more a)) (ks : Kids (more a)) → ks.0.ident ≡ ident_name (term_at l t)
        → obey (objected n₁ n₂ t Γ k) ks (st_of st) ≡ obey (on_found o (λ e. k e.serial) (refuse n₂ t)) ks (st_of st)
    unfolding objected obey named look_up ident_name
    object_goes o q k ks e =
        let name : ident_name (term_at l t) ≡ some r.name1.0 = ap ident_name (is_ident table h (ap (λ (r : TermRecord). r.kind) (sym er) ∙ kind)) ∙ ap (λ (r : TermRecord). some r.name1.0) (sym er) in
        ap (λ (x : Option ℕ). named x (refused n₁ t) (λ y. obey (look_up n₂ t Γ y (λ e. k e.serial)) ks (st_of st))) (e ∙ name)
        ∙ ap (λ (o : Option Hypothesis). obey (on_found o (λ e. k e.serial) (refuse n₂ t)) ks (st_of st)) q

    pub object_unknown : Latest work st.context r.name1.0 None → (n : ℕ) → n ≡ number_of w 10 20 → (e : Refusal) → e ≡ record { number = n; place = t } → ObjectAs l ps work w t st (Err e)
    unfolding obey on_found
    object_unknown is n en e ee =
        subst⁻¹ (λ (e : Refusal). ObjectAs l ps work w t st (Err e)) (mode_refusal e n n₂ t en ee)
        (λ a k ks i. object_goes none (nothing_finds (reads l ps) is refl) k ks i)

    pub object_known : (e : Entry) → Latest work st.context r.name1.0 (Some e) → ObjectAs l ps work w t st (Ok e.serial)
    unfolding on_found
    object_known e is a k ks i = object_goes (some (stands (reads l ps) e)) (held_finds (reads l ps) is refl) k ks i

-- A LET OPENED, at a head of type H
module _ (l ps work : List ℕ) (w : Want) (H : Sort) (p head : ℕ) (st : State) (count : ℕ) where
  abbrev n : ℕ
  n = number_of w 12 22

  pub let_other : OverAs ex ps count H None → (m : ℕ) → m ≡ number_of w 12 22 → (r : Refusal) → r ≡ record { number = m; place = head } → (a : Arity) (k : ℕ → ℕ → ℕ → Prop → Prog a) → Stops (let_opening n p head (reads l ps H) k) st r
  unfolding let_opening obey
  let_other bare m em r er a k =
      subst⁻¹ (λ (r : Refusal). Stops (let_opening n p head (reads l ps H) k) st r) (mode_refusal r m n head em er)
      (λ ks. ap (λ (q : Prog a). obey q ks (st_of st)) (bare (props l) a _ _))

  module _ (b : Bound) (over : OverAs ex ps count H (Some b)) where
    abbrev B : Prop
    B = room_at (props l) ps b.body.0

    module _ (left : ℕ) (ps' : List ℕ) (ec : count ≡ count_of l st) (el : left + st.made ≡ limit) where
      pub let_full : PutIs ps count left b.body.0 st.serials ps' None → (r : Refusal) → r ≡ record { number = 30; place = p } → (a : Arity) (k : ℕ → ℕ → ℕ → Prop → Prog a) → Stops (let_opening n p head (reads l ps H) k) st r
      unfolding let_opening obey
      let_full full r er a k =
          subst⁻¹ (λ (r : Refusal). Stops (let_opening n p head (reads l ps H) k) st r) er λ ks.
          ap (λ (q : Prog a). obey q ks (st_of st)) (over.goes (props l) a _ _)
          ∙ make_stops {n = a} (size B) p (k st.serials (suc st.serials) b.datatype.0 (put st.serials B)) ks (next (next (st_of st))) (full_room l ps ps' count left st (λ t. size (room_at t ps b.body.0)) (λ t. put st.serials (room_at t ps b.body.0)) None ec el full refl)

      module _ (m : Copied) (makes : PutIs ps count left b.body.0 st.serials ps' (Some m)) (s : State) (grown : GrownTo st count m.count s) where
        made : MadeFor l ps ps' st s (size B) (put st.serials B) m.at
        made = made_for l ps ps' count left st _ _ (Some m) ec el makes s m refl grown

        module _ (x y : Name) (s₁ s₂ : State) (w₁ w₂ : List ℕ) (e₁ : s₁ ≡ deeper (numbered s)) (ins₁ : Inserted work s.context (record { name = x; serial = record { 0 = s.serials }; typ = sort.Datatype b.datatype }) w₁)
            (e₂ : s₂ ≡ deeper (numbered s₁)) (ins₂ : Inserted w₁ s₁.context (record { name = y; serial = record { 0 = s₁.serials }; typ = sort.Proposition m.at }) w₂) (few : st.context + 2 ≤ most_entries) where
          abbrev first : Entry
          first = record { name = x; serial = record { 0 = st.serials }; typ = sort.Datatype b.datatype }

          abbrev second : Entry
          second = record { name = y; serial = record { 0 = st.serials + 1 }; typ = sort.Proposition m.at }

          put₁ : Inserted work st.context first w₁
          put₁ = subst (λ (s : State). Inserted work s.context (record { name = x; serial = record { 0 = s.serials }; typ = sort.Datatype b.datatype }) w₁) made.making.state ins₁

          put₂ : Inserted w₁ (st.context + 1) second w₂
          put₂ =
              subst (λ (s : State). Inserted w₁ s.context (record { name = y; serial = record { 0 = s.serials }; typ = sort.Proposition m.at }) w₂)
              (e₁ ∙ ap (λ (s : State). deeper (numbered s)) made.making.state) ins₂

          abbrev spent : ℕ
          spent = made.making.spent

          abbrev last : State
          last = record { records = st.records; goals = st.goals; serials = st.serials + 2; made = st.made + spent; context = st.context + 2; asked = st.asked }

          twice : (n : ℕ) → n + 1 + 1 ≡ n + 2
          twice n = omega arith

          is_last : s₂ ≡ last
          is_last =
              e₂
              ∙ ap (λ (s : State). deeper (numbered s)) (e₁ ∙ ap (λ (s : State). deeper (numbered s)) made.making.state)
              ∙ (λ j. record { records = st.records; goals = st.goals; serials = twice st.serials j; made = st.made + spent; context = twice st.context j; asked = st.asked })

          stands_for : reads l ps' (sort.Proposition m.at) ≡ prop (put st.serials B)
          stands_for = made.stands.means

          entered_last : LetEntered l ps work ps' w₂ x.0 y.0 w H p head st last
          unfolding let_opening obey
          entered_last =
              let eq : s.made ≡ st.made + spent = ap (λ (s : State). s.made) made.making.state in
              let eq' : s.made ≡ st.made + size B = ap (λ (s : St). s.made) made.spent in
              let same_size : st.made + size B ≡ st.made + spent = omega arith in
              let two_more : suc (suc st.serials) ≡ st.serials + 2 = omega arith in
              let one_more : suc st.serials ≡ st.serials + 1 = omega arith in
              record {
                datatype = b.datatype.0;
                body = put st.serials B;
                spent = spent;
                state = refl;
                within = omega (arith, made.making.within);
                arena = subst (λ (s : State). Arena ps' (count_of l s)) made.making.state made.making.arena;
                same = made.making.same;
                long = made.making.long;
                kept = λ j h. put₂.others j (omega arith) ∙ put₁.others j (omega arith);
                picture = λ j h. entered_picture put₂ (omega arith) j h ∙ entered_picture put₁ (omega arith) j h;
                work_long = put₂.size ∙ put₁.size;
                entries =
                    λ old. subst (λ (n : ℕ). Entries w₂ n (count_of l last)) (twice st.context)
                    (entered_entries (rooms [] [] ps' w₁) (deeper st) put₂ (count_of l last)
                    (entered_entries (rooms [] [] ps' work) st put₁ (count_of l last) (λ j h. type_more (count_of l st) (count_of l last) (entry_at work j).typ (omega arith) (old j h)) tt)
                    (subst (λ (s : State). m.at.0 < count_of l s) made.making.state made.stands.among));
                context =
                    ap (ctx_of l ps' w₂) (sym (twice st.context))
                    ∙ ctx_inserted (reads l ps') put₂
                    ∙ ap (λ (Γ : Ctx). stands (reads l ps') second ∷ Γ) (ctx_inserted (reads l ps') put₁)
                    ∙ (λ j. entry y.0 (st.serials + 1) (stands_for j) ∷ entry x.0 st.serials (datatype b.datatype.0) ∷ ctx_of l ps' work st.context);
                goes =
                    λ a k ks. ap (λ (q : Prog a). obey q ks (st_of st)) (over.goes (props l) a _ _)
                    ∙ make_goes {n = a} (size B) p (k st.serials (suc st.serials) b.datatype.0 (put st.serials B)) ks (next (next (st_of st))) made.allowed
                    ∙ (λ j. obey (k st.serials (one_more j) b.datatype.0 (put st.serials B)) ks (record { serials = two_more j; made = same_size j }));
              }

          pub let_entered : LetEntered l ps work ps' w₂ x.0 y.0 w H p head st s₂
          let_entered = subst⁻¹ (LetEntered l ps work ps' w₂ x.0 y.0 w H p head st) is_last entered_last
