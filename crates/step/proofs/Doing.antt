-- In the middle of a rule: the code has done what the rules have, up to the rest of the rule's program. One law for each thing that a rule does.
-- Assumes nothing.
use mathlib.Core.Path.{◌≡◌, refl, ap, sym, subst, subst⁻¹, ◌∙◌}
use mathlib.Core.List.{List, [], ◌∷◌}
use Prim.Native.Nat.{ℕ, ◌+◌, ◌*◌, ◌<◌, ◌≤◌}
use native.Mathlib.Omega.{arith}
use lib.ListN.{length}
use Rattle.std.specs.Prelude.{Ok, Err}
use Rattle.numbers.specs.declared.Sort.{Sort}
use Rattle.numbers.specs.declared.record.Record.{Record}
use Rattle.numbers.specs.declared.refusal.Refusal.{Refusal}
use Rattle.numbers.specs.Records.{Put}
use Rattle.layout.specs.File.{terms}
use Rattle.rules.specs.Prop.{Ty}
use Rattle.rules.specs.Context.{Ctx}
use Rattle.rules.specs.State.{St, limit}
use Rattle.rules.specs.Term.{Term, leaf, single, double, triple, sorry, nodes, place}
use Rattle.rules.specs.Tree.{end, node, ◌⊕◌, stack, records, holes, width}
use Rattle.rules.specs.Step.{Want as Mode, check, Refusal as Fault, Out, stop, ok, then, Answer, Steps, Arity, Prog, conclude, ask, Kids, obey, answered, finish, perform}
use Rattle.rules.specs.Rules.{leaf_step, single_step, double_step, triple_step, sorry_run, kid, run}
use Rattle.rules.proofs.Filling.{join_end}
use Rattle.rules.proofs.Spent.{records_beside, holes_beside, width_beside, Spent, run_spends}
use Rattle.table.specs.Reading.{term_at}
use Rattle.step.specs.declared.state.State.{State}
use Rattle.step.specs.declared.state.Want.{Want}
use Rattle.step.specs.Rooms.{Rooms, rooms, ctx_of, st_of, count_of, inner, leaving, Stands, Entries, Base}
use Rattle.step.specs.Modes.{mode}
use Rattle.step.specs.Trees.{node_rec, first_serial, second_serial, TreesAre}
use Rattle.step.specs.Picture.{PicturesAre}
use Rattle.step.specs.Contract.{Ready, Left, Answers, refusal_of, Refuses, run_of, RanAs}
use Rattle.step.specs.Under.{rest, Doing, kid_at}
use Rattle.step.proofs.Programs.{rest_refused, rest_ask, ask_refused, rest_conclude}
use Rattle.step.proofs.Frames.{entries_kept, ctx_kept, loaded_kept, stands_kept, left_none, left_trans, left_leave, trees_kept}

is_ok : Out Answer → Type 0
is_ok (stop r) = ⊥
is_ok (ok a st) = Unit {0}

refused_ok : {r : Fault} {a : Answer} {st : St} → stop r ≡ ok a st → ⊥
unfolding is_ok
refused_ok e = subst⁻¹ is_ok e tt

ty_of : Ty → Out Answer → Ty
ty_of A (stop r) = A
ty_of A (ok a st) = a.ty

ok_ty : {a b : Answer} {st st₁ : St} → ok a st ≡ ok b st₁ → a.ty ≡ b.ty
unfolding ty_of
ok_ty {a} e = ap (ty_of a.ty) e

-- a check answers what was expected
finish_answers : (A : Ty) (o : Out Steps) {a : Answer} {st : St} → then o (finish (check A)) ≡ ok a st → a.ty ≡ A
unfolding then finish answered
finish_answers A (stop r) e = absurd (refused_ok e)
finish_answers A (ok r st₁) e = sym (ok_ty e)

pub check_answers : (t : Term) (A : Ty) (Γ : Ctx) (st : St) {a : Answer} {st₁ : St} → run t (check A) Γ st ≡ ok a st₁ → a.ty ≡ A
unfolding run perform sorry_run
check_answers (leaf p k) A Γ st e = finish_answers A (obey (leaf_step p k (check A) Γ) tt st) e
check_answers (single p k a) A Γ st e = finish_answers A (obey (single_step p k (place a) (check A) Γ) (kid a (run a), tt) st) e
check_answers (double p k a b) A Γ st e = finish_answers A (obey (double_step p k (place a) (place b) (check A) Γ) (kid a (run a), (kid b (run b), tt)) st) e
check_answers (triple p k a b c) A Γ st e = finish_answers A (obey (triple_step p k (place a) (check A) Γ) (kid a (run a), (kid b (run b), (kid c (run c), tt))) st) e
check_answers (sorry p) A Γ st e = sym (ok_ty e)

pub nodes_some : (t : Term) → 1 ≤ nodes t
unfolding nodes
nodes_some (leaf p k) = omega arith
nodes_some (single p k a) = omega arith
nodes_some (double p k a b) = omega arith
nodes_some (triple p k a b c) = omega arith
nodes_some (sorry p) = omega arith

pub leaving_same : (s : State) (n : ℕ) → s.context ≡ n → s ≡ leaving s n
leaving_same s n e i = record { records = s.records; goals = s.goals; serials = s.serials; made = s.made; context = e i; asked = s.asked }

-- THE BEGINNING
pub doing_start : {l : List ℕ} {R : Rooms} {k : ℕ} {w : Mode} {st : State} {a : Arity} (q : Prog a) (ks : Kids a) → Ready l R k st → run_of l R k w st ≡ rest w end (obey q ks (st_of st)) → Doing l R k w st R (inner st) q ks 0 0 0
unfolding records holes width
doing_start q ks rd e =
    record {
      trees = end;
      rule = e;
      left = left_none rd.base.loaded.arena;
      made = rd.base.made;
      few_records = omega arith;
      few_holes = omega arith;
      few_serials = omega arith;
      broad = refl;
    }

module _ {l : List ℕ} {R₀ : Rooms} {k : ℕ} {w : Mode} {st₀ : State} {R : Rooms} {st : State} {a : Arity} {q : Prog a} {ks : Kids a} {used own wide : ℕ} where
  -- what holds of the rooms
  pub doing_base : Base l R₀ st₀ → Doing l R₀ k w st₀ R st q ks used own wide → Base l R st
  doing_base b d =
      let f = d.left.grown in
      let e = d.left.context in
      record {
        table = b.table;
        loaded = loaded_kept l b.loaded.arena f b.loaded;
        entries = subst⁻¹ (λ (n : ℕ). Entries R.work n (count_of l st)) e (entries_kept f st₀.context (omega arith) b.entries);
        made = d.made;
        tree_room = omega (arith, b.tree_room, f.tree_long);
        goals_room = omega (arith, b.goals_room, f.goals_long);
        work_room = omega (arith, b.work_room, f.work_long);
      }

  -- the context is the one that the rule was given
  pub doing_ctx : Base l R₀ st₀ → Doing l R₀ k w st₀ R st q ks used own wide → ctx_of l R.props R.work st₀.context ≡ ctx_of l R₀.props R₀.work st₀.context
  doing_ctx b d = ctx_kept l b.loaded.arena d.left.grown st₀.context (omega arith) b.entries

  -- what stood for a type still does
  pub doing_stands : {T : Sort} {A : Ty} → Base l R₀ st₀ → Doing l R₀ k w st₀ R st q ks used own wide → Stands l R₀.props (count_of l st₀) T A → Stands l R.props (count_of l st) T A
  doing_stands b d s = stands_kept l b.loaded.arena d.left.grown s

  -- the rest of the program is the same as another
  pub doing_same : {q' : Prog a} → q ≡ q' → Doing l R₀ k w st₀ R st q ks used own wide → Doing l R₀ k w st₀ R st q' ks used own wide
  doing_same e d = subst (λ (q : Prog a). Doing l R₀ k w st₀ R st q ks used own wide) e d

  -- a step without a premise, which may make j serials
  pub doing_step : {R' : Rooms} {st' : State} (q' : Prog a) (j : ℕ) → Doing l R₀ k w st₀ R st q ks used own wide → Left l R R' st st' end → st'.made ≤ limit → st'.serials ≤ st.serials + j → obey q ks (st_of st) ≡ obey q' ks (st_of st')
      → Doing l R₀ k w st₀ R' st' q' ks used (own + j) wide
  doing_step {R'} {st'} q' j d f m s e =
      record {
        trees = d.trees;
        rule = d.rule ∙ ap (rest w d.trees) e;
        left = subst (Left l R₀ R' (inner st₀) st') (join_end d.trees) (left_trans d.left f);
        made = m;
        few_records = d.few_records;
        few_holes = d.few_holes;
        few_serials = omega (arith, d.few_serials);
        broad = d.broad;
      }

  -- a child may be run: it and those before it are among the term's nodes, and at most two serials and two entries are the rule's own
  pub doing_ready : {s : State} (m j : ℕ) → Ready l R₀ k st₀ → Doing l R₀ k w st₀ R st q ks used own wide → m < terms l → 1 + used + nodes (term_at l m) ≤ nodes (term_at l k) → own ≤ 2 → j ≤ 2
      → s ≡ leaving st (st.context + j) → Entries R.work (st.context + j) (count_of l st) → Ready l R m s
  doing_ready {s} m j rd d h n a b e t =
      let base = doing_base rd.base d in
      let er = d.left.records in
      let eg = d.left.goals in
      let ec = d.left.context in
      subst⁻¹ (Ready l R m) e
      record {
        base =
            record {
              table = base.table;
              loaded = base.loaded;
              entries = t;
              made = base.made;
              tree_room = base.tree_room;
              goals_room = base.goals_room;
              work_room = base.work_room;
            };
        here = h;
        records = omega (arith, rd.records, d.few_records);
        goals = omega (arith, rd.goals, d.few_holes);
        serials = omega (arith, rd.serials, d.few_serials);
        context = omega (arith, rd.context);
      }

  -- THE END, where the program stops
  pub doing_stop : (r : Fault) → Doing l R₀ k w st₀ R st q ks used own wide → obey q ks (st_of st) ≡ stop r → run_of l R₀ k w st₀ ≡ stop r
  doing_stop r d e = d.rule ∙ ap (rest w d.trees) e ∙ rest_refused w d.trees r

-- A PREMISE. It ran in a context of n entries, and the rule goes on with as many as before
module _ {l : List ℕ} {R₀ : Rooms} {k : ℕ} {w : Mode} {st₀ : State} {R : Rooms} {st s : State} {used own wide : ℕ} (m n : ℕ) {a : Arity} {w' : Mode} {Γ' : Ctx} {q : Ty → Prog a} {ks : Kids a}
    (d : Doing l R₀ k w st₀ R st (ask w' Γ' q) (kid_at l m, ks) used own wide) (deep : st.context ≤ n) (es : s ≡ leaving st n) (eΓ : Γ' ≡ ctx_of l R.props R.work n)
    (v : Want) (e : w' ≡ mode l R.props v) (R₁ : Rooms) where
  asked : run (term_at l m) w' Γ' (st_of st) ≡ run_of l R m (mode l R.props v) s
  asked = (λ i. run (term_at l m) (e i) (eΓ i) (st_of st)) ∙ sym (ap (run_of l R m (mode l R.props v)) es)

  -- what it answers is the type that the rule goes on with
  pub doing_went : {T : Sort} {s₁ : State} → RanAs l R R₁ m v s (Ok (record { typ = T; state = s₁ }))
      → (A : Ty) × Stands l R₁.props (count_of l s₁) T A × Doing l R₀ k w st₀ R₁ (leaving s₁ st.context) (q A) ks (used + nodes (term_at l m)) own (wide + 1)
  doing_went {s₁ = s₁} ans =
      let acc = ans.accepted in
      let runs : run (term_at l m) w' Γ' (st_of st) ≡ ok acc.answer (st_of s₁) = asked ∙ acc.accepts in
      let spent : Spent (nodes (term_at l m)) (st_of st) acc.answer (st_of s₁) = run_spends (term_at l m) w' Γ' (st_of st) acc.answer (st_of s₁) runs in
      let left : Left l R R₁ st (leaving s₁ st.context) acc.answer.tree = left_leave st.context deep (subst (λ (s : State). Left l R R₁ s s₁ acc.answer.tree) es acc.left) in
      let ts = d.trees in (
        acc.answer.ty,
        ans.type,
        record {
          trees = ts ⊕ acc.answer.tree;
          rule = d.rule ∙ rest_ask w ts w' Γ' q (kid_at l m, ks) (st_of st) acc.answer (st_of s₁) runs;
          left = left_trans d.left left;
          made = spent.within d.made;
          few_records = omega (arith, d.few_records, spent.records, records_beside ts acc.answer.tree);
          few_holes = omega (arith, d.few_holes, spent.holes, holes_beside ts acc.answer.tree);
          few_serials = omega (arith, d.few_serials, spent.serials);
          broad = omega (arith, d.broad, spent.one, width_beside ts acc.answer.tree);
        },
      )

  -- its refusal is the rule's
  pub doing_refused : (r : Refusal) → RanAs l R R₁ m v s (Err r) → Refuses (run_of l R₀ k w st₀) r
  doing_refused r h = doing_stop (refusal_of r) d (ask_refused w' Γ' q (kid_at l m, ks) (st_of st) (refusal_of r) (asked ∙ h))

-- THE NODE, put in the record that was kept for it
module _ {l : List ℕ} {R₀ : Rooms} {k : ℕ} {w : Mode} {st₀ : State} {R : Rooms} {st : State} {a : Arity} {q : Prog a} {ks : Kids a} {used own wide : ℕ} where
  pub doing_put : Ready l R₀ k st₀ → Doing l R₀ k w st₀ R st q ks used own wide → 16 * st₀.records + 16 ≤ length R.tree
  doing_put rd d = omega (arith, rd.records, nodes_some (term_at l k), rd.base.tree_room, d.left.grown.tree_long)

module _ {l : List ℕ} {R₀ : Rooms} {k : ℕ} {w : Mode} {st₀ : State} {R : Rooms} {st : State} {used own wide : ℕ} {A B : Ty} {rule : ℕ} {is : List ℕ}
    (d : Doing l R₀ k w st₀ R st (conclude B (record { rule = rule; term = k; concludes = A; serials = is } ∷ [])) tt used own wide) where
  concluded : run_of l R₀ k w st₀ ≡ ok (record { ty = answered w B; tree = node (record { rule = rule; term = k; concludes = A; serials = is }) d.trees end }) (st_of st)
  unfolding stack
  concluded = d.rule ∙ rest_conclude w d.trees B (record { rule = rule; term = k; concludes = A; serials = is } ∷ []) (st_of st)

  module _ {T : Sort} {nd : Record} {tr : List ℕ} (says : Stands l R.props (count_of l st) T A) (e : nd ≡ node_rec rule k T (first_serial is) (second_serial is) wide) (put : Put R.tree st₀.records nd tr) where
    topped : Left l R₀ (rooms tr R.goals R.props R.work) st₀ st (node (record { rule = rule; term = k; concludes = A; serials = is }) d.trees end)
    unfolding TreesAre PicturesAre records holes
    topped =
        let f = d.left.grown in
        record {
          records = omega (arith, d.left.records);
          goals = omega (arith, d.left.goals);
          context = d.left.context;
          asked = d.left.asked;
          trees = (
            record {
              typ = T;
              stands = says;
              is = put.here ∙ e ∙ ap (node_rec rule k T (first_serial is) (second_serial is)) (sym d.broad);
            },
            trees_kept l R (rooms tr R.goals R.props R.work) f.arena (λ i h. refl) (omega arith) (st₀.records + 1) st₀.goals d.trees (λ i lo hi. put.others i (omega arith)) (λ i lo hi. refl) d.left.trees,
            tt,
          );
          pictures = (d.left.pictures, tt);
          grown =
              record {
                arena = f.arena;
                more = f.more;
                props = f.props;
                tree = λ i h. put.others i (omega arith) ∙ f.tree i (omega arith);
                goals = f.goals;
                work = f.work;
                picture = f.picture;
                props_long = f.props_long;
                tree_long = put.size ∙ f.tree_long;
                goals_long = f.goals_long;
                work_long = f.work_long;
              };
        }

    pub doing_has : {U : Sort} → Stands l R.props (count_of l st) U (answered w B) → Answers l R₀ (rooms tr R.goals R.props R.work) st₀ st U (run_of l R₀ k w st₀)
    doing_has u =
        record {
          accepted = record { answer = record { ty = answered w B; tree = node (record { rule = rule; term = k; concludes = A; serials = is }) d.trees end }; accepts = concluded; left = topped };
          type = u;
        }
