-- What an accepted run spends, by the nodes of its term: the records and gaps of its tree, serials, propositions; and by the time that it reaches a gap,
-- serials and entries. It answers one tree.
-- Assumes nothing.
use mathlib.Core.Path.{◌≡◌, refl, ◌∙◌, ap, subst}
use mathlib.Core.Bool.{Bool, true, false, cond}
use mathlib.Core.List.{List, [], ◌∷◌}
use mathlib.Core.Option.{Option, none, some}
use Prim.Native.Nat.{ℕ, suc, ◌+◌, ◌*◌, ◌≤◌}
use native.Mathlib.Omega.{arith}
use lib.Dec.{T, leb, leb→le}
use lib.ListN.{length, length-append}
use Rattle.rules.specs.Prop.{Link, Quant, Prop, Ty, const, link, quant, atom, prop, datatype, same_link, same_quant, eq, alpha, size_ty}
use Rattle.rules.specs.Context.{Entry, Ctx, find, resolve}
use Rattle.rules.specs.State.{St, limit, next, spend, room}
use Rattle.rules.specs.Term.{Leaf, ident, unit, Single, fst, snd, left, right, abort, fun, ascribe, Double, pair, app, let_in, Triple, case, Term, leaf, single, double, triple, sorry, place, nodes}
use Rattle.rules.specs.Tree.{Node, Gap, Trees, end, gap, node, ◌⊕◌, stack, goals, records, holes, width, EveryGap}
use Rattle.rules.specs.Step.{Want, synth, check, Refusal, Out, stop, refused, ok, then, Answer, Steps, Run, Arity, done, more, Prog, conclude, halt, refuse, serial, make, name_of, ask, Kids, Step, with_kid, named, obey, finish, perform, on_link, on_quant, on_prop, on_found, on_type, look_up, objected, resolved, against, expecting}
use Rattle.rules.specs.Rules.{one, two, by, ident_synth, ident_step, project_synth, project_step, applying, app_synth, app_step, pair_step, annotated, fun_body, abstracted, fun_synth, opening, fun_step, closing, let_close, let_opening, let_step, inject_step, case_step, abort_step, unit_step, ascribe_step, leaf_step, single_step, double_step, triple_step, sorry_run, run}
use Rattle.rules.specs.Filling.{At}
use Rattle.rules.proofs.Gaps.{every_join, every_stack, every_map, every_at}

-- COUNTS of trees side by side
pub records_beside : (ts us : Trees) → records (ts ⊕ us) ≡ records ts + records us
unfolding records ◌⊕◌
records_beside end us = omega arith
records_beside (gap g ts) us = omega (arith, records_beside ts us)
records_beside (node n ps ts) us = omega (arith, records_beside ts us)

pub holes_beside : (ts us : Trees) → holes (ts ⊕ us) ≡ holes ts + holes us
unfolding holes ◌⊕◌
holes_beside end us = omega arith
holes_beside (gap g ts) us = omega (arith, holes_beside ts us)
holes_beside (node n ps ts) us = omega (arith, holes_beside ts us)

pub width_beside : (ts us : Trees) → width (ts ⊕ us) ≡ width ts + width us
unfolding width ◌⊕◌
width_beside end us = omega arith
width_beside (gap g ts) us = omega (arith, width_beside ts us)
width_beside (node n ps ts) us = omega (arith, width_beside ts us)

pub holes_goals : (ts : Trees) → holes ts ≡ length (goals ts)
unfolding holes goals
holes_goals end = refl
holes_goals (gap g ts) = ap suc (holes_goals ts)
holes_goals (node n ps ts) = omega (arith, holes_goals ps, holes_goals ts, length-append (goals ps) (goals ts))

-- WHAT IS SPENT by a term of n nodes
pub record Spent (n : ℕ) (st : St) (a : Answer) (st₁ : St) : Type 0 where
  pub one : width a.tree ≡ 1
  pub records : records a.tree ≤ 2 * n
  pub holes : holes a.tree ≤ n
  pub serials : st₁.serials ≤ st.serials + 2 * n
  pub serials_grow : st.serials ≤ st₁.serials
  pub made_grow : st.made ≤ st₁.made
  pub within : st.made ≤ limit → st₁.made ≤ limit

-- and by the time that it reaches a gap, from m entries: that gap's own node has given nothing
pub record Reached (n m : ℕ) (st : St) (g : Gap) : Type 0 where
  pub serials : g.state.serials + 2 ≤ st.serials + 2 * n
  pub entries : length g.ctx + 2 ≤ m + 2 * n

-- a context with at most two entries more
data Near (Γ : Ctx) : Ctx → Type 0 where
  near_same : Near Γ Γ
  near_one : {e : Entry} → Near Γ (e ∷ Γ)
  near_two : {d e : Entry} → Near Γ (d ∷ (e ∷ Γ))

near_few : {Γ Δ : Ctx} → Near Γ Δ → length Δ ≤ length Γ + 2
near_few near_same = omega arith
near_few near_one = omega arith
near_few near_two = omega arith

-- PROGRAMS that ask in contexts near to Γ, conclude with nodes that P holds of and, where u serials were made before, make at most 2 in all
data Thrifty (P : List Node → Type 0) (Γ : Ctx) : (n : Arity) → ℕ → Prog n → Type 0 where
  t_conclude : {u : ℕ} {A : Ty} {ns : List Node} → T (leb u 2) → P ns → Thrifty P Γ done u (conclude A ns)
  t_refuse : {n : Arity} {u : ℕ} {r : Refusal} → Thrifty P Γ n u (halt r)
  t_serial : {n : Arity} {u : ℕ} {k : ℕ → Prog n} → ((i : ℕ) → Thrifty P Γ n (suc u) (k i)) → Thrifty P Γ n u (serial k)
  t_make : {n : Arity} {u c p : ℕ} {k : Prog n} → Thrifty P Γ n u k → Thrifty P Γ n u (make c p k)
  t_name : {n : Arity} {u : ℕ} {r : Refusal} {k : ℕ → Prog (more n)} → ((x : ℕ) → Thrifty P Γ (more n) u (k x)) → Thrifty P Γ (more n) u (name_of r k)
  t_ask : {n : Arity} {u : ℕ} {w : Want} {Δ : Ctx} {k : Ty → Prog n} → Near Γ Δ → ((A : Ty) → Thrifty P Γ n u (k A)) → Thrifty P Γ (more n) u (ask w Δ k)

-- one node; or, of a rule for so many children, at most two: none only over a single child
abbrev Alone : List Node → Type 0
Alone [] = ⊥
Alone (n ∷ []) = Unit {0}
Alone (n ∷ (m ∷ ns)) = ⊥

abbrev Few : Arity → List Node → Type 0
Few r [] = r ≡ one
Few r (n ∷ []) = Unit {0}
Few r (n ∷ (m ∷ [])) = Unit {0}
Few r (n ∷ (m ∷ (l ∷ ns))) = ⊥

-- PARTS of rules
module _ {P : List Node → Type 0} {Γ₀ : Ctx} {n : Arity} {u : ℕ} where
  test_thrifty : (b : Bool) {k z : Prog n} → Thrifty P Γ₀ n u k → Thrifty P Γ₀ n u z → Thrifty P Γ₀ n u (cond b k z)
  test_thrifty true hk hz = hk
  test_thrifty false hk hz = hz

  link_thrifty : (l : Link) (A : Ty) {k : Prop → Prop → Prog n} {z : Prog n} → ((B C : Prop) → Thrifty P Γ₀ n u (k B C)) → Thrifty P Γ₀ n u z → Thrifty P Γ₀ n u (on_link l A k z)
  unfolding on_link
  link_thrifty l (datatype D) hk hz = hz
  link_thrifty l (prop (const o b)) hk hz = hz
  link_thrifty l (prop (link o h B C)) hk hz = test_thrifty (same_link l h) (hk B C) hz
  link_thrifty l (prop (quant o q x D B)) hk hz = hz
  link_thrifty l (prop (atom o p xs)) hk hz = hz

  quant_thrifty : (q : Quant) (A : Ty) {k : ℕ → ℕ → Prop → Prog n} {z : Prog n} → ((x D : ℕ) (B : Prop) → Thrifty P Γ₀ n u (k x D B)) → Thrifty P Γ₀ n u z → Thrifty P Γ₀ n u (on_quant q A k z)
  unfolding on_quant
  quant_thrifty q (datatype D) hk hz = hz
  quant_thrifty q (prop (const o b)) hk hz = hz
  quant_thrifty q (prop (link o h B C)) hk hz = hz
  quant_thrifty q (prop (quant o r x D B)) hk hz = test_thrifty (same_quant q r) (hk x D B) hz
  quant_thrifty q (prop (atom o p xs)) hk hz = hz

  prop_thrifty : (A : Ty) {k : Prop → Prog n} {z : Prog n} → ((B : Prop) → Thrifty P Γ₀ n u (k B)) → Thrifty P Γ₀ n u z → Thrifty P Γ₀ n u (on_prop A k z)
  unfolding on_prop
  prop_thrifty (prop B) hk hz = hk B
  prop_thrifty (datatype D) hk hz = hz

  look_up_thrifty : (c p : ℕ) (Γ : Ctx) (x : ℕ) {k : Entry → Prog n} → ((e : Entry) → Thrifty P Γ₀ n u (k e)) → Thrifty P Γ₀ n u (look_up c p Γ x k)
  unfolding look_up on_found
  look_up_thrifty c p Γ x {k} hk = at (find x Γ)
    where
      at : (o : Option Entry) → Thrifty P Γ₀ n u (on_found o k (refuse c p))
      at none = t_refuse
      at (some e) = hk e

  resolved_thrifty : (c p : ℕ) (Γ : Ctx) (A : Ty) {k : Ty → Prog n} → ((B : Ty) → Thrifty P Γ₀ n u (k B)) → Thrifty P Γ₀ n u (resolved c p Γ A k)
  unfolding resolved on_type
  resolved_thrifty c p Γ A {k} hk = at (resolve Γ A)
    where
      at : (o : Option Ty) → Thrifty P Γ₀ n u (on_type o (λ B. make (size_ty B) p (k B)) (refuse c p))
      at none = t_refuse
      at (some B) = t_make (hk B)

-- a check adds one node at most
few_same : (r : Arity) (ns : List Node) → Alone ns → Few r ns
few_same r [] h = absurd h
few_same r (n ∷ []) h = tt
few_same r (n ∷ (m ∷ ns)) h = absurd h

few_more : (r : Arity) (n : Node) (ns : List Node) → Alone ns → Few r (n ∷ ns)
few_more r n [] h = absurd h
few_more r n (m ∷ []) h = tt
few_more r n (m ∷ (l ∷ ns)) h = absurd h

expecting_thrifty : (r : Arity) {Γ : Ctx} {n : Arity} {u : ℕ} (p : ℕ) (A : Ty) {k : Prog n} → Thrifty Alone Γ n u k → Thrifty (Few r) Γ n u (expecting p A k)
unfolding expecting against
expecting_thrifty r p A (t_conclude {A = B} {ns = ns} s h) =
    test_thrifty (eq B A) (t_conclude s (few_same r ns h)) (test_thrifty (alpha B A) (t_conclude s (few_more r (record { rule = 16; term = p; concludes = A; serials = [] }) ns h)) t_refuse)
expecting_thrifty r p A t_refuse = t_refuse
expecting_thrifty r p A (t_serial h) = t_serial (λ i. expecting_thrifty r p A (h i))
expecting_thrifty r p A (t_make h) = t_make (expecting_thrifty r p A h)
expecting_thrifty r p A (t_name h) = t_name (λ x. expecting_thrifty r p A (h x))
expecting_thrifty r p A (t_ask z h) = t_ask z (λ B. expecting_thrifty r p A (h B))

ruleset thrift = (near_same, near_one, near_two, t_conclude, t_refuse, t_serial, t_make, t_name, t_ask, test_thrifty, link_thrifty, quant_thrifty, prop_thrifty, look_up_thrifty, resolved_thrifty)

-- THE RULES
abbrev Modest : {n : Arity} → Step n → Type 0
Modest {n} rule = (w : Want) (Γ : Ctx) → Thrifty (Few n) Γ n 0 (rule w Γ)

module _ (p : ℕ) where
  -- what is synthesized in the end, with one node
  module _ {P : List Node → Type 0} (h : (n : Node) → P (n ∷ [])) (Γ : Ctx) where
    ident_synthesis : (x : ℕ) → Thrifty P Γ done 0 (ident_synth p x Γ)
    unfolding ident_synth by
    ident_synthesis x = search (thrift, h) depth 9

    project_synthesis : (b : Bool) → Thrifty P Γ one 0 (project_synth p b Γ)
    unfolding project_synth by
    project_synthesis b = search (thrift, h) depth 9

    app_synthesis : (q r : ℕ) → Thrifty P Γ two 0 (app_synth p q r Γ)
    unfolding app_synth applying objected by
    app_synthesis q r = search (thrift, h) depth 15

  ident_modest : (x : ℕ) → Modest (ident_step p x)
  unfolding ident_step
  ident_modest x synth Γ = ident_synthesis (λ n. tt) Γ x
  ident_modest x (check A) Γ = expecting_thrifty done p A (ident_synthesis (λ n. tt) Γ x)

  project_modest : (b : Bool) → Modest (project_step p b)
  unfolding project_step
  project_modest b synth Γ = project_synthesis (λ n. tt) Γ b
  project_modest b (check A) Γ = expecting_thrifty one p A (project_synthesis (λ n. tt) Γ b)

  app_modest : (q r : ℕ) → Modest (app_step p q r)
  unfolding app_step
  app_modest q r synth Γ = app_synthesis (λ n. tt) Γ q r
  app_modest q r (check A) Γ = expecting_thrifty two p A (app_synthesis (λ n. tt) Γ q r)

  pair_modest : (q : ℕ) → Modest (pair_step p q)
  unfolding pair_step objected by
  pair_modest q synth Γ = search thrift depth 15
  pair_modest q (check A) Γ = search thrift depth 15

  abstracted_thrifty : {Γ : Ctx} (x i : ℕ) (A : Ty) (B : Prop) → Thrifty (Few one) Γ done 1 (abstracted p x i A B)
  unfolding abstracted by
  abstracted_thrifty x i (prop A) B = search thrift
  abstracted_thrifty x i (datatype D) B = search thrift

  fun_modest : (q x : ℕ) (ann : Option Ty) → Modest (fun_step p q x ann)
  unfolding fun_step opening fun_synth fun_body annotated by
  fun_modest q x none synth Γ = search thrift depth 15
  fun_modest q x (some N) synth Γ = search (thrift, abstracted_thrifty) depth 15
  fun_modest q x none (check A) Γ = search thrift depth 15
  fun_modest q x (some N) (check A) Γ = search thrift depth 15

  let_modest : (q r x y : ℕ) → Modest (let_step p q r x y)
  unfolding let_step let_opening let_close closing by
  let_modest q r x y w Γ = search thrift depth 15

  inject_modest : (b : Bool) → Modest (inject_step p b)
  unfolding inject_step by
  inject_modest b synth Γ = search thrift depth 15
  inject_modest b (check A) Γ = search thrift depth 15

  case_modest : (q x y : ℕ) → Modest (case_step p q x y)
  unfolding case_step
  case_modest q x y w Γ = search thrift depth 15

  abort_modest : Modest (abort_step p)
  unfolding abort_step by
  abort_modest synth Γ = search thrift depth 15
  abort_modest (check A) Γ = search thrift depth 15

  unit_modest : Modest (unit_step p)
  unfolding unit_step by
  unit_modest synth Γ = search thrift depth 9
  unit_modest (check A) Γ = search thrift depth 9

  ascribe_modest : (N : Ty) → Modest (ascribe_step p N)
  unfolding ascribe_step
  ascribe_modest N synth Γ = search thrift depth 15
  ascribe_modest N (check A) Γ = search thrift depth 15

  leaf_modest : (k : Leaf) → Modest (leaf_step p k)
  unfolding leaf_step
  leaf_modest (ident x) = ident_modest x
  leaf_modest unit = unit_modest

  single_modest : (k : Single) (q : ℕ) → Modest (single_step p k q)
  unfolding single_step
  single_modest fst q = project_modest true
  single_modest snd q = project_modest false
  single_modest left q = inject_modest true
  single_modest right q = inject_modest false
  single_modest abort q = abort_modest
  single_modest (fun x N) q = fun_modest q x N
  single_modest (ascribe N) q = ascribe_modest N

  double_modest : (k : Double) (q r : ℕ) → Modest (double_step p k q r)
  unfolding double_step
  double_modest pair q r = pair_modest q
  double_modest app q r = app_modest q r
  double_modest (let_in x y) q r = let_modest q r x y

  triple_modest : (k : Triple) (q : ℕ) → Modest (triple_step p k q)
  unfolding triple_step
  triple_modest (case x y) q = case_modest q x y

-- A PROGRAM over children that have c nodes in all
abbrev After : {X : Type 0} → (X → St → Type 0) → Out X → Type 0
After F (stop r) = Unit {0}
After F (ok x st) = F x st

module _ {X : Type 0} (F : X → St → Type 0) where
  after_then : {Y : Type 0} (G : Y → St → Type 0) (o : Out X) (k : X → St → Out Y) → After F o → ((x : X) (st : St) → F x st → After G (k x st)) → After G (then o k)
  unfolding then
  after_then G (stop r) k h hk = tt
  after_then G (ok x st) k h hk = hk x st h

  after_map : (G : X → St → Type 0) (o : Out X) → After F o → ((x : X) (st : St) → F x st → G x st) → After G o
  after_map G (stop r) h hk = tt
  after_map G (ok x st) h hk = hk x st h

  after_make : (G : X → St → Type 0) (b : Bool) (o : Out X) (p : ℕ) → After F o → (T b → (x : X) (st : St) → F x st → G x st) → After G (cond b o (refused 30 p))
  after_make G true o p h hk = after_map G o h (hk tt)
  after_make G false o p h hk = tt

  after_named : (r : Refusal) (o : Option ℕ) (k : ℕ → Out X) → ((y : ℕ) → After F (k y)) → After F (named o (stop r) k)
  unfolding named
  after_named r none k h = tt
  after_named r (some y) k h = h y

-- an accepted run from m entries
abbrev Ran : (n m : ℕ) → St → Answer → St → Type 0
Ran n m st a st₁ = Spent n st a st₁ × EveryGap (Reached n m st) a.tree

abbrev SpentRun : Run → ℕ → Type 0
SpentRun r c = (w : Want) (Γ : Ctx) (st : St) → After (Ran c (length Γ) st) (r w Γ st)

abbrev SpentKids : (n : Arity) → Kids n → ℕ → Type 0
SpentKids done ks c = c ≡ 0
SpentKids (more n) ks c = (a : ℕ) × (b : ℕ) × (c ≡ a + b) × SpentRun ks.0.run a × SpentKids n ks.1 b

unfoldable kids : Arity → ℕ
kids done = 0
kids (more n) = suc (kids n)

-- what it answers, and what it makes when u serials were made before
record Answered (P : List Node → Type 0) (n : Arity) (c : ℕ) (r : Steps) : Type 0 where
  pub nodes : P r.nodes
  pub width : width r.premises ≡ kids n
  pub records : records r.premises ≤ 2 * c
  pub holes : holes r.premises ≤ c

record Made (u c : ℕ) (st st₁ : St) : Type 0 where
  pub serials : u + st₁.serials ≤ 2 + (st.serials + 2 * c)
  pub serials_grow : st.serials ≤ st₁.serials
  pub made_grow : st.made ≤ st₁.made
  pub within : st.made ≤ limit → st₁.made ≤ limit

-- and by the time that it reaches a gap, from m entries
record Below (u c m : ℕ) (st : St) (g : Gap) : Type 0 where
  pub serials : u + (g.state.serials + 2) ≤ 2 + (st.serials + 2 * c)
  pub entries : length g.ctx + 2 ≤ m + (2 + 2 * c)

made_serial : (u c : ℕ) (st st₁ : St) → Made (suc u) c (next st) st₁ → Made u c st st₁
made_serial u c st st₁ h = record { serials = omega (arith, h.serials); serials_grow = omega (arith, h.serials_grow); made_grow = h.made_grow; within = h.within }

made_more : (u c e : ℕ) (st st₁ : St) → T (room e st) → Made u c (spend e st) st₁ → Made u c st st₁
made_more u c e st st₁ t h =
    record { serials = h.serials; serials_grow = h.serials_grow; made_grow = omega (arith, h.made_grow); within = λ _. h.within (leb→le (st.made + e) limit t) }

below_serial : (u c m : ℕ) (st : St) (g : Gap) → Below (suc u) c m (next st) g → Below u c m st g
below_serial u c m st g h = record { serials = omega (arith, h.serials); entries = h.entries }

below_make : (u c m e : ℕ) (st : St) (g : Gap) → Below u c m (spend e st) g → Below u c m st g
below_make u c m e st g h = record { serials = h.serials; entries = h.entries }

module _ (P : List Node → Type 0) (Γ : Ctx) where
  abbrev Taken : Arity → ℕ → ℕ → St → Steps → St → Type 0
  Taken n u c st r st₁ = Answered P n c r × Made u c st st₁ × EveryGap (Below u c (length Γ) st) r.premises

  taken_kid : (n : Arity) (u a b c : ℕ) (Δ : Ctx) (st st₁ st₂ : St) (x : Answer) (r : Steps) → Near Γ Δ → c ≡ a + b → Ran a (length Δ) st x st₁ → Taken n u b st₁ r st₂
      → After (Taken (more n) u c st) (with_kid x r st₂)
  unfolding with_kid kids
  taken_kid n u a b c Δ st st₁ st₂ x r z e (h, i) (g, k, j) = (
    record {
      nodes = g.nodes;
      width = omega (arith, h.one, g.width, width_beside x.tree r.premises);
      records = omega (arith, h.records, g.records, records_beside x.tree r.premises);
      holes = omega (arith, h.holes, g.holes, holes_beside x.tree r.premises);
    },
    record {
      serials = omega (arith, h.serials, k.serials);
      serials_grow = omega (arith, h.serials_grow, k.serials_grow);
      made_grow = omega (arith, h.made_grow, k.made_grow);
      within = λ l. k.within (h.within l);
    },
    every_join (Below u c (length Γ) st) x.tree r.premises
        (every_map (Reached a (length Δ) st) (Below u c (length Γ) st) (λ y l. record { serials = omega (arith, l.serials, k.serials, k.serials_grow); entries = omega (arith, l.entries, near_few z) }) x.tree i)
        (every_map (Below u b (length Γ) st₁) (Below u c (length Γ) st) (λ y l. record { serials = omega (arith, l.serials, h.serials); entries = omega (arith, l.entries) }) r.premises j),
  )

  taken_obey : {n : Arity} {u : ℕ} {q : Prog n} → Thrifty P Γ n u q → (ks : Kids n) (c : ℕ) → SpentKids n ks c → (st : St) → After (Taken n u c st) (obey q ks st)
  unfolding obey records holes width kids
  taken_obey {u = u} (t_conclude s h) ks c e st = (
    record { nodes = h; width = refl; records = omega arith; holes = omega arith },
    record { serials = omega (arith, leb→le u 2 s); serials_grow = omega arith; made_grow = omega arith; within = λ l. l },
    tt,
  )
  taken_obey t_refuse ks c e st = tt
  taken_obey {n} {u} (t_serial {k = k} h) ks c e st =
      after_map (Taken n (suc u) c (next st)) (Taken n u c st) (obey (k st.serials) ks (next st)) (taken_obey (h st.serials) ks c e (next st))
      (λ r st₁ g. (g.0, made_serial u c st st₁ g.1, every_map _ _ (below_serial u c (length Γ) st) r.premises g.2))
  taken_obey {n} {u} (t_make {c = m} {p = p} {k = k} h) ks c e st =
      after_make (Taken n u c (spend m st)) (Taken n u c st) (room m st) (obey k ks (spend m st)) p (taken_obey h ks c e (spend m st))
      (λ t r st₁ g. (g.0, made_more u c m st st₁ t g.1, every_map _ _ (below_make u c (length Γ) m st) r.premises g.2))
  taken_obey {n} {u} (t_name {r = r} {k = k} h) ks c e st = after_named (Taken n u c st) r ks.0.ident (λ x. obey (k x) ks st) (λ x. taken_obey (h x) ks c e st)
  taken_obey {n} {u} (t_ask {n = m} {w = w} {Δ = Δ} {k = k} z h) ks c e st =
      after_then (Ran e.0 (length Δ) st) (Taken n u c st) (ks.0.run w Δ st) _ (e.3 w Δ st) (λ a st₁ g.
      after_then (Taken m u e.1 st₁) (Taken n u c st) (obey (k a.ty) ks.1 st₁) _ (taken_obey (h a.ty) ks.1 e.1 e.4 st₁) (λ r st₂ l.
      taken_kid m u e.0 e.1 c Δ st st₁ st₂ a r z e.2 g l))

-- its nodes stand over the premises
over : (n : Arity) (ns : List Node) (ts : Trees) → Few n ns → width ts ≡ kids n → (width (stack ns ts) ≡ 1) × (records (stack ns ts) ≤ records ts + 2) × (holes (stack ns ts) ≡ holes ts)
unfolding stack records holes width kids
over n [] ts f e = (e ∙ ap kids f, omega arith, refl)
over n (m ∷ []) ts f e = (refl, omega arith, omega arith)
over n (m ∷ (l ∷ [])) ts f e = (refl, omega arith, omega arith)
over n (m ∷ (l ∷ (k ∷ ns))) ts f e = absurd f

stacked : (n : Arity) (c : ℕ) (w : Want) (Γ : Ctx) (st : St) (r : Steps) (st₁ : St) → Taken (Few n) Γ n 0 c st r st₁ → After (Ran (1 + c) (length Γ) st) (finish w r st₁)
unfolding finish
stacked n c w Γ st r st₁ (h, k, g) =
    let s = over n r.nodes r.premises h.nodes h.width in (
      record {
        one = s.0;
        records = omega (arith, s.1, h.records);
        holes = omega (arith, s.2, h.holes);
        serials = omega (arith, k.serials);
        serials_grow = k.serials_grow;
        made_grow = k.made_grow;
        within = k.within;
      },
      every_stack (Reached (1 + c) (length Γ) st) r.nodes r.premises
          (every_map (Below 0 c (length Γ) st) (Reached (1 + c) (length Γ) st) (λ y l. record { serials = omega (arith, l.serials); entries = omega (arith, l.entries) }) r.premises g),
    )

spent_perform : {n : Arity} (rule : Step n) (ks : Kids n) (c : ℕ) → Modest rule → SpentKids n ks c → SpentRun (perform rule ks) (1 + c)
unfolding perform
spent_perform {n} rule ks c h e w Γ st = after_then (Taken (Few n) Γ n 0 c st) _ (obey (rule w Γ) ks st) (finish w) (taken_obey (Few n) Γ (h w Γ) ks c e st) (stacked n c w Γ st)

spent_sorry : (p : ℕ) → SpentRun (sorry_run p) 1
unfolding sorry_run records holes width
spent_sorry p synth Γ st = tt
spent_sorry p (check A) Γ st = (
  record { one = refl; records = omega arith; holes = omega arith; serials = omega arith; serials_grow = omega arith; made_grow = omega arith; within = λ l. l },
  (record { serials = omega arith; entries = omega arith }, tt),
)

-- THE THEOREM
spent_run : (t : Term) → SpentRun (run t) (nodes t)
unfolding run nodes
spent_run (leaf p k) = spent_perform (leaf_step p k) tt 0 (leaf_modest p k) refl
spent_run (single p k a) = spent_perform (single_step p k (place a)) _ _ (single_modest p k (place a)) (nodes a, 0, omega arith, spent_run a, refl)
spent_run (double p k a b) =
    spent_perform (double_step p k (place a) (place b)) _ _ (double_modest p k (place a) (place b)) (nodes a, nodes b, refl, spent_run a, (nodes b, 0, omega arith, spent_run b, refl))
spent_run (triple p k a b c) =
    spent_perform (triple_step p k (place a)) _ _ (triple_modest p k (place a))
    (nodes a, nodes b + nodes c, refl, spent_run a, (nodes b, nodes c, refl, spent_run b, (nodes c, 0, omega arith, spent_run c, refl)))
spent_run (sorry p) = spent_sorry p

module _ (t : Term) (w : Want) (Γ : Ctx) (st : St) (a : Answer) (st₁ : St) (e : run t w Γ st ≡ ok a st₁) where
  ran : Ran (nodes t) (length Γ) st a st₁
  ran = subst (After (Ran (nodes t) (length Γ) st)) e (spent_run t w Γ st)

  pub run_spends : Spent (nodes t) st a st₁
  run_spends = ran.0

  pub gap_reached : {g : Gap} → At g a.tree → Reached (nodes t) (length Γ) st g
  gap_reached p = every_at _ p ran.1
