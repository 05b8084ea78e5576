-- A rule in the middle: some trees stand already, and the rest of its program is still to be obeyed. Assumes nothing.
use mathlib.Core.Path.{◌≡◌, refl, ap, sym, ◌∙◌}
use mathlib.Core.Bool.{Bool, true, false, cond}
use mathlib.Core.List.{List, [], ◌∷◌}
use mathlib.Core.Option.{Option, none, some}
use Prim.Native.Nat.{ℕ}
use Rattle.rules.specs.Prop.{Ty, eq, alpha}
use Rattle.rules.specs.Context.{Ctx}
use Rattle.rules.specs.State.{St, next, spend, room}
use Rattle.rules.specs.Tree.{Node, Trees, end, node, ◌⊕◌, stack}
use Rattle.rules.specs.Step.{Want, synth, check, Refusal, refusal, Out, stop, refused, ok, then, Answer, Steps, Arity, more, Prog, conclude, halt, serial, make, name_of, ask, Kids, Step, with_kid, named, obey, answered, finish, perform, against, expecting}
use Rattle.rules.proofs.Filling.{join_assoc, join_end}
use Rattle.step.specs.Under.{rest}

pub rest_start : {n : Arity} (rule : Step n) (ks : Kids n) (w : Want) (Γ : Ctx) (st : St) → perform rule ks w Γ st ≡ rest w end (obey (rule w Γ) ks st)
unfolding perform rest then ◌⊕◌
rest_start rule ks w Γ st = at (obey (rule w Γ) ks st)
  where
    at : (o : Out Steps) → then o (finish w) ≡ rest w end o
    at (stop r) = refl
    at (ok r st₁) = refl

pub rest_refused : (w : Want) (ts : Trees) (r : Refusal) → rest w ts (stop r) ≡ stop r
unfolding rest then
rest_refused w ts r = refl

-- a premise more
pub rest_ask : {n : Arity} (w : Want) (ts : Trees) (w' : Want) (Γ : Ctx) (k : Ty → Prog n) (ks : Kids (more n)) (st : St) (a : Answer) (st₁ : St) → ks.0.run w' Γ st ≡ ok a st₁
    → rest w ts (obey (ask w' Γ k) ks st) ≡ rest w (ts ⊕ a.tree) (obey (k a.ty) ks.1 st₁)
unfolding obey then rest with_kid
rest_ask w ts w' Γ k ks st a st₁ e =
    ap (λ (o : Out Answer). rest w ts (then o (λ a st₁. then (obey (k a.ty) ks.1 st₁) (with_kid a)))) e ∙ at (obey (k a.ty) ks.1 st₁)
  where
    at : (o : Out Steps) → rest w ts (then o (with_kid a)) ≡ rest w (ts ⊕ a.tree) o
    at (stop r) = refl
    at (ok r st₂) = ap (λ (us : Trees). finish w (record { ty = r.ty; nodes = r.nodes; premises = us }) st₂) (sym (join_assoc ts a.tree r.premises))

pub ask_refused : {n : Arity} (w' : Want) (Γ : Ctx) (k : Ty → Prog n) (ks : Kids (more n)) (st : St) (r : Refusal) → ks.0.run w' Γ st ≡ stop r → obey (ask w' Γ k) ks st ≡ stop r
unfolding obey then
ask_refused w' Γ k ks st r e = ap (λ (o : Out Answer). then o (λ a st₁. then (obey (k a.ty) ks.1 st₁) (with_kid a))) e

-- the last step
pub rest_conclude : (w : Want) (ts : Trees) (A : Ty) (ns : List Node) (st : St) → rest w ts (obey (conclude A ns) tt st) ≡ ok (record { ty = answered w A; tree = stack ns ts }) st
unfolding rest obey then finish
rest_conclude w ts A ns st = ap (λ (us : Trees). ok (record { ty = answered w A; tree = stack ns us }) st) (join_end ts)

-- A CHECK BY COMPARISON: what is synthesized is held against what is expected
unfoldable pub compared_with : ℕ → Ty → Answer → St → Out Answer
compared_with p A a st =
    cond (eq a.ty A) (ok (record { ty = A; tree = a.tree }) st)
    (cond (alpha a.ty A) (ok (record { ty = A; tree = node (record { rule = 16; term = p; concludes = A; serials = [] }) a.tree end }) st) (refused 14 p))

against_rest : (p : ℕ) (A B : Ty) (ns : List Node) (ts : Trees) (st : St) → rest (check A) ts (obey (against p A B ns) tt st) ≡ compared_with p A (record { ty = B; tree = stack ns ts }) st
unfolding against compared_with answered stack obey
against_rest p A B ns ts st = at (eq B A) refl (alpha B A) refl
  where
    at : (b : Bool) → eq B A ≡ b → (c : Bool) → alpha B A ≡ c → rest (check A) ts (obey (against p A B ns) tt st) ≡ compared_with p A (record { ty = B; tree = stack ns ts }) st
    at true x c y = rw x (rest_conclude (check A) ts A ns st)
    at false x true y = rw (x, y) (rest_conclude (check A) ts A (record { rule = 16; term = p; concludes = A; serials = [] } ∷ ns) st)
    at false x false y = rw (x, y) (rest_refused (check A) ts (refusal 14 p))

pub expecting_rest : {n : Arity} (p : ℕ) (A : Ty) (q : Prog n) (ks : Kids n) (ts : Trees) (st : St)
    → rest (check A) ts (obey (expecting p A q) ks st) ≡ then (rest synth ts (obey q ks st)) (compared_with p A)
unfolding expecting obey then rest named answered
expecting_rest p A (conclude B ns) ks ts st = against_rest p A B ns ts st ∙ sym (ap (λ (o : Out Answer). then o (compared_with p A)) (rest_conclude synth ts B ns st))
expecting_rest p A (halt r) ks ts st = refl
expecting_rest p A (serial k) ks ts st = expecting_rest p A (k st.serials) ks ts (next st)
expecting_rest p A (make c q k) ks ts st = at (room c st) (expecting_rest p A k ks ts (spend c st))
  where
    at : (b : Bool) → rest (check A) ts (obey (expecting p A k) ks (spend c st)) ≡ then (rest synth ts (obey k ks (spend c st))) (compared_with p A) → rest (check A) ts (cond b (obey (expecting p A k) ks (spend c st)) (refused 30 q)) ≡ then (rest synth ts (cond b (obey k ks (spend c st)) (refused 30 q))) (compared_with p A)
    at true e = e
    at false e = refl
expecting_rest p A (name_of r k) ks ts st = at ks.0.ident (λ y. expecting_rest p A (k y) ks ts st)
  where
    at : (x : Option ℕ) → ((y : ℕ) → rest (check A) ts (obey (expecting p A (k y)) ks st) ≡ then (rest synth ts (obey (k y) ks st)) (compared_with p A)) → rest (check A) ts (named x (stop r) (λ y. obey (expecting p A (k y)) ks st)) ≡ then (rest synth ts (named x (stop r) (λ y. obey (k y) ks st))) (compared_with p A)
    at none h = refl
    at (some y) h = h y
expecting_rest p A (ask w Γ k) ks ts st = at (ks.0.run w Γ st) refl (λ a st₁. expecting_rest p A (k a.ty) ks.1 (ts ⊕ a.tree) st₁)
  where
    at : (o : Out Answer) → ks.0.run w Γ st ≡ o
        → ((a : Answer) (st₁ : St) → rest (check A) (ts ⊕ a.tree) (obey (expecting p A (k a.ty)) ks.1 st₁) ≡ then (rest synth (ts ⊕ a.tree) (obey (k a.ty) ks.1 st₁)) (compared_with p A))
        → rest (check A) ts (obey (ask w Γ (λ B. expecting p A (k B))) ks st) ≡ then (rest synth ts (obey (ask w Γ k) ks st)) (compared_with p A)
    at (stop r) e h = ap (rest (check A) ts) (ask_refused w Γ (λ B. expecting p A (k B)) ks st r e) ∙ sym (ap (λ (o : Out Steps). then (rest synth ts o) (compared_with p A)) (ask_refused w Γ k ks st r e))
    at (ok a st₁) e h =
        rest_ask (check A) ts w Γ (λ B. expecting p A (k B)) ks st a st₁ e
        ∙ h a st₁
        ∙ sym (ap (λ (o : Out Answer). then o (compared_with p A)) (rest_ask synth ts w Γ k ks st a st₁ e))
