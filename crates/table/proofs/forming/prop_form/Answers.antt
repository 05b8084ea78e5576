use borrow.Author.Rules.{rules}
use mathlib.Core.Path.{◌≡◌, refl}
use mathlib.Core.Bool.{◌&&◌}
use mathlib.Core.List.{List, [], ◌∷◌}
use Prim.Native.Nat.{ℕ, zero, suc}
use native.Mathlib.Omega.{arith}
use borrow.Author.Tests.{lt-ltb}
use lib.Dec.{eqb, ltb}
use lib.ListN.{length, drop, get_or}
use Rattle.std.specs.List.{list_all}
use Rattle.std.proofs.Common.{tests}
use Rattle.std.proofs.Math.Bool.{and_assoc, and-true}
use Rattle.std.proofs.lemmas.Iterator.{YieldsList-from_slice}
use Rattle.std.proofs.lemmas.Iterator.Adapters.{YieldsList-from_skip}
use Rattle.std.proofs.lemmas.Iterator.Search.{all_from_yields_List}
use Rattle.layout.specs.Form.{fits, prop_form}
use Rattle.table.proofs.forming.prop_form.Goals as goal

-- four parameters, of which the first k are used
rest_zero : (k : ℕ) (xs : List ℕ) → length xs ≡ 4
    → list_all (λ x. eqb x 0) (drop k xs)
    ≡ (fits (ltb 0 k) (get_or xs 0 0) && (fits (ltb 1 k) (get_or xs 1 0) && (fits (ltb 2 k) (get_or xs 2 0) && fits (ltb 3 k) (get_or xs 3 0))))
rest_zero k [] h = absurd (omega arith)
rest_zero k (a ∷ []) h = absurd (omega arith)
rest_zero k (a ∷ b ∷ []) h = absurd (omega arith)
rest_zero k (a ∷ b ∷ c ∷ []) h = absurd (omega arith)
rest_zero k (a ∷ b ∷ c ∷ d ∷ e ∷ xs) h = absurd (omega arith)
rest_zero zero (a ∷ b ∷ c ∷ d ∷ []) h = simp and-true
rest_zero (suc zero) (a ∷ b ∷ c ∷ d ∷ []) h = simp and-true
rest_zero (suc (suc zero)) (a ∷ b ∷ c ∷ d ∷ []) h = simp and-true
rest_zero (suc (suc (suc zero))) (a ∷ b ∷ c ∷ d ∷ []) h = simp and-true
rest_zero (suc (suc (suc (suc zero)))) (a ∷ b ∷ c ∷ d ∷ []) h = refl
rest_zero (suc (suc (suc (suc (suc k))))) (a ∷ b ∷ c ∷ d ∷ []) h =
    rw (lt-ltb 0 (suc (suc (suc (suc (suc k))))) (omega arith), lt-ltb 1 (suc (suc (suc (suc (suc k))))) (omega arith), lt-ltb 2 (suc (suc (suc (suc (suc k))))) (omega arith), lt-ltb 3 (suc (suc (suc (suc (suc k))))) (omega arith))

pub returns : goal.returns
unfolding prop_form
returns c =
    let r = c.args.r in
    let e = all_from_yields_List (λ (x : ℕ). eqb x 0) _ _ c.all-rest.result c.all-rest.ensures.ran (YieldsList-from_skip r.count (YieldsList-from_slice r.parameters cc) cc) (λ x b q k. search (rules, tests)) in
    let four : length r.parameters ≡ 4 = search rules in
    simp and_assoc (cc (e, rest_zero r.count r.parameters four))
