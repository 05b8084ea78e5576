-- What the edited table stands for: the old script with the filling in the Sorry's place. Of the filling nothing changes but its
-- record numbers, so what the rules run at the hole is what its author wrote. Proved in proofs/Renumbered.antt.
-- Assumes nothing.
use Rattle.std.specs.Prelude.{◌≡◌, cond, List, ℕ, ◌<◌, eqb}
use Rattle.std.proofs.Math.Option.{Option, none, some}
use Rattle.layout.specs.File.{props, terms}
use Rattle.rules.specs.Prop.{Origin, table, made, Prop, Ty, prop, datatype, walk}
use Rattle.rules.specs.Term.{Single, fst, snd, left, right, abort, fun, ascribe, Term, leaf, single, double, triple, sorry, plug}
use Rattle.table.specs.Reading.{prop_at, term_at}
use Rattle.editing.specs.Edited.{new_prop, new_term, Fillable, Edited}

-- A PROPOSITION of the filling, in a table that had p of them: its nodes stand elsewhere, and its parameters stay
abbrev pub renumbered_origin : ℕ → Origin → Origin
renumbered_origin p (table n) = table (new_prop p n)
renumbered_origin p made = made

abbrev pub renumbered_prop : ℕ → Prop → Prop
renumbered_prop p P = walk (renumbered_origin p) (λ d x. x) 0 P

abbrev pub renumbered_type : ℕ → Ty → Ty
renumbered_type p (prop P) = prop (renumbered_prop p P)
renumbered_type p (datatype D) = datatype D

abbrev pub renumbered_annotation : ℕ → Option Ty → Option Ty
renumbered_annotation p none = none
renumbered_annotation p (some T) = some (renumbered_type p T)

abbrev pub renumbered_single : ℕ → Single → Single
renumbered_single p fst = fst
renumbered_single p snd = snd
renumbered_single p left = left
renumbered_single p right = right
renumbered_single p abort = abort
renumbered_single p (fun x A) = fun x (renumbered_annotation p A)
renumbered_single p (ascribe T) = ascribe (renumbered_type p T)

-- A TERM of it, whose node i is now number g i
unfoldable pub renumbered : ℕ → (ℕ → ℕ) → Term → Term
renumbered p g (leaf i k) = leaf (g i) k
renumbered p g (single i k a) = single (g i) (renumbered_single p k) (renumbered p g a)
renumbered p g (double i k a b) = double (g i) k (renumbered p g a) (renumbered p g b)
renumbered p g (triple i k a b c) = triple (g i) k (renumbered p g a) (renumbered p g b) (renumbered p g c)
renumbered p g (sorry i) = sorry (g i)

-- the root has the Sorry record's number q, and the others stand behind the t old terms
abbrev pub new_place : (t q i : ℕ) → ℕ
new_place t q i = cond (eqb i 0) q (new_term t i)

abbrev pub filling_in : (old f : List ℕ) → ℕ → Term
filling_in old f q = renumbered (props old) (new_place (terms old) q) (term_at f 0)

-- THE EDITED TABLE's root, its hole, and the propositions of both
pub record StandsFor (old f : List ℕ) (q : ℕ) (e : List ℕ) : Type 0 where
  pub root : term_at e 0 ≡ plug q (filling_in old f q) (term_at old 0)
  pub hole : term_at e q ≡ filling_in old f q
  pub old_prop : (n : ℕ) → n < props old → prop_at e n ≡ prop_at old n
  pub added_prop : (j : ℕ) → j < props f → prop_at e (new_prop (props old) j) ≡ renumbered_prop (props old) (prop_at f j)

abbrev pub EditedStandsFor : Type 0
EditedStandsFor = (old f : List ℕ) (q : ℕ) (e : List ℕ) → Fillable old f q → Edited old f q e → StandsFor old f q e
