-- What a table's records stand for: a proposition and a term of the rules, read from any bytes.
-- Assumes nothing.
use Rattle.std.specs.Prelude.{Bool, false, cond, List, [], ◌∷◌, map, ℕ, zero, suc, take, eqb, ltb, Option as Optional, Some, None}
use Rattle.std.proofs.Math.Option.{Option, none, some}
use Rattle.numbers.specs.declared.record.Record.{Record}
use Rattle.rules.specs.Prop.{Param, free, bound, Prop, const, link, quant, atom, table, Ty, prop, datatype}
use Rattle.rules.specs.Term.{Leaf, Single, Double, Triple, Term, leaf, single, double, triple, sorry}
use Rattle.layout.specs.declared.record.TermRecord.{TermRecord}
use Rattle.layout.specs.File.{props, terms, prop_record, term_record, PropKind, constant, linked, quantified, atomic, strange, prop_kind}
use Rattle.layout.specs.File.{Kind, Ident, Pair, ProjectFst, ProjectSnd, Function, Application, LetIn}
use Rattle.layout.specs.File.{OrLeft, OrRight, Case, Abort, TheUnit, TypeAscription, Sorry, Strange, kind_of}
use Rattle.table.specs.Links.{prop_links, hits}

-- the lowest of i, i + 1, .. (k numbers) that passes the test
unfoldable pub first_from : (ℕ → Bool) → ℕ → ℕ → Optional ℕ
first_from t i zero = None
first_from t i (suc k) = cond (t i) (Some i) (first_from t (suc i) k)

abbrev pub first : (ℕ → Bool) → ℕ → Optional ℕ
first t n = first_from t 0 n

-- BOUND NAMES. The proposition of which record n is a child
unfoldable pub parent : List ℕ → ℕ → Optional ℕ
parent l n = first (λ p. ltb 0 (hits n (prop_links (prop_record l p)))) (props l)

-- the object names of the quantifiers above record n, the nearest first
unfoldable pub object : PropKind → ℕ → List ℕ → List ℕ
object (constant b) x xs = xs
object (linked h) x xs = xs
object (quantified q) x xs = x ∷ xs
object atomic x xs = xs
object strange x xs = xs

unfoldable pub above : List ℕ → Optional ℕ → (ℕ → List ℕ) → List ℕ
above l None up = []
above l (Some p) up = object (prop_kind (prop_record l p).kind) (prop_record l p).a (up p)

unfoldable pub binders_within : ℕ → List ℕ → ℕ → List ℕ
binders_within zero l n = []
binders_within (suc f) l n = above l (parent l n) (binders_within f l)

-- a parent has a larger number, so that many steps are enough
unfoldable pub binders : List ℕ → ℕ → List ℕ
binders l n = binders_within (props l) l n

-- of the quantifiers above that have this object name the nearest binds; k others stand between
unfoldable pub settled : ℕ → ℕ → List ℕ → Param
settled x k [] = free x
settled x k (y ∷ ys) = cond (eqb x y) (bound k) (settled x (suc k) ys)

-- PROPOSITIONS: record n, from what its children stand for
unfoldable pub prop_of : List ℕ → ℕ → (ℕ → Prop) → PropKind → Record → Prop
prop_of l n sub (constant b) r = const (table n) b
prop_of l n sub (linked h) r = link (table n) h (sub r.a) (sub r.b)
prop_of l n sub (quantified q) r = quant (table n) q r.a r.b (sub r.c)
prop_of l n sub atomic r = atom (table n) r.a (map (λ x. settled x 0 (binders l n)) (take r.count r.parameters))
prop_of l n sub strange r = const (table n) false

unfoldable pub prop_within : ℕ → List ℕ → ℕ → Prop
prop_within zero l n = const (table n) false
prop_within (suc f) l n = prop_of l n (prop_within f l) (prop_kind (prop_record l n).kind) (prop_record l n)

-- children have smaller numbers, so a depth of n + 1 is enough
unfoldable pub prop_at : List ℕ → ℕ → Prop
prop_at l n = prop_within (suc n) l n

-- TERMS. The type of an annotation: tag 1 a proposition, 2 a datatype
unfoldable pub type_of : List ℕ → ℕ → ℕ → Option Ty
type_of l zero m = none
type_of l (suc zero) m = some (prop (prop_at l m))
type_of l (suc (suc k)) m = some (datatype m)

unfoldable pub ascribed : ℕ → Option Ty → Term → Term
ascribed t none a = sorry t
ascribed t (some A) a = single t (Single.ascribe A) a

-- record t, from its type and what its children stand for
unfoldable pub term_of : ℕ → Option Ty → (ℕ → Term) → Kind → TermRecord → Term
term_of t A sub Ident r = leaf t (Leaf.ident r.name1.0)
term_of t A sub Pair r = double t Double.pair (sub r.child1.0) (sub r.child2.0)
term_of t A sub ProjectFst r = single t Single.fst (sub r.child1.0)
term_of t A sub ProjectSnd r = single t Single.snd (sub r.child1.0)
term_of t A sub Function r = single t (Single.fun r.name1.0 A) (sub r.child1.0)
term_of t A sub Application r = double t Double.app (sub r.child1.0) (sub r.child2.0)
term_of t A sub LetIn r = double t (Double.let_in r.name1.0 r.name2.0) (sub r.child1.0) (sub r.child2.0)
term_of t A sub OrLeft r = single t Single.left (sub r.child1.0)
term_of t A sub OrRight r = single t Single.right (sub r.child1.0)
term_of t A sub Case r = triple t (Triple.case r.name1.0 r.name2.0) (sub r.child1.0) (sub r.child2.0) (sub r.child3.0)
term_of t A sub Abort r = single t Single.abort (sub r.child1.0)
term_of t A sub TheUnit r = leaf t Leaf.unit
term_of t A sub TypeAscription r = ascribed t A (sub r.child1.0)
term_of t A sub Sorry r = sorry t
term_of t A sub Strange r = sorry t

abbrev pub annotated : List ℕ → ℕ → Option Ty
annotated l t = type_of l (term_record l t).tag (term_record l t).typ

unfoldable pub term_within : ℕ → List ℕ → ℕ → Term
term_within zero l t = sorry t
term_within (suc f) l t = term_of t (annotated l t) (term_within f l) (kind_of (term_record l t).kind) (term_record l t)

-- children have larger numbers, so a depth of the number of terms is enough
unfoldable pub term_at : List ℕ → ℕ → Term
term_at l t = term_within (terms l) l t
