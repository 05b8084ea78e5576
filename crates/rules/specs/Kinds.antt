-- Document 01, "The rules": what each kind of term answers when it is accepted, in checking and in synthesis. A row is the whole outcome: the type,
-- the tree with every conclusion, and how many serials and propositions have been made.
-- Assumes nothing.
use Rattle.std.specs.Prelude.{true, false, List, [], ◌∷◌, ℕ, ◌-◌}
use Rattle.std.proofs.Math.Option.{none, some}
use Rattle.rules.specs.Prop.{Param, free, ser, bound, made, Prop, Ty, const, atom, prop, datatype}
use Rattle.rules.specs.Context.{Ctx, entry}
use Rattle.rules.specs.Term.{Term, sorry}
use Rattle.rules.specs.State.{St, limit}
use Rattle.rules.specs.Tree.{Trees, end, gap, node, ◌⊕◌}
use Rattle.rules.specs.Step.{Want, synth, check, Out, ok, Answer}
use Rattle.rules.specs.Rules.{run}
use Rattle.rules.specs.Cases.{Row, ◌gives◌, begin, ident, unit, fst, snd, inl, inr, abort, fun, ascribe, pair, app, let_in, case, ◌⇒◌, both}
use Rattle.rules.specs.Cases.{either, every, exist, A, B, D, x, y, g, z}

abbrev pub P : Param → Prop
P v = atom made 2 (v ∷ [])

abbrev pub True : Prop
True = const made true

abbrev pub False : Prop
False = const made false

-- two wordings of one proposition, and one proposition more
abbrev pub all_x : Prop
all_x = every x D (P (bound 0))

abbrev pub all_y : Prop
all_y = every y D (P (bound 0))

abbrev pub some_x : Prop
some_x = exist x D (P (bound 0))

-- more names, and another datatype. Nothing is called u, and y and z are left to be bound
abbrev pub E : ℕ
E = 1

abbrev pub w : ℕ
w = 6

abbrev pub a : ℕ
a = 7

abbrev pub b : ℕ
b = 8

abbrev pub c : ℕ
c = 9

abbrev pub o : ℕ
o = 10

abbrev pub f : ℕ
f = 11

abbrev pub g' : ℕ
g' = 12

abbrev pub e : ℕ
e = 13

abbrev pub n : ℕ
n = 14

abbrev pub u : ℕ
u = 15

-- EVERY ROW starts from this context, whose serials are 0 to 10, and with nothing made but those
unfoldable pub here : Ctx
here =
    entry n 10 (prop False)
    ∷ entry e 9 (prop some_x)
    ∷ entry g' 8 (prop all_y)
    ∷ entry g 7 (prop all_x)
    ∷ entry f 6 (prop (A ⇒ B))
    ∷ entry o 5 (prop (either A B))
    ∷ entry c 4 (prop (both A B))
    ∷ entry b 3 (prop B)
    ∷ entry a 2 (prop A)
    ∷ entry w 1 (datatype E)
    ∷ entry x 0 (datatype D)
    ∷ []

abbrev pub counts : ℕ → ℕ → St
counts s m = record { serials = s; made = m }

unfoldable pub checked : Term → Ty → Out Answer
unfolding begin here
checked t T = run t (check T) here (counts 11 0)

unfoldable pub synthesized : Term → Out Answer
unfolding begin here
synthesized t = run t synth here (counts 11 0)

-- where only so many propositions may still be made
unfoldable pub with_room : ℕ → Want → Term → Out Answer
unfolding begin here
with_room c w t = run t w here (counts 11 (limit - c))

-- a type; the serials and the propositions made by then; a tree: rule, term, conclusion, serials, premises
abbrev answers : Ty → ℕ → ℕ → Trees → Out Answer
answers T s m ts = ok (record { ty = T; tree = ts }) (counts s m)

abbrev by : ℕ → ℕ → Ty → List ℕ → Trees → Trees
by r p T is ts = node (record { rule = r; term = p; concludes = T; serials = is }) ts end

-- the entry with the serial i, used by the term p
abbrev uses : ℕ → ℕ → Ty → Trees
uses p i T = by 0 p T (i ∷ []) end

unfoldable pub kinds : List (Row (Out Answer))
unfolding here
kinds =
    -- Ident: an entry of a datatype concludes a type judgement; another wording is an AlphaEq over it
    (checked (ident 0 a) (prop A) gives answers (prop A) 11 0 (uses 0 2 (prop A)))
    ∷ (checked (ident 0 x) (datatype D) gives answers (datatype D) 11 0 (uses 0 0 (datatype D)))
    ∷ (checked (ident 0 g) (prop all_y) gives answers (prop all_y) 11 0 (by 16 0 (prop all_y) [] (uses 0 7 (prop all_x))))
    ∷ (synthesized (ident 0 a) gives answers (prop A) 11 0 (uses 0 2 (prop A)))
    ∷ (synthesized (ident 0 x) gives answers (datatype D) 11 0 (uses 0 0 (datatype D)))
    -- Pair: And; Exists, which makes its body with the witness put in; synthesized, which makes an And
    ∷ (checked (pair 0 (ident 1 a) (ident 2 b)) (prop (both A B)) gives answers (prop (both A B)) 11 0
    (by 2 0 (prop (both A B)) [] (uses 1 2 (prop A) ⊕ uses 2 3 (prop B))))
    ∷ (checked (pair 0 (ident 1 x) (app 2 (ident 3 g) (ident 4 x))) (prop some_x)
    gives answers (prop some_x) 11 2 (by 13 0 (prop some_x) [] (uses 1 0 (datatype D)
    ⊕ by 12 2 (prop (P (ser 0))) [] (uses 3 7 (prop all_x) ⊕ uses 4 0 (datatype D)))))
    ∷ (synthesized (pair 0 (ident 1 a) (ident 2 b)) gives answers (prop (both A B)) 11 1 (by 2 0 (prop (both A B)) [] (uses 1 2 (prop A) ⊕ uses 2 3 (prop B))))
    -- ProjectFst, ProjectSnd
    ∷ (checked (fst 0 (ident 1 c)) (prop A) gives answers (prop A) 11 0 (by 3 0 (prop A) [] (uses 1 4 (prop (both A B)))))
    ∷ (checked (snd 0 (ident 1 c)) (prop B) gives answers (prop B) 11 0 (by 4 0 (prop B) [] (uses 1 4 (prop (both A B)))))
    ∷ (synthesized (fst 0 (ident 1 c)) gives answers (prop A) 11 0 (by 3 0 (prop A) [] (uses 1 4 (prop (both A B)))))
    ∷ (synthesized (snd 0 (ident 1 c)) gives answers (prop B) 11 0 (by 4 0 (prop B) [] (uses 1 4 (prop (both A B)))))
    -- Function: Impl; ForAll, which makes its body with the new identifier put in; an annotation is made, and the entry has the expected wording all
    -- the same
    ∷ (checked (fun 0 y none (ident 1 y)) (prop (A ⇒ A)) gives answers (prop (A ⇒ A)) 12 0 (by 5 0 (prop (A ⇒ A)) (11 ∷ []) (uses 1 11 (prop A))))
    ∷ (checked (fun 0 z none (app 1 (ident 2 g) (ident 3 z))) (prop all_y)
    gives answers (prop all_y) 12 2 (by 11 0 (prop all_y) (11 ∷ []) (by 12 1 (prop (P (ser 11))) [] (uses 2 7 (prop all_x) ⊕ uses 3 11 (datatype D)))))
    ∷ (checked (fun 0 z (some (prop all_y)) (ident 1 z)) (prop (all_x ⇒ all_x))
    gives answers (prop (all_x ⇒ all_x)) 12 2 (by 5 0 (prop (all_x ⇒ all_x)) (11 ∷ []) (uses 1 11 (prop all_x))))
    -- synthesized: an Impl, of the annotation with its names found, makes 1 more; a ForAll has the parameter's name and makes its body and 1 more
    ∷ (synthesized (fun 0 y (some (prop (P (free x)))) (ident 1 y))
    gives answers (prop (P (ser 0) ⇒ P (ser 0))) 12 2 (by 5 0 (prop (P (ser 0) ⇒ P (ser 0))) (11 ∷ []) (uses 1 11 (prop (P (ser 0))))))
    ∷ (synthesized (fun 0 y (some (datatype D)) (app 1 (ident 2 g) (ident 3 y)))
    gives answers (prop all_y) 12 3 (by 11 0 (prop all_y) (11 ∷ []) (by 12 1 (prop (P (ser 11))) [] (uses 2 7 (prop all_x) ⊕ uses 3 11 (datatype D)))))
    -- Application: Impl; ForAll, which makes its body with the argument put in
    ∷ (checked (app 0 (ident 1 f) (ident 2 a)) (prop B) gives answers (prop B) 11 0 (by 6 0 (prop B) [] (uses 1 6 (prop (A ⇒ B)) ⊕ uses 2 2 (prop A))))
    ∷ (synthesized (app 0 (ident 1 f) (ident 2 a)) gives answers (prop B) 11 0 (by 6 0 (prop B) [] (uses 1 6 (prop (A ⇒ B)) ⊕ uses 2 2 (prop A))))
    ∷ (synthesized (app 0 (ident 1 g) (ident 2 x)) gives answers (prop (P (ser 0))) 11 1
    (by 12 0 (prop (P (ser 0))) [] (uses 1 7 (prop all_x) ⊕ uses 2 0 (datatype D))))
    -- LetIn: the witness, then what is known of it; synthesized, the type may hold the second serial
    ∷ (checked (let_in 0 y z (ident 1 e) (pair 2 (ident 3 y) (ident 4 z))) (prop some_x)
    gives answers (prop some_x) 13 2 (by 14 0 (prop some_x) (11 ∷ 12 ∷ []) (uses 1 9 (prop some_x)
    ⊕ by 13 2 (prop some_x) [] (uses 3 11 (datatype D) ⊕ uses 4 12 (prop (P (ser 11)))))))
    ∷ (synthesized (let_in 0 y z (ident 1 e) (ident 2 a)) gives answers (prop A) 13 1
    (by 14 0 (prop A) (11 ∷ 12 ∷ []) (uses 1 9 (prop some_x) ⊕ uses 2 2 (prop A))))
    ∷ (synthesized (let_in 0 y z (ident 1 e) (fun 2 z (some (prop (P (free z)))) (ident 3 a)))
    gives answers (prop (P (ser 12) ⇒ A)) 14 3
    (by 14 0 (prop (P (ser 12) ⇒ A)) (11 ∷ 12 ∷ []) (uses 1 9 (prop some_x) ⊕ by 5 2 (prop (P (ser 12) ⇒ A)) (13 ∷ []) (uses 3 2 (prop A)))))
    -- OrLeft, OrRight
    ∷ (checked (inl 0 (ident 1 a)) (prop (either A B)) gives answers (prop (either A B)) 11 0 (by 7 0 (prop (either A B)) [] (uses 1 2 (prop A))))
    ∷ (checked (inr 0 (ident 1 b)) (prop (either A B)) gives answers (prop (either A B)) 11 0 (by 8 0 (prop (either A B)) [] (uses 1 3 (prop B))))
    -- Case: a serial before each arm; synthesized, it concludes the left arm's wording and answers the right's
    ∷ (checked (case 0 y z (ident 1 o) (inr 2 (ident 3 y)) (inl 4 (ident 5 z))) (prop (either B A))
    gives answers (prop (either B A)) 13 0
    (by 9 0 (prop (either B A)) (11 ∷ 12 ∷ []) (uses 1 5 (prop (either A B)) ⊕ by 8 2 (prop (either B A)) [] (uses 3 11 (prop A))
    ⊕ by 7 4 (prop (either B A)) [] (uses 5 12 (prop B)))))
    ∷ (checked (case 0 y z (ident 1 o) (fun 2 y none (ident 3 y)) (fun 4 z none (ident 5 z))) (prop (A ⇒ A))
    gives answers (prop (A ⇒ A)) 15 0
    (by 9 0 (prop (A ⇒ A)) (11 ∷ 13 ∷ []) (uses 1 5 (prop (either A B)) ⊕ by 5 2 (prop (A ⇒ A)) (12 ∷ []) (uses 3 12 (prop A))
    ⊕ by 5 4 (prop (A ⇒ A)) (14 ∷ []) (uses 5 14 (prop A)))))
    ∷ (synthesized (case 0 y z (ident 1 o) (ident 2 g) (ident 3 g'))
    gives answers (prop all_y) 13 0 (by 9 0 (prop all_x) (11 ∷ 12 ∷ []) (uses 1 5 (prop (either A B)) ⊕ uses 2 7 (prop all_x) ⊕ uses 3 8 (prop all_y))))
    -- Abort makes its False; the limit may be reached
    ∷ (checked (abort 0 (ident 1 n)) (prop A) gives answers (prop A) 11 1 (by 10 0 (prop A) [] (uses 1 10 (prop False))))
    ∷ (with_room 1 (check (prop A)) (abort 0 (ident 1 n)) gives answers (prop A) 11 limit (by 10 0 (prop A) [] (uses 1 10 (prop False))))
    -- Unit makes True where nothing was expected
    ∷ (checked (unit 0) (prop True) gives answers (prop True) 11 0 (by 1 0 (prop True) [] end))
    ∷ (synthesized (unit 0) gives answers (prop True) 11 1 (by 1 0 (prop True) [] end))
    -- TypeAscription has no node: checked, the inside is held to the expected wording, synthesized, to its own
    ∷ (checked (ascribe 0 (prop all_y) (ident 1 g)) (prop all_x) gives answers (prop all_x) 11 2 (uses 1 7 (prop all_x)))
    ∷ (checked (ascribe 0 (datatype D) (ident 1 x)) (datatype D) gives answers (datatype D) 11 0 (uses 1 0 (datatype D)))
    ∷ (synthesized (ascribe 0 (prop all_y) (ident 1 g)) gives answers (prop all_y) 11 2 (by 16 1 (prop all_y) [] (uses 1 7 (prop all_x))))
    -- Sorry: a gap, with all that was known there
    ∷ (checked (sorry 0) (prop A) gives answers (prop A) 11 0 (gap (record { term = 0; ctx = here; wanted = prop A; state = counts 11 0 }) end))
    ∷ []
