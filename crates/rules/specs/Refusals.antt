-- Document 01, "Refusal numbers" and "The rules": every number that a run can give, from 10 to 30, in the order of the document's table, with its
-- place. Where a wrong order of tests would give another number, a row rules that out, and the comment names the number.
-- Assumes nothing.
use Rattle.std.specs.Prelude.{List, [], ◌∷◌}
use Rattle.std.proofs.Math.Option.{none, some}
use Rattle.rules.specs.Prop.{free, bound, made, atom, prop, datatype}
use Rattle.rules.specs.Term.{sorry}
use Rattle.rules.specs.Step.{synth, check, Out, refused, Answer}
use Rattle.rules.specs.Cases.{Row, ◌gives◌, ident, unit, fst, snd, inl, inr, abort, fun, ascribe, pair, app, let_in, case, ◌⇒◌, both, either}
use Rattle.rules.specs.Cases.{every, A, B, D, x, y, g, z}
use Rattle.rules.specs.Kinds.{P, False, all_x, some_x, E, w, a, b, c, o, f, e, n, u, checked, synthesized, with_room}

unfoldable pub refusals : List (Row (Out Answer))
refusals =
    -- 10: an annotation's unknown name, before it is compared (not 14, 15) and before anything inside runs (not 20). The name that a function binds
    -- isn't known yet
    (checked (fun 0 y (some (prop (P (free u)))) (ident 1 u)) (prop (A ⇒ A)) gives refused 10 0)
    ∷ (checked (fun 0 y (some (prop (both (P (free x)) (P (free y))))) (ident 1 u)) (prop (A ⇒ A)) gives refused 10 0)
    ∷ (checked (ascribe 0 (prop (P (free u))) (ident 1 u)) (prop A) gives refused 10 0)
    -- an unknown witness: not 20, for its name is asked for before it is checked
    ∷ (checked (pair 0 (ident 1 u) (ident 2 u)) (prop some_x) gives refused 10 1)
    -- 20: an unknown Ident, in a check too (not 10): it is synthesized first
    ∷ (synthesized (ident 0 u) gives refused 20 0)
    ∷ (checked (ident 0 u) (prop A) gives refused 20 0)
    ∷ (checked (fst 0 (ident 1 u)) (prop A) gives refused 20 1)
    -- an unknown argument, in a check too (not 10): an application is synthesized
    ∷ (synthesized (app 0 (ident 1 g) (ident 2 u)) gives refused 20 2)
    ∷ (checked (app 0 (ident 1 g) (ident 2 u)) (prop A) gives refused 20 2)
    -- an annotation's unknown name, at the function or ascription and not inside it
    ∷ (synthesized (fun 0 y (some (prop (P (free u)))) (ident 1 u)) gives refused 20 0)
    ∷ (synthesized (ascribe 0 (prop (P (free u))) (ident 1 u)) gives refused 20 0)
    -- 11: the expected type is looked at before anything of the term (not 10, 13 or 20). An Or is no And, a ForAll no Exists; a datatype fits nothing
    ∷ (checked (pair 0 (ident 1 u) (ident 2 u)) (prop (either A B)) gives refused 11 0)
    ∷ (checked (pair 0 (unit 1) (ident 2 u)) (prop all_x) gives refused 11 0)
    ∷ (checked (pair 0 (ident 1 u) (ident 2 u)) (datatype D) gives refused 11 0)
    ∷ (checked (fun 0 y (some (prop (P (free u)))) (ident 1 u)) (prop (both A B)) gives refused 11 0)
    ∷ (checked (fun 0 y (some (prop (P (free u)))) (ident 1 u)) (prop some_x) gives refused 11 0)
    ∷ (checked (fun 0 y (some (prop (P (free u)))) (ident 1 u)) (datatype D) gives refused 11 0)
    ∷ (checked (inl 0 (ident 1 u)) (prop (both A B)) gives refused 11 0)
    ∷ (checked (inr 0 (ident 1 u)) (prop (A ⇒ B)) gives refused 11 0)
    ∷ (checked (inl 0 (ident 1 u)) (datatype D) gives refused 11 0)
    -- not 14, though a Unit that isn't expected has a type
    ∷ (checked (unit 0) (prop False) gives refused 11 0)
    ∷ (checked (unit 0) (datatype D) gives refused 11 0)
    -- 12, 22: the head of a let and of a case, at the head, before the body and the arms run (not 20)
    ∷ (checked (let_in 0 y z (ident 1 g) (ident 2 u)) (prop A) gives refused 12 1)
    ∷ (synthesized (let_in 0 y z (ident 1 g) (ident 2 u)) gives refused 22 1)
    ∷ (checked (case 0 y z (ident 1 c) (ident 2 u) (ident 3 u)) (prop A) gives refused 12 1)
    ∷ (synthesized (case 0 y z (ident 1 c) (ident 2 u) (ident 3 u)) gives refused 22 1)
    -- a projection, at itself and not at its head; 22 in a check too (not 12), for it is synthesized
    ∷ (synthesized (fst 0 (ident 1 o)) gives refused 22 0)
    ∷ (checked (snd 0 (ident 1 x)) (prop B) gives refused 22 0)
    -- an application, at its function, before the argument runs (not 20); 22 in a check too
    ∷ (synthesized (app 0 (ident 1 e) (ident 2 u)) gives refused 22 1)
    ∷ (checked (app 0 (ident 1 c) (ident 2 u)) (prop B) gives refused 22 1)
    -- 13: a witness must be an Ident, and an ascription around one isn't. Not 20: the second component hasn't run
    ∷ (checked (pair 0 (ascribe 1 (datatype D) (ident 2 x)) (ident 3 u)) (prop some_x) gives refused 13 1)
    -- a let against a datatype, at its body; a case and an abort, at themselves. Not before they have run: the first refusal inside counts
    ∷ (checked (let_in 0 y z (ident 1 e) (ident 2 y)) (datatype D) gives refused 13 2)
    ∷ (checked (let_in 0 y z (ident 1 e) (ident 2 a)) (datatype D) gives refused 14 2)
    ∷ (checked (case 0 y z (ident 1 o) (ident 2 x) (ident 3 x)) (datatype D) gives refused 13 0)
    ∷ (checked (case 0 y z (ident 1 o) (ident 2 x) (ident 3 w)) (datatype D) gives refused 14 3)
    ∷ (checked (abort 0 (ident 1 n)) (datatype D) gives refused 13 0)
    ∷ (checked (abort 0 (unit 1)) (datatype D) gives refused 11 1)
    -- 24: an object argument must be an Ident. Not 11 or 14: it isn't checked
    ∷ (synthesized (app 0 (ident 1 g) (unit 2)) gives refused 24 2)
    ∷ (synthesized (app 0 (ident 1 g) (ascribe 2 (datatype D) (ident 3 x))) gives refused 24 2)
    -- the body of a function and of a let (not 27: a datatype holds no serial), at the body; the arms of a case (not 26, if they agree), at the case
    ∷ (synthesized (fun 0 y (some (datatype D)) (ident 1 y)) gives refused 24 1)
    ∷ (synthesized (fun 0 y (some (prop A)) (ident 1 x)) gives refused 24 1)
    ∷ (synthesized (let_in 0 y z (ident 1 e) (ident 2 y)) gives refused 24 2)
    ∷ (synthesized (case 0 y z (ident 1 o) (ident 2 x) (ident 3 x)) gives refused 24 0)
    -- 14: an Ident, a projection, an application, at the term that was checked
    ∷ (checked (ident 0 a) (prop B) gives refused 14 0)
    ∷ (checked (ident 0 x) (prop A) gives refused 14 0)
    ∷ (checked (ident 0 a) (datatype D) gives refused 14 0)
    ∷ (checked (ident 0 x) (datatype E) gives refused 14 0)
    ∷ (checked (fst 0 (ident 1 c)) (prop B) gives refused 14 0)
    ∷ (checked (snd 0 (ident 1 c)) (prop A) gives refused 14 0)
    ∷ (checked (app 0 (ident 1 f) (ident 2 a)) (prop A) gives refused 14 0)
    -- types differ by quantifier, by datatype, by which quantifier binds, by predicate and by number of parameters; not by binder name alone
    ∷ (checked (ident 0 g) (prop some_x) gives refused 14 0)
    ∷ (checked (ident 0 g) (prop (every x E (P (bound 0)))) gives refused 14 0)
    ∷ (checked (fun 0 z none (ident 1 z)) (prop (every x D all_x ⇒ every x D (every y D (P (bound 1))))) gives refused 14 1)
    ∷ (checked (ident 0 g) (prop (every x D (atom made 3 (bound 0 ∷ [])))) gives refused 14 0)
    ∷ (checked (ident 0 g) (prop (every x D (atom made 2 (bound 0 ∷ bound 0 ∷ [])))) gives refused 14 0)
    -- an argument and a witness of another type, at them, before the application's own type is compared and before the second component runs (not 20)
    ∷ (checked (app 0 (ident 1 f) (ident 2 b)) (prop A) gives refused 14 2)
    ∷ (checked (app 0 (ident 1 g) (ident 2 w)) (prop A) gives refused 14 2)
    ∷ (checked (pair 0 (ident 1 w) (ident 2 u)) (prop some_x) gives refused 14 1)
    ∷ (checked (pair 0 (ident 1 a) (ident 2 u)) (prop some_x) gives refused 14 1)
    -- an annotation, at the function (not 15), before the body runs (not 20); also one of the wrong sort
    ∷ (checked (fun 0 y (some (prop B)) (ident 1 u)) (prop (A ⇒ A)) gives refused 14 0)
    ∷ (checked (fun 0 y (some (datatype D)) (ident 1 u)) (prop (A ⇒ A)) gives refused 14 0)
    ∷ (checked (fun 0 y (some (prop A)) (ident 1 u)) (prop all_x) gives refused 14 0)
    ∷ (checked (fun 0 y (some (datatype E)) (ident 1 u)) (prop all_x) gives refused 14 0)
    -- 15: an ascription, before the inside runs (not 20); also one of the wrong sort (not 14). In synthesis there is nothing to compare, and the
    -- inside is checked
    ∷ (checked (ascribe 0 (prop B) (ident 1 u)) (prop A) gives refused 15 0)
    ∷ (checked (ascribe 0 (datatype D) (ident 1 u)) (prop A) gives refused 15 0)
    ∷ (synthesized (ascribe 0 (prop B) (ident 1 a)) gives refused 14 1)
    -- 16 is never given: `never_16` in proofs/Tidy
    -- 27: the witness in the body's type, at the body, also below a quantifier
    ∷ (synthesized (let_in 0 y z (ident 1 e) (ident 2 z)) gives refused 27 2)
    ∷ (synthesized (let_in 0 y z (ident 1 e) (fun 2 y (some (datatype D)) (ident 3 z))) gives refused 27 2)
    -- 21: before the body runs (not 20); also where an application is checked, for its function is synthesized
    ∷ (synthesized (fun 0 y none (ident 1 u)) gives refused 21 0)
    ∷ (checked (app 0 (fun 1 y none (ident 2 u)) (ident 3 u)) (prop A) gives refused 21 1)
    -- 23: the second component of a synthesized pair, before the first is looked at (not 25)
    ∷ (synthesized (pair 0 (ident 1 a) (ident 2 x)) gives refused 23 0)
    ∷ (synthesized (pair 0 (ident 1 x) (ident 2 x)) gives refused 23 0)
    -- 25: a datatype for the first, but only once both are synthesized
    ∷ (synthesized (pair 0 (ident 1 x) (ident 2 a)) gives refused 25 0)
    ∷ (synthesized (pair 0 (ident 1 x) (ident 2 u)) gives refused 20 2)
    -- the kinds that don't synthesize, before anything inside runs (not 20)
    ∷ (synthesized (inl 0 (ident 1 u)) gives refused 25 0)
    ∷ (synthesized (inr 0 (ident 1 u)) gives refused 25 0)
    ∷ (synthesized (abort 0 (ident 1 u)) gives refused 25 0)
    ∷ (synthesized (sorry 0) gives refused 25 0)
    -- 26: arms that differ, at the case, once both are synthesized; also two datatypes (not 24). In a check the arms aren't compared
    ∷ (synthesized (case 0 y z (ident 1 o) (ident 2 y) (ident 3 z)) gives refused 26 0)
    ∷ (synthesized (case 0 y z (ident 1 o) (ident 2 x) (ident 3 w)) gives refused 26 0)
    ∷ (synthesized (case 0 y z (ident 1 o) (ident 2 x) (ident 3 a)) gives refused 26 0)
    ∷ (synthesized (case 0 y z (ident 1 o) (ident 2 a) (ident 3 u)) gives refused 20 3)
    ∷ (checked (case 0 y z (ident 1 o) (ident 2 y) (ident 3 z)) (prop A) gives refused 14 3)
    -- 30: Abort's False, before its body runs (not 20)
    ∷ (with_room 0 (check (prop A)) (abort 0 (ident 1 u)) gives refused 30 0)
    -- the counts add up: the second of two
    ∷ (with_room 1 (check (prop (both A A))) (pair 0 (abort 1 (ident 2 n)) (abort 3 (ident 4 n))) gives refused 30 3)
    -- a ForAll's body with the identifier put in, before the annotation (not 10); an annotation, after its unknown name (10) and before it is
    -- compared (not 14)
    ∷ (with_room 0 (check (prop all_x)) (fun 0 y (some (prop (P (free u)))) (ident 1 u)) gives refused 30 0)
    ∷ (with_room 0 (check (prop (A ⇒ A))) (fun 0 y (some (prop (P (free u)))) (ident 1 u)) gives refused 10 0)
    ∷ (with_room 0 (check (prop (A ⇒ A))) (fun 0 y (some (prop B)) (ident 1 u)) gives refused 30 0)
    -- every node counts, also where nothing is replaced; a datatype counts nothing
    ∷ (with_room 1 (check (prop (A ⇒ A))) (fun 0 y (some (prop all_x)) (ident 1 u)) gives refused 30 0)
    ∷ (with_room 1 (check (prop all_x)) (fun 0 y (some (datatype D)) (ident 1 u)) gives refused 20 1)
    -- a synthesized function: its annotation, after 20 at itself and before the body (not 20 at 1); its Impl or ForAll, after the body (24)
    ∷ (with_room 0 synth (fun 0 y (some (prop (P (free u)))) (ident 1 u)) gives refused 20 0)
    ∷ (with_room 0 synth (fun 0 y (some (prop A)) (ident 1 u)) gives refused 30 0)
    ∷ (with_room 0 synth (fun 0 y (some (datatype D)) (ident 1 y)) gives refused 24 1)
    ∷ (with_room 1 synth (fun 0 y (some (prop A)) (ident 1 y)) gives refused 30 0)
    ∷ (with_room 1 synth (fun 0 y (some (datatype D)) (ident 1 a)) gives refused 30 0)
    -- an Exists' body, after the witness's name (10) and before the witness is checked (not 14); a synthesized And, last (not before 25)
    ∷ (with_room 0 (check (prop some_x)) (pair 0 (ident 1 u) (ident 2 u)) gives refused 10 1)
    ∷ (with_room 0 (check (prop some_x)) (pair 0 (ident 1 w) (ident 2 u)) gives refused 30 0)
    ∷ (with_room 0 synth (pair 0 (ident 1 x) (ident 2 a)) gives refused 25 0)
    ∷ (with_room 0 synth (pair 0 (ident 1 a) (ident 2 b)) gives refused 30 0)
    -- a let, after its head (12, 22) and before its body (not 20)
    ∷ (with_room 0 (check (prop A)) (let_in 0 y z (ident 1 a) (ident 2 u)) gives refused 12 1)
    ∷ (with_room 0 (check (prop A)) (let_in 0 y z (ident 1 e) (ident 2 u)) gives refused 30 0)
    ∷ (with_room 0 synth (let_in 0 y z (ident 1 e) (ident 2 u)) gives refused 30 0)
    -- an application, after its argument (14) and before its type is compared (not 14 at 0)
    ∷ (with_room 0 (check (prop A)) (app 0 (ident 1 g) (ident 2 w)) gives refused 14 2)
    ∷ (with_room 0 (check (prop A)) (app 0 (ident 1 g) (ident 2 x)) gives refused 30 0)
    -- an ascription, after its unknown name (10, 20), before it is compared (not 15) and before the inside (not 20 at 1)
    ∷ (with_room 0 (check (prop A)) (ascribe 0 (prop (P (free u))) (ident 1 u)) gives refused 10 0)
    ∷ (with_room 0 (check (prop A)) (ascribe 0 (prop B) (ident 1 u)) gives refused 30 0)
    ∷ (with_room 0 synth (ascribe 0 (prop (P (free u))) (ident 1 u)) gives refused 20 0)
    ∷ (with_room 0 synth (ascribe 0 (prop A) (ident 1 u)) gives refused 30 0)
    -- a synthesized Unit
    ∷ (with_room 0 synth (unit 0) gives refused 30 0)
    ∷ []
