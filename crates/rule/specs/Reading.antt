-- What is left of a rule, read as the rules see it: the rest of its program, and the children that are still to be asked. Each rest is cut out of its
-- rule in `Rules`, and is held against it where the rule begins. Assumes nothing.
use Rattle.std.specs.Prelude.{cond, List, [], ◌∷◌, ℕ, ◌+◌, ◌<◌, eqb}
use Rattle.layout.specs.declared.record.TermRecord.{TermRecord}
use Rattle.layout.specs.File.{props, terms, term_record}
use Rattle.rules.specs.Prop.{Prop, made, and, or, imp, link, put, size, Ty, prop, datatype}
use Rattle.rules.specs.Context.{Ctx, entry}
use Rattle.rules.specs.Term.{nodes}
use Rattle.rules.specs.Step.{Want as Mode, synth, check, Arity, done, more, Prog, conclude, refuse, serial, make, ask, of, Kids, on_link, on_prop, answered}
use Rattle.rules.specs.Rules.{by, applying, abstracted, let_opening, let_close, arms_agree}
use Rattle.table.specs.Reading.{term_at}
use Rattle.prop.specs.Room.{room_at}
use Rattle.step.specs.Rooms.{reads}
use Rattle.step.specs.Under.{kid_at}
use Rattle.rule.specs.declared.next.Rest.{Rest}
use Rattle.rule.specs.declared.next.Rest.TheVariants as rest

-- THE CHILDREN that are left, of the term with this record
abbrev pub after : TermRecord → Rest → List ℕ
after r (rest.By n m) = []
after r (rest.Right n b) = r.child2.0 ∷ []
after r rest.Second = r.child2.0 ∷ []
after r (rest.Both S) = []
after r rest.Part = []
after r (rest.Closes n i) = []
after r (rest.Abstracts i S) = []
after r rest.Argument = r.child2.0 ∷ []
after r (rest.Concludes b) = []
after r (rest.Instance i b) = []
after r rest.LetBody = r.child2.0 ∷ []
after r (rest.LetEnd i j) = []
after r rest.CaseLeft = r.child2.0 ∷ r.child3.0 ∷ []
after r (rest.CaseRight i b) = r.child3.0 ∷ []
after r (rest.CaseEnd i j S) = []
after r rest.Aborts = []

abbrev pub arity : List ℕ → Arity
arity [] = done
arity (x ∷ xs) = more (arity xs)

abbrev pub kids : (l xs : List ℕ) → Kids (arity xs)
kids l [] = tt
kids l (x ∷ xs) = (kid_at l x, kids l xs)

-- their nodes, and that they stand behind term k
abbrev pub weight : (l xs : List ℕ) → ℕ
weight l [] = 0
weight l (x ∷ xs) = nodes (term_at l x) + weight l xs

abbrev pub Inside : (l : List ℕ) → ℕ → List ℕ → Type 0
Inside l k [] = Unit {0}
Inside l k (x ∷ xs) = ((k < x) × (x < terms l)) × Inside l k xs

-- THE PROGRAM that is left, of term k in the mode w and the context Γ, from the answer to the last premise. Parts of rules first
abbrev pub pairing : ℕ → Ty → Ty → Prog done
pairing k S T = on_prop T (λ Q. on_prop S (λ P. make 1 k (by 2 k (prop (link made and P Q)) [])) (refuse 25 k)) (refuse 23 k)

abbrev pub projecting : ℕ → (kind : ℕ) → Ty → Prog done
projecting k kind T = on_link and T (λ A B. cond (eqb kind 2) (by 3 k (prop A) []) (by 4 k (prop B) [])) (refuse 22 k)

abbrev pub judging : ℕ → Mode → (i j : ℕ) → Ty → Ty → Prog done
judging k w i j S T =
    cond (arms_agree w S T)
    (on_prop S (λ P. conclude T (record { rule = 9; term = k; concludes = S; serials = i ∷ j ∷ [] } ∷ [])) (refuse (of w 13 24) k))
    (refuse 26 k)

abbrev pub abstracting : (l : List ℕ) (k i : ℕ) → Ty → Ty → Prog done
abstracting l k i A U = on_prop U (λ B. abstracted k (term_record l k).name1.0 i A B) (refuse 24 (term_record l k).child1.0)

abbrev pub instancing : (k i : ℕ) → Prop → Prog done
instancing k i B = make (size B) k (by 12 k (prop (put i B)) [])

-- the right arm, whose hypothesis is Q
abbrev pub arming : (l : List ℕ) (k : ℕ) → Mode → Ctx → (i : ℕ) → Prop → Ty → Prog (more done)
arming l k w Γ i Q S = serial λ j. ask w (entry (term_record l k).name2.0 j (prop Q) ∷ Γ) λ T. judging k w i j S T

abbrev pub program : (l ps : List ℕ) (k : ℕ) (w : Mode) (Γ : Ctx) (q : Rest) → Ty → Prog (arity (after (term_record l k) q))
program l ps k w Γ (rest.By n m) B = by n k (answered w B) []
program l ps k w Γ (rest.Right n b) B = ask (check (prop (room_at (props l) ps b.0))) Γ λ C. by n k (answered w C) []
program l ps k w Γ rest.Second S = ask synth Γ λ T. pairing k S T
program l ps k w Γ (rest.Both S) T = pairing k (reads l ps S) T
program l ps k w Γ rest.Part T = projecting k (term_record l k).kind T
program l ps k w Γ (rest.Closes n i) B = by n k (answered w B) (i.0 ∷ [])
program l ps k w Γ (rest.Abstracts i S) U = abstracting l k i.0 (reads l ps S) U
program l ps k w Γ rest.Argument F =
    on_link imp F (λ A B. ask (check (prop A)) Γ λ C. by 6 k (prop B) []) (applying k (term_record l k).child1.0 (term_record l k).child2.0 Γ F)
program l ps k w Γ (rest.Concludes b) C = by 6 k (prop (room_at (props l) ps b.0)) []
program l ps k w Γ (rest.Instance i b) C = instancing k i.0 (room_at (props l) ps b.0)
program l ps k w Γ rest.LetBody H =
    let_opening (of w 12 22) k (term_record l k).child1.0 H λ i j D B.
    ask w (entry (term_record l k).name2.0 j (prop B) ∷ entry (term_record l k).name1.0 i (datatype D) ∷ Γ) λ T.
    let_close k (term_record l k).child2.0 i j w T
program l ps k w Γ (rest.LetEnd i j) T = let_close k (term_record l k).child2.0 i.0 j.0 w T
program l ps k w Γ rest.CaseLeft H =
    on_link or H (λ P Q. serial λ i. ask w (entry (term_record l k).name1.0 i (prop P) ∷ Γ) λ S. arming l k w Γ i Q S)
    (refuse (of w 12 22) (term_record l k).child1.0)
program l ps k w Γ (rest.CaseRight i b) S = arming l k w Γ i.0 (room_at (props l) ps b.0) S
program l ps k w Γ (rest.CaseEnd i j S) T = judging k w i.0 j.0 (reads l ps S) T
program l ps k w Γ rest.Aborts B = on_prop (answered w B) (λ P. by 10 k (answered w B) []) (refuse 13 k)
