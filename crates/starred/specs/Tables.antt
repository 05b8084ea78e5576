-- Document 01, "Scripts every build marks" and "Marking errors to shut out", as files: what their bytes read as, and their mark. The rows say what those
-- of `Cases` say, with names that no predicate has. Assumes nothing.
use Rattle.std.specs.Prelude.{◌≡◌, List, [], ◌∷◌, map, ℕ, Result, ⊤, Ok}
use Rattle.numbers.specs.declared.refusal.Refusal.{Refusal}
use Rattle.std.proofs.Math.Option.{none, some}
use Rattle.rules.specs.Prop.{free, bound, made, Prop, atom, prop, datatype, each_param, each, named_not, closed}
use Rattle.rules.specs.Term.{Term, sorry}
use Rattle.rules.specs.Cases.{line, goal, Mark, no, yes, width, lines, mark, begin, from, ident, unit, fst, fun, abort, ascribe, pair, app, let_in}
use Rattle.rules.specs.Cases.{case, ◌⇒◌, either, every, exist}
use Rattle.numbers.specs.Records.{record_at}
use Rattle.layout.specs.File.{expected, prop_kinds, prop_kind, kinds, kind_of}
use Rattle.layout.specs.Form.{prop_shape, prop_form, term_shape, term_form}
use Rattle.table.specs.Links.{prop_children, term_children, annotation_links, all_links, hits, sum, badly_linked_prop, badly_linked_term}
use Rattle.table.specs.Size.{height, too_high, holder, below, depth_within, depth, too_deep}
use Rattle.table.specs.declared.Purpose.TheVariants.{Check}
use Rattle.table.specs.Tests.{header, counts, or_term, formless, badly_linked, oversized, open_goal, unless, accused, from_goal, from_sizes}
use Rattle.table.specs.Tests.{from_links, from_expected, from_forms, from_counts, tests}
use Rattle.table.specs.Reading.{first_from, parent, object, above, binders_within, binders, settled, prop_of, prop_within, prop_at, type_of, ascribed}
use Rattle.table.specs.Reading.{term_of, term_within, term_at}
use Rattle.entry.specs.Mark.{unless_refused, table_run}
use Rattle.starred.specs.Printed.{MarkedBy}
use Rattle.starred.specs.Bytes.{case_1, case_3, case_3_other, case_4, case_6, case_9, case_10, case_12, case_13, oldest_witness, oldest_name}
use Rattle.starred.specs.Bytes.{left_kept, left_counted, abort_first, abort_last}

-- WHAT A FILE SAYS: its tests' verdict, its script, and the mark. To unfold this is to unfold all of the tests, the reading and the rules
pub record Says : Type 0 where
  pub verdict : Result ⊤ Refusal
  pub term : Term
  pub wanted : Prop
  pub mark : Mark

unfoldable pub read : List ℕ → Says
unfolding record_at prop_kinds prop_kind kinds kind_of prop_shape prop_form term_shape term_form each_param each named_not closed prop_children
    term_children annotation_links all_links hits sum badly_linked_prop badly_linked_term first_from parent object above binders_within binders
    settled prop_of prop_within prop_at type_of ascribed term_of term_within term_at height too_high holder below depth_within depth too_deep header
    counts or_term formless badly_linked oversized open_goal unless accused from_goal from_sizes from_links from_expected from_forms from_counts tests
    width lines mark begin unless_refused
read l = record { verdict = tests Check l; term = term_at l 0; wanted = prop_at l (expected l); mark = mark (table_run l) }

-- A ROW: a file, and what it has to say; it passes, and reads as this script. Its proposition stands from record i on, children before their parent; an
-- annotation's records come before them
pub record Row : Type 0 where
  pub bytes : List ℕ
  pub says : Says

abbrev pub row : List ℕ → Term → ℕ → Prop → Mark → Row
row l t i A m = record { bytes = l; says = record { verdict = Ok tt; term = t; wanted = from i A; mark = m } }

-- every file of the table says so
abbrev pub Read : List Row → Type 0
Read rows = map (λ r. read r.bytes) rows ≡ map (λ r. r.says) rows

-- and every call on it prints so, whatever its rooms held
abbrev pub Called : List Row → Type 0
Called [] = Unit {0}
Called (r ∷ rows) = MarkedBy r.bytes r.says.mark × Called rows

-- NAMES, as the files number them
abbrev pub h : ℕ
h = 10

abbrev x : ℕ
x = 13

abbrev y : ℕ
y = 14

abbrev k : ℕ
k = 15

abbrev g : ℕ
g = 16

abbrev z : ℕ
z = 17

abbrev D : ℕ
D = 18

abbrev pub A : Prop
A = atom made 11 []

abbrev B : Prop
B = atom made 12 []

abbrev P₁ : Prop
P₁ = atom made 19 (bound 0 ∷ [])

abbrev P₂ : Prop
P₂ = atom made 19 (bound 1 ∷ bound 0 ∷ [])

unfoldable pub files : List Row
files =
    -- 1
    row case_1 (fun 0 h none (ident 1 h)) 0 (A ⇒ A) (yes (line 5 0 (0 ∷ []) 1 ∷ line 0 1 (0 ∷ []) 0 ∷ []) [])
    -- 3
    ∷ row case_3 (fun 0 h none (fun 1 h none (ident 2 h))) 0 (A ⇒ (B ⇒ B)) (yes (line 5 0 (0 ∷ []) 1 ∷ line 5 1 (1 ∷ []) 1 ∷ line 0 2 (1 ∷ []) 0 ∷ []) [])
    ∷ row case_3_other (fun 0 h none (fun 1 h none (ident 2 h))) 0 (A ⇒ (B ⇒ A)) (no 14 2)
    -- 4
    ∷ row case_4 (fun 0 x none (fun 1 h none (pair 2 (ident 3 x) (ident 4 h)))) 0 (every x D (P₁ ⇒ exist y D P₁))
    (yes (line 11 0 (0 ∷ []) 1 ∷ line 5 1 (1 ∷ []) 1 ∷ line 13 2 [] 2 ∷ line 0 3 (0 ∷ []) 0 ∷ line 0 4 (1 ∷ []) 0 ∷ []) [])
    -- 6
    ∷ row case_6 (abort 0 (unit 1)) 0 A (no 11 1)
    -- 9
    ∷ row case_9 (fun 0 h none (let_in 1 x k (ident 2 h) (pair 3 (ident 4 x) (ident 5 k)))) 0 (exist x D P₁ ⇒ exist y D P₁)
    (yes (line 5 0 (0 ∷ []) 1 ∷ line 14 1 (1 ∷ 2 ∷ []) 2 ∷ line 0 2 (0 ∷ []) 0 ∷ line 13 3 [] 2 ∷ line 0 4 (1 ∷ []) 0 ∷ line 0 5 (2 ∷ []) 0 ∷ []) [])
    -- 10
    ∷ row case_10 (fun 0 h none (ident 1 h)) 0 (every x D P₁ ⇒ every y D P₁) (yes (line 5 0 (0 ∷ []) 1 ∷ line 16 1 [] 1 ∷ line 0 1 (0 ∷ []) 0 ∷ []) [])
    -- 12
    ∷ row case_12 (fun 0 g none (fun 1 z none (app 2 (fun 3 x (some (datatype D)) (app 4 (ident 5 g) (ident 6 x))) (ident 7 z)))) 0
    (every y D (every x D P₂) ⇒ every z D (every x D P₂))
    (yes (line 5 0 (0 ∷ []) 1 ∷ line 11 1 (1 ∷ []) 1 ∷ line 12 2 [] 2 ∷ line 11 3 (2 ∷ []) 1
    ∷ line 12 4 [] 2 ∷ line 0 5 (0 ∷ []) 0 ∷ line 0 6 (2 ∷ []) 0 ∷ line 0 7 (1 ∷ []) 0 ∷ []) [])
    -- 13, with its gap; `Fillings` has the rest of it
    ∷ row case_13 (fun 0 h none (sorry 1)) 0 (A ⇒ A) (yes (line 5 0 (0 ∷ []) 1 ∷ line 15 1 [] 0 ∷ []) (goal 1 1 ∷ []))
    -- marking error: the oldest entry looked up
    ∷ row oldest_witness (fun 0 x none (fun 1 x none (fun 2 h none (pair 3 (ident 4 x) (ident 5 h))))) 0 (every x D (every y D (P₁ ⇒ exist y D P₁)))
    (yes (line 11 0 (0 ∷ []) 1 ∷ line 11 1 (1 ∷ []) 1 ∷ line 5 2 (2 ∷ []) 1 ∷ line 13 3 [] 2 ∷ line 0 4 (1 ∷ []) 0 ∷ line 0 5 (2 ∷ []) 0 ∷ []) [])
    ∷ row oldest_name (fun 0 x none (fun 1 x none (fun 2 h (some (prop (from 0 (atom made 19 (free x ∷ []))))) (ident 3 h))))
    1 (every x D (every y D (P₁ ⇒ P₁)))
    (yes (line 11 0 (0 ∷ []) 1 ∷ line 11 1 (1 ∷ []) 1 ∷ line 5 2 (2 ∷ []) 1 ∷ line 0 3 (2 ∷ []) 0 ∷ []) [])
    -- marking error: the left arm's hypothesis kept for the right
    ∷ row left_kept (fun 0 h none (case 1 x y (ident 2 h) (ident 3 x) (ident 4 x))) 0 (either A A ⇒ A) (no 20 4)
    ∷ row left_counted (case 0 x y (ascribe 1 (prop (from 0 (either A B))) (sorry 2)) (sorry 3) (sorry 4)) 3 A
    (yes (line 9 0 (0 ∷ 1 ∷ []) 3 ∷ line 15 2 [] 0 ∷ line 15 3 [] 0 ∷ line 15 4 [] 0 ∷ []) (goal 2 0 ∷ goal 3 1 ∷ goal 4 1 ∷ []))
    -- marking error: a datatype tested for before Abort's body
    ∷ row abort_first (fst 0 (ascribe 1 (datatype D) (abort 2 (unit 3)))) 0 A (no 11 3)
    ∷ row abort_last (fst 0 (ascribe 1 (datatype D) (abort 2 (sorry 3)))) 0 A (no 13 2)
    ∷ []
