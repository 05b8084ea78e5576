-- Document 01, refusal 4: a record's kind, tag and parameter count are known ones, and every field that the kind does not use is zero.
-- Assumes nothing.
use Rattle.std.specs.Prelude.{Bool, ◌&&◌, ◌||◌, ℕ, get_or, eqb, leb, ltb}
use Rattle.numbers.specs.declared.record.Record.{Record}
use Rattle.layout.specs.declared.record.TermRecord.{TermRecord}
use Rattle.layout.specs.declared.form.PropShape.{PropShape}
use Rattle.layout.specs.declared.form.TermShape.{TermShape}
use Rattle.layout.specs.File.{PropKind, constant, linked, quantified, atomic, strange, prop_kind}
use Rattle.layout.specs.File.{Kind, Ident, Pair, ProjectFst, ProjectSnd, Function, Application, LetIn}
use Rattle.layout.specs.File.{OrLeft, OrRight, Case, Abort, TheUnit, TypeAscription, Sorry, Strange, kind_of}

-- a field that is not used is zero
abbrev pub fits : Bool → ℕ → Bool
fits used x = used || eqb x 0

-- PROPOSITIONS: how many of the fields a, b, c a kind uses, how many children it has, and the least and most of its parameters.
-- A kind that is not known admits no parameter count at all
abbrev pub prop_row : (fields children least most : ℕ) → PropShape
prop_row f c i j = record { fields = f; children = c; least = i; most = j }

unfoldable pub prop_shape : PropKind → PropShape
prop_shape (constant b) = prop_row 0 0 0 0
prop_shape (linked h) = prop_row 2 2 0 0
prop_shape (quantified q) = prop_row 3 1 0 0
prop_shape atomic = prop_row 1 0 0 4
prop_shape strange = prop_row 0 0 1 0

abbrev pub in_prop_shape : PropShape → Record → Bool
in_prop_shape s r =
    (leb s.least r.count && leb r.count s.most)
    && ((fits (ltb 0 s.fields) r.a && (fits (ltb 1 s.fields) r.b && fits (ltb 2 s.fields) r.c))
    && (fits (ltb 0 r.count) (get_or r.parameters 0 0)
    && (fits (ltb 1 r.count) (get_or r.parameters 1 0)
    && (fits (ltb 2 r.count) (get_or r.parameters 2 0) && fits (ltb 3 r.count) (get_or r.parameters 3 0)))))

unfoldable pub prop_form : Record → Bool
prop_form r = in_prop_shape (prop_shape (prop_kind r.kind)) r

-- TERMS: how many names and children a kind has, and its least and highest type tag. A kind that is not known admits no tag
abbrev pub term_row : (names children least most : ℕ) → TermShape
term_row x c i j = record { names = x; children = c; least = i; most = j }

unfoldable pub term_shape : Kind → TermShape
term_shape Ident = term_row 1 0 0 0
term_shape Pair = term_row 0 2 0 0
term_shape ProjectFst = term_row 0 1 0 0
term_shape ProjectSnd = term_row 0 1 0 0
term_shape Function = term_row 1 1 0 2
term_shape Application = term_row 0 2 0 0
term_shape LetIn = term_row 2 2 0 0
term_shape OrLeft = term_row 0 1 0 0
term_shape OrRight = term_row 0 1 0 0
term_shape Case = term_row 2 3 0 0
term_shape Abort = term_row 0 1 0 0
term_shape TheUnit = term_row 0 0 0 0
term_shape TypeAscription = term_row 0 1 1 2
term_shape Sorry = term_row 0 0 0 0
term_shape Strange = term_row 0 0 1 0

-- a tag of 0 says that there is no type
abbrev pub in_term_shape : TermShape → TermRecord → Bool
in_term_shape s r =
    (leb s.least r.tag && (leb r.tag s.most && fits (ltb 0 r.tag) r.typ))
    && ((fits (ltb 0 s.names) r.name1.0 && fits (ltb 1 s.names) r.name2.0)
    && (fits (ltb 0 s.children) r.child1.0
    && (fits (ltb 1 s.children) r.child2.0 && (fits (ltb 2 s.children) r.child3.0 && eqb r.zero 0))))

unfoldable pub term_form : TermRecord → Bool
term_form r = in_term_shape (term_shape (kind_of r.kind)) r
