-- Document 01, "The proof table file": the header's fields, where each record stands, and the kinds of record.
-- Assumes nothing.
use Rattle.std.specs.Prelude.{List, [], ◌∷◌, Bool, true, false, ℕ, ◌+◌, ◌*◌, get_or}
use Rattle.numbers.specs.declared.record.Record.{Record}
use Rattle.numbers.specs.Records.{word_at, record_at}
use Rattle.rules.specs.Prop.{Link, and, or, imp, Quant, all, ex}
use Rattle.layout.specs.declared.record.TermRecord.{TermRecord}

-- THE HEADER: how many propositions, how many terms, and the number of the expected proposition
abbrev pub props : List ℕ → ℕ
props l = word_at l 6

abbrev pub terms : List ℕ → ℕ
terms l = word_at l 8

abbrev pub expected : List ℕ → ℕ
expected l = word_at l 10

-- THE LENGTH of a file with p propositions and t terms: sixteen bytes for the header and for each record
abbrev pub file_size : (p t : ℕ) → ℕ
file_size p t = 16 + (16 * p + 16 * t)

-- THE RECORDS: the header is as long as one, then the propositions, then the terms
abbrev pub prop_record : List ℕ → ℕ → Record
prop_record l n = record_at l (n + 1)

-- the same sixteen bytes under a term's names
abbrev pub as_term : Record → TermRecord
as_term r =
    record {
      kind = r.kind;
      tag = r.count;
      typ = r.a;
      name1 = record { 0 = r.b };
      name2 = record { 0 = r.c };
      child1 = record { 0 = get_or r.parameters 0 0 };
      child2 = record { 0 = get_or r.parameters 1 0 };
      child3 = record { 0 = get_or r.parameters 2 0 };
      zero = get_or r.parameters 3 0;
    }

abbrev pub term_record : List ℕ → ℕ → TermRecord
term_record l t = as_term (record_at l (props l + t + 1))

-- KINDS OF PROPOSITION, by their number
pub data PropKind : Type 0 where
  constant : Bool → PropKind
  linked : Link → PropKind
  quantified : Quant → PropKind
  atomic : PropKind
  strange : PropKind

unfoldable pub prop_kinds : List PropKind
prop_kinds = constant true ∷ constant false ∷ linked and ∷ linked or ∷ linked imp ∷ quantified all ∷ quantified ex ∷ atomic ∷ []

unfoldable pub prop_kind : ℕ → PropKind
unfolding prop_kinds
prop_kind k = get_or prop_kinds k strange

-- KINDS OF TERM, by their number
pub data Kind : Type 0 where
  Ident Pair ProjectFst ProjectSnd Function Application LetIn OrLeft OrRight Case Abort TheUnit TypeAscription Sorry Strange : Kind

unfoldable pub kinds : List Kind
kinds =
    Ident ∷ Pair ∷ ProjectFst ∷ ProjectSnd ∷ Function ∷ Application ∷ LetIn
    ∷ OrLeft ∷ OrRight ∷ Case ∷ Abort ∷ TheUnit ∷ TypeAscription ∷ Sorry ∷ []

unfoldable pub kind_of : ℕ → Kind
unfolding kinds
kind_of k = get_or kinds k Strange
