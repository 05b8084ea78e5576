use borrow.Author.Rules.{rules}
use Rattle.editing.specs.Edited.{moved_prop, moved_term}
use Rattle.editing.proofs.Rows.{prop_row, term_row, rows_joined}
use Rattle.editing.proofs.join.Goals as goal

pub copy-requires-2-clause-changes : goal.copy-requires-2-clause-changes
copy-requires-2-clause-changes c =
    let h = prop_row c.requires.counted c.requires.counted_2 c.requires.directed _ _ c.proposition_count-p.ensures c.proposition_count-more_p.ensures in search h

pub copy-requires-4-clause-changes : goal.copy-requires-4-clause-changes
copy-requires-4-clause-changes c =
    let h = term_row c.requires.counted c.requires.counted_2 c.requires.directed _ _ c.proposition_count-p.ensures c.proposition_count-more_p.ensures _ _ c.term_count-t.ensures c.term_count-more_t.ensures in search h

pub returns : goal.returns
returns c =
    rows_joined _ _ _ _ _ _ c.proposition_count-p.ensures c.term_count-t.ensures c.proposition_count-more_p.ensures c.term_count-more_t.ensures c.requires.counted_2.some _ c.requires.table_len _
    c.put_header.ensures _ (c.copy.ensures _ (λ i r m k e met. search rules)) _ (c.copy-2.ensures (moved_prop c.proposition_count-p.result) (λ i r m k e met. search rules)) _ (c.copy-3.ensures _ (λ i r m k e met. search rules)) _ (c.copy-4.ensures (moved_term c.proposition_count-p.result c.term_count-t.result) (λ i r m k e met. search rules))
