use Rattle.numbers.specs.Limits.{most_terms}
use mathlib.Core.Path.{◌∙◌}
use native.Mathlib.Omega.{arith}
use Rattle.table.proofs.Headers.{first_most}
use Rattle.table.proofs.Guilts.{linked_answer}
use Rattle.table.proofs.link.badly_linked.Goals as goal

pub or_term-requires-clause-at_most : goal.or_term-requires-clause-at_most
or_term-requires-clause-at_most c = first_most _ _ most_terms _ c.badly_linked_term-h.ensures (omega arith)

pub returns : goal.returns
returns c =
    let a = c.args in
    let p = c.proposition_count-p in
    let t = c.term_count-count in
    let g = c.badly_linked_proposition-g in
    let h = c.badly_linked_term-h in
    c.or_term.ensures ∙ linked_answer a.purpose a.file.now c.count_names.new.work p.result t.result g.result h.result c.count_names.ensures p.ensures t.ensures g.ensures h.ensures
