use lib.ListN.{length}
use Rattle.table.proofs.Namings.{names_shown}
use Rattle.table.proofs.naming.count_names.Goals as goal

pub returns : goal.returns
returns c =
    names_shown c.args.purpose c.args.file.now c.fill_zero.new.room c.by_header.new.work c.by_propositions.new.work c.by_annotations.new.work
    c.by_terms.new.work (length c.args.work.now) c.proposition_count-p.result c.term_count-count.result
    c.fill_zero.ensures c.by_header.ensures c.by_propositions.ensures c.by_annotations.ensures c.by_terms.ensures
    c.proposition_count-p.ensures c.term_count-count.ensures
