use Rattle.context.proofs.Laws.{inserted}
use Rattle.context.proofs.identifier_context.insert.Goals as goal

pub returns : goal.returns
returns c =
    let a = c.args in
    inserted a.work.now _ _ _ _ a.len a.e _ _ c.requires
    c.put_word.ensures
    c.put_word-2.ensures
    c.tag_of.ensures
    c.put_word-3.ensures
    c.number_of.ensures
    c.put_word-4.ensures
