use Rattle.arena.proofs.Copies.{one_word}
use Rattle.arena.proofs.copy.one_more.Goals as goal

pub overflow_add-result : goal.overflow_add-result
overflow_add-result c = search one_word
