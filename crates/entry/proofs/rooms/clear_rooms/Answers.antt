use Rattle.rules.specs.State.{limit}
use Rattle.entry.proofs.rooms.clear_rooms.Goals as goal

pub returns-clause-emptied : goal.returns-clause-emptied
unfolding limit
returns-clause-emptied c = record { tree = c.clear.ensures; goals = c.clear-2.ensures; props = c.clear-3.ensures; work = c.clear-4.ensures }
