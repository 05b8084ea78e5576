use Rattle.arena.proofs.Loads.{record_atom, record_other}
use Rattle.arena.proofs.load.load_record.Goals as goal

pub returns-then-kind-eq-ATOM : goal.returns-then-kind-eq-ATOM
returns-then-kind-eq-ATOM c = search record_atom

pub returns-else-kind-eq-ATOM : goal.returns-else-kind-eq-ATOM
returns-else-kind-eq-ATOM c = search record_other
