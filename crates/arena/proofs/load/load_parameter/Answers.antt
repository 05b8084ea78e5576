use Rattle.arena.specs.Load.{named}
use Rattle.arena.proofs.Loads.{load_free, load_bound}
use Rattle.arena.proofs.load.load_parameter.Goals as goal

pub returns-in-None : goal.returns-in-None
returns-in-None c = search load_free

pub returns-in-Some : goal.returns-in-Some
returns-in-Some c = search load_bound

pub returns-in-Identifier : goal.returns-in-Identifier
unfolding named
returns-in-Identifier c = rw c.in-Identifier.is

pub returns-in-Bound : goal.returns-in-Bound
unfolding named
returns-in-Bound c = rw c.in-Bound.is
