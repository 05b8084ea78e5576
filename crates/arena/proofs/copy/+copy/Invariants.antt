use Rattle.arena.proofs.copy.+copy.Given as goal

abbrev pub decreases-copy : goal.decreases-copy
decreases-copy g l = l.n.0
