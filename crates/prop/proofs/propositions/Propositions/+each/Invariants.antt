use Rattle.prop.proofs.propositions.Propositions.+each.Given as goal

abbrev pub decreases-each : goal.decreases-each
decreases-each g l = l.n.0
