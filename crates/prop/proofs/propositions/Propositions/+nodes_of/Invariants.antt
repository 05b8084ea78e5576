use Rattle.prop.proofs.propositions.Propositions.+nodes_of.Given as goal

abbrev pub decreases-nodes_of : goal.decreases-nodes_of
decreases-nodes_of l = l.n.0
