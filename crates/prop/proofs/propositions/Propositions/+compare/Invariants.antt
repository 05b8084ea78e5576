use Rattle.prop.proofs.propositions.Propositions.+compare.Given as goal

abbrev pub decreases-compare : goal.decreases-compare
decreases-compare l = l.a.0
