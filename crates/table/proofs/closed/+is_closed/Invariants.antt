use Rattle.table.proofs.closed.+is_closed.Given as goal

-- the measure is the record's number
abbrev pub decreases-is_closed : goal.decreases-is_closed
decreases-is_closed l = l.n.0
