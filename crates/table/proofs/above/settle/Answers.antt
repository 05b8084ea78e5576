use Rattle.table.proofs.Chains.{climb_start, climb_found, climb_falls, climb_step, climb_end}
use Rattle.table.proofs.above.settle.Goals as goal

-- in a turn q is the number of a record, and at most q quantifiers were passed: `stands` of the invariant
pub loop-q-init : goal.loop-q-init
loop-q-init c = search climb_start

pub returns-then-r-x : goal.returns-then-r-x
returns-then-r-x c = search climb_found

pub loop-q-smaller : goal.loop-q-smaller
loop-q-smaller c = search climb_falls

pub loop-q-preserved : goal.loop-q-preserved
loop-q-preserved c = search climb_step

pub returns : goal.returns
returns c = search climb_end
