use mathlib.Core.Logic.{inr}
use native.Mathlib.Omega.{arith}
use Rattle.step.proofs.Taking.{recalls_type, recalls_state, recalls_few, recalls_entries}
use Rattle.step.proofs.picture.recall.Goals as goal

pub copy_entries-requires : goal.copy_entries-requires
copy_entries-requires c =
    let few = recalls_few _ _ c.word-3.ensures c.requires.1 in
    record { n_in_bounds = (omega arith, omega arith); apart = inr (omega arith) }

pub returns : goal.returns
returns c = (search recalls_type, search recalls_state, search recalls_entries)
