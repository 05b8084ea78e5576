use Rattle.numbers.specs.declared.refusal.Reason.TheVariants.{CheckNoObject, SynthNoProposition, CheckWitnessEscapes, SynthWitnessEscapes}
use Rattle.step.proofs.Refusing.{reason_number}
use Rattle.step.proofs.Openings.{close_data, close_holds, close_shut}
use Rattle.step.proofs.open.close_let.Goals as goal

pub returns-in_default : goal.returns-in_default
returns-in_default c = let of = reason_number c.args.w CheckNoObject SynthNoProposition _ c.either-why.ensures in search close_data

pub returns-then-holds : goal.returns-then-holds
returns-then-holds c = let of = reason_number c.args.w CheckWitnessEscapes SynthWitnessEscapes _ c.either-why-then-holds.ensures in let says = rw c.held.ensures.room at c.holds.ensures in search close_holds

pub returns-else-holds : goal.returns-else-holds
returns-else-holds c = let says = rw c.held.ensures.room at c.holds.ensures in search close_shut
