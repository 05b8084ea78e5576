use Rattle.numbers.specs.declared.refusal.Reason.TheVariants.{CheckNoObject, SynthNoProposition, CheckUnknownName, SynthUnknownName}
use Rattle.step.proofs.Refusing.{reason_number}
use Rattle.step.proofs.Objects.{object_none, object_unknown, object_known}
use Rattle.step.proofs.open.object_of.Goals as goal

pub returns-then-r-ne0 : goal.returns-then-r-ne0
returns-then-r-ne0 c = let of = reason_number c.args.w CheckNoObject SynthNoProposition _ c.either-why.ensures in λ ps. search object_none

pub returns-in_default : goal.returns-in_default
returns-in_default c = let of = reason_number c.args.w CheckUnknownName SynthUnknownName _ c.either-why-in_default.ensures in let is = rw c.from.ensures at c.in_default.ensures in λ ps. search object_unknown

pub returns : goal.returns
returns c = let is = rw c.from.ensures at c.in-Some.ensures in λ ps. search object_known
