use Rattle.numbers.specs.declared.refusal.Reason.TheVariants.{CheckUnknownName, SynthUnknownName}
use Rattle.step.proofs.Refusing.{reason_number}
use Rattle.step.proofs.Typings.{resolve_unknown, resolve_full, resolve_more, resolve_few, resolve_to}
use Rattle.step.proofs.typing.resolve_type.Goals as goal

pub grown-requires : goal.grown-requires
grown-requires c = let to = rw c.from.ensures at c.in-Ok.ensures in (search resolve_more, search resolve_few)

pub returns-in-Ok : goal.returns-in-Ok
returns-in-Ok c = let to = rw c.from.ensures at c.in-Ok.ensures in search resolve_to

pub returns-in-Err-Unknown : goal.returns-in-Err-Unknown
returns-in-Err-Unknown c = let of = reason_number c.args.w CheckUnknownName SynthUnknownName _ c.either-why.ensures in let says = rw (c.in-Err-Unknown.field-0-is, c.from.ensures) at c.in-Err-Unknown.ensures in search resolve_unknown

pub returns-in-Err-Full : goal.returns-in-Err-Full
returns-in-Err-Full c = let says = rw (c.in-Err-Full.field-0-is, c.from.ensures) at c.in-Err-Full.ensures in search resolve_full
