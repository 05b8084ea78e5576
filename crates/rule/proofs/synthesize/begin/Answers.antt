use native.Mathlib.Omega.{arith}
use Rattle.rule.proofs.Dispatch.{inject_not, abort_not, sorry_not}
use Rattle.step.proofs.Bounds.{ready_inner, ready_tree}
use mathlib.Core.Path.{refl}
use Rattle.rule.proofs.synthesize.begin.Goals as goal

pub synthesize-requires-clause-place : goal.synthesize-requires-clause-place
synthesize-requires-clause-place c = (ready_tree c.requires.1, ready_inner c.requires.1 c.args.st refl)

pub synthesize-requires-in-11-clause-place : goal.synthesize-requires-in-11-clause-place
synthesize-requires-in-11-clause-place c = (ready_tree c.requires.1, ready_inner c.requires.1 c.args.st refl)

pub returns-in-10 : goal.returns-in-10
returns-in-10 c = λ goals. record { begins = λ rd. search abort_not; names = tt }

pub returns-in-7-to-8 : goal.returns-in-7-to-8
returns-in-7-to-8 c = λ goals. record { begins = λ rd. inject_not rd _ c.term_record.ensures (omega arith) (omega arith) _ c.at-in-7-to-8.ensures; names = tt }

pub returns-in-13-to-255 : goal.returns-in-13-to-255
returns-in-13-to-255 c = λ goals. record { begins = λ rd. sorry_not rd _ c.term_record.ensures (omega arith) _ c.at-in-13-to-255.ensures; names = tt }

pub returns-in-1 : goal.returns-in-1
returns-in-1 c = λ goals. c.synthesize-in-1.ensures _

pub returns-in-2-to-3 : goal.returns-in-2-to-3
returns-in-2-to-3 c = λ goals. c.synthesize-in-2-to-3.ensures _

pub returns-in-5 : goal.returns-in-5
returns-in-5 c = λ goals. c.synthesize-in-5.ensures _

pub returns-in-6 : goal.returns-in-6
returns-in-6 c = λ goals. c.begin.ensures _

pub returns-in-9 : goal.returns-in-9
returns-in-9 c = λ goals. c.begin-in-9.ensures _
