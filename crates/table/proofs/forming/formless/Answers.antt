use Rattle.numbers.specs.Limits.{most_terms}
use native.Mathlib.Omega.{arith}
use Rattle.table.specs.Tests.{formless}
use Rattle.table.proofs.Headers.{first_most}
use Rattle.table.proofs.forming.formless.Goals as goal

pub or_term-requires-clause-at_most : goal.or_term-requires-clause-at_most
or_term-requires-clause-at_most c =
    first_most _ _ most_terms _ c.formless_term-h.ensures (omega arith)

pub returns : goal.returns
unfolding formless
returns c = cc
