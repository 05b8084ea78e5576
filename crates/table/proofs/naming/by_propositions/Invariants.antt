use mathlib.Core.List.{List}
use Prim.Native.Nat.{ℕ}
use Rattle.layout.specs.File.{prop_record}
use Rattle.table.specs.Links.{hits, sum, prop_links}
use Rattle.table.specs.Naming.{Names}
use Rattle.table.proofs.naming.by_propositions.Given as goal

abbrev named : List ℕ → ℕ → ℕ → ℕ
named l j m = hits j (prop_links (prop_record l m))

abbrev pub invariant-loop-n : goal.invariant-loop-n
invariant-loop-n l = Names 0 l.p (λ j. sum (named l.file j) l.n) l.initial.work l.work
