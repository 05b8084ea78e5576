use mathlib.Core.List.{List}
use Prim.Native.Nat.{ℕ}
use Rattle.layout.specs.File.{term_record}
use Rattle.table.specs.Links.{hits, sum, annotation}
use Rattle.table.specs.Naming.{Names}
use Rattle.table.proofs.naming.by_annotations.Given as goal

abbrev named : List ℕ → ℕ → ℕ → ℕ
named l j m = hits j (annotation (term_record l m))

abbrev pub invariant-loop-t : goal.invariant-loop-t
invariant-loop-t l = Names 0 l.p (λ j. sum (named l.file j) l.t) l.initial.work l.work
