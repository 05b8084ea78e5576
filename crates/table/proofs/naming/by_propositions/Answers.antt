use Rattle.numbers.specs.declared.record.Record.{Record}
use mathlib.Core.Path.{◌≡◌, ap, subst}
use mathlib.Core.List.{List}
use Prim.Native.Nat.{ℕ}
use native.Mathlib.Omega.{arith}
use Rattle.layout.specs.File.{prop_record}
use Rattle.table.specs.Links.{hits, sum, prop_links}
use Rattle.table.specs.Naming.{Names}
use Rattle.table.proofs.Namings.{names_same, names_start, names_step}
use Rattle.table.proofs.naming.by_propositions.Goals as goal

abbrev named : List ℕ → ℕ → ℕ → ℕ
named l j m = hits j (prop_links (prop_record l m))

pub loop-n-init : goal.loop-n-init
loop-n-init c = names_start _ _ _ _

pub loop-n-preserved : goal.loop-n-preserved
loop-n-preserved c =
    let a = c.args in
    let file = a.file.now in
    let r = c.proposition_at-r.result in
    let e : r ≡ prop_record file c.loop-n.n = c.proposition_at-r.ensures in
    names_step 0 a.p c.loop-n.n (named file) c.loop-n.invariant (names_same c.name_children.ensures (λ j. ap (λ (r : Record). hits j (prop_links r)) e))

pub returns : goal.returns
returns c =
    let a = c.args in
    let h = c.loop-n in
    subst (λ (k : ℕ). Names 0 a.p (λ j. sum (named a.file.now j) k) a.work.now h.work) (omega arith) h.invariant
