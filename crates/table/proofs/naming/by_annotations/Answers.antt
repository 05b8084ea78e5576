use Rattle.numbers.specs.Records.{record_at}
use Rattle.layout.specs.declared.record.TermRecord.{TermRecord}
use Rattle.layout.specs.File.{as_term}
use mathlib.Core.Path.{◌≡◌, ap, subst, ◌∙◌}
use mathlib.Core.List.{List}
use Prim.Native.Nat.{ℕ, ◌+◌}
use native.Mathlib.Omega.{arith}
use Rattle.layout.specs.File.{term_record}
use Rattle.table.specs.Links.{hits, sum, annotation}
use Rattle.table.specs.Naming.{Names}
use Rattle.table.proofs.Namings.{names_same, names_start, names_step, annotation_hits}
use Rattle.table.proofs.naming.by_annotations.Goals as goal

abbrev named : List ℕ → ℕ → ℕ → ℕ
named l j m = hits j (annotation (term_record l m))

pub loop-t-init : goal.loop-t-init
loop-t-init c = names_start _ _ _ _

pub loop-t-preserved : goal.loop-t-preserved
loop-t-preserved c =
    let a = c.args in
    let file = a.file.now in
    let r = c.term_at-r.result in
    let e : r ≡ term_record file c.loop-t.t = c.term_at-r.ensures ∙ ap (λ (k : ℕ). as_term (record_at file (k + c.loop-t.t + 1))) c.requires.0 in
    names_step 0 a.p c.loop-t.t (named file) c.loop-t.invariant (names_same c.name.ensures (λ j. annotation_hits r.tag r.typ j ∙ ap (λ (r : TermRecord). hits j (annotation r)) e))

pub returns : goal.returns
returns c =
    let a = c.args in
    let h = c.loop-t in
    subst (λ (k : ℕ). Names 0 a.p (λ j. sum (named a.file.now j) k) a.work.now h.work) (omega arith) h.invariant
