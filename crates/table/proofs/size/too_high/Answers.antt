use mathlib.Core.Path.{sym, ◌∙◌}
use native.Mathlib.Omega.{arith}
use lib.ListN.{length-set}
use borrow.Author.Rules.{rules}
use Rattle.table.specs.Size.{too_high}
use Rattle.table.proofs.Firsts.{first_here, first_past, first_none}
use Rattle.table.proofs.Heights.{children_high, height_found, heights_next, is_high, not_high}
use Rattle.table.proofs.size.too_high.Goals as goal

pub height_of-h-requires : goal.height_of-h-requires
height_of-h-requires c =
    children_high c.args.file.now c.loop-n.work c.loop-n.n _ c.proposition_at-r.ensures (omega (arith, c.requires.p_value.0)) c.requires.well_linked c.loop-n.invariant.2 (omega (arith, c.loop-n.invariant, c.requires.p_value))

pub returns-then-h-gt-HEIGHT : goal.returns-then-h-gt-HEIGHT
returns-then-h-gt-HEIGHT c =
    let a = c.args in
    sym (c.loop-n.invariant.0 ∙ first_here (too_high a.file.now) c.loop-n.n a.p (search rules) (is_high a.file.now c.loop-n.n _ (height_found c.args.file.now c.loop-n.work c.loop-n.n _ c.proposition_at-r.ensures (omega (arith, c.requires.p_value.0)) c.requires.well_linked c.loop-n.invariant.2 _ c.height_of-h.ensures) c.if-h-gt-HEIGHT.true))

pub loop-n-preserved : goal.loop-n-preserved
loop-n-preserved c =
    let a = c.args in (
      c.loop-n.invariant.0 ∙ first_past (too_high a.file.now) c.loop-n.n a.p (search rules) (not_high a.file.now c.loop-n.n _ (height_found c.args.file.now c.loop-n.work c.loop-n.n _ c.proposition_at-r.ensures (omega (arith, c.requires.p_value.0)) c.requires.well_linked c.loop-n.invariant.2 _ c.height_of-h.ensures) c.if-h-gt-HEIGHT.false),
      length-set c.loop-n.work c.loop-n.n _ ∙ c.loop-n.invariant.1,
      heights_next a.file.now c.loop-n.work c.loop-n.n _ c.proposition_at-r.ensures (omega (arith, c.requires.p_value.0)) c.requires.well_linked c.loop-n.invariant.2 _ c.height_of-h.ensures c.if-h-gt-HEIGHT.false (search rules),
    )

pub returns : goal.returns
returns c =
    let a = c.args in
    sym (c.loop-n.invariant.0 ∙ first_none (too_high a.file.now) c.loop-n.n a.p (search rules))
