use mathlib.Core.Path.{refl, ap, sym, ◌∙◌}
use Prim.Native.Nat.{ℕ, ◌+◌}
use native.Mathlib.Omega.{arith}
use lib.ListN.{length-set}
use borrow.Author.Rules.{rules}
use Rattle.numbers.specs.Records.{record_at}
use Rattle.layout.specs.File.{as_term}
use Rattle.table.specs.Size.{too_deep}
use Rattle.table.proofs.Firsts.{first_start, first_here, first_past, first_none}
use Rattle.table.proofs.Heights.{depths_start, depth_here, subterms_within, depths_next, is_deep, not_deep}
use Rattle.table.proofs.size.too_deep.Goals as goal

pub loop-t-init : goal.loop-t-init
loop-t-init c = (first_start _ _, refl, depths_start _ c.args.work.now (search rules))

pub returns-then-d-gt-DEPTH : goal.returns-then-d-gt-DEPTH
returns-then-d-gt-DEPTH c =
    let a = c.args in
    sym (c.loop-t.invariant.0 ∙ first_here (too_deep a.file.now) c.loop-t.t a.count (search rules) (is_deep a.file.now c.loop-t.t _ (depth_here _ _ _ c.requires.well_linked (omega (arith, c.requires.p_value.1)) c.loop-t.invariant.2) c.if-d-gt-DEPTH.true))

pub set_depths-requires : goal.set_depths-requires
set_depths-requires c =
    subterms_within c.args.file.now c.loop-t.work c.loop-t.t c.requires.well_linked (omega (arith, c.requires.p_value.1)) _ (c.term_at-r.ensures ∙ ap (λ (k : ℕ). as_term (record_at c.args.file.now (k + c.loop-t.t + 1))) c.requires.p_value.0) (omega (arith, c.requires.p_value, c.requires.count_in_bounds, c.loop-t.invariant.1, length-set c.args.work.now 0 1))

pub loop-t-preserved : goal.loop-t-preserved
loop-t-preserved c =
    let l = c.args.file.now in
    let d = c.set_depths in (
      c.loop-t.invariant.0 ∙ first_past (too_deep l) c.loop-t.t c.args.count (search rules) (not_deep l c.loop-t.t _ (depth_here _ _ _ c.requires.well_linked (omega (arith, c.requires.p_value.1)) c.loop-t.invariant.2) c.if-d-gt-DEPTH.false),
      d.ensures.size ∙ c.loop-t.invariant.1,
      depths_next l c.loop-t.work c.loop-t.t c.requires.well_linked (omega (arith, c.requires.p_value.1)) _ (c.term_at-r.ensures ∙ ap (λ (k : ℕ). as_term (record_at c.args.file.now (k + c.loop-t.t + 1))) c.requires.p_value.0) d.new.work _ c.loop-t.invariant.2 (depth_here _ _ _ c.requires.well_linked (omega (arith, c.requires.p_value.1)) c.loop-t.invariant.2) d.ensures,
    )

pub returns : goal.returns
returns c =
    let a = c.args in
    sym (c.loop-t.invariant.0 ∙ first_none (too_deep a.file.now) c.loop-t.t a.count (search rules))
