use mathlib.Core.Path.{refl, sym, subst⁻¹, ◌∙◌}
use mathlib.Core.List.{◌++◌}
use Prim.Native.Nat.{◌≤◌}
use native.Mathlib.Omega.{arith}
use lib.ListN.{length, take, drop}
use lib.Seq.{length-take-le}
use Rattle.table.specs.declared.Purpose.TheVariants.{Check}
use Rattle.editing.specs.Edited.{Edited}
use Rattle.editing.proofs.Edits.{both_tested, edited_in_order, edited_good}
use Rattle.filling.specs.Fill.{lent}
use Rattle.filling.proofs.Overs.{exact_kept}
use Rattle.filling.proofs.Parts.{room_long, part_fits, part_is, bytes_take}
use Rattle.filling.proofs.Stages.{edited_refused, edited_run}
use Rattle.filling.proofs.fill_hole.Goals as goal

pub edited_size-size-requires : goal.edited_size-size-requires
edited_size-size-requires c = let t = both_tested c.requires.fillable in
    record {
      counted = t.0;
      counted_2 = t.1.0;
    }

pub slice_bounds-edit-end-2 : goal.slice_bounds-edit-end-2
slice_bounds-edit-end-2 c =
    let size = c.edited_size-size in
    sym (length-take-le size.result c.args.edited.now (omega (arith, size.ensures.1, c.requires.exact_all.edited)))

pub edit-requires : goal.edit-requires
edit-requires c =
    let size = c.edited_size-size in
    record {
      fillable = c.requires.fillable;
      table_len = length-take-le size.result c.args.edited.now (omega (arith, size.ensures.1, c.requires.exact_all.edited)) ∙ size.ensures.0;
    }

pub slice_bounds-test_edited-end-2 : goal.slice_bounds-test_edited-end-2
slice_bounds-test_edited-end-2 c =
    let size = c.edited_size-size in
    let fit : size.result ≤ length c.args.edited.now = omega (arith, size.ensures.1, c.requires.exact_all.edited) in
    let edit = c.edit in
    sym (length-take-le size.result (edit.new.table ++ drop size.result c.args.edited.now) (part_fits size.result c.args.edited.now edit.new.table fit edit.auto.table))

pub test_edited-requires : goal.test_edited-requires
test_edited-requires c =
    let h = c.requires.fillable in
    let x = c.requires.exact_all in
    let size = c.edited_size-size in
    let fit : size.result ≤ length c.args.edited.now = omega (arith, size.ensures.1, x.edited) in
    let edit = c.edit in
    let E : Edited c.args.old.now c.args.filling.now c.args.hole.0 (take size.result (edit.new.table ++ drop size.result c.args.edited.now)) =
    subst⁻¹ (Edited c.args.old.now c.args.filling.now c.args.hole.0) (part_is size.result c.args.edited.now edit.new.table fit edit.auto.table) edit.ensures in
    record {
      in_bounds = (omega (arith, E.size), omega (arith, x.rooms.work));
      well_linked = record { purpose = Check; linked = edited_in_order h E };
    }

pub returns-in-Err-clause-done : goal.returns-in-Err-clause-done
returns-in-Err-clause-done c =
    let x = c.requires.exact_all in
    let size = c.edited_size-size in
    let fit : size.result ≤ length c.args.edited.now = omega (arith, size.ensures.1, x.edited) in
    let edit = c.edit in
    let E : Edited c.args.old.now c.args.filling.now c.args.hole.0 (take size.result (edit.new.table ++ drop size.result c.args.edited.now)) =
    subst⁻¹ (Edited c.args.old.now c.args.filling.now c.args.hole.0) (part_is size.result c.args.edited.now edit.new.table fit edit.auto.table) edit.ensures in
    let bytes = bytes_take size.result (edit.new.table ++ drop size.result c.args.edited.now) (λ i. omega (arith, c.slice_known-2-1.given i)) in
    let tested = c.test_edited in
    let y = exact_kept x refl refl refl tested.auto.work (room_long size.result c.args.edited.now edit.new.table fit edit.auto.table) in
    edited_refused c.args.old.now c.args.filling.now c.args.goal c.args.hole.0 c.requires.hole_at (lent c.args.lent.now.tree.now c.args.lent.now.goals.now c.args.lent.now.props.now c.args.lent.now.work.now c.args.edited.now) (lent c.args.lent.now.tree.now c.args.lent.now.goals.now c.args.lent.now.props.now tested.new.work (edit.new.table ++ drop size.result c.args.edited.now)) _ x y _ bytes E tested.result tested.ensures _ _ c.in-Err.is c.refuse.ensures.done

pub run_filling-requires : goal.run_filling-requires
run_filling-requires c =
    let h = c.requires.fillable in
    let x = c.requires.exact_all in
    let size = c.edited_size-size in
    let fit : size.result ≤ length c.args.edited.now = omega (arith, size.ensures.1, x.edited) in
    let edit = c.edit in
    let E : Edited c.args.old.now c.args.filling.now c.args.hole.0 (take size.result (edit.new.table ++ drop size.result c.args.edited.now)) =
    subst⁻¹ (Edited c.args.old.now c.args.filling.now c.args.hole.0) (part_is size.result c.args.edited.now edit.new.table fit edit.auto.table) edit.ensures in
    let tested = c.test_edited in
    let y = exact_kept x refl refl refl tested.auto.work (room_long size.result c.args.edited.now edit.new.table fit edit.auto.table) in
    record {
      fillable = h;
      hole_at = c.requires.hole_at;
      size_in_bounds = (part_fits size.result c.args.edited.now edit.new.table fit edit.auto.table, E);
      good = edited_good h E (sym tested.ensures ∙ c.in_default.is);
      exact_all = y;
    }

pub returns-clause-done : goal.returns-clause-done
returns-clause-done c =
    let x = c.requires.exact_all in
    let size = c.edited_size-size in
    let fit : size.result ≤ length c.args.edited.now = omega (arith, size.ensures.1, x.edited) in
    let edit = c.edit in
    let E : Edited c.args.old.now c.args.filling.now c.args.hole.0 (take size.result (edit.new.table ++ drop size.result c.args.edited.now)) =
    subst⁻¹ (Edited c.args.old.now c.args.filling.now c.args.hole.0) (part_is size.result c.args.edited.now edit.new.table fit edit.auto.table) edit.ensures in
    let bytes = bytes_take size.result (edit.new.table ++ drop size.result c.args.edited.now) (λ i. omega (arith, c.slice_known-2-1.given i)) in
    let tested = c.test_edited in
    let y = exact_kept x refl refl refl tested.auto.work (room_long size.result c.args.edited.now edit.new.table fit edit.auto.table) in
    edited_run c.args.old.now c.args.filling.now c.args.goal c.args.hole.0 c.requires.hole_at (lent c.args.lent.now.tree.now c.args.lent.now.goals.now c.args.lent.now.props.now c.args.lent.now.work.now c.args.edited.now) (lent c.args.lent.now.tree.now c.args.lent.now.goals.now c.args.lent.now.props.now tested.new.work (edit.new.table ++ drop size.result c.args.edited.now)) _ x y _ bytes E tested.result tested.ensures _ c.in_default.is c.run_filling.ensures.done
