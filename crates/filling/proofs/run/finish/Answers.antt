use mathlib.Core.Path.{refl, sym}
use native.Mathlib.Omega.{arith}
use lib.ListN.{take}
use lib.Seq.{length-take-le}
use Rattle.step.specs.Rooms.{rooms}
use Rattle.filling.specs.Fill.{lent}
use Rattle.filling.proofs.Finishing.{within, rest_room, run_refused, run_accepted}
use Rattle.filling.proofs.run.finish.Goals as goal

pub slice_bounds-count-end-in-Ok : goal.slice_bounds-count-end-in-Ok
slice_bounds-count-end-in-Ok c = sym (length-take-le _ c.args.edited.now c.requires.size_in_bounds)

pub count-count-requires : goal.count-count-requires
count-count-requires c =
    let w = within (take c.args.size c.args.edited.now) c.args.size c.args.serials (rooms c.args.lent.now.tree.now c.args.lent.now.goals.now c.args.lent.now.props.now c.args.lent.now.work.now) c.args.answer _ c.in-Ok.is c.requires.fitting in
    record {
      in_bounds = omega (arith, length-take-le c.args.size c.args.edited.now c.requires.size_in_bounds, w.0);
      st_bound = w.1;
    }

pub clear_rest-requires : goal.clear_rest-requires
clear_rest-requires c =
    let all = rest_room (take c.args.size c.args.edited.now) c.args.size c.args.serials (rooms c.args.lent.now.tree.now c.args.lent.now.goals.now c.args.lent.now.props.now c.args.lent.now.work.now) c.args.answer _ c.in-Ok.is c.requires.fitting _ c.count-count.ensures c.requires.exact_all.rooms in
    record { records_bound = all.0; holes_bound = all.1.0; count_bound = all.1.1 }

pub overflow_sub-result : goal.overflow_sub-result
overflow_sub-result c = (within (take c.args.size c.args.edited.now) c.args.size c.args.serials (rooms c.args.lent.now.tree.now c.args.lent.now.goals.now c.args.lent.now.props.now c.args.lent.now.work.now) c.args.answer _ c.in-Ok.is c.requires.fitting).4

pub returns-in-Err-clause-done : goal.returns-in-Err-clause-done
returns-in-Err-clause-done c =
    λ g o b ran. run_refused (lent c.args.lent.now.tree.now c.args.lent.now.goals.now c.args.lent.now.props.now c.args.lent.now.work.now c.args.edited.now) _ c.args.size c.args.serials g o b c.args.answer ran _ _ c.in-Err.is c.refuse.ensures.done

pub returns-in-Ok-clause-done : goal.returns-in-Ok-clause-done
returns-in-Ok-clause-done c =
    λ g o b ran. rw c.from.ensures (run_accepted (lent c.args.lent.now.tree.now c.args.lent.now.goals.now c.args.lent.now.props.now c.args.lent.now.work.now c.args.edited.now) _ c.args.size c.args.serials g o b c.args.answer ran _ _ _ c.in-Ok.is c.requires.size_in_bounds
    c.count-count.ensures c.clear_rest.ensures.rest c.trim.ensures refl)
