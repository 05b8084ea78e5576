use Rattle.std.proofs.lemmas.Result.{err_from_is_err_and}
use borrow.Author.Rules.{rules}
use Rattle.checker.proofs.Turns.{rank_below, begun_again, begun_among, go_first, go_ended, go_refused, go_instead, go_there, go_child, go_stop, go_resume, go_again, go_less}
use native.Mathlib.Omega.{arith}
use Rattle.step.specs.Modes.{WantIn}
use Rattle.step.specs.Lent.{held}
use mathlib.Core.Path.{subst, ◌∙◌}
use Rattle.checker.proofs.+check_perform_run_synthesize.Goals as goal

pub check-perform-requires : goal.check-perform-requires
check-perform-requires t c = (rank_below _ _ 1 0 _ c.decreases (omega arith), (c.requires.ready, search rules))

pub perform-begin-requires : goal.perform-begin-requires
perform-begin-requires t c =
    let begun = c.begun_as-want.ensures in
    record { ready = c.requires.ready; want_in = begun_among _ _ _ begun c.requires.want_in; begun = begun_again _ _ begun }

pub perform-loop-next-init : goal.perform-loop-next-init
perform-loop-next-init t c = (go_first _ _ _ _ _ c.requires.ready _ _ c.in_ok-next.ensures.done, (c.in_ok-next.ensures.same_rooms, c.in_ok-next.ensures.done.names))

pub perform-returns-in_err-next-clause-done : goal.perform-returns-in_err-next-clause-done
perform-returns-in_err-next-clause-done t c =
    let p = err_from_is_err_and c.from_residual.result c.from_residual.ensures.1 in
    rw (p.1, p.2) (go_refused _ _ _ _ _ c.requires.ready _ c.begun_as-want.ensures _ (c.in_err-next.ensures.done.begins c.requires.ready))

pub perform-returns-in-Done-clause-done : goal.perform-returns-in-Done-clause-done
perform-returns-in-Done-clause-done t c = c.settle.ensures (go_ended _ _ _ _ _ _ _ c.loop-next.invariant.0 c.requires.ready _ c.begun_as-want.ensures c.requires.want_in _ c.in-Done.is)

pub perform-check-requires : goal.perform-check-requires
perform-check-requires t c = go_instead _ _ _ _ _ _ _ c.loop-next.invariant.0 _ _ _ c.in-Instead.is _ c.decreases

pub perform-returns-in-Instead-clause-done : goal.perform-returns-in-Instead-clause-done
perform-returns-in-Instead-clause-done t c = go_there _ _ _ _ _ _ _ c.loop-next.invariant.0 c.requires.ready _ c.begun_as-want.ensures _ _ _ c.in-Instead.is _ c.check.result c.check.ensures.done

pub perform-run-requires : goal.perform-run-requires
perform-run-requires t c = go_child _ _ _ _ _ _ _ c.loop-next.invariant.0 _ _ _ _ c.in-Ask.is _ c.decreases

pub perform-returns-in_err-a-in-Ask-clause-done : goal.perform-returns-in_err-a-in-Ask-clause-done
perform-returns-in_err-a-in-Ask-clause-done t c =
    let exit = c.from_residual-in_err-a-in-Ask in
    let p = err_from_is_err_and exit.result exit.ensures.1 in
    let stop = go_stop _ _ _ _ _ _ _ c.loop-next.invariant.0 _ _ _ _ c.in-Ask.is _ c.in_err-a-in-Ask.ensures.done in
    rw (p.1, p.2) (go_refused _ _ _ _ _ c.requires.ready _ c.begun_as-want.ensures _ stop)

pub perform-resume-requires : goal.perform-resume-requires
perform-resume-requires t c =
    let all = go_resume _ _ _ _ _ _ _ c.loop-next.invariant.0 _ _ _ _ c.in-Ask.is _ _ c.in_ok-a-in-Ask.ensures.done _ c.leave-a.ensures in
    record { here = all.0; room = all.1.0; held = all.1.1.0; inside = all.1.1.1.0; records_in_bounds = all.1.1.1.1 }

pub perform-returns-in_err-next-in-Ask-clause-done : goal.perform-returns-in_err-next-in-Ask-clause-done
perform-returns-in_err-next-in-Ask-clause-done t c =
    let exit = c.from_residual-in_err-next-in-Ask in
    let p = err_from_is_err_and exit.result exit.ensures.1 in
    let again = go_again _ _ _ _ _ _ _ c.loop-next.invariant.0 _ _ _ _ c.in-Ask.is (held c.run.new.lent) _ c.in_ok-a-in-Ask.ensures.done _ c.leave-a.ensures _ _ _ _ (c.in_err-next-in-Ask.ensures _) in
    rw (p.1, p.2) (go_refused _ _ _ _ _ c.requires.ready _ c.begun_as-want.ensures _ again.1)

pub perform-loop-next-smaller : goal.perform-loop-next-smaller
perform-loop-next-smaller t c = go_less _ _ _ _ _ _ _ c.loop-next.invariant.0 _ _ _ _ c.in-Ask.is _ _ c.in_ok-a-in-Ask.ensures.done _ c.leave-a.ensures _ _ _ _ (c.in_ok-next-in-Ask.ensures _)

pub perform-loop-next-preserved : goal.perform-loop-next-preserved
perform-loop-next-preserved t c =
    let was = c.loop-next.invariant.1.0 in
    let now = c.in_ok-a-in-Ask.ensures.same_rooms in (
      go_again _ _ _ _ _ _ _ c.loop-next.invariant.0 _ _ _ _ c.in-Ask.is _ _ c.in_ok-a-in-Ask.ensures.done _ c.leave-a.ensures _ _ _ _ (c.in_ok-next-in-Ask.ensures _),
      (
        record {
          tree = now.tree ∙ was.tree;
          goals = now.goals ∙ was.goals;
          props = now.props ∙ was.props;
          work = now.work ∙ was.work;
          tree_long = c.resume.auto.tree ∙ now.tree_long ∙ was.tree_long;
          goals_long = now.goals_long ∙ was.goals_long;
          props_long = c.resume.auto.props ∙ now.props_long ∙ was.props_long;
          work_long = c.resume.auto.work ∙ now.work_long ∙ was.work_long;
        },
        (c.in_ok-next-in-Ask.ensures c.run.new.lent.goals.now).names (rw c.in-Ask.is at c.loop-next.invariant.1.1),
      ),
    )

pub run-synthesize-requires : goal.run-synthesize-requires
run-synthesize-requires t c = (rank_below _ _ 2 1 _ c.decreases (omega arith), c.requires.ready)

pub run-check-requires : goal.run-check-requires
run-check-requires t c = (rank_below _ _ 2 1 _ c.decreases (omega arith), (c.requires.ready, subst (WantIn _) c.in-Check.is c.requires.want_in))

pub synthesize-perform-requires : goal.synthesize-perform-requires
synthesize-perform-requires t c = (rank_below _ _ 1 0 _ c.decreases (omega arith), (c.requires, tt))
