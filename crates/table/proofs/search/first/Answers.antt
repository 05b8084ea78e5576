use Rattle.std.proofs.Common.{◌<◌, false, true, arith, sym, ◌∙◌}
use Rattle.table.proofs.Firsts.{first_here, first_past, first_none}
use Rattle.table.proofs.search.first.Goals as goal

pub returns-then-test : goal.returns-then-test
returns-then-test g c = λ t told.
    let below : c.loop-i.i < c.args.n = omega arith in
    sym (c.loop-i.invariant t told ∙ first_here t c.loop-i.i c.args.n below (sym (told c.loop-i.i true below c.if-test.ensures)))

pub loop-i-preserved : goal.loop-i-preserved
loop-i-preserved g c = λ t told.
    let below : c.loop-i.i < c.args.n = omega arith in
    c.loop-i.invariant t told ∙ first_past t c.loop-i.i c.args.n below (sym (told c.loop-i.i false below c.if-test.ensures))

pub returns : goal.returns
returns g c = λ t told. sym (c.loop-i.invariant t told ∙ first_none t c.loop-i.i c.args.n (omega arith))
