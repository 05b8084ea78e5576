use Rattle.prop.proofs.Occurs.{each_constant, each_first, each_second, each_quant, each_atom}
use Rattle.prop.proofs.propositions.Propositions.+each.Goals as goal

pub returns-in-Constant : goal.returns-in-Constant
returns-in-Constant g t c = each_constant _ _ _ c.in-Constant.ensures

pub returns-then-each : goal.returns-then-each
returns-then-each g t c = each_second _ _ _ _ _ c.in-Link.ensures _ c.each.ensures c.if-each.true _ c.each-then-each.ensures

pub returns-else-each : goal.returns-else-each
returns-else-each g t c = each_first _ _ _ _ _ c.in-Link.ensures _ c.each.ensures c.if-each.false

pub returns-in-Quantifier : goal.returns-in-Quantifier
returns-in-Quantifier g t c = each_quant _ _ _ _ c.in-Quantifier.ensures _ c.each-in-Quantifier.ensures

pub returns-in-Atom : goal.returns-in-Atom
returns-in-Atom g t c = each_atom _ _ _ _ c.in-Atom.ensures _ c.all_pass.ensures
