use native.Mathlib.Omega.{arith}
use Rattle.table.proofs.Chains.{body_below, left_below, right_below, shut_none, shut_one, shut_two}
use Rattle.table.proofs.closed.+is_closed.Goals as goal

pub is_closed-requires : goal.is_closed-requires
is_closed-requires t c =
    let r = c.proposition-r.ensures in
    let b = body_below r.well_linked _ c.requires.n_lt_props _ r.is _ c.prop_shape-s.ensures c.in-1.is in
    (omega (arith, c.decreases), (c.requires.formed, omega arith))

pub is_closed-left-requires : goal.is_closed-left-requires
is_closed-left-requires t c =
    let r = c.proposition-r.ensures in
    let b = left_below r.well_linked _ c.requires.n_lt_props _ r.is _ c.prop_shape-s.ensures (omega arith) in
    (omega (arith, c.decreases), (c.requires.formed, omega arith))

pub is_closed-right-requires : goal.is_closed-right-requires
is_closed-right-requires t c =
    let r = c.proposition-r.ensures in
    let b = right_below r.well_linked _ c.requires.n_lt_props _ r.is _ c.prop_shape-s.ensures (omega arith) in
    (omega (arith, c.decreases), (c.requires.formed, omega arith))

pub returns-in-0 : goal.returns-in-0
returns-in-0 t c = search shut_none

pub returns-in-1 : goal.returns-in-1
returns-in-1 t c = search shut_one

pub returns-in_default : goal.returns-in_default
returns-in_default t c = search shut_two
