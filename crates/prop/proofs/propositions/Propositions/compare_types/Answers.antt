use Rattle.prop.proofs.Alike.{type_in, types_props, types_left, types_right, types_same, types_apart}
use Rattle.prop.proofs.propositions.Propositions.compare_types.Goals as goal

pub compare-requires-clause-a_lt_count : goal.compare-requires-clause-a_lt_count
compare-requires-clause-a_lt_count c = search type_in

pub compare-requires-clause-b_lt_count : goal.compare-requires-clause-b_lt_count
compare-requires-clause-b_lt_count c = search type_in

pub returns-in-Proposition-Proposition : goal.returns-in-Proposition-Proposition
returns-in-Proposition-Proposition c = search types_props

pub returns-in-Datatype-Datatype : goal.returns-in-Datatype-Datatype
returns-in-Datatype-Datatype c =
    let v = c.in-Datatype-Datatype in
    types_same _ _ _ _ _ v.is-0 v.is-1 _ (rw (v.d-is, v.e-is) at c.eq.ensures) c.if-eq.true

pub returns-in_default : goal.returns-in_default
returns-in_default c = search types_left

pub returns-in_default-2 : goal.returns-in_default-2
returns-in_default-2 c =
    let v = c.in-Datatype-Datatype in
    types_apart _ _ _ _ _ v.is-0 v.is-1 _ (rw (v.d-is, v.e-is) at c.eq.ensures) c.if-eq.false

pub returns-in_default-3 : goal.returns-in_default-3
returns-in_default-3 c = search types_right
