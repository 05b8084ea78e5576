use Rattle.prop.proofs.Alike.{cmp_self, cmp_kinds, cmp_constant, cmp_first_in, cmp_second_in, cmp_first_apart, cmp_link, cmp_body_in, cmp_binder_apart, cmp_quant, cmp_atoms}
use Rattle.prop.proofs.Views.{first_below, first_in, second_below, second_in, body_below, body_in}
use Rattle.prop.proofs.propositions.Propositions.+compare.Goals as goal

pub returns-then-eq : goal.returns-then-eq
returns-then-eq t c = search cmp_self

pub returns-then-r-s : goal.returns-then-r-s
returns-then-r-s t c = search cmp_kinds

pub compare-first-requires : goal.compare-first-requires
compare-first-requires t c = (search first_below, (search first_in, search cmp_first_in))

pub returns-in-Apart : goal.returns-in-Apart
returns-in-Apart t c = search cmp_first_apart

pub compare-requires : goal.compare-requires
compare-requires t c = (search second_below, (search second_in, search cmp_second_in))

pub returns-in-Apart-first : goal.returns-in-Apart-first
returns-in-Apart-first t c = search cmp_binder_apart

pub compare-requires-in-5-to-6 : goal.compare-requires-in-5-to-6
compare-requires-in-5-to-6 t c = (search body_below, (search body_in, search cmp_body_in))

pub returns-in-0-to-1 : goal.returns-in-0-to-1
returns-in-0-to-1 t c = search cmp_constant

pub returns-in_default : goal.returns-in_default
returns-in_default t c = search cmp_link

pub returns-in_default-first : goal.returns-in_default-first
returns-in_default-first t c = search cmp_quant

pub returns-in-7-to-255 : goal.returns-in-7-to-255
returns-in-7-to-255 t c = search cmp_atoms
