use Rattle.arena.proofs.Makings.{joint_form, joint_links, made_link}
use Rattle.arena.proofs.make.make_link.Goals as goal

pub make_one-requires-clause-r_value : goal.make_one-requires-clause-r_value
make_one-requires-clause-r_value c = search joint_form

pub make_one-requires-clause-r_value_2 : goal.make_one-requires-clause-r_value_2
make_one-requires-clause-r_value_2 c = joint_links _ _ _ _ c.kind.ensures _ c.requires.a_lt_count

pub returns : goal.returns
returns c = search made_link
