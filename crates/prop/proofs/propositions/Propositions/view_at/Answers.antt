use Rattle.prop.proofs.Views.{view_constant, view_link, view_quantifier, view_atom}
use Rattle.prop.proofs.propositions.Propositions.view_at.Goals as goal

pub returns-in-0-to-1 : goal.returns-in-0-to-1
returns-in-0-to-1 c = search view_constant

pub returns-in-2-to-4 : goal.returns-in-2-to-4
returns-in-2-to-4 c = search view_link

pub returns-in-5-to-6 : goal.returns-in-5-to-6
returns-in-5-to-6 c = search view_quantifier

pub returns-in-7-to-255 : goal.returns-in-7-to-255
returns-in-7-to-255 c = search view_atom
