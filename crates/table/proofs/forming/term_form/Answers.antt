use Rattle.std.proofs.Math.Bool.{and_assoc}
use Rattle.layout.specs.Form.{term_form}
use Rattle.table.proofs.forming.term_form.Goals as goal

pub returns : goal.returns
unfolding term_form
returns c = simp and_assoc cc
