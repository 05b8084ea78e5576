use Rattle.prop.proofs.Occurs.{other_in_all}
use Rattle.prop.proofs.holds.OtherTest.all_pass.Goals as goal

pub returns : goal.returns
returns c = search other_in_all
