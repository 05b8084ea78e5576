use lib.Dec.{ltb}
use Rattle.table.proofs.Guilts.{annotation_test}
use Rattle.table.proofs.link.annotation_ok.Goals as goal

pub returns : goal.returns
returns c = let a = c.args in annotation_test (λ m. ltb m a.p) a.r.tag a.r.typ
