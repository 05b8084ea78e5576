use Rattle.numbers.specs.Records.{record_at}
use Rattle.numbers.proofs.record.record_at.Goals as goal

pub returns : goal.returns
unfolding record_at
returns c = cc
