use mathlib.Core.Path.{◌≡◌}
use borrow.Author.Rules.{rules}
use Rattle.numbers.proofs.Records.{put_record, put_record_lem}
use Rattle.numbers.proofs.record.put.Goals as goal

pub returns : goal.returns
returns c =
    let stored : c.put_word-7.new.b ≡ put_record c.args.b.now c.args.n c.args.r = cc in
    rw stored (put_record_lem c.args.b.now c.args.n c.args.r (search rules) c.requires)
