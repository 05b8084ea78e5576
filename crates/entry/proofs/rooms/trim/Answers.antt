use mathlib.Core.Path.{refl}
use Rattle.entry.proofs.Rests.{trimmed}
use Rattle.entry.proofs.rooms.trim.Goals as goal

pub returns : goal.returns
returns c =
    let filled = c.fill_zero in
    trimmed c.args.used c.args.size c.args.room.now filled.new.room _ c.requires.0 c.requires.1 filled.ensures refl
