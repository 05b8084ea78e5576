-- A record's parameters are all bound: what test 7 asks of an atom.
-- Assumes nothing.
use Rattle.std.specs.Prelude.{Bool, List, map, ℕ, take}
use Rattle.numbers.specs.declared.record.Record.{Record}
use Rattle.rules.specs.Prop.{each_param, named_not}
use Rattle.table.specs.Reading.{binders, settled}

abbrev pub closed_params : List ℕ → ℕ → Record → Bool
closed_params l n r = each_param named_not (map (λ x. settled x 0 (binders l n)) (take r.count r.parameters))
