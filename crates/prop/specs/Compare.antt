-- Document 01, "The rules" (comparison): both tests of the rules in one answer. Assumes nothing.
use Rattle.std.specs.Prelude.{Bool, true, false, ◌&&◌, cond, eqb, get_or}
use Rattle.numbers.specs.declared.record.Record.{Record}
use Rattle.rules.specs.Prop.{Prop, Ty, same, eq, alpha}
use Rattle.prop.specs.declared.compare.Compared.{Compared}
use Rattle.prop.specs.declared.compare.Compared.TheVariants.{Equal, Alpha, Apart}

unfoldable pub compared : (equal alpha : Bool) → Compared
compared e a = cond e Equal (cond a Alpha Apart)

abbrev pub compared_props : Prop → Prop → Compared
compared_props P Q = compared (same true P Q) (same false P Q)

abbrev pub compared_types : Ty → Ty → Compared
compared_types S T = compared (eq S T) (alpha S T)

-- what is equal is alpha-equal too
abbrev pub is_alpha : Compared → Bool
is_alpha Equal = true
is_alpha Alpha = true
is_alpha Apart = false

-- two parts taken together
abbrev pub both : Compared → Compared → Compared
both Equal c = c
both Alpha Equal = Alpha
both Alpha Alpha = Alpha
both Alpha Apart = Apart
both Apart c = Apart

-- two atoms' records, field by field
abbrev pub same_fields : Record → Record → Bool
same_fields r s =
    eqb r.a s.a
    && (eqb r.count s.count
    && (eqb r.b s.b
    && (eqb (get_or r.parameters 0 0) (get_or s.parameters 0 0)
    && (eqb (get_or r.parameters 1 0) (get_or s.parameters 1 0)
    && (eqb (get_or r.parameters 2 0) (get_or s.parameters 2 0) && eqb (get_or r.parameters 3 0) (get_or s.parameters 3 0))))))
