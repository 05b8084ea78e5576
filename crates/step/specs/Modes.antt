-- Checking and synthesis, as the code tells them apart and as the rules do. Assumes nothing.
use Rattle.std.specs.Prelude.{List, ℕ}
use Rattle.numbers.specs.declared.Sort.{Sort}
use Rattle.rules.specs.Step.{Want as Mode, synth, check}
use Rattle.prop.specs.Room.{TypeIn}
use Rattle.step.specs.declared.state.Want.{Want}
use Rattle.step.specs.declared.state.Want.TheVariants as want
use Rattle.step.specs.Rooms.{reads}

-- what is wanted, read in a propositions room
abbrev pub mode : (l ps : List ℕ) → Want → Mode
mode l ps want.Synth = synth
mode l ps (want.Check T) = check (reads l ps T)

-- it is among the first c propositions
abbrev pub WantIn : ℕ → Want → Type 0
WantIn c want.Synth = Unit {0}
WantIn c (want.Check T) = TypeIn c T

-- the type that a rule answers
abbrev pub answer_of : Want → Sort → Sort
answer_of want.Synth T = T
answer_of (want.Check E) T = E

-- of two reasons for a refusal, or their numbers, the mode's
abbrev pub either : {X : Type 0} → Want → X → X → X
either want.Synth a b = b
either (want.Check E) a b = a

abbrev pub number_of : Want → ℕ → ℕ → ℕ
number_of w a b = either w a b
