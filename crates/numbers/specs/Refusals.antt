-- A refusal, as the code has it, and the numbers of the reasons.
-- Assumes nothing.
use Rattle.std.specs.Prelude.{ℕ}
use Rattle.numbers.specs.declared.refusal.Refusal.{Refusal}
use Rattle.numbers.specs.declared.refusal.Reason.{Reason}
use Rattle.numbers.specs.declared.refusal.Reason.TheVariants.{RoomTooShort, NoHeader, WrongCounts, Malformed, BadlyLinked}
use Rattle.numbers.specs.declared.refusal.Reason.TheVariants.{TooLarge, OpenGoal, CheckUnknownName, CheckWrongTerm}
use Rattle.numbers.specs.declared.refusal.Reason.TheVariants.{CheckWrongHead, CheckNoObject, CheckOtherType}
use Rattle.numbers.specs.declared.refusal.Reason.TheVariants.{CheckOtherAscription, CheckWitnessEscapes, SynthUnknownName}
use Rattle.numbers.specs.declared.refusal.Reason.TheVariants.{SynthNoAnnotation, SynthWrongHead, SynthPairOfObject}
use Rattle.numbers.specs.declared.refusal.Reason.TheVariants.{SynthNoProposition, SynthNoType, SynthArmsDiffer}
use Rattle.numbers.specs.declared.refusal.Reason.TheVariants.{SynthWitnessEscapes, TooManyMade, NoSuchGoal}

-- by its number and its place
abbrev pub refusal_at : ℕ → ℕ → Refusal
refusal_at n p = record { number = n; place = p }

-- document 01's number of each reason
abbrev pub number_of : Reason → ℕ
number_of RoomTooShort = 1
number_of NoHeader = 2
number_of WrongCounts = 3
number_of Malformed = 4
number_of BadlyLinked = 5
number_of TooLarge = 6
number_of OpenGoal = 7
number_of CheckUnknownName = 10
number_of CheckWrongTerm = 11
number_of CheckWrongHead = 12
number_of CheckNoObject = 13
number_of CheckOtherType = 14
number_of CheckOtherAscription = 15
number_of CheckWitnessEscapes = 16
number_of SynthUnknownName = 20
number_of SynthNoAnnotation = 21
number_of SynthWrongHead = 22
number_of SynthPairOfObject = 23
number_of SynthNoProposition = 24
number_of SynthNoType = 25
number_of SynthArmsDiffer = 26
number_of SynthWitnessEscapes = 27
number_of TooManyMade = 30
number_of NoSuchGoal = 31
