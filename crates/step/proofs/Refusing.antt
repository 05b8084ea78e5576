-- A refusal whose number goes by the mode, and one that stands for a value that is not there. Assumes nothing.
use mathlib.Core.Path.{◌≡◌, refl, ap, ◌∙◌}
use Prim.Native.Nat.{ℕ}
use native.Mathlib.Omega.{arith}
use Rattle.std.specs.Prelude.{Option, Some, None, Err, ok_or}
use Rattle.numbers.specs.declared.refusal.Refusal.{Refusal}
use Rattle.numbers.specs.declared.refusal.Reason.{Reason}
use Rattle.numbers.specs.Refusals.{number_of}
use Rattle.step.specs.declared.state.Want.{Want}
use Rattle.step.specs.declared.state.Want.TheVariants as want
use Rattle.step.specs.Modes.{either}

pub mode_refusal : (r : Refusal) (n m p : ℕ) → n ≡ m → r ≡ record { number = n; place = p } → r ≡ record { number = m; place = p }
mode_refusal r n m p e h = h ∙ (λ i. record { number = e i; place = p })

-- what an `ok_or` was called on and gave, if it gave an error
pub ok_or_err : {X E : Type 0} {o : Option X} {e x : E} → Err x ≡ ok_or o e → (o ≡ None) × (x ≡ e)
ok_or_err {o = None} h = (refl, grind arith)
ok_or_err {o = Some y} h = absurd (grind arith)

-- the number of the reason that `of` picks is the one that the mode picks
pub reason_number : (w : Want) (a b x : Reason) → x ≡ either w a b → number_of x ≡ either w (number_of a) (number_of b)
reason_number want.Synth a b x e = ap number_of e
reason_number (want.Check E) a b x e = ap number_of e
