-- The statements of specs/Promises.antt: an answer that is right is the only one. Assumes nothing.
use mathlib.Core.Path.{◌≡◌, ap, sym, subst, ◌∙◌}
use mathlib.Core.Bool.{Bool}
use mathlib.Core.List.{List}
use Prim.Native.Nat.{ℕ}
use Rattle.numbers.specs.declared.record.Record.{Record}
use Rattle.table.specs.Tests.{unless, tests}
use Rattle.entry.proofs.Promises.{two_runs_agree}
use Rattle.filling.proofs.Promises.{two_fillings_agree}
use Rattle.export.specs.Answer.{ReturnsAs, Returns, verdict_record, mark_record, filled_record}
use Rattle.export.specs.Promises.{takes_answer, SameCall, TestsAgree, ChecksAgree, FillsAgree}

module _ (A : Type 0) (form : A → Record) (Right Other : A → Type 0) (Same Still : Type 0) (a a' b b' : List ℕ) (r s : ℕ) where
  calls_agree : ((x y : A) → Right x → Other y → x ≡ y) → Returns A Right form Same a a' r → Returns A Other form Still b b' s → takes_answer a → takes_answer b → SameCall a' b' r s
  calls_agree one c d long wide =
      let x = subst (λ (t : Bool). ReturnsAs t A Right form Same a a' r) long c in
      let y = subst (λ (t : Bool). ReturnsAs t A Other form Still b b' s) wide d in
      record {
        returns = x.0 ∙ sym y.0;
        answer = x.1.written.here ∙ ap form (one x.1.answer y.1.answer x.1.right y.1.right) ∙ sym y.1.written.here;
      }

pub tests_agree : TestsAgree
tests_agree p l w w' v v' a a' b b' r s c d long wide same =
    calls_agree _ verdict_record _ _ _ _ a a' b b' r s
    (λ x y m n. m.verdict ∙ ap (λ (t : Bool). unless t 1 (tests p l)) same ∙ sym n.verdict) c d long wide

pub checks_agree : ChecksAgree
checks_agree l R R' S S' a a' b b' r s c d long wide same =
    calls_agree _ mark_record _ _ _ _ a a' b b' r s (λ x y m n. (two_runs_agree l R R' S S' x y m n same).0) c d long wide

pub fills_agree : FillsAgree
fills_agree S S' Z Z' l f k a a' b b' r s c d long wide same =
    calls_agree _ filled_record _ _ _ _ a a' b b' r s (λ x y m n. (two_fillings_agree l f k S S' Z Z' x y m n same).0) c d long wide
