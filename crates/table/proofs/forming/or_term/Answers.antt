use Rattle.std.proofs.Common.{◌≡◌, ℕ, ◌+◌, Option, Some, None, rules, refl, ◌∙◌}
use Rattle.std.specs.Option.{option_or, option_map}
use Rattle.table.specs.Tests.{or_term}
use Rattle.table.proofs.forming.or_term.Goals as goal

-- as the library's methods say it
or_map : (g : Option ℕ) (p : ℕ) (h : Option ℕ) → option_or g (option_map (λ t. p + t) h) ≡ or_term g p h
unfolding or_term
or_map (Some n) p h = refl
or_map None p (Some t) = refl
or_map None p None = refl

pub returns : goal.returns
returns c =
    let e : c.or.result ≡ option_or c.args.g (option_map (λ t. c.args.p + t) c.args.h) = search rules in
    e ∙ or_map c.args.g c.args.p c.args.h
