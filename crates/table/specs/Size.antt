-- Document 01, refusal 6: how high a proposition is and how deep a term stands, a single node counting 1.
-- Assumes nothing.
use Rattle.std.specs.Prelude.{Bool, List, ℕ, zero, suc, max, ltb, Option, Some, None}
use Rattle.numbers.specs.Limits.{most_height, most_depth}
use Rattle.rules.specs.Prop.{Prop, const, link, quant, atom}
use Rattle.layout.specs.File.{terms, term_record}
use Rattle.table.specs.Links.{term_links, hits}
use Rattle.table.specs.Reading.{first, prop_at}

unfoldable pub height : Prop → ℕ
height (const o b) = 1
height (link o h A B) = suc (max (height A) (height B))
height (quant o q x D B) = suc (height B)
height (atom o p xs) = 1

unfoldable pub too_high : List ℕ → ℕ → Bool
too_high l n = ltb most_height (height (prop_at l n))

-- the term of which term t is a child
unfoldable pub holder : List ℕ → ℕ → Option ℕ
holder l t = first (λ s. ltb 0 (hits t (term_links (term_record l s)))) (terms l)

-- one more than its holder's; a term that nobody holds is a root
unfoldable pub below : Option ℕ → (ℕ → ℕ) → ℕ
below None up = 1
below (Some s) up = suc (up s)

unfoldable pub depth_within : ℕ → List ℕ → ℕ → ℕ
depth_within zero l t = 1
depth_within (suc f) l t = below (holder l t) (depth_within f l)

-- a holder has a smaller number, so that many steps are enough
unfoldable pub depth : List ℕ → ℕ → ℕ
depth l t = depth_within t l t

unfoldable pub too_deep : List ℕ → ℕ → Bool
too_deep l t = ltb most_depth (depth l t)
