-- What holds of every gap of a forest: of trees beside and under others, and of the gap that stands at a place.
-- Assumes nothing.
use mathlib.Core.List.{List, [], ◌∷◌}
use Rattle.rules.specs.Tree.{Node, Gap, Trees, end, gap, node, ◌⊕◌, stack, EveryGap}
use Rattle.rules.specs.Filling.{At, here, past_gap, past_node, within}

module _ (F : Gap → Type 0) where
  pub every_join : (ts us : Trees) → EveryGap F ts → EveryGap F us → EveryGap F (ts ⊕ us)
  unfolding ◌⊕◌
  every_join end us h g = g
  every_join (gap k ts) us h g = (h.0, every_join ts us h.1 g)
  every_join (node n ps ts) us h g = (h.0, every_join ts us h.1 g)

  pub every_stack : (ns : List Node) (ts : Trees) → EveryGap F ts → EveryGap F (stack ns ts)
  unfolding stack
  every_stack [] ts h = h
  every_stack (n ∷ ns) ts h = (every_stack ns ts h, tt)

  pub first : (ts us : Trees) → EveryGap F (ts ⊕ us) → EveryGap F ts
  unfolding ◌⊕◌
  first end us h = tt
  first (gap g ts) us h = (h.0, first ts us h.1)
  first (node n ps ts) us h = (h.0, first ts us h.1)

  pub rest : (ts us : Trees) → EveryGap F (ts ⊕ us) → EveryGap F us
  unfolding ◌⊕◌
  rest end us h = h
  rest (gap g ts) us h = rest ts us h.1
  rest (node n ps ts) us h = rest ts us h.1

  pub under : (ns : List Node) (ts : Trees) → EveryGap F (stack ns ts) → EveryGap F ts
  unfolding stack
  under [] ts h = h
  under (n ∷ ns) ts h = under ns ts h.0

  pub every_map : (G : Gap → Type 0) → ((g : Gap) → F g → G g) → (ts : Trees) → EveryGap F ts → EveryGap G ts
  every_map G k end h = tt
  every_map G k (gap g ts) h = (k g h.0, every_map G k ts h.1)
  every_map G k (node n ps ts) h = (every_map G k ps h.0, every_map G k ts h.1)

  pub every_both : (G : Gap → Type 0) (ts : Trees) → EveryGap F ts → EveryGap G ts → EveryGap (λ g. F g × G g) ts
  every_both G end h k = tt
  every_both G (gap g ts) h k = ((h.0, k.0), every_both G ts h.1 k.1)
  every_both G (node n ps ts) h k = (every_both G ps h.0 k.0, every_both G ts h.1 k.1)

  pub every_at : {g : Gap} {ts : Trees} → At g ts → EveryGap F ts → F g
  every_at here h = h.0
  every_at (past_gap p) h = every_at p h.1
  every_at (past_node p) h = every_at p h.1
  every_at (within p) h = every_at p h.0
