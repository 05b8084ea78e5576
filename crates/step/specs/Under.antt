-- A rule under way: some of its children have answered, and the rest of its program is still to be obeyed. Assumes nothing.
use Rattle.std.specs.Prelude.{◌≡◌, List, ℕ, ◌+◌, ◌*◌, ◌≤◌}
use Rattle.rules.specs.State.{limit}
use Rattle.rules.specs.Tree.{Trees, ◌⊕◌, records, holes, width}
use Rattle.rules.specs.Step.{Want as Mode, Out, then, Answer, Steps, Arity, Prog, Kid, Kids, obey, finish}
use Rattle.rules.specs.Rules.{kid, run}
use Rattle.table.specs.Reading.{term_at}
use Rattle.step.specs.declared.state.State.{State}
use Rattle.step.specs.Rooms.{Rooms, st_of, inner}
use Rattle.step.specs.Contract.{Left, run_of}

-- the trees of the children that have answered stand before the others'
abbrev pub after : Trees → Steps → Steps
after ts r = record { ty = r.ty; nodes = r.nodes; premises = ts ⊕ r.premises }

-- what the rule answers, once the rest of its program answers o
unfoldable pub rest : Mode → Trees → Out Steps → Out Answer
rest w ts o = then o (λ r st. finish w (after ts r) st)

-- term k was begun in the rooms R₀ at st₀; now the rooms are R, the counts st, and the program q is left, for the children ks. The trees of its children stand
-- after the record that is kept for its own node. The children have `used` nodes, `own` serials were made beside theirs, and there are `wide` of them
pub record Doing (l : List ℕ) (R₀ : Rooms) (k : ℕ) (w : Mode) (st₀ : State) (R : Rooms) (st : State)
    {a : Arity} (q : Prog a) (ks : Kids a) (used own wide : ℕ) : Type 0 where
  pub trees : Trees
  pub rule : run_of l R₀ k w st₀ ≡ rest w trees (obey q ks (st_of st))
  pub left : Left l R₀ R (inner st₀) st trees
  pub made : st.made ≤ limit
  pub few_records : records trees ≤ 2 * used
  pub few_holes : holes trees ≤ used
  pub few_serials : st.serials ≤ st₀.serials + (own + 2 * used)
  pub broad : width trees ≡ wide

abbrev pub kid_at : List ℕ → ℕ → Kid
kid_at l m = kid (term_at l m) (run (term_at l m))
