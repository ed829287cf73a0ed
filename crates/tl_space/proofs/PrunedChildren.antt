-- Pairs that the changes of an action prune.
use Rattle.std.proofs.Common.{◌≡◌, List, map, false, Some, sym, ap, ◌∙◌}
use Rattle.std.specs.Option.{option_map}
use Rattle.tl_action.specs.declared.changes.Changes.{Changes}
use Rattle.tl_action.specs.ChangedWorlds.{world_after}
use Rattle.tl_syntax.specs.declared.action.Action.{Action}
use Rattle.tl_syntax.specs.declared.fact.Fact.{Fact}
use Rattle.tl_syntax.specs.Assignment.{no_values}
use Rattle.tl_syntax.specs.Keys.{fact_key}
use Rattle.tl_syntax.specs.Trees.{FormulaTree}
use Rattle.tl_terms.specs.Definitions.{situation_of}
use Rattle.tl_terms.specs.Pairs.{Pair}
use Rattle.tl_terms.specs.Problem.{PlainProblem}
use Rattle.tl_terms.specs.Progression.{progressed}
use Rattle.tl_terms.specs.Step.{step, with_all, without_all}
use Rattle.tl_terms.specs.World.{World}
use Rattle.tl_progress.specs.Broken.{AreChanged, LeavesTruth}
use Rattle.tl_search.specs.Arrivals.{Arrives}
use Rattle.tl_search.specs.KeptPairs.{KeptPair}
use Rattle.tl_search.specs.PairGraph.{pair_in, next_pair}
use Rattle.tl_search.specs.declared.arrival.Arrival.TheVariants as arrival
use Rattle.tl_space.specs.Inner.{IsPrunedAfter}

-- the world that the changes make has the facts that are left
after-changes : (w : World) (c : Changes) (dels adds : List Fact) → dels ≡ c.dels → adds ≡ c.adds → AreChanged w (world_after w c) dels adds
unfolding world_after
after-changes w c dels adds d a = λ i. with_all (without_all w.facts (map fact_key (sym d i))) (map fact_key (sym a i))

-- the changes of the action of a pair
pub pruned-after : (p : PlainProblem) (x : Pair) (a : Action) (w : World) (f : FormulaTree) (c : Changes) (dels adds : List Fact) →
    x.world ≡ w → x.formula ≡ f → dels ≡ c.dels → adds ≡ c.adds → Some (world_after w c) ≡ step p w a → LeavesTruth false f dels adds →
    IsPrunedAfter p x a
pruned-after p x a w f c dels adds is_w is_f d e s leaves = (
  world_after w c,
  ap (λ (v : World). step p v a) is_w ∙ sym s,
  ap (progressed (situation_of p (world_after w c)) no_values) is_f ∙
      leaves p w (world_after w c) (after-changes w c dels adds d e),
)

-- the pair arrives as a pruned one
pub pruned-arrives : (p : PlainProblem) (x : KeptPair) (a : Action) (old new : List KeptPair) (path : List Action) → new ≡ old →
    IsPrunedAfter p x.node a → Arrives old new (next_pair p x.node a) path arrival.Pruned
unfolding pair_in
pruned-arrives p x a old new path same h = (
  same,
  (
    record { world = h.0; formula = progressed (situation_of p h.0) no_values x.node.formula },
    ap (option_map (pair_in p x.node.formula)) h.1,
    h.2,
  ),
)
