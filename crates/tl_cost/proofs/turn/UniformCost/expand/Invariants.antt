use Rattle.std.proofs.Common.{◌≡◌, ◌+◌, drop, slice_get, Some}
use Rattle.tl_search.specs.Calls.{AreNamedIn}
use Rattle.tl_search.specs.KeptPairs.{KeptPair}
use Rattle.tl_search.specs.ListedActions.{ListsActions}
use Rattle.tl_cost.specs.Ongoing.{IsInTurn}
use Rattle.tl_cost.specs.Outcomes.{OpensAsMany}
use Rattle.tl_cost.specs.Ticks.{Extends, StaySettled}
use Rattle.tl_search.specs.SameTask.{HasSameTask}
use Rattle.tl_cost.proofs.turn.UniformCost.expand.Given as goal

-- the actions so far were tried, and those from here on are still to be tried
abbrev pub invariant-loop-a : goal.invariant-loop-a
invariant-loop-a g l = record {
  same : HasSameTask g.S.SearchSpace.task g.S.SearchSpace.problem l.fn.space l.space;
  listed_named : AreNamedIn (g.S.SearchSpace.task l.fn.space) l.a-items;
  lists : (x : KeptPair) → slice_get (g.S.SearchSpace.kept l.fn.space) l.at ≡ Some x →
      ListsActions (g.S.SearchSpace.problem l.fn.space) x.node.world l.a-items;
  turn : IsInTurn (g.S.SearchSpace.problem l.fn.space) (g.S.SearchSpace.task l.fn.space) l.self.costs.now l.self.nodes
      (g.S.SearchSpace.kept l.space) l.found l.at (Some (drop l.a-index l.a-items));
  grows : Extends (g.S.SearchSpace.kept l.fn.space) (g.S.SearchSpace.kept l.space);
  opens : OpensAsMany (g.S.SearchSpace.kept l.fn.space) (g.S.SearchSpace.kept l.space) l.fn.found l.found;
  stay : StaySettled l.fn.found l.found;
  ticks : l.steps ≡ l.fn.steps + l.a-index;
}
