use Rattle.std.proofs.Common.{◌≡◌, ◌+◌, ℕ, [], take, length, slice_get, Some}
use Rattle.tl_search.specs.KeptPairs.{KeptPair}
use Rattle.tl_search.specs.ListedActions.{ListsActions}
use Rattle.tl_search.specs.Calls.{AreNamedIn}
use Rattle.tl_search.specs.NamedAnswers.{EventsAreNamed}
use Rattle.tl_breadth.specs.Outcomes.{IsSearching, GrowsBy}
use Rattle.tl_breadth.specs.Events.{IsReported}
use Rattle.tl_search.specs.SameTask.{HasSameTask}
use Rattle.tl_breadth.proofs.levels.BreadthFirst.expand.Given as goal

-- the actions so far were tried, and the kept pairs have grown by pairs of the next level
abbrev pub invariant-loop-a : goal.invariant-loop-a
invariant-loop-a g l = record {
  same : HasSameTask g.S.SearchSpace.task g.S.SearchSpace.problem l.fn.space l.space;
  listed_named : AreNamedIn (g.S.SearchSpace.task l.fn.space) l.a-items;
  events_named : EventsAreNamed (g.S.SearchSpace.task l.fn.space) l.events;
  lists : (x : KeptPair) → slice_get (g.S.SearchSpace.kept l.fn.space) l.at ≡ Some x →
      ListsActions (g.S.SearchSpace.problem l.fn.space) x.node.world l.a-items;
  searching : IsSearching (g.S.SearchSpace.problem l.fn.space) l.self.within l.self.nodes (g.S.SearchSpace.kept l.space) l.at
      (take l.a-index l.a-items);
  grows : (x : KeptPair) → slice_get (g.S.SearchSpace.kept l.fn.space) l.at ≡ Some x →
      GrowsBy (length x.path + 1) (g.S.SearchSpace.kept l.fn.space) (g.S.SearchSpace.kept l.space);
  reported : (from : ℕ) → IsReported (g.S.SearchSpace.problem l.fn.space) l.self.within l.self.watch from
      (g.S.SearchSpace.kept l.fn.space) l.at [] l.fn.events l.fn.steps →
      IsReported (g.S.SearchSpace.problem l.fn.space) l.self.within l.self.watch from (g.S.SearchSpace.kept l.space) l.at
      (take l.a-index l.a-items) l.events l.steps;
}
