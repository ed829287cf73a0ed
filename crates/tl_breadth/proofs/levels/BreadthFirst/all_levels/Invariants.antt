use Rattle.std.proofs.Common.{length, ℕ, []}
use Rattle.tl_search.specs.NamedAnswers.{EventsAreNamed}
use Rattle.tl_breadth.specs.Outcomes.{IsAtLevel}
use Rattle.tl_breadth.specs.Events.{IsReported}
use Rattle.tl_search.specs.SameTask.{HasSameTask}
use Rattle.tl_breadth.proofs.levels.BreadthFirst.all_levels.Given as goal

-- the search stands at the first pair of the level of this depth
abbrev pub invariant-loop-depth : goal.invariant-loop-depth
invariant-loop-depth g l = record {
  same : HasSameTask g.S.SearchSpace.task g.S.SearchSpace.problem l.fn.space l.space;
  events_named : EventsAreNamed (g.S.SearchSpace.task l.fn.space) l.events;
  level : IsAtLevel (g.S.SearchSpace.problem l.fn.space) l.self.within l.self.nodes (g.S.SearchSpace.kept l.space) l.at
      (length (g.S.SearchSpace.kept l.space)) l.depth;
  reported : (from : ℕ) → IsReported (g.S.SearchSpace.problem l.fn.space) l.self.within l.self.watch from
      (g.S.SearchSpace.kept l.fn.space) 0 [] l.fn.events l.fn.steps → IsReported
      (g.S.SearchSpace.problem l.fn.space) l.self.within l.self.watch from (g.S.SearchSpace.kept l.space) l.at [] l.events l.steps;
}
