use Rattle.std.proofs.Common.{◌≤◌, ℕ, []}
use Rattle.tl_search.specs.NamedAnswers.{EventsAreNamed}
use Rattle.tl_breadth.specs.Outcomes.{IsAtLevel}
use Rattle.tl_breadth.specs.Events.{IsReported}
use Rattle.tl_search.specs.SameTask.{HasSameTask}
use Rattle.tl_breadth.proofs.levels.BreadthFirst.expand_level.Given as goal

-- the pairs of the level below this one are expanded
abbrev pub invariant-loop-at : goal.invariant-loop-at
invariant-loop-at g l = record {
  same : HasSameTask g.S.SearchSpace.task g.S.SearchSpace.problem l.fn.space l.space;
  events_named : EventsAreNamed (g.S.SearchSpace.task l.fn.space) l.events;
  level : IsAtLevel (g.S.SearchSpace.problem l.fn.space) l.self.within l.self.nodes
      (g.S.SearchSpace.kept l.space) l.at l.fn.level.end l.fn.level.depth;
  inside : l.at ≤ l.fn.level.end;
  reported : (from : ℕ) → IsReported (g.S.SearchSpace.problem l.fn.space) l.self.within l.self.watch from
      (g.S.SearchSpace.kept l.fn.space) l.fn.level.start [] l.fn.events l.fn.steps →
      IsReported (g.S.SearchSpace.problem l.fn.space) l.self.within l.self.watch from
      (g.S.SearchSpace.kept l.space) l.at [] l.events l.steps;
}
