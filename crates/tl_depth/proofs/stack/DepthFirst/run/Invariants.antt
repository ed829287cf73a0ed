use Rattle.tl_search.specs.KeptPairs.{pairs_of}
use Rattle.std.proofs.Common.{◌≡◌, ◌+◌, ℕ}
use Rattle.tl_search.specs.History.{IsHistory}
use Rattle.tl_depth.specs.Expansions.{Remembers}
use Rattle.tl_depth.specs.NamedStacks.{SearchIsNamed}
use Rattle.tl_depth.specs.Ongoing.{IsOngoing, to_do}
use Rattle.tl_search.specs.SameTask.{HasSameTask}
use Rattle.tl_depth.proofs.stack.DepthFirst.run.Given as goal

abbrev pub invariant-turns : goal.invariant-turns
invariant-turns g l = record {
  same : HasSameTask g.S.SearchSpace.task g.S.SearchSpace.problem l.fn.space l.space;
  named : SearchIsNamed (g.S.SearchSpace.task l.space) l.self;
  remembered : Remembers (g.S.SearchSpace.problem l.space) (g.S.SearchSpace.task l.space) (g.S.SearchSpace.kept l.space) l.self.expansions;
  within : l.self.within ≡ l.fn.self.within;
  watch : l.self.watch ≡ l.fn.self.watch;
  history : IsHistory (g.S.SearchSpace.problem l.space) l.self.watch (g.S.SearchSpace.kept l.space) l.self.events;
  ongoing : (calls : ℕ) × IsOngoing (g.S.SearchSpace.problem l.space) l.nodes (pairs_of (g.S.SearchSpace.kept l.space)) l.self calls ×
      (calls + l.fn.steps ≡ l.steps);
}

abbrev pub decreases-turns : goal.decreases-turns
decreases-turns g l = to_do l.nodes l.self
