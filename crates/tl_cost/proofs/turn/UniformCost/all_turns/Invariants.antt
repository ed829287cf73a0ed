use Rattle.std.proofs.Common.{◌+◌, ◌-◌, ℕ, length}
use Rattle.tl_cost.specs.Ongoing.{IsBetweenTurns}
use Rattle.tl_cost.specs.Ticks.{IsCounted}
use Rattle.tl_cost.specs.Ways.{listed_len}
use Rattle.tl_search.specs.SameTask.{HasSameTask}
use Rattle.tl_cost.proofs.turn.UniformCost.all_turns.Given as goal

-- the pairs that are not in the open list had their turns
abbrev pub invariant-loop-next : goal.invariant-loop-next
invariant-loop-next g l = record {
  same : HasSameTask g.S.SearchSpace.task g.S.SearchSpace.problem l.fn.space l.space;
  between : IsBetweenTurns (g.S.SearchSpace.problem l.fn.space) (g.S.SearchSpace.task l.fn.space) l.self.costs.now l.self.nodes
      (g.S.SearchSpace.kept l.space) l.found;
  counted : (from : ℕ) → IsCounted (g.S.SearchSpace.problem l.fn.space) from (g.S.SearchSpace.kept l.fn.space) l.fn.found l.fn.steps →
      IsCounted (g.S.SearchSpace.problem l.fn.space) from (g.S.SearchSpace.kept l.space) l.found l.steps;
}

-- how many pairs may still be settled
abbrev pub decreases-loop-next : goal.decreases-loop-next
decreases-loop-next g l = l.self.nodes + listed_len l.found.open_list - length (g.S.SearchSpace.kept l.space)
