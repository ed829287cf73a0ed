use Rattle.tl_search.proofs.FaultLaws.{root-of-pair}
use Rattle.std.proofs.Common.{subst, IfOk}
use Rattle.tl_search.specs.Kept.{AreKept}
use Rattle.tl_search.specs.PairGraph.{pair_graph}
use Rattle.tl_cost.specs.Outcomes.{IsCheapestOutcome}
use Rattle.tl_cost.specs.Ticks.{IsTickedByTurns}
use Rattle.tl_cost.proofs.Expanding.{between-same}
use Rattle.tl_cost.proofs.Searching.{counted-none, root-between, root-not-seen, root-pruned, ticked-none, root-fault}
use Rattle.tl_cost.proofs.turn.UniformCost.outcome.Goals as goal

pub all_turns-requires : goal.all_turns-requires
all_turns-requires g c =
    let old = g.S.SearchSpace.kept c.args.space.now in
    let new = g.S.SearchSpace.kept c.root.new.self in
    record {
      between = between-same _ _ _ _ c.args.self.now.costs.now c.args.self.now.nodes new c.add.new.self c.root.ensures.same.problem
          c.root.ensures.same.task
          (root-between _ _ _ _ old new c.in-Ok-Fresh.field-0-0 c.new-found.result c.add.new.self c.at_root.result c.requires.empty
          (rw c.in-Ok-Fresh.field-0-is at c.in-Ok-Fresh.ensures.arrival)
          (subst (λ p. AreKept (pair_graph p) new) c.root.ensures.same.problem c.root.ensures.kept) c.requires.some_nodes
          c.new-found.ensures.ways c.new-found.ensures.none c.new-found.ensures.len
          c.at_root.ensures c.in_ok-add-in-Ok-Fresh.ensures.ways c.in_ok-add-in-Ok-Fresh.ensures.adds c.in_ok-add-in-Ok-Fresh.ensures.len);
      nodes = c.requires.nodes;
    }

pub unreachable-requires : goal.unreachable-requires
unreachable-requires g c = root-not-seen _ (g.S.SearchSpace.kept c.root.new.self) _ c.in-Ok-Seen.field-0-0 c.requires.empty
    (rw c.in-Ok-Seen.field-0-is at c.in-Ok-Seen.ensures.arrival)

pub returns-in-Ok-Pruned : goal.returns-in-Ok-Pruned
returns-in-Ok-Pruned g c = record {
  same = c.root.ensures.same;
  outcome = root-pruned _ c.args.self.now.nodes _ (g.S.SearchSpace.kept c.root.new.self) c.requires.empty
      (rw c.in-Ok-Pruned.field-0-is at c.in-Ok-Pruned.ensures.arrival);
  steps = ticked-none _ _ (g.S.SearchSpace.kept c.root.new.self);
  fault = tt;
  plan_named = tt;
  path_named = tt;
}

pub returns-in_ok-add-in-Ok-Fresh-clause-outcome : goal.returns-in_ok-add-in-Ok-Fresh-clause-outcome
returns-in_ok-add-in-Ok-Fresh-clause-outcome g c = subst (λ p. IfOk c.all_turns.result
    (IsCheapestOutcome p c.args.self.now.costs.now c.args.self.now.nodes (g.S.SearchSpace.kept c.all_turns.new.space)))
    c.root.ensures.same.problem c.all_turns.ensures.outcome

pub returns-in_ok-add-in-Ok-Fresh-clause-steps : goal.returns-in_ok-add-in-Ok-Fresh-clause-steps
returns-in_ok-add-in-Ok-Fresh-clause-steps g c = subst (λ p. IsTickedByTurns p c.args.steps.now
    (g.S.SearchSpace.kept c.all_turns.new.space) c.all_turns.new.steps) c.root.ensures.same.problem
    (c.all_turns.ensures.steps c.args.steps.now (counted-none (g.S.SearchSpace.problem c.root.new.self) c.args.steps.now
    (g.S.SearchSpace.kept c.root.new.self) c.add.new.self))

pub root_fault-requires : goal.root_fault-requires
root_fault-requires g c = root-of-pair _ c.in-Err.fault c.in-Err.ensures.cause

pub returns-in-Err-clause-fault : goal.returns-in-Err-clause-fault
returns-in-Err-clause-fault g c =
    root-fault _ c.args.self.now.costs.now c.args.self.now.nodes c.in-Err.fault c.root_fault.result c.root_fault.ensures.fault
    c.in-Err.ensures.cause

pub returns-in-Err-clause-path_named : goal.returns-in-Err-clause-path_named
returns-in-Err-clause-path_named g c = c.root_fault.ensures.named (g.S.SearchSpace.task c.args.space.now)
