use Rattle.std.proofs.Common.{sym, subst, ap, ◌∙◌}
use Rattle.tl_depth.specs.Levels.{path_of}
use Rattle.tl_search.specs.Faults.{TellsPair}
use Rattle.tl_search.proofs.FaultLaws.{actions-of-pair}
use Rattle.tl_search.proofs.ListLaws.{get-inside}
use Rattle.tl_depth.specs.Expansions.{IsListed}
use Rattle.tl_depth.specs.declared.stack.DepthFirst.{DepthFirst}
use Rattle.tl_depth.proofs.NamedStacks.{levels-named}
use Rattle.tl_depth.proofs.SeenPairs.{entry-fault}
use Rattle.tl_depth.proofs.stack.DepthFirst.actions_of.Goals as goal

pub returns-in-Some-clause-listed : goal.returns-in-Some-clause-listed
returns-in-Some-clause-listed g c = (rw c.in-Some.is at c.in_ok-actions.ensures.actions) (g.S.SearchSpace.problem c.args.space.now)
    (g.S.SearchSpace.task c.args.space.now) (g.S.SearchSpace.kept c.args.space.now) c.requires.remembered.expansions

pub returns-in-Some-clause-remembered : goal.returns-in-Some-clause-remembered
returns-in-Some-clause-remembered g c = record {
  kept_rightly = c.requires.remembered.kept_rightly;
  expansions =
      c.in_ok-actions.ensures.stay _ _ _ c.requires.remembered.expansions;
}

pub returns-in_ok-of-in-Ok-clause-listed : goal.returns-in_ok-of-in-Ok-clause-listed
returns-in_ok-of-in-Ok-clause-listed g c =
    let x = get-inside (g.S.SearchSpace.kept c.args.space.now) c.args.at c.requires.at in
    subst (IsListed (g.S.SearchSpace.problem c.args.space.now) (g.S.SearchSpace.task c.args.space.now)
    (g.S.SearchSpace.kept c.args.space.now) c.args.at) (sym c.in_ok-of-in-Ok.ensures)
    (x.0, x.1, c.in-Ok.ensures.actions x.0 x.1, c.in-Ok.ensures.named)

pub returns-in_ok-of-in-Ok-clause-remembered : goal.returns-in_ok-of-in-Ok-clause-remembered
returns-in_ok-of-in-Ok-clause-remembered g c = record {
  kept_rightly = c.requires.remembered.kept_rightly;
  expansions =
      c.in_ok-actions.ensures.stay _ _ _ c.requires.remembered.expansions;
}

pub levels_fault-requires : goal.levels_fault-requires
levels_fault-requires g c =
    let x = get-inside (g.S.SearchSpace.kept c.args.space.now) c.args.at c.requires.at in
    actions-of-pair _ x.0.node c.in-Err.fault (c.in-Err.ensures.cause x.0 x.1)

pub returns-in-Err-clause-fault : goal.returns-in-Err-clause-fault
returns-in-Err-clause-fault g c =
    let still = c.as_slice.ensures.value ∙ ap (λ (w : DepthFirst). w.stack.items) c.remembered_actions.ensures.rest in
    entry-fault _ _ c.args.at _ c.in-Err.fault c.levels_fault.result (subst
    (λ ls. TellsPair (path_of ls) c.in-Err.fault c.levels_fault.result) still c.levels_fault.ensures) c.in-Err.ensures.cause

pub returns-in-Err-clause-path_named : goal.returns-in-Err-clause-path_named
returns-in-Err-clause-path_named g c =
    let still = c.as_slice.ensures.value ∙ ap (λ (w : DepthFirst). w.stack.items) c.remembered_actions.ensures.rest in
    levels-named (g.S.SearchSpace.task c.args.space.now) c.args.self.now.stack.items c.in-Err.fault c.levels_fault.result
    (subst (λ ls. TellsPair (path_of ls) c.in-Err.fault c.levels_fault.result) still c.levels_fault.ensures) c.requires.named.stack
