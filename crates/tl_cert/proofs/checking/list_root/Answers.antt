use Rattle.tl_search.proofs.FaultLaws.{root-of-pair}
use Rattle.tl_cert.proofs.FaultLaws.{root-told}
use Rattle.tl_cert.proofs.Judged.{root-fresh, root-pruned}
use Rattle.tl_cert.proofs.checking.list_root.Goals as goal

pub returns-in_ok-root_depth-in-Ok-Fresh-clause-root : goal.returns-in_ok-root_depth-in-Ok-Fresh-clause-root
returns-in_ok-root_depth-in-Ok-Fresh-clause-root g c = (root-fresh (g.S.SearchSpace.problem c.args.space.now)
    (g.S.SearchSpace.kept c.args.space.now) (g.S.SearchSpace.kept c.root.new.self) _ c.requires
    (rw c.in-Ok-Fresh.field-0-is at c.in-Ok-Fresh.ensures.arrival)).0

pub returns-in-Ok-Pruned-clause-root : goal.returns-in-Ok-Pruned-clause-root
returns-in-Ok-Pruned-clause-root g c = (root-pruned (g.S.SearchSpace.problem c.args.space.now) (g.S.SearchSpace.kept c.args.space.now)
    (g.S.SearchSpace.kept c.root.new.self) c.requires (rw c.in-Ok-Pruned.field-0-is at c.in-Ok-Pruned.ensures.arrival)).0

pub root_fault-requires : goal.root_fault-requires
root_fault-requires g c = root-of-pair _ c.in-Err.fault c.in-Err.ensures.cause

pub returns-in-Err-clause-fault : goal.returns-in-Err-clause-fault
returns-in-Err-clause-fault g c = root-told _ c.in-Err.fault c.root_fault.result c.root_fault.ensures.fault c.in-Err.ensures.cause

pub returns-in-Err-clause-named : goal.returns-in-Err-clause-named
returns-in-Err-clause-named g c = c.root_fault.ensures.named (g.S.SearchSpace.task c.args.space.now)
