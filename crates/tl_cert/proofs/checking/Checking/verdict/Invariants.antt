use Rattle.std.proofs.Common.{◌≡◌}
use Rattle.tl_cert.proofs.Nodes.{AreRightBelow}
use Rattle.tl_search.specs.SameTask.{HasSameTask}
use Rattle.tl_cert.proofs.checking.Checking.verdict.Given as goal

-- the nodes so far are right
abbrev pub invariant-loop-at : goal.invariant-loop-at
invariant-loop-at g l = record {
  same : HasSameTask g.S.SearchSpace.task g.S.SearchSpace.problem l.fn.space l.space;
  kept : g.S.SearchSpace.kept l.space ≡ g.S.SearchSpace.kept l.fn.space;
  right : AreRightBelow (g.S.SearchSpace.problem l.fn.space) l.self.bound (g.S.SearchSpace.kept l.fn.space) l.at;
}
