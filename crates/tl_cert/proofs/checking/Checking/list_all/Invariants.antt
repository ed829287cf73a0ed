use Rattle.std.proofs.Common.{◌≡◌, ◌≤◌, ◌+◌, length, take}
use Rattle.tl_cert.specs.Checking.{IsRightSoFar}
use Rattle.tl_cert.specs.Links.{Lists}
use Rattle.tl_search.specs.SameTask.{HasSameTask}
use Rattle.tl_cert.proofs.checking.Checking.list_all.Given as goal

-- the links so far are good, and their nodes are kept
abbrev pub invariant-loop-before : goal.invariant-loop-before
invariant-loop-before g l = record {
  same : HasSameTask g.S.SearchSpace.task g.S.SearchSpace.problem l.fn.space l.space;
  bound : l.self.bound ≡ l.fn.self.bound;
  lists : Lists (g.S.SearchSpace.problem l.fn.space) l.fn.self.bound (take l.before l.links) (g.S.SearchSpace.kept l.space);
  ready : IsRightSoFar (g.S.SearchSpace.task l.fn.space) (g.S.SearchSpace.problem l.fn.space) (g.S.SearchSpace.kept l.space) l.self;
  few : length (g.S.SearchSpace.kept l.space) ≤ l.before + 1;
}
