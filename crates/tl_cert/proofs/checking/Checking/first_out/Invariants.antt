use Rattle.std.proofs.Common.{◌≡◌, take}
use Rattle.tl_search.specs.Calls.{AreNamedIn, ListsActionsAt}
use Rattle.tl_cert.proofs.Judged.{AreInside}
use Rattle.tl_search.specs.SameTask.{HasSameTask}
use Rattle.tl_cert.proofs.checking.Checking.first_out.Given as goal

-- the actions so far stay inside
abbrev pub invariant-loop-a : goal.invariant-loop-a
invariant-loop-a g l = record {
  same : HasSameTask g.S.SearchSpace.task g.S.SearchSpace.problem l.fn.space l.space;
  kept : g.S.SearchSpace.kept l.space ≡ g.S.SearchSpace.kept l.fn.space;
  lists : ListsActionsAt (g.S.SearchSpace.problem l.fn.space) (g.S.SearchSpace.kept l.fn.space) l.at l.a-items;
  named : AreNamedIn (g.S.SearchSpace.task l.fn.space) l.a-items;
  inside : AreInside (g.S.SearchSpace.problem l.fn.space) l.self.bound (g.S.SearchSpace.kept l.fn.space) l.at (take l.a-index l.a-items);
}
