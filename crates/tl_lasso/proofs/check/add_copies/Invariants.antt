use Rattle.std.proofs.Common.{◌≡◌, ◌++◌, take}
use Rattle.tl_lasso.proofs.check.add_copies.Given as goal

-- the copies so far
abbrev pub invariant-loop-action : goal.invariant-loop-action
invariant-loop-action l = record { so_far : l.plan ≡ l.fn.plan ++ take l.action-index l.actions }
