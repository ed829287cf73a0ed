use Rattle.std.proofs.Common.{◌≡◌, ◌++◌, map}
use Rattle.tl_action.specs.Actions.{action_of}
use Rattle.tl_action.proofs.all_actions.push_rows.Given as goal

abbrev pub invariant-loop-args : goal.invariant-loop-args
invariant-loop-args l = l.found ≡ l.fn.found ++ map (action_of l.op) l.yielded
