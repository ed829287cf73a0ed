use Rattle.std.proofs.Common.{◌≡◌, filter, take}
use Rattle.tl_action.specs.Join.{arranged, is_new}
use Rattle.tl_action.proofs.new_parameters.new_variables.Given as goal

abbrev pub invariant-loop-param : goal.invariant-loop-param
invariant-loop-param l = l.vars ≡ filter (is_new (take l.j (arranged l.bounds).bounds) l.b) (take l.param-index l.params)
