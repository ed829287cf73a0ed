use Rattle.std.proofs.Common.{◌≡◌, ◌++◌, take, drop}
use Rattle.tl_action.specs.Join.{arranged, new_parameters_in, new_from}
use Rattle.tl_action.proofs.new_parameters.new_parameters_of.Given as goal

abbrev pub invariant-loop-j : goal.invariant-loop-j
invariant-loop-j l =
    let bs = (arranged l.bounds).bounds in new_parameters_in l.bounds ≡ l.new_parameters.items ++
    new_from l.bounds.operator.now.params (take l.j bs) (drop l.j bs)
