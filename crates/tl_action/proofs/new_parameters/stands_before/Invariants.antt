use Rattle.std.proofs.Common.{◌≡◌, drop, take}
use Rattle.tl_action.specs.Join.{arranged, stands_in_one}
use Rattle.tl_action.proofs.new_parameters.stands_before.Given as goal

abbrev pub invariant-loop-k : goal.invariant-loop-k
invariant-loop-k l =
    let bs = take l.j (arranged l.bounds).bounds in stands_in_one bs l.var ≡ stands_in_one (drop l.k bs) l.var
