use Rattle.std.proofs.Common.{◌≡◌, drop}
use Rattle.std.specs.List.{list_any}
use Rattle.tl_action.specs.Early.{is_known_as, is_known_slot}
use Rattle.tl_action.proofs.early.is_known_slot.Given as goal

abbrev pub invariant-loop-param : goal.invariant-loop-param
invariant-loop-param l = is_known_slot l.bounds l.j l.slot ≡ list_any (is_known_as l.bounds l.j l.slot) (drop l.param-index l.params)
