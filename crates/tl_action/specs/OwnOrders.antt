-- What is worked out of an operator whose bounds are joined in their own order.
use Rattle.std.specs.Prelude.{List, [], Bool}
use Rattle.tl_action.specs.Join.{new_from}
use Rattle.tl_action.specs.Sure.{are_sure}
use Rattle.tl_syntax.specs.declared.operator.Operator.{Operator}
use Rattle.tl_syntax.specs.declared.variable.Var.{Var}
use Rattle.tl_syntax.specs.TreeOfEffect.{tree_of_effects}

-- the new parameters of each bound, and whether none of the effects can fail
abbrev pub own_order : Operator → List (List Var) × Bool
own_order o = (new_from o.params [] o.bounds, are_sure (tree_of_effects o.effects))
