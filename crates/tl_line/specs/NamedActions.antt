-- Which actions name only what a problem has.
use Rattle.std.specs.Prelude.{ℕ, List, length, map}
use Rattle.tl_syntax.specs.declared.action.Action.{Action}
use Rattle.tl_syntax.specs.declared.operator.Operator.{Operator}
use Rattle.tl_syntax.specs.Lists.{Each}
use Rattle.tl_syntax.specs.Named.{ValueIsNamed}
use Rattle.tl_syntax.specs.Signature.{Takes}

-- the operator is there and takes as many arguments as the action has, and these are named
pub record ActionIsNamed (names : List (List ℕ)) (operators : List Operator) (a : Action) : Type 0 where
  pub takes : Takes (map (λ o. length o.params) operators) a.op (length a.args)
  pub named : Each (ValueIsNamed (length names)) a.args
