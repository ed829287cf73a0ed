-- Which value each variable has, by its slot.
use Rattle.std.specs.Prelude.{ℕ, List, [], ◌∷◌, cond, ◌==◌, Option, Some, None}
use Rattle.tl_syntax.specs.declared.value.Value.{Value}
use Rattle.tl_syntax.specs.declared.variable.Var.{Var}

-- the value of each slot, where it has one
abbrev pub Assignment : Type 0
Assignment = ℕ → Option Value

-- no slot has a value
abbrev pub no_values : Assignment
no_values _ = None

-- the variables have the values of the tuple, and the other slots those of e
abbrev pub bind : List Var → List Value → Assignment → Assignment
bind [] t e = e
bind (s ∷ ss) [] e = λ q. cond (q == s.slot) None (bind ss [] e q)
bind (s ∷ ss) (v ∷ t) e = λ q. cond (q == s.slot) (Some v) (bind ss t e q)
