-- Bindings of slots as assignments.
use Rattle.std.specs.Prelude.{List, [], ◌∷◌, cond, ◌==◌, Some, None}
use Rattle.tl_syntax.specs.declared.value.Value.{Value}
use Rattle.tl_syntax.specs.declared.variable.Var.{Var}
use Rattle.tl_syntax.specs.declared.substitution.Binding.{Binding}
use Rattle.tl_syntax.specs.Assignment.{Assignment, no_values}

-- the value of a slot is that of the first binding for it
abbrev pub assignment_of : List Binding → Assignment
assignment_of [] = no_values
assignment_of (b ∷ bs) = λ q. cond (q == b.slot) b.value (assignment_of bs q)

-- the binding of a variable to a value
abbrev pub binding_to : Var → Value → Binding
binding_to s v = record { slot = s.slot; value = Some v }

-- the binding of a quantified variable
abbrev pub without_value : Var → Binding
without_value s = record { slot = s.slot; value = None }
