-- The meaning of terms in a world, in whole numbers of any size.
use Rattle.std.specs.Prelude.{ℕ, List, [], ◌∷◌, Option, Some, None, ℤ, ◌+ℤ◌, ◌-ℤ◌, ◌*ℤ◌}
use Rattle.tl_syntax.specs.declared.value.Value.{Value}
use Rattle.tl_syntax.specs.declared.value.Value.TheVariants.{Int}
use Rattle.tl_syntax.specs.declared.value.Op.{Op}
use Rattle.tl_syntax.specs.declared.value.Op.TheVariants.{Plus, Minus, Times}
use Rattle.tl_syntax.specs.Trees.{TermTree, TermTrees, variable, value, place, arith, no_term, more_terms}
use Rattle.tl_terms.specs.World.{World, value_at}
use Rattle.tl_syntax.specs.Assignment.{Assignment}

-- the exact result of the operation
abbrev pub exact : Op → ℤ → ℤ → ℤ
exact Plus a b = a +ℤ b
exact Minus a b = a -ℤ b
exact Times a b = a *ℤ b

-- undefined where an operand is undefined or a symbol
abbrev pub apply_op : Op → Option Value → Option Value → Option Value
apply_op op (Some (Int a)) (Some (Int b)) = Some (Int (exact op a b))
apply_op _ _ _ = None

-- undefined where one of them is
abbrev pub prepend : Option Value → Option (List Value) → Option (List Value)
prepend (Some v) (Some vs) = Some (v ∷ vs)
prepend _ _ = None

-- undefined where an argument is, or where the place has no value
abbrev pub place_value : World → ℕ → Option (List Value) → Option Value
place_value w f None = None
place_value w f (Some vs) = value_at w (f, vs)

-- the value of a term, where it is defined; and those of a list of terms, where all are
unfoldable mutual
  pub term_value : World → Assignment → TermTree → Option Value
  term_value w e (variable s) = e s.slot
  term_value w e (value v) = Some v
  term_value w e (place f ts) = place_value w f (term_values w e ts)
  term_value w e (arith op s t at) = apply_op op (term_value w e s) (term_value w e t)

  pub term_values : World → Assignment → TermTrees → Option (List Value)
  term_values w e no_term = Some []
  term_values w e (more_terms t ts) = prepend (term_value w e t) (term_values w e ts)
