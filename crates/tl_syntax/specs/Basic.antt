-- Which formulas are evaluated as a whole.
use Rattle.std.specs.Prelude.{Bool, true, false}
use Rattle.tl_syntax.specs.Trees.{FormulaTree, atom, defined, compare, goal_fact, goal_place, goal_not}

-- a formula that is no constant and has no formula below it
abbrev pub is_basic : FormulaTree → Bool
is_basic (atom p ts) = true
is_basic (defined p ts) = true
is_basic (compare c s t) = true
is_basic (goal_fact p xs) = true
is_basic (goal_place f xs x) = true
is_basic (goal_not p xs) = true
is_basic _ = false
