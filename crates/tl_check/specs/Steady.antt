-- Formulas that have the same truth in all states.
use Rattle.std.specs.Prelude.{◌≡◌, ◌∷◌, List}
use Rattle.tl_check.specs.Ahead.{Course, true_ahead}
use Rattle.tl_syntax.specs.Assignment.{Assignment}
use Rattle.tl_syntax.specs.Trees.{FormulaTree}
use Rattle.tl_terms.specs.World.{World}

-- its truth in one state is its truth in any other, whatever states follow
abbrev pub IsSteady : FormulaTree → Type 0
IsSteady f = (c : Course) (e : Assignment) (v w : World) (vs ws : List World) → true_ahead c e f (v ∷ vs) ≡ true_ahead c e f (w ∷ ws)
