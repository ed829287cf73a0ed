-- Formulas that stand alone, or below quantifiers.
use Rattle.std.specs.Prelude.{ℕ, List, []}
use Rattle.tl_syntax.specs.Fits.{Fits}
use Rattle.tl_syntax.specs.FreeVariables.{free_slots, InScope}
use Rattle.tl_syntax.specs.Signature.{Signature}
use Rattle.tl_syntax.specs.Trees.{FormulaTree}

-- the formula fits, and has no free variable
pub record IsSentence (g : Signature) (f : FormulaTree) : Type 0 where
  pub fits : Fits g [] f
  pub closed : InScope [] (free_slots f)

-- the formula fits below some quantifiers
pub record FitsSomewhere (g : Signature) (f : FormulaTree) : Type 0 where
  pub around : List ℕ
  pub fits : Fits g around f
