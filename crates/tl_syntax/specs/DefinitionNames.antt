-- Which definitions a formula names.
use Rattle.std.specs.Prelude.{ℕ, ◌<◌}
use Rattle.tl_syntax.specs.Trees.{FormulaTree, FormulaTrees, verum, falsum, atom, defined, compare, goal_fact, goal_place, goal_not}
use Rattle.tl_syntax.specs.Trees.{negation, conjunction, disjunction, for_all, for_some, next, always, eventually, until, within, during}
use Rattle.tl_syntax.specs.Trees.{no_formula, more_formulas}

-- each definition that the formula names has a number below n
abbrev mutual
  pub IsNamingBelow : ℕ → FormulaTree → Type 0
  IsNamingBelow n verum = Unit {0}
  IsNamingBelow n falsum = Unit {0}
  IsNamingBelow n (atom p ts) = Unit {0}
  IsNamingBelow n (defined p ts) = p < n
  IsNamingBelow n (compare c x y) = Unit {0}
  IsNamingBelow n (goal_fact p xs) = Unit {0}
  IsNamingBelow n (goal_place f xs x) = Unit {0}
  IsNamingBelow n (goal_not p xs) = Unit {0}
  IsNamingBelow n (negation f) = IsNamingBelow n f
  IsNamingBelow n (conjunction fs) = AreNamingBelow n fs
  IsNamingBelow n (disjunction fs) = AreNamingBelow n fs
  IsNamingBelow n (for_all ss b f) = IsNamingBelow n f
  IsNamingBelow n (for_some ss b f) = IsNamingBelow n f
  IsNamingBelow n (next f) = IsNamingBelow n f
  IsNamingBelow n (always f) = IsNamingBelow n f
  IsNamingBelow n (eventually f) = IsNamingBelow n f
  IsNamingBelow n (until f g) = IsNamingBelow n f × IsNamingBelow n g
  IsNamingBelow n (within k f) = IsNamingBelow n f
  IsNamingBelow n (during k f) = IsNamingBelow n f

  pub AreNamingBelow : ℕ → FormulaTrees → Type 0
  AreNamingBelow n no_formula = Unit {0}
  AreNamingBelow n (more_formulas f fs) = IsNamingBelow n f × AreNamingBelow n fs
