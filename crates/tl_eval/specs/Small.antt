-- Terms whose arguments fit a row of values.
use Rattle.std.specs.Prelude.{◌≤◌}
use Rattle.tl_syntax.specs.Fits.{term_count}
use Rattle.tl_syntax.specs.Trees.{TermTree, TermTrees, variable, value, place, arith, no_term, more_terms}

-- each function in a term, and in a list of terms, has at most 8 arguments
unfoldable mutual
  pub HasFewArguments : TermTree → Type 0
  HasFewArguments (variable s) = Unit {0}
  HasFewArguments (value v) = Unit {0}
  HasFewArguments (place f ts) = (term_count ts ≤ 8) × HaveFewArguments ts
  HasFewArguments (arith op s t at) = HasFewArguments s × HasFewArguments t

  pub HaveFewArguments : TermTrees → Type 0
  HaveFewArguments no_term = Unit {0}
  HaveFewArguments (more_terms t ts) = HasFewArguments t × HaveFewArguments ts
