-- How many nodes trees have, by which their walks end.
use Rattle.std.proofs.Common.{ℕ, ◌+◌}
use Rattle.tl_syntax.specs.Trees.{TermTree, TermTrees, variable, value, place, arith, no_term, more_terms}

unfoldable mutual
  pub term_nodes : TermTree → ℕ
  term_nodes (variable s) = 1
  term_nodes (value v) = 1
  term_nodes (place f ts) = 2 + terms_nodes ts
  term_nodes (arith op s t at) = 1 + (term_nodes s + term_nodes t)

  pub terms_nodes : TermTrees → ℕ
  terms_nodes no_term = 0
  terms_nodes (more_terms t ts) = 1 + (term_nodes t + terms_nodes ts)
