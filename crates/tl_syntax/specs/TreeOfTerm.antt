-- The plain trees of terms.
use Rattle.std.specs.Prelude.{List, [], ◌∷◌}
use Rattle.tl_syntax.specs.declared.term.Term.{Term, Term-F, fold-Term}
use Rattle.tl_syntax.specs.declared.term.Term.TheOpen as layer
use Rattle.tl_syntax.specs.declared.term.Terms.{Terms, Terms-F, fold-Terms}
use Rattle.tl_syntax.specs.Trees.{TermTree, TermTrees, variable, value, place, arith, no_term, more_terms}

-- the terms of a list as a list of trees
abbrev pub terms_of_list : List TermTree → TermTrees
terms_of_list [] = no_term
terms_of_list (t ∷ ts) = more_terms t (terms_of_list ts)

-- one layer of a term, whose parts are trees already
abbrev pub term_step : Term-F TermTree TermTrees → TermTree
term_step (layer.Var v) = variable v
term_step (layer.Val v) = value v
term_step (layer.Place f ts) = place f ts
term_step (layer.Arith op a b at) = arith op a.value b.value at

-- one layer of a list, whose terms are trees already
abbrev pub terms_step : Terms-F TermTree TermTrees → TermTrees
terms_step ts = terms_of_list ts.items.items

-- the plain tree of a term
unfoldable pub tree_of_term : Term → TermTree
tree_of_term = fold-Term TermTree TermTrees term_step terms_step

-- the plain trees of a list of terms
unfoldable pub tree_of_terms : Terms → TermTrees
tree_of_terms = fold-Terms TermTree TermTrees term_step terms_step

-- the terms of a list, in their order
abbrev pub terms_in : Terms → List Term
terms_in ts = ts.items.items
