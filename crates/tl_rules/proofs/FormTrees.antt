-- The plain trees of forms, part by part.
use Rattle.tl_sexpr.proofs.TreeOf.{tree-Sym, tree-Int, tree-List, trees-Forms}

pub ruleset form_trees = (tree-Sym, tree-Int, tree-List, trees-Forms)
