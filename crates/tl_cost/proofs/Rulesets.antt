-- The rules of plain forms and of breaks one after the other, for this crate's functions.
use Rattle.tl_sexpr.proofs.TreeOf.{tree-Sym, tree-Int, tree-List, trees-Forms}
use Rattle.tl_rules.proofs.Composed.{first-front, first-back, none-both, count-trees}

pub ruleset form_trees = (tree-Sym, tree-Int, tree-List, trees-Forms)

pub ruleset composed = (first-front, first-back, none-both, count-trees)
