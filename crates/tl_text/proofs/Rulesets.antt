-- The rules of plain forms and of bytes that grow, for this crate's functions.
use Rattle.tl_sexpr.proofs.TreeOf.{tree-Sym, tree-Int, tree-List, trees-Forms}
use Rattle.tl_line.proofs.Growth.{begins-same, begins-grown, begins-on, operator-there}

pub ruleset form_trees = (tree-Sym, tree-Int, tree-List, trees-Forms)

pub ruleset growth = (begins-same, begins-grown, begins-on, operator-there)
