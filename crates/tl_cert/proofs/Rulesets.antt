-- The rules of plain forms, of breaks one after the other and of bytes that grow, for this crate's functions.
use Rattle.std.proofs.Common.{List, [], ◌∷◌, ◌++◌}
use Rattle.tl_sexpr.proofs.TreeOf.{tree-Sym, tree-Int, tree-List, trees-Forms}
use Rattle.tl_syntax.specs.Lists.{Each}
use Rattle.tl_rules.proofs.Composed.{first-front, first-back, none-both, count-trees}
use Rattle.tl_line.proofs.Growth.{begins-same, begins-grown, begins-on, operator-there}

-- one more at the end
pub each_more : {A : Type 0} (P : A → Type 0) (xs : List A) (x : A) → Each P xs → P x → Each P (xs ++ x ∷ [])
each_more P [] x h i = (i, tt)
each_more P (y ∷ xs) x h i = (h.0, each_more P xs x h.1 i)

pub ruleset form_trees = (tree-Sym, tree-Int, tree-List, trees-Forms)

pub ruleset composed = (first-front, first-back, none-both, count-trees)

pub ruleset growth = (begins-same, begins-grown, begins-on, operator-there)
