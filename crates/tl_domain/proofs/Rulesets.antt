-- The rules of plain forms and formulas, and of breaks one after the other, for this crate's functions.
use Rattle.tl_sexpr.proofs.TreeOf.{tree-Sym, tree-Int, tree-List, trees-Forms}
use Rattle.tl_syntax.proofs.FormulaTrees.{tree-True}
use Rattle.tl_rules.proofs.Composed.{first-front, first-back, none-both, count-trees}
use Rattle.tl_domain.proofs.DomainKept.{domain-kept}
use Rattle.tl_domain.proofs.HeadParts.{head-name, head-variables, parameters-next, parameters-skip}
use Rattle.tl_domain.proofs.LeastFault.{least-fault}

pub ruleset form_trees = (tree-Sym, tree-Int, tree-List, trees-Forms)

pub ruleset formula_trees = (tree-True)

pub ruleset composed = (first-front, first-back, none-both, count-trees)

-- heads, and their variables one after the other
pub ruleset heads = (head-name, head-variables, first-front, first-back, none-both, count-trees)

pub ruleset parameters = (parameters-next, parameters-skip, first-front, first-back, none-both, count-trees)

-- items, by the elements after their words
pub ruleset items = (first-front, first-back, none-both, count-trees)

-- files
pub ruleset files = (tree-Sym, tree-Int, tree-List, trees-Forms, least-fault, domain-kept)
