-- The rules by which this crate's functions are proved: of plain forms, of breaks one after the other, and of each kind of form.
use Rattle.tl_sexpr.proofs.TreeOf.{tree-Sym, tree-Int, tree-List, trees-Forms}
use Rattle.tl_rules.proofs.Composed.{first-front, first-back, none-both, count-trees}
use Rattle.tl_formulas.proofs.TermTrees.{term_trees}
use Rattle.tl_formulas.proofs.FormulaTrees.{formula_trees}
use Rattle.tl_formulas.proofs.EffectTrees.{effect_trees}
use Rattle.tl_formulas.proofs.Called.{goals as goal_forms, term_forms, term_pairs}
use Rattle.tl_formulas.proofs.FormulaParts.{formula_forms, formula_counts}
use Rattle.tl_formulas.proofs.EffectParts.{effect_forms, effect_parts}

pub ruleset form_trees = (tree-Sym, tree-Int, tree-List, trees-Forms)

pub ruleset composed = (first-front, first-back, none-both, count-trees)

pub ruleset goals = (form_trees, composed, goal_forms)

pub ruleset terms = (form_trees, composed, term_trees, term_forms, term_pairs)

pub ruleset formulas = (form_trees, composed, formula_trees, formula_forms, formula_counts)

pub ruleset effects = (form_trees, composed, effect_trees, effect_forms, effect_parts)
