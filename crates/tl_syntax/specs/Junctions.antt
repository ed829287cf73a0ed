-- Wholes that go by all of their parts, or by any one.
use Rattle.std.specs.Prelude.{List, Bool, true, false}
use Rattle.tl_syntax.specs.declared.bound.Bound.{Bound}
use Rattle.tl_syntax.specs.declared.junction.Junction.{Junction}
use Rattle.tl_syntax.specs.declared.junction.Junction.TheVariants.{All, Any}
use Rattle.tl_syntax.specs.declared.variable.Var.{Var}
use Rattle.tl_syntax.specs.Trees.{FormulaTree, FormulaTrees, conjunction, disjunction, for_all, for_some}

-- the truth of a part that decides the whole
abbrev pub deciding_truth : Junction → Bool
deciding_truth All = false
deciding_truth Any = true

-- the conjunction or the disjunction of the formulas
abbrev pub joined : Junction → FormulaTrees → FormulaTree
joined All fs = conjunction fs
joined Any fs = disjunction fs

-- the universal or the existential formula
abbrev pub quantified : Junction → List Var → Bound → FormulaTree → FormulaTree
quantified All ss b f = for_all ss b f
quantified Any ss b f = for_some ss b f
