-- How the text of a formula is made of those of its parts: what stands before them, and the parts.
use Rattle.std.specs.Prelude.{◌≡◌, ℕ, List, [], ◌∷◌, ◌++◌, Bool, true, false, codes}
use Rattle.std.specs.Fmt.{decimal}
use Rattle.tl_syntax.specs.declared.domain.Domain.{Domain}
use Rattle.tl_syntax.specs.Basic.{is_basic}
use Rattle.tl_syntax.specs.TreeOfFormula.{tree_of_formula}
use Rattle.tl_syntax.specs.Trees.{FormulaTree, FormulaTrees, verum, falsum, atom, defined, compare, goal_fact, goal_place, goal_not}
use Rattle.tl_syntax.specs.Trees.{negation, conjunction, disjunction, for_all, for_some, next, always, eventually, until, within, during}
use Rattle.tl_syntax.specs.Trees.{no_formula, more_formulas}
use Rattle.tl_nodes.specs.declared.node.Node.{Node}
use Rattle.tl_nodes.specs.declared.node.Node.TheVariants as node
use Rattle.tl_label.specs.Labels.{formula_text, variables_text}
use Rattle.tl_label.specs.Parts.{after_spaces}
use Rattle.tl_label.specs.Terms.{bound_text}

-- the numbers of the node's parts
abbrev pub part_ids : Node → List ℕ
part_ids node.True = []
part_ids node.False = []
part_ids (node.Basic f) = []
part_ids (node.Not i) = i ∷ []
part_ids (node.And ids) = ids
part_ids (node.Or ids) = ids
part_ids (node.Next i) = i ∷ []
part_ids (node.Always i) = i ∷ []
part_ids (node.Eventually i) = i ∷ []
part_ids (node.Until i j) = i ∷ j ∷ []
part_ids (node.Within k i) = i ∷ []
part_ids (node.During k i) = i ∷ []
part_ids (node.ForAll xs b i) = i ∷ []
part_ids (node.Exists xs b i) = i ∷ []

-- whether the text of the node is open after its head: parts may follow, and a closing parenthesis
abbrev pub is_open : Node → Bool
is_open node.True = false
is_open node.False = false
is_open (node.Basic f) = false
is_open n = true

-- the text of the node up to its parts
abbrev pub head_text : List (List ℕ) → Domain → Node → List ℕ
head_text names domain node.True = codes "true"
head_text names domain node.False = codes "false"
head_text names domain (node.Basic f) = formula_text names domain (tree_of_formula f)
head_text names domain (node.Not i) = codes "(not"
head_text names domain (node.And ids) = codes "(and"
head_text names domain (node.Or ids) = codes "(or"
head_text names domain (node.Next i) = codes "(next"
head_text names domain (node.Always i) = codes "(always"
head_text names domain (node.Eventually i) = codes "(eventually"
head_text names domain (node.Until i j) = codes "(until"
head_text names domain (node.Within k i) = codes "(within" ++ after_spaces (decimal k ∷ [])
head_text names domain (node.During k i) = codes "(for" ++ after_spaces (decimal k ∷ [])
head_text names domain (node.ForAll xs b i) = codes "(forall" ++ after_spaces (variables_text names xs ∷ bound_text names domain b ∷ [])
head_text names domain (node.Exists xs b i) = codes "(exists" ++ after_spaces (variables_text names xs ∷ bound_text names domain b ∷ [])

-- the formula of a Basic is a basic formula
abbrev pub HasBasic : Node → Type 0
HasBasic (node.Basic f) = is_basic (tree_of_formula f) ≡ true
HasBasic n = Unit {0}

-- the formulas of a list
unfoldable pub formulas_in : FormulaTrees → List FormulaTree
formulas_in no_formula = []
formulas_in (more_formulas f fs) = f ∷ formulas_in fs

-- the formulas of which a formula is made
unfoldable pub subformulas : FormulaTree → List FormulaTree
subformulas verum = []
subformulas falsum = []
subformulas (atom p ts) = []
subformulas (defined p ts) = []
subformulas (compare c s t) = []
subformulas (goal_fact p xs) = []
subformulas (goal_place f xs x) = []
subformulas (goal_not p xs) = []
subformulas (negation f) = f ∷ []
subformulas (conjunction fs) = formulas_in fs
subformulas (disjunction fs) = formulas_in fs
subformulas (for_all xs b f) = f ∷ []
subformulas (for_some xs b f) = f ∷ []
subformulas (next f) = f ∷ []
subformulas (always f) = f ∷ []
subformulas (eventually f) = f ∷ []
subformulas (until f g) = f ∷ g ∷ []
subformulas (within k f) = f ∷ []
subformulas (during k f) = f ∷ []
