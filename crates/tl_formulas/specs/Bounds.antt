-- Bounds: the rules that a form breaks in the role of a bound.
use Rattle.std.specs.Prelude.{ℕ, List, [], ◌∷◌, ◌++◌}
use Rattle.tl_sexpr.specs.Tree.{FormTree, FormTrees, symbol, integer, list, no_form, more_forms}
use Rattle.tl_syntax.specs.declared.value.Cmp.TheVariants as cmp
use Rattle.tl_formulas.specs.declared.words.FormulaWord.{FormulaWord}
use Rattle.tl_formulas.specs.declared.words.FormulaWord.TheVariants as word
use Rattle.tl_rules.specs.declared.rule.Rule.TheVariants.{Shape}
use Rattle.tl_formulas.specs.declared.signature.NameSignature.{NameSignature}
use Rattle.tl_rules.specs.Rules.{Break, breaks_if}
use Rattle.tl_formulas.specs.Words.{formula_word}
use Rattle.tl_rules.specs.Parts.{count, is_list, any_list}
use Rattle.tl_formulas.specs.Signatures.{Table, Scope, call_breaks, unbound_breaks}
use Rattle.tl_formulas.specs.Goals.{arguments_breaks, goal_breaks}

-- what `(n a*)` breaks, with its arguments, where it should name something of the table
abbrev pub flat_breaks : Table → Scope → List ℕ → FormTrees → ℕ → List Break
flat_breaks table scope text rest at =
    breaks_if (any_list rest) Shape at ++ (call_breaks table text (count rest) at ++ arguments_breaks scope rest)

-- what `(= X a)` breaks as a bound, by its elements after the first
abbrev pub equality_breaks : NameSignature → Scope → FormTrees → ℕ → List Break
equality_breaks g scope (more_forms (list (more_forms (symbol text _) rest) place) (more_forms value no_form)) at =
    breaks_if (is_list value) Shape at ++ (flat_breaks g.functions scope text rest place ++ unbound_breaks scope value)
equality_breaks g scope _ at = (Shape, at) ∷ []

-- what `(goal A)` breaks as a bound, by its elements after the first
abbrev pub goal_bound_breaks : NameSignature → Scope → FormTrees → ℕ → List Break
goal_bound_breaks g scope (more_forms f no_form) at = goal_breaks g scope f
goal_bound_breaks g scope _ at = (Shape, at) ∷ []

-- what a bound breaks that begins with a word, by its elements after the first
abbrev pub bound_call_breaks : NameSignature → Scope → FormulaWord → List ℕ → FormTrees → ℕ → List Break
bound_call_breaks g scope (word.Compare cmp.Eq) text rest at = equality_breaks g scope rest at
bound_call_breaks g scope word.Goal text rest at = goal_bound_breaks g scope rest at
bound_call_breaks g scope _ text rest at = flat_breaks g.predicates scope text rest at

-- what a bound breaks, with its parts
unfoldable pub bound_breaks : NameSignature → Scope → FormTree → List Break
bound_breaks g scope (symbol text at) = (Shape, at) ∷ []
bound_breaks g scope (integer z at) = (Shape, at) ∷ []
bound_breaks g scope (list (more_forms (symbol text _) rest) at) = bound_call_breaks g scope (formula_word text) text rest at
bound_breaks g scope (list _ at) = (Shape, at) ∷ []

-- what bounds break
abbrev pub bounds_breaks : NameSignature → Scope → FormTrees → List Break
bounds_breaks g scope no_form = []
bounds_breaks g scope (more_forms f fs) = bound_breaks g scope f ++ bounds_breaks g scope fs
