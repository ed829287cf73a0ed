-- Heads and clauses of operators, and heads of definitions.
use Rattle.std.specs.Prelude.{ℕ, List, [], ◌∷◌, ◌++◌, Bool, true, false, ◌&&◌, not, nat_lt, Option, Some, None, if◌then◌else◌}
use Rattle.std.specs.Prelude.{is_some, codes}
use Rattle.std.specs.List.{list_any}
use Rattle.std.specs.Option.{option_map_or}
use Rattle.std.specs.Str.{bytes_eq}
use Rattle.tl_sexpr.specs.Tree.{FormTree, FormTrees, symbol, integer, list, no_form, more_forms}
use Rattle.tl_formulas.specs.declared.roles.FormulaRole.TheVariants as role
use Rattle.tl_rules.specs.declared.rule.Rule.TheVariants.{Shape, Twice, NotInBound, Limit}
use Rattle.tl_formulas.specs.declared.signature.NameSignature.{NameSignature}
use Rattle.tl_rules.specs.Rules.{Break, breaks_if}
use Rattle.tl_rules.specs.Parts.{offset_of, count, is_name, are_variables, texts_of, elements_of, rest_of, occurs_in}
use Rattle.tl_rules.specs.Parts.{begins_with}
use Rattle.tl_formulas.specs.Signatures.{Scope, slot_of}
use Rattle.tl_formulas.specs.Bounds.{bounds_breaks}
use Rattle.tl_formulas.specs.Formulas.{formula_breaks}
use Rattle.tl_formulas.specs.Effects.{effects_breaks}

-- the elements of a head are a name and variables
abbrev pub has_head_shape : FormTrees → Bool
has_head_shape no_form = false
has_head_shape (more_forms name variables) = is_name name && are_variables variables

-- a head has more variables than this number
abbrev pub has_more : ℕ → FormTrees → Bool
has_more most no_form = false
has_more most (more_forms name variables) = nat_lt most (count variables)

-- what a variable of a head breaks that stands after these
abbrev pub parameter_breaks : (List ℕ → Bool) → Scope → List ℕ → ℕ → List Break
parameter_breaks occurs earlier text at =
    breaks_if (is_some (slot_of earlier text)) Twice at ++ breaks_if (not (occurs text)) NotInBound at

-- what the variables of a head break, of which these stand before: one of them again, or, where the
-- test says so, one that occurs nowhere in the bounds
abbrev pub parameters_breaks : (List ℕ → Bool) → Scope → FormTrees → List Break
parameters_breaks occurs earlier no_form = []
parameters_breaks occurs earlier (more_forms (symbol text at) fs) =
    breaks_if (is_some (slot_of earlier text)) Twice at
    ++ (breaks_if (not (occurs text)) NotInBound at ++ parameters_breaks occurs (earlier ++ text ∷ []) fs)
parameters_breaks occurs earlier (more_forms (integer z at) fs) = parameters_breaks occurs earlier fs
parameters_breaks occurs earlier (more_forms (list gs at) fs) = parameters_breaks occurs earlier fs

-- what the name of a head breaks where the test says that it is not new
abbrev pub head_name_breaks : (List ℕ → Bool) → FormTree → List Break
head_name_breaks is_old (symbol text at) = breaks_if (is_old text) Twice at
head_name_breaks is_old _ = []

-- what the elements of a head break
abbrev pub head_parts_breaks : (List ℕ → Bool) → (List ℕ → Bool) → FormTrees → List Break
head_parts_breaks is_old occurs no_form = []
head_parts_breaks is_old occurs (more_forms name variables) = head_name_breaks is_old name ++ parameters_breaks occurs [] variables

-- what the list of a head breaks itself; it has at most so many variables
abbrev pub head_list_breaks : ℕ → FormTree → List Break
head_list_breaks most (list fs at) = breaks_if (not (has_head_shape fs)) Shape at ++ breaks_if (has_more most fs) Limit at
head_list_breaks most _ = []

-- what a head breaks, with its parts
abbrev pub head_breaks : ℕ → (List ℕ → Bool) → (List ℕ → Bool) → FormTree → List Break
head_breaks most is_old occurs f = head_list_breaks most f ++ head_parts_breaks is_old occurs (elements_of f)

-- the variables of a head
abbrev pub parameters_of : FormTree → Scope
parameters_of head = texts_of (rest_of head)

-- the name of a head
abbrev pub name_in_head : FormTree → List ℕ
name_in_head (list (more_forms (symbol text _) variables) at) = text
name_in_head _ = []

-- the first of the forms, where it is a clause with this word
abbrev pub leading : List ℕ → FormTrees → Option FormTree
leading word no_form = None
leading word (more_forms f fs) = if begins_with word f then Some f else None

-- the forms after such a clause, or all where the first is none
abbrev pub after_leading : List ℕ → FormTrees → FormTrees
after_leading word no_form = no_form
after_leading word (more_forms f fs) = if begins_with word f then fs else more_forms f fs

-- the clauses of an operator, which stand in the order `bounds`, `pre`, `effects`, each at most
-- once
abbrev pub bounds_clause : FormTrees → Option FormTree
bounds_clause fs = leading (codes "bounds") fs

abbrev pub pre_clause : FormTrees → Option FormTree
pre_clause fs = leading (codes "pre") (after_leading (codes "bounds") fs)

abbrev pub effects_clause : FormTrees → Option FormTree
effects_clause fs = leading (codes "effects") (after_leading (codes "pre") (after_leading (codes "bounds") fs))

-- there is no form
abbrev pub is_nothing : FormTrees → Bool
is_nothing no_form = true
is_nothing (more_forms f fs) = false

-- beside those clauses there is none
abbrev pub are_clauses : FormTrees → Bool
are_clauses fs =
    is_nothing (after_leading (codes "effects") (after_leading (codes "pre") (after_leading (codes "bounds") fs)))

-- the clauses of an operator, of which each may be wanting
pub record ClauseTrees : Type 0 where
  pub bounds : Option FormTree
  pub pre : Option FormTree
  pub effects : Option FormTree

abbrev pub clause_trees : FormTrees → ClauseTrees
clause_trees fs = record { bounds = bounds_clause fs; pre = pre_clause fs; effects = effects_clause fs }

-- the variable occurs in the clause, and in the `bounds` clause
abbrev pub occurs_in_clause : Option FormTree → List ℕ → Bool
occurs_in_clause clause text = option_map_or (occurs_in text) clause false

abbrev pub occurs_in_bounds : FormTrees → List ℕ → Bool
occurs_in_bounds clauses = occurs_in_clause (bounds_clause clauses)

-- what the precondition breaks, by the elements after `pre`
abbrev pub pre_breaks : NameSignature → Scope → FormTrees → ℕ → List Break
pre_breaks g scope (more_forms f no_form) at = formula_breaks role.State g scope f
pre_breaks g scope _ at = (Shape, at) ∷ []

-- what each clause breaks, where there is one
abbrev pub bounds_clause_breaks : NameSignature → Scope → Option FormTree → List Break
bounds_clause_breaks g scope None = []
bounds_clause_breaks g scope (Some clause) = bounds_breaks g scope (rest_of clause)

abbrev pub pre_clause_breaks : NameSignature → Scope → Option FormTree → List Break
pre_clause_breaks g scope None = []
pre_clause_breaks g scope (Some clause) = pre_breaks g scope (rest_of clause) (offset_of clause)

abbrev pub effects_clause_breaks : NameSignature → Scope → Option FormTree → List Break
effects_clause_breaks g scope None = []
effects_clause_breaks g scope (Some clause) = effects_breaks g scope (rest_of clause)

-- what clauses break
abbrev pub clause_trees_breaks : NameSignature → Scope → ClauseTrees → List Break
clause_trees_breaks g scope c =
    bounds_clause_breaks g scope c.bounds
    ++ (pre_clause_breaks g scope c.pre ++ effects_clause_breaks g scope c.effects)

abbrev pub clauses_breaks : NameSignature → Scope → FormTrees → List Break
clauses_breaks g scope fs = clause_trees_breaks g scope (clause_trees fs)

-- what an operator breaks that stands after operators with these names, by its elements after the
-- first
abbrev pub operator_breaks : NameSignature → List (List ℕ) → FormTrees → List Break
operator_breaks g operators no_form = []
operator_breaks g operators (more_forms head clauses) =
    head_breaks 16 (λ text. list_any (bytes_eq text) operators) (occurs_in_bounds clauses) head
    ++ clauses_breaks g (parameters_of head) clauses
