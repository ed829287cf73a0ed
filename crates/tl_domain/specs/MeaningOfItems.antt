-- The domain that a file stands for. Where a form breaks a rule, what is said of it here does not
-- matter.
use Rattle.std.specs.Prelude.{ℕ, List, [], ◌∷◌, ◌++◌, Option, Some, None}
use Rattle.tl_sexpr.specs.Tree.{FormTree, FormTrees, symbol, no_form, more_forms}
use Rattle.tl_syntax.specs.declared.bound.Bound.{Bound}
use Rattle.tl_syntax.specs.declared.declared.Declared.{Declared}
use Rattle.tl_syntax.specs.Trees.{FormulaTree, verum}
use Rattle.tl_syntax.specs.Effects.{EffectTrees, no_effect}
use Rattle.tl_domain.specs.Words as item
use Rattle.tl_formulas.specs.declared.signature.NameSignature.{NameSignature}
use Rattle.tl_domain.specs.Words.{ItemWord, item_word}
use Rattle.tl_rules.specs.Parts.{rest_of, elements_of}
use Rattle.tl_formulas.specs.Signatures.{Scope}
use Rattle.tl_rules.specs.Symbols.{number_in}
use Rattle.tl_domain.specs.Operators.{ClauseTrees, clause_trees, parameters_of, name_in_head}
use Rattle.tl_rules.specs.Calls.{CallTree, call_in}
use Rattle.tl_domain.specs.Items.{declaration_of, natural_of, with_head, declared_after}
use Rattle.tl_domain.specs.Declarations.{Declarations, nothing_declared}
use Rattle.tl_formulas.specs.MeaningOfBounds.{bounds_meant}
use Rattle.tl_formulas.specs.MeaningOfFormulas.{formula_meant, formulas_meant, first_formula, variables_from}
use Rattle.tl_formulas.specs.MeaningOfEffects.{effects_meant}
use Rattle.tl_domain.specs.DomainTrees.{DefinitionTree, OperatorTree, DomainTree}

-- the declaration of these elements
abbrev pub declared_meant : List (List ℕ) → FormTrees → List Declared
declared_meant names rest = record { name = number_in names (declaration_of rest).0; arity = (declaration_of rest).1 } ∷ []

-- the definition of a name and parameters, with a body of so many levels
abbrev pub definition_named : List (List ℕ) → NameSignature → ℕ → List ℕ → Scope → FormTree → DefinitionTree
definition_named names g levels name scope body = record {
  name = number_in names name;
  params = variables_from names 0 scope;
  body = formula_meant names g scope body;
  levels = levels;
}

-- the definition of a head and a body, with so many levels
abbrev pub definition_meant : List (List ℕ) → NameSignature → ℕ → FormTree → FormTree → DefinitionTree
definition_meant names g levels head body = definition_named names g levels (name_in_head head) (parameters_of head) body

-- the bounds of a clause, the precondition of one, and the effects of one, or what stands for them
-- where there is none
abbrev pub bounds_clause_meant : List (List ℕ) → NameSignature → Scope → Option FormTree → List Bound
bounds_clause_meant names g scope (Some clause) = bounds_meant names g scope (rest_of clause)
bounds_clause_meant names g scope None = []

abbrev pub pre_clause_meant : List (List ℕ) → NameSignature → Scope → Option FormTree → FormulaTree
pre_clause_meant names g scope (Some clause) = first_formula (formulas_meant names g scope (rest_of clause))
pre_clause_meant names g scope None = verum

abbrev pub effects_clause_meant : List (List ℕ) → NameSignature → Scope → Option FormTree → EffectTrees
effects_clause_meant names g scope (Some clause) = effects_meant names g scope (rest_of clause)
effects_clause_meant names g scope None = no_effect

-- the operator of a name and parameters, with clauses
abbrev pub operator_with : List (List ℕ) → NameSignature → List ℕ → Scope → ClauseTrees → OperatorTree
operator_with names g name scope c = record {
  name = number_in names name;
  params = variables_from names 0 scope;
  bounds = bounds_clause_meant names g scope c.bounds;
  pre = pre_clause_meant names g scope c.pre;
  effects = effects_clause_meant names g scope c.effects;
}

-- the operator of a head and clauses
abbrev pub operator_meant : List (List ℕ) → NameSignature → FormTree → FormTrees → OperatorTree
operator_meant names g head clauses =
    operator_with names g (name_in_head head) (parameters_of head) (clause_trees clauses)

-- the predicates, functions, definitions and operators of an item, by its first word and the
-- elements after it
abbrev pub predicates_of_item : List (List ℕ) → ItemWord → FormTrees → List Declared
predicates_of_item names item.Predicate rest = declared_meant names rest
predicates_of_item names _ rest = []

abbrev pub functions_of_item : List (List ℕ) → ItemWord → FormTrees → List Declared
functions_of_item names item.Function rest = declared_meant names rest
functions_of_item names _ rest = []

abbrev pub definitions_of_item : List (List ℕ) → NameSignature → ItemWord → FormTrees → List DefinitionTree
definitions_of_item names g item.Define (more_forms head (more_forms body no_form)) = definition_meant names g 1 head body ∷ []
definitions_of_item names g item.Defined (more_forms n (more_forms head (more_forms body no_form))) =
    definition_meant names (with_head g head) (natural_of n) head body ∷ []
definitions_of_item names g _ _ = []

abbrev pub operators_of_item : List (List ℕ) → NameSignature → ItemWord → FormTrees → List OperatorTree
operators_of_item names g item.Operator (more_forms head clauses) = operator_meant names g head clauses ∷ []
operators_of_item names g _ _ = []

-- the control formula with that of an item
abbrev pub control_with : List (List ℕ) → NameSignature → FormulaTree → ItemWord → FormTrees → FormulaTree
control_with names g control item.Control (more_forms f no_form) = formula_meant names g [] f
control_with names g control _ _ = control

-- a domain with what an item adds, by its first word and the elements after it, where these things
-- are declared before it
abbrev pub with_item : List (List ℕ) → NameSignature → DomainTree → ItemWord → FormTrees → DomainTree
with_item names g d w rest = record {
  name = d.name;
  predicates = d.predicates ++ predicates_of_item names w rest;
  functions = d.functions ++ functions_of_item names w rest;
  definitions = d.definitions ++ definitions_of_item names g w rest;
  operators = d.operators ++ operators_of_item names g w rest;
  control = control_with names g d.control w rest;
}

-- a domain with an item
abbrev pub with_item_call : List (List ℕ) → NameSignature → DomainTree → Option CallTree → DomainTree
with_item_call names g d (Some c) = with_item names g d (item_word c.word) c.rest
with_item_call names g d None = d

abbrev pub with_item_form : List (List ℕ) → NameSignature → DomainTree → FormTree → DomainTree
with_item_form names g d f = with_item_call names g d (call_in f)

-- a domain with items, of which each may use what those before it declare
abbrev pub with_items : List (List ℕ) → Declarations → DomainTree → FormTrees → DomainTree
with_items names k d no_form = d
with_items names k d (more_forms f fs) = with_items names (declared_after k f) (with_item_form names k.signature d f) fs

-- a domain without items
abbrev pub empty_domain : ℕ → DomainTree
empty_domain name = record { name = name; predicates = []; functions = []; definitions = []; operators = []; control = verum }

-- the domain of the elements `domain`, its name and its items
abbrev pub domain_meant : List (List ℕ) → FormTrees → DomainTree
domain_meant names (more_forms word (more_forms (symbol text _) items)) =
    with_items names nothing_declared (empty_domain (number_in names text)) items
domain_meant names _ = empty_domain 0

-- the domain that the forms of a file stand for, where the names have these numbers
abbrev pub domain_file_meant : List (List ℕ) → FormTrees → DomainTree
domain_file_meant names (more_forms f fs) = domain_meant names (elements_of f)
domain_file_meant names no_form = empty_domain 0
