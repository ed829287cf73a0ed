-- The domain that a file means, where it means one.
use Rattle.std.specs.Prelude.{ℕ, ◌+◌, List, [], ◌∷◌, ◌++◌, Bool, true, false, ◌&&◌, ◌||◌, not, nat_lt, Option, Some, None, if◌then◌else◌}
use Rattle.std.specs.Prelude.{option_and_then, codes}
use Rattle.std.specs.List.{list_any}
use Rattle.std.specs.Option.{option_map}
use Rattle.std.specs.Str.{bytes_eq}
use Rattle.tl_sexpr.specs.Tree.{FormTree, FormTrees, symbol, integer, list, no_form, more_forms}
use Rattle.tl_syntax.specs.declared.bound.Bound.{Bound}
use Rattle.tl_syntax.specs.declared.declared.Declared.{Declared}
use Rattle.tl_syntax.specs.Trees.{FormulaTree, verum}
use Rattle.tl_syntax.specs.Effects.{EffectTrees, no_effect}
use Rattle.tl_rules.specs.Both.{option_both}
use Rattle.tl_rules.specs.Parts.{count, is_variable, are_variables, is_within, is_word, natural, texts_of, rest_of}
use Rattle.tl_rules.specs.Symbols.{number_in}
use Rattle.tl_formulas.specs.declared.roles.FormulaRole.TheVariants as role
use Rattle.tl_formulas.specs.declared.signature.NameSignature.{NameSignature}
use Rattle.tl_formulas.specs.MeaningOfFormulas.{variables_from}
use Rattle.tl_formulas.specs.PartialBounds.{bounds_meaning}
use Rattle.tl_formulas.specs.PartialEffects.{effects_meaning}
use Rattle.tl_formulas.specs.PartialFormulas.{are_new, formula_meaning}
use Rattle.tl_formulas.specs.Signatures.{Scope, is_taken}
use Rattle.tl_domain.specs.Declarations.{Declarations, nothing_declared}
use Rattle.tl_domain.specs.DomainTrees.{DefinitionTree, OperatorTree, DomainTree}
use Rattle.tl_domain.specs.Items.{is_full, with_head, declared_after}
use Rattle.tl_domain.specs.MeaningOfItems.{empty_domain}
use Rattle.tl_domain.specs.Operators.{parameters_of, name_in_head, bounds_clause, pre_clause, effects_clause, are_clauses, occurs_in_bounds}
use Rattle.tl_domain.specs.Words as item
use Rattle.tl_domain.specs.Words.{ItemWord, item_word}

-- a new name with an arity, which is at most 8
abbrev pub declaration_meaning : List (List ℕ) → NameSignature → FormTrees → Option Declared
declaration_meaning names g (more_forms (symbol text _) (more_forms (integer z _) no_form)) =
    if not (is_variable text || is_taken g text) && is_within 0 8 z
    then Some (record { name = number_in names text; arity = natural z }) else None
declaration_meaning names g _ = None

-- a head: a name that is not an old one, and different variables, at most so many, which occur as
-- the test says
abbrev pub is_head : ℕ → (List ℕ → Bool) → (List ℕ → Bool) → FormTree → Bool
is_head most is_old occurs (list (more_forms (symbol text _) variables) at) =
    not (is_variable text || is_old text) && are_variables variables && not (nat_lt most (count variables))
    && are_new occurs [] (texts_of variables)
is_head most is_old occurs _ = false

-- the definition of a head, with so many levels and a body
abbrev pub defined_as : List (List ℕ) → ℕ → FormTree → FormulaTree → DefinitionTree
defined_as names levels head body = record {
  name = number_in names (name_in_head head);
  params = variables_from names 0 (parameters_of head);
  body = body;
  levels = levels;
}

-- a definition of so many levels, by its head and its body; its name is new in the first signature,
-- and its body may use what the second has
abbrev pub definition_meaning : List (List ℕ) → NameSignature → NameSignature → ℕ → FormTree → FormTree → Option DefinitionTree
definition_meaning names g h levels head body =
    if is_head 8 (is_taken g) (λ text. true) head
    then option_map (defined_as names levels head) (formula_meaning role.Body names h (parameters_of head) body) else None

-- a number of levels, which is added to those before
abbrev pub levels_meaning : ℕ → FormTree → Option ℕ
levels_meaning before (integer z at) = if is_within 1 64 z && not (nat_lt 64 (before + natural z)) then Some (natural z) else None
levels_meaning before _ = None

-- what a clause means by the elements after its word, or what stands for it where there is none
abbrev pub clause_meaning : {A : Type 0} → (FormTrees → Option A) → A → Option FormTree → Option A
clause_meaning meaning otherwise None = Some otherwise
clause_meaning meaning otherwise (Some clause) = meaning (rest_of clause)

-- a precondition
abbrev pub pre_meaning : List (List ℕ) → NameSignature → Scope → FormTrees → Option FormulaTree
pre_meaning names g scope (more_forms f no_form) = formula_meaning role.State names g scope f
pre_meaning names g scope _ = None

-- the operator of a head, with bounds, a precondition and effects
abbrev pub operator_of : List (List ℕ) → FormTree → List Bound → FormulaTree → EffectTrees → OperatorTree
operator_of names head bounds pre effects = record {
  name = number_in names (name_in_head head);
  params = variables_from names 0 (parameters_of head);
  bounds = bounds;
  pre = pre;
  effects = effects;
}

-- an operator, by its head and its clauses, after operators with these names
abbrev pub operator_meaning : List (List ℕ) → NameSignature → List (List ℕ) → FormTree → FormTrees → Option OperatorTree
operator_meaning names g operators head clauses =
    if are_clauses clauses && is_head 16 (λ text. list_any (bytes_eq text) operators) (occurs_in_bounds clauses) head
    then option_both (λ (k : EffectTrees → OperatorTree) es. k es)
    (option_both (operator_of names head)
    (clause_meaning (bounds_meaning names g (parameters_of head)) [] (bounds_clause clauses))
    (clause_meaning (pre_meaning names g (parameters_of head)) verum (pre_clause clauses)))
    (clause_meaning (effects_meaning names g (parameters_of head)) no_effect (effects_clause clauses)) else None

-- an item of a domain
pub data ItemTree : Type 0 where
  a_predicate : Declared → ItemTree
  a_function : Declared → ItemTree
  a_definition : DefinitionTree → ItemTree
  an_operator : OperatorTree → ItemTree
  a_control : FormulaTree → ItemTree

-- an item by its first word and the elements after it, where these things are declared before it
abbrev pub word_meaning : List (List ℕ) → Declarations → ItemWord → FormTrees → Option ItemTree
word_meaning names k item.Predicate rest = option_map a_predicate (declaration_meaning names k.signature rest)
word_meaning names k item.Function rest = option_map a_function (declaration_meaning names k.signature rest)
word_meaning names k item.Define (more_forms head (more_forms body no_form)) =
    option_map a_definition (definition_meaning names k.signature k.signature 1 head body)
word_meaning names k item.Defined (more_forms n (more_forms head (more_forms body no_form))) =
    option_and_then
    (λ levels. option_map a_definition (definition_meaning names k.signature (with_head k.signature head) levels head body))
    (levels_meaning k.levels n)
word_meaning names k item.Operator (more_forms head clauses) =
    option_map an_operator (operator_meaning names k.signature k.operators head clauses)
word_meaning names k item.Control (more_forms f no_form) =
    if k.controlled then None else option_map a_control (formula_meaning role.Control names k.signature [] f)
word_meaning names k _ _ = None

-- an item
abbrev pub item_meaning : List (List ℕ) → Declarations → FormTree → Option ItemTree
item_meaning names k (list (more_forms (symbol text _) rest) at) =
    if is_full k (item_word text) then None else word_meaning names k (item_word text) rest
item_meaning names k _ = None

-- the domain of these parts
abbrev pub domain_with : ℕ → List Declared → List Declared → List DefinitionTree → List OperatorTree → FormulaTree → DomainTree
domain_with name predicates functions definitions operators control = record {
  name = name;
  predicates = predicates;
  functions = functions;
  definitions = definitions;
  operators = operators;
  control = control;
}

-- a domain with an item
abbrev pub plus_item : DomainTree → ItemTree → DomainTree
plus_item d (a_predicate p) = domain_with d.name (d.predicates ++ p ∷ []) d.functions d.definitions d.operators d.control
plus_item d (a_function f) = domain_with d.name d.predicates (d.functions ++ f ∷ []) d.definitions d.operators d.control
plus_item d (a_definition x) = domain_with d.name d.predicates d.functions (d.definitions ++ x ∷ []) d.operators d.control
plus_item d (an_operator o) = domain_with d.name d.predicates d.functions d.definitions (d.operators ++ o ∷ []) d.control
plus_item d (a_control f) = domain_with d.name d.predicates d.functions d.definitions d.operators f

-- a domain with items, of which each may use what those before it declare
abbrev pub items_meaning : List (List ℕ) → Declarations → DomainTree → FormTrees → Option DomainTree
items_meaning names k d no_form = Some d
items_meaning names k d (more_forms f fs) =
    option_and_then (λ i. items_meaning names (declared_after k f) (plus_item d i) fs) (item_meaning names k f)

-- the domain of a file: its one form is the word `domain`, a name and items
abbrev pub domain_file_meaning : List (List ℕ) → FormTrees → Option DomainTree
domain_file_meaning names (more_forms (list (more_forms word (more_forms (symbol text _) items)) at) no_form) =
    if is_word (codes "domain") word && not (is_variable text)
    then items_meaning names nothing_declared (empty_domain (number_in names text)) items else None
domain_file_meaning names _ = None
