-- What the readers of this crate answer.
use Rattle.std.specs.Prelude.{◌++◌, ℕ, List, Bool, true, Option, Result}
use Rattle.std.specs.Borrow.{Bor}
use Rattle.std.specs.List.{list_any}
use Rattle.std.specs.Option.{option_map}
use Rattle.std.specs.Str.{bytes_eq}
use Rattle.tl_sexpr.specs.declared.form.Form.{Form}
use Rattle.tl_sexpr.specs.Tree.{FormTree, FormTrees, tree_of, more_forms}
use Rattle.tl_syntax.specs.declared.bound.Bound.{Bound}
use Rattle.tl_syntax.specs.declared.definition.Definition.{Definition}
use Rattle.tl_syntax.specs.declared.effect.Effects.{Effects}
use Rattle.tl_syntax.specs.declared.formula.Formula.{Formula}
use Rattle.tl_syntax.specs.declared.operator.Operator.{Operator}
use Rattle.tl_syntax.specs.TreeOfEffect.{tree_of_effects}
use Rattle.tl_syntax.specs.TreeOfFormula.{tree_of_formula}
use Rattle.tl_rules.specs.declared.rule.FormFault.{FormFault}
use Rattle.tl_rules.specs.declared.rule.Rule.TheVariants.{Twice}
use Rattle.tl_rules.specs.Parts.{rest_of, texts_of}
use Rattle.tl_rules.specs.Reads.{Reads, trees_in}
use Rattle.tl_rules.specs.Rules.{breaks_if}
use Rattle.tl_formulas.specs.declared.roles.FormulaRole.TheVariants as role
use Rattle.tl_formulas.specs.declared.signature.NameSignature.{NameSignature}
use Rattle.tl_formulas.specs.Formulas.{formula_breaks}
use Rattle.tl_formulas.specs.MeaningOfFormulas.{first_formula, formulas_meant}
use Rattle.tl_formulas.specs.Signatures.{Scope, is_taken}
use Rattle.tl_rules.specs.Calls.{CallTree}
use Rattle.tl_domain.specs.declared.clauses.Clauses.{Clauses}
use Rattle.tl_domain.specs.declared.draft.Draft.{Draft}
use Rattle.tl_domain.specs.declared.heads.Head.{Head}
use Rattle.tl_domain.specs.declared.heads.Within.{Within}
use Rattle.tl_domain.specs.declared.heads.Within.TheVariants as within
use Rattle.tl_domain.specs.declared.item_shapes.Declaration.{Declaration}
use Rattle.tl_rules.specs.declared.vocabulary.Vocabulary.{Vocabulary}
use Rattle.tl_domain.specs.Declarations.{Declarations}
use Rattle.tl_domain.specs.DomainTrees.{DomainTree, definition_tree, domain_tree, operator_tree}
use Rattle.tl_domain.specs.Items.{arity_breaks, natural_of, declared_with, declared_after, item_breaks, items_breaks, item_list_breaks}
use Rattle.tl_domain.specs.Items.{item_parts_breaks}
use Rattle.tl_domain.specs.MeaningOfItems.{bounds_clause_meant, pre_clause_meant, effects_clause_meant, definition_named}
use Rattle.tl_domain.specs.MeaningOfItems.{operator_with, with_item, with_item_form, with_items}
use Rattle.tl_domain.specs.Operators.{ClauseTrees, bounds_clause_breaks, pre_breaks, pre_clause_breaks, effects_clause_breaks}
use Rattle.tl_domain.specs.Operators.{clause_trees_breaks, head_breaks, name_in_head, occurs_in_clause}
use Rattle.tl_domain.specs.Parts.{name_tree, integer_tree}
use Rattle.tl_domain.specs.Words.{ItemWord}

-- a clause, and the clauses of an operator
abbrev pub clause_tree : Option (Bor Form) → Option FormTree
clause_tree clause = option_map (λ f. tree_of f.now) clause

abbrev pub clauses_of : Clauses → ClauseTrees
clauses_of c = record {
  bounds = clause_tree c.bounds;
  pre = clause_tree c.pre;
  effects = clause_tree c.effects;
}

-- the elements of a head, and the variables of one by their texts
abbrev pub head_elements : Head → FormTrees
head_elements h = more_forms (name_tree h.name) (trees_in h.variables.now)

abbrev pub head_scope : Head → Scope
head_scope h = texts_of (trees_in h.variables.now)

-- the variable occurs where it has to
abbrev pub occurs_within : Within → List ℕ → Bool
occurs_within within.Nothing text = true
occurs_within (within.Bounds clause) text = occurs_in_clause (clause_tree clause) text

-- a head is read, of which the name is new and the variables occur as they have to
abbrev pub ReadsHead : Result Head FormFault → ℕ → (List ℕ → Bool) → (List ℕ → Bool) → FormTree → Type 0
ReadsHead result most is_old occurs f =
    Reads {Y = List ℕ × FormTrees} (λ (x : Head). (x.name.text.now, trees_in x.variables.now)) result
    (head_breaks most is_old occurs f) (name_in_head f, rest_of f)

-- the head of a definition, and the head of an operator
abbrev pub ReadsDefinitionHead : Result Head FormFault → NameSignature → FormTree → Type 0
ReadsDefinitionHead result g f = ReadsHead result 8 (is_taken g) (λ _. true) f

abbrev pub ReadsOperatorHead : Result Head FormFault → List (List ℕ) → Option FormTree → FormTree → Type 0
ReadsOperatorHead result operators bounds f =
    ReadsHead result 16 (λ text. list_any (bytes_eq text) operators) (occurs_in_clause bounds) f

-- the number of arguments of a declaration is read, of which the name is new
abbrev pub ReadsArity : Result ℕ FormFault → NameSignature → Declaration → Type 0
ReadsArity result g x =
    Reads (λ (n : ℕ). n) result
    (breaks_if (is_taken g x.name.text.now) Twice x.name.at ++ arity_breaks (integer_tree x.arity))
    (natural_of (integer_tree x.arity))

-- a definition is read, of a head, so many levels and a body
abbrev pub ReadsDefinition : Result Definition FormFault → Vocabulary NameSignature → Head → ℕ → FormTree → Type 0
ReadsDefinition result v h levels body =
    Reads definition_tree result
    (formula_breaks role.Body v.declared.now (head_scope h) body)
    (definition_named v.names.now v.declared.now levels h.name.text.now (head_scope h) body)

-- the bounds, the precondition and the effects of an operator are read, by their clauses
abbrev pub ReadsBoundsClause : Result (List Bound) FormFault → Vocabulary NameSignature → Scope → Option FormTree → Type 0
ReadsBoundsClause result v scope clause =
    Reads (λ (xs : List Bound). xs) result
    (bounds_clause_breaks v.declared.now scope clause)
    (bounds_clause_meant v.names.now v.declared.now scope clause)

abbrev pub ReadsPrecondition : Result Formula FormFault → Vocabulary NameSignature → Scope → FormTrees → ℕ → Type 0
ReadsPrecondition result v scope fs at =
    Reads tree_of_formula result
    (pre_breaks v.declared.now scope fs at)
    (first_formula (formulas_meant v.names.now v.declared.now scope fs))

abbrev pub ReadsPreClause : Result Formula FormFault → Vocabulary NameSignature → Scope → Option FormTree → Type 0
ReadsPreClause result v scope clause =
    Reads tree_of_formula result
    (pre_clause_breaks v.declared.now scope clause)
    (pre_clause_meant v.names.now v.declared.now scope clause)

abbrev pub ReadsEffectsClause : Result Effects FormFault → Vocabulary NameSignature → Scope → Option FormTree → Type 0
ReadsEffectsClause result v scope clause =
    Reads tree_of_effects result
    (effects_clause_breaks v.declared.now scope clause)
    (effects_clause_meant v.names.now v.declared.now scope clause)

-- an operator is read, of a head and clauses
abbrev pub ReadsOperator : Result Operator FormFault → Vocabulary NameSignature → Head → ClauseTrees → Type 0
ReadsOperator result v h c =
    Reads operator_tree result
    (clause_trees_breaks v.declared.now (head_scope h) c)
    (operator_with v.names.now v.declared.now h.name.text.now (head_scope h) c)

-- what the items so far declare, and with it what they stand for
abbrev pub declared_by : Draft → Declarations
declared_by d = record {
  signature = d.signature;
  operators = d.operators;
  levels = d.levels;
  controlled = d.controlled;
}

abbrev pub draft_tree : Draft → Declarations × DomainTree
draft_tree d = (declared_by d, domain_tree d.domain)

-- an item of this word joins the draft, or a form as an item
abbrev pub AddsItem : Result (Unit {0}) FormFault → List (List ℕ) → ItemWord → CallTree → Draft → Draft → Type 0
AddsItem result names w c before after =
    Reads {Y = Declarations × DomainTree} (λ (x : Unit {0}). draft_tree after) result
    (item_list_breaks (declared_by before) w c.rest c.at ++ item_parts_breaks (declared_by before) w c.rest)
    (declared_with (declared_by before) w c.rest, with_item names before.signature (domain_tree before.domain) w c.rest)

abbrev pub AddsForm : Result (Unit {0}) FormFault → List (List ℕ) → FormTree → Draft → Draft → Type 0
AddsForm result names f before after =
    Reads {Y = Declarations × DomainTree} (λ (x : Unit {0}). draft_tree after) result
    (item_breaks (declared_by before) f)
    (declared_after (declared_by before) f, with_item_form names before.signature (domain_tree before.domain) f)

-- items join the draft
abbrev pub AddsItems : Result (Unit {0}) FormFault → List (List ℕ) → FormTrees → Draft → Draft → Type 0
AddsItems result names fs before after =
    Reads (λ (x : Unit {0}). domain_tree after.domain) result
    (items_breaks (declared_by before) fs)
    (with_items names (declared_by before) (domain_tree before.domain) fs)
