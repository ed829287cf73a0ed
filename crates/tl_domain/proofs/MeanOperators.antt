-- Operators mean something exactly where they break no rule.
use Rattle.std.proofs.Common.{◌≡◌, ℕ, List, [], ◌++◌, refl, ap, ◌∙◌}
use Rattle.std.specs.Prelude.{Bool, true, false, ◌&&◌, not, Option, Some, None, if◌then◌else◌}
use Rattle.std.specs.List.{list_any}
use Rattle.std.specs.Str.{bytes_eq}
use Rattle.tl_sexpr.specs.Tree.{FormTree, FormTrees, no_form, more_forms}
use Rattle.tl_syntax.specs.declared.bound.Bound.{Bound}
use Rattle.tl_syntax.specs.Trees.{FormulaTree, verum}
use Rattle.tl_syntax.specs.Effects.{EffectTrees, no_effect}
use Rattle.tl_rules.specs.declared.rule.Rule.TheVariants.{Shape}
use Rattle.tl_rules.specs.Both.{option_both}
use Rattle.tl_rules.specs.Parts.{is_list, rest_of, offset_of}
use Rattle.tl_rules.specs.Rules.{Break, breaks_if}
use Rattle.tl_rules.specs.Unbroken.{where_unbroken}
use Rattle.tl_rules.proofs.Unbroken.{both-unbroken, group-unbroken}
use Rattle.tl_formulas.specs.declared.roles.FormulaRole.TheVariants as role
use Rattle.tl_formulas.specs.declared.signature.NameSignature.{NameSignature}
use Rattle.tl_formulas.specs.MeaningOfFormulas.{formula_meant, formulas_meant, first_formula}
use Rattle.tl_formulas.specs.PartialBounds.{bounds_meaning}
use Rattle.tl_formulas.specs.PartialEffects.{effects_meaning}
use Rattle.tl_formulas.specs.Signatures.{Scope}
use Rattle.tl_formulas.proofs.MeanBounds.{bounds-mean}
use Rattle.tl_formulas.proofs.MeanEffects.{effects-mean}
use Rattle.tl_formulas.proofs.MeanFormulas.{formula-mean}
use Rattle.tl_domain.specs.DomainTrees.{OperatorTree}
use Rattle.tl_domain.specs.Items.{has_operator_shape}
use Rattle.tl_domain.specs.MeaningOfItems.{bounds_clause_meant, pre_clause_meant, effects_clause_meant, operator_meant}
use Rattle.tl_domain.specs.Operators.{bounds_clause, pre_clause, effects_clause, are_clauses, occurs_in_bounds, parameters_of}
use Rattle.tl_domain.specs.Operators.{head_breaks}
use Rattle.tl_domain.specs.Operators.{pre_breaks, bounds_clause_breaks, pre_clause_breaks, effects_clause_breaks, clauses_breaks}
use Rattle.tl_domain.specs.Operators.{operator_breaks}
use Rattle.tl_domain.specs.PartialItems.{is_head, clause_meaning, pre_meaning, operator_of, operator_meaning}
use Rattle.tl_domain.proofs.MeanHeads.{head-mean}

bounds-clause-mean : (names : List (List ℕ)) (g : NameSignature) (scope : Scope) (c : Option FormTree) →
    clause_meaning (bounds_meaning names g scope) [] c ≡ where_unbroken (bounds_clause_breaks g scope c)
    (bounds_clause_meant names g scope c)
bounds-clause-mean names g scope None = refl
bounds-clause-mean names g scope (Some clause) = bounds-mean names g scope (rest_of clause)

pre-mean : (names : List (List ℕ)) (g : NameSignature) (scope : Scope) (fs : FormTrees) (at : ℕ) → pre_meaning names g scope fs ≡
    where_unbroken (pre_breaks g scope fs at) (first_formula (formulas_meant names g scope fs))
unfolding formula_meant
pre-mean names g scope no_form at = refl
pre-mean names g scope (more_forms f no_form) at = formula-mean role.State names g scope f
pre-mean names g scope (more_forms f (more_forms h fs)) at = refl

pre-clause-mean : (names : List (List ℕ)) (g : NameSignature) (scope : Scope) (c : Option FormTree) →
    clause_meaning (pre_meaning names g scope) verum c ≡ where_unbroken (pre_clause_breaks g scope c) (pre_clause_meant names g scope c)
pre-clause-mean names g scope None = refl
pre-clause-mean names g scope (Some clause) = pre-mean names g scope (rest_of clause) (offset_of clause)

effects-clause-mean : (names : List (List ℕ)) (g : NameSignature) (scope : Scope) (c : Option FormTree) →
    clause_meaning (effects_meaning names g scope) no_effect c ≡ where_unbroken (effects_clause_breaks g scope c)
    (effects_clause_meant names g scope c)
effects-clause-mean names g scope None = refl
effects-clause-mean names g scope (Some clause) = effects-mean names g scope (rest_of clause)

-- with nothing beside the clauses
shape-mean : {A : Type 0} (l c h : Bool) (at : ℕ) (xs : List Break) (m : Option A) (a : A) → (if h then m else None) ≡
    where_unbroken (breaks_if (not l) Shape at ++ xs) a → (if c && h then m else None) ≡
    where_unbroken (breaks_if (not (l && c)) Shape at ++ xs) a
shape-mean true true h at xs m a is = is
shape-mean false true h at xs m a is = is
shape-mean true false h at xs m a is = refl
shape-mean false false h at xs m a is = refl

pub operator-mean : (names : List (List ℕ)) (g : NameSignature) (operators : List (List ℕ)) (head : FormTree) (clauses : FormTrees)
    (at : ℕ) → operator_meaning names g operators head clauses ≡ where_unbroken
    (breaks_if (not (has_operator_shape (more_forms head clauses))) Shape at ++ operator_breaks g operators (more_forms head clauses))
    (operator_meant names g head clauses)
operator-mean names g operators head clauses at =
    let scope : Scope = parameters_of head in
    let is_old : List ℕ → Bool = λ text. list_any (bytes_eq text) operators in
    let bs : List Break = bounds_clause_breaks g scope (bounds_clause clauses) in
    let ps : List Break = pre_clause_breaks g scope (pre_clause clauses) in
    let es : List Break = effects_clause_breaks g scope (effects_clause clauses) in
    let b : List Bound = bounds_clause_meant names g scope (bounds_clause clauses) in
    let f : FormulaTree = pre_clause_meant names g scope (pre_clause clauses) in
    let e : EffectTrees = effects_clause_meant names g scope (effects_clause clauses) in
    let apply : (EffectTrees → OperatorTree) → EffectTrees → OperatorTree = λ j u. j u in
    shape-mean (is_list head) (are_clauses clauses) (is_head 16 is_old (occurs_in_bounds clauses) head) at
    (head_breaks 16 is_old (occurs_in_bounds clauses) head ++ clauses_breaks g scope clauses) _ (operator_meant names g head clauses)
    (head-mean 16 is_old (occurs_in_bounds clauses) head at (clauses_breaks g scope clauses) _ (operator_meant names g head clauses)
    ((λ i. option_both apply (option_both (operator_of names head) (bounds-clause-mean names g scope (bounds_clause clauses) i)
    (pre-clause-mean names g scope (pre_clause clauses) i)) (effects-clause-mean names g scope (effects_clause clauses) i))
    ∙ ap (λ o. option_both apply o (where_unbroken es e)) (both-unbroken (operator_of names head) bs ps b f)
    ∙ both-unbroken apply (bs ++ ps) es (operator_of names head b f) e
    ∙ group-unbroken bs ps es (operator_meant names g head clauses)))
