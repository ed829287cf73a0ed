-- What the readers of this crate answer: what a form stands for, or the first of the rules that it
-- breaks.
--
-- The first argument is what forms are read by, and the last is the answer.
use Rattle.std.specs.Prelude.{◌≡◌, ℕ, List, [], true, false, ◌++◌, Option, Result, Box, unwrap_or}
use Rattle.std.specs.declared.alloc.Global.{Global}
use Rattle.tl_sexpr.specs.Tree.{FormTree, FormTrees, no_form, more_forms, tree_of}
use Rattle.tl_syntax.specs.declared.value.Op.{Op}
use Rattle.tl_syntax.specs.declared.value.Cmp.{Cmp}
use Rattle.tl_syntax.specs.declared.junction.Junction.{Junction}
use Rattle.tl_syntax.specs.declared.junction.Junction.TheVariants as junction
use Rattle.tl_syntax.specs.declared.variable.Arg.{Arg}
use Rattle.tl_syntax.specs.declared.variable.Var.{Var}
use Rattle.tl_syntax.specs.declared.term.Term.{Term}
use Rattle.tl_syntax.specs.declared.term.Terms.{Terms}
use Rattle.tl_syntax.specs.declared.bound.Bound.{Bound}
use Rattle.tl_syntax.specs.declared.bound.Bound.TheVariants as bound
use Rattle.tl_syntax.specs.declared.formula.Formula.{Formula}
use Rattle.tl_syntax.specs.declared.formula.Formulas.{Formulas}
use Rattle.tl_syntax.specs.declared.effect.Effect.{Effect}
use Rattle.tl_syntax.specs.declared.effect.Effects.{Effects}
use Rattle.tl_syntax.specs.Trees.{FormulaTree, FormulaTrees, compare, for_all, for_some, within, during, no_formula, more_formulas}
use Rattle.tl_syntax.specs.TreeOfTerm.{tree_of_term, tree_of_terms}
use Rattle.tl_syntax.specs.TreeOfFormula.{tree_of_formula, tree_of_formulas}
use Rattle.tl_syntax.specs.TreeOfEffect.{tree_of_effect, tree_of_effects}
use Rattle.tl_rules.specs.declared.rule.FormFault.{FormFault}
use Rattle.tl_rules.specs.Parts.{rest_of, any_list}
use Rattle.tl_rules.specs.Reads.{Reads, trees_in}
use Rattle.tl_rules.specs.declared.calls.Call.{Call}
use Rattle.tl_formulas.specs.declared.goals.GoalArgument.{GoalArgument}
use Rattle.tl_formulas.specs.declared.goals.GoalArgument.TheVariants as goal
use Rattle.tl_formulas.specs.declared.goals.Flat.{Flat}
use Rattle.tl_formulas.specs.declared.roles.FormulaRole.{FormulaRole}
use Rattle.tl_formulas.specs.declared.shapes.Pair.{Pair}
use Rattle.tl_formulas.specs.declared.signature.NameSignature.{NameSignature}
use Rattle.tl_formulas.specs.declared.shapes.Binding.{Binding}
use Rattle.tl_formulas.specs.declared.bindings.BoundVariables.{BoundVariables}
use Rattle.tl_formulas.specs.declared.shapes.FormulaParts.{FormulaParts}
use Rattle.tl_formulas.specs.declared.shapes.FormulaParts.TheVariants as parts
use Rattle.tl_formulas.specs.declared.shapes.EffectParts.{EffectParts}
use Rattle.tl_rules.specs.declared.vocabulary.Vocabulary.{Vocabulary}
use Rattle.tl_formulas.specs.declared.words.FormulaWord.{FormulaWord}
use Rattle.tl_formulas.specs.declared.words.FormulaWord.TheVariants as word
use Rattle.tl_formulas.specs.Words.{formula_word, effect_word}
use Rattle.tl_rules.specs.Calls.{list_of}
use Rattle.tl_formulas.specs.Shapes.{pair_trees, word_of_parts, elements_of_parts, variables_tree, word_of_change, elements_of_change}
use Rattle.tl_formulas.specs.Signatures.{Table, Scope, place_of, unbound_breaks}
use Rattle.tl_formulas.specs.Terms.{term_call_breaks, term_breaks, terms_breaks}
use Rattle.tl_formulas.specs.Goals.{arguments_breaks, is_flat, miscounted_breaks, other_goal_breaks, goal_breaks}
use Rattle.tl_formulas.specs.Bounds.{flat_breaks, equality_breaks, bound_call_breaks, bound_breaks, bounds_breaks}
use Rattle.tl_formulas.specs.Variables.{with_variables}
use Rattle.tl_formulas.specs.Formulas.{binding_breaks, role_below, goals_breaks, formula_list_breaks, formula_breaks, formula_parts_breaks}
use Rattle.tl_formulas.specs.Formulas.{formulas_breaks}
use Rattle.tl_formulas.specs.Effects.{target_breaks, effect_list_breaks, effect_breaks, effect_parts_breaks, effects_breaks}
use Rattle.tl_formulas.specs.MeaningOfTerms.{argument_meant, arguments_meant, call_meant, term_meant, terms_meant}
use Rattle.tl_formulas.specs.MeaningOfBounds.{call_place, other_goal_meant, goal_meant, equality_meant}
use Rattle.tl_formulas.specs.MeaningOfBounds.{bound_call_meant, bound_meant, bounds_meant}
use Rattle.tl_formulas.specs.MeaningOfFormulas.{formula_of_goal, atom_meant, under_word}
use Rattle.tl_formulas.specs.MeaningOfFormulas.{formula_meant, formula_list_meant, formulas_meant, variables_meant}
use Rattle.tl_formulas.specs.MeaningOfEffects.{target_meant, effect_meant, effect_list_meant, effects_meant}

-- an argument, and arguments
abbrev pub ReadsArgument : Vocabulary NameSignature → Scope → FormTree → Result Arg FormFault → Type 0
ReadsArgument v scope f result = Reads (λ (x : Arg). x) result (unbound_breaks scope f) (argument_meant v.names.now scope f)

abbrev pub ReadsArguments : Vocabulary NameSignature → Scope → FormTrees → Result (List Arg) FormFault → Type 0
ReadsArguments v scope fs result =
    Reads (λ (xs : List Arg). xs) result (arguments_breaks scope fs) (arguments_meant v.names.now scope fs)

-- a term, and terms
abbrev pub ReadsTerm : Vocabulary NameSignature → Scope → FormTree → Result Term FormFault → Type 0
ReadsTerm v scope f result =
    Reads tree_of_term result (term_breaks v.declared.now.functions scope f) (term_meant v.names.now v.declared.now.functions scope f)

abbrev pub ReadsTerms : Vocabulary NameSignature → Scope → FormTrees → Result Terms FormFault → Type 0
ReadsTerms v scope fs result =
    Reads tree_of_terms result
    (terms_breaks v.declared.now.functions scope fs)
    (terms_meant v.names.now v.declared.now.functions scope fs)

-- the term of a list whose first word names this operation, or a function
abbrev pub ReadsTermCall : Vocabulary NameSignature → Scope → Option Op → Call → Result Term FormFault → Type 0
ReadsTermCall v scope op call result =
    let functions = v.declared.now.functions in
    let rest = trees_in call.rest.now in
    Reads tree_of_term result
    (term_call_breaks functions op call.word.now rest call.at ++ terms_breaks functions scope rest)
    (call_meant op (place_of functions call.word.now) (terms_meant v.names.now functions scope rest) call.at)

-- an argument of `goal` as a bound
abbrev pub bound_of_goal : GoalArgument → Bound
bound_of_goal (goal.Fact p xs) = bound.GoalFact p xs
bound_of_goal (goal.Place f xs x) = bound.GoalPlace f xs x
bound_of_goal (goal.Not p xs) = bound.GoalNot p xs

-- these are the parts of a list that begins with a name of the table and has no list among the rest
pub record IsFlat (table : Table) (f : FormTree) (parts : Flat) : Type 0 where
  pub flat : is_flat table f ≡ true
  pub place : call_place table f ≡ parts.place
  pub rest : rest_of f ≡ trees_in parts.rest.now
  pub plain : any_list (trees_in parts.rest.now) ≡ false

-- an argument `(= (f a*) a)` of `goal`, by the place and the value
abbrev pub ReadsGoalPlace : Vocabulary NameSignature → Scope → FormTree → FormTree → Result GoalArgument FormFault → Type 0
ReadsGoalPlace v scope place value result =
    let functions = v.declared.now.functions in
    Reads bound_of_goal result
    (miscounted_breaks functions place ++ (arguments_breaks scope (rest_of place) ++ unbound_breaks scope value))
    (bound.GoalPlace (call_place functions place) (arguments_meant v.names.now scope (rest_of place))
    (argument_meant v.names.now scope value))

-- an argument `(not (p a*))` of `goal`, by the fact
abbrev pub ReadsGoalNot : Vocabulary NameSignature → Scope → FormTree → Result GoalArgument FormFault → Type 0
ReadsGoalNot v scope fact result =
    let predicates = v.declared.now.predicates in
    Reads bound_of_goal result
    (miscounted_breaks predicates fact ++ arguments_breaks scope (rest_of fact))
    (bound.GoalNot (call_place predicates fact) (arguments_meant v.names.now scope (rest_of fact)))

-- an argument of `goal`, and one that is no fact, by its elements and its offset
abbrev pub ReadsGoal : Vocabulary NameSignature → Scope → FormTree → Result GoalArgument FormFault → Type 0
ReadsGoal v scope f result =
    Reads bound_of_goal result (goal_breaks v.declared.now scope f) (goal_meant v.names.now v.declared.now scope f)

abbrev pub ReadsOtherGoal : Vocabulary NameSignature → Scope → FormTrees → ℕ → Result GoalArgument FormFault → Type 0
ReadsOtherGoal v scope fs at result =
    Reads bound_of_goal result (other_goal_breaks v.declared.now scope fs at) (other_goal_meant v.names.now v.declared.now scope fs)

-- a bound, bounds, and the bound of a list with this first word
abbrev pub ReadsBound : Vocabulary NameSignature → Scope → FormTree → Result Bound FormFault → Type 0
ReadsBound v scope f result =
    Reads (λ (x : Bound). x) result (bound_breaks v.declared.now scope f) (bound_meant v.names.now v.declared.now scope f)

abbrev pub ReadsBounds : Vocabulary NameSignature → Scope → FormTrees → Result (List Bound) FormFault → Type 0
ReadsBounds v scope fs result =
    Reads (λ (xs : List Bound). xs) result (bounds_breaks v.declared.now scope fs) (bounds_meant v.names.now v.declared.now scope fs)

abbrev pub ReadsBoundCall : Vocabulary NameSignature → Scope → FormulaWord → Call → Result Bound FormFault → Type 0
ReadsBoundCall v scope word call result =
    let rest = trees_in call.rest.now in
    Reads (λ (x : Bound). x) result
    (bound_call_breaks v.declared.now scope word call.word.now rest call.at)
    (bound_call_meant v.names.now v.declared.now scope word call.word.now rest)

-- the bound `(= X a)`, by X and a and the offset
abbrev pub ReadsPlaceBound : Vocabulary NameSignature → Scope → FormTree → FormTree → ℕ → Result Bound FormFault → Type 0
ReadsPlaceBound v scope place value at result =
    let rest = more_forms place (more_forms value no_form) in
    Reads (λ (x : Bound). x) result (equality_breaks v.declared.now scope rest at) (equality_meant v.names.now v.declared.now scope rest)

-- the place in a table of a list's first word, and the arguments after it, none of which is a list
abbrev pub ReadsFlat : Vocabulary NameSignature → Scope → Table → Call → Result (ℕ × List Arg) FormFault → Type 0
ReadsFlat v scope table call result =
    let rest = trees_in call.rest.now in
    Reads (λ (x : ℕ × List Arg). x) result
    (flat_breaks table scope call.word.now rest call.at)
    (unwrap_or (place_of table call.word.now) 0, arguments_meant v.names.now scope rest)

-- a formula in this role, and formulas
abbrev pub ReadsFormula : Vocabulary NameSignature → FormulaRole → Scope → FormTree → Result Formula FormFault → Type 0
ReadsFormula v role scope f result =
    Reads tree_of_formula result (formula_breaks role v.declared.now scope f) (formula_meant v.names.now v.declared.now scope f)

abbrev pub ReadsFormulas : Vocabulary NameSignature → FormulaRole → Scope → FormTrees → Result Formulas FormFault → Type 0
ReadsFormulas v role scope fs result =
    Reads tree_of_formulas result (formulas_breaks role v.declared.now scope fs) (formulas_meant v.names.now v.declared.now scope fs)

-- a formula in a box
abbrev pub ReadsBoxed : Vocabulary NameSignature → FormulaRole → Scope → FormTree → Result (Box Formula Global) FormFault → Type 0
ReadsBoxed v role scope f result =
    Reads (λ (x : Box Formula Global). tree_of_formula x.value) result
    (formula_breaks role v.declared.now scope f)
    (formula_meant v.names.now v.declared.now scope f)

-- the formula of a list that begins with a word, with what the list breaks itself
abbrev pub ReadsFormulaCall : Vocabulary NameSignature → FormulaRole → Scope → Call → Result Formula FormFault → Type 0
ReadsFormulaCall v role scope call result =
    let g = v.declared.now in
    let word = formula_word call.word.now in
    let rest = trees_in call.rest.now in
    Reads tree_of_formula result
    (formula_list_breaks role g scope word call.word.now rest call.at ++ formula_parts_breaks (role_below role) g scope word rest)
    (formula_list_meant v.names.now g scope word call.word.now rest)

-- the formula of these parts of a list with this first word
abbrev pub ReadsFormulaParts : Vocabulary NameSignature → FormulaRole → Scope → List ℕ → FormulaParts → Result Formula FormFault → Type 0
ReadsFormulaParts v role scope text p result =
    Reads tree_of_formula result
    (formula_parts_breaks role v.declared.now scope (word_of_parts p) (elements_of_parts p))
    (formula_list_meant v.names.now v.declared.now scope (word_of_parts p) text (elements_of_parts p))

-- these formulas under a word
abbrev pub ReadsUnderWord : Vocabulary NameSignature → FormulaRole → Scope → FormulaWord → FormTrees → Result Formula FormFault → Type 0
ReadsUnderWord v role scope word fs result =
    Reads tree_of_formula result
    (formulas_breaks role v.declared.now scope fs)
    (under_word word (formulas_meant v.names.now v.declared.now scope fs))

-- the formula `(goal A)`, by A
abbrev pub ReadsGoalFormula : Vocabulary NameSignature → Scope → FormTree → Result Formula FormFault → Type 0
ReadsGoalFormula v scope f result =
    Reads tree_of_formula result
    (goals_breaks v.declared.now scope (more_forms f no_form))
    (formula_of_goal (goal_meant v.names.now v.declared.now scope f))

-- the comparison of two terms
abbrev pub ReadsComparison : Vocabulary NameSignature → Scope → Cmp → Pair → Result Formula FormFault → Type 0
ReadsComparison v scope c p result =
    let functions = v.declared.now.functions in
    Reads tree_of_formula result
    (terms_breaks functions scope (pair_trees p))
    (compare c (term_meant v.names.now functions scope (tree_of p.first.now))
    (term_meant v.names.now functions scope (tree_of p.second.now)))

-- the atom of this name with these arguments
abbrev pub ReadsAtom : Vocabulary NameSignature → Scope → List ℕ → FormTrees → Result Formula FormFault → Type 0
ReadsAtom v scope text fs result =
    let functions = v.declared.now.functions in
    Reads tree_of_formula result
    (terms_breaks functions scope fs)
    (atom_meant v.declared.now text (terms_meant v.names.now functions scope fs))

-- variables with their bound, and what is in scope with them
abbrev pub ReadsBinding : Vocabulary NameSignature → Scope → Binding → Result BoundVariables FormFault → Type 0
ReadsBinding v scope b result =
    let vs = variables_tree b.list in
    let f = tree_of b.bound.now in
    Reads {Y = Scope × List Var × Bound} (λ (x : BoundVariables). (x.inner, x.vars, x.bound)) result
    (binding_breaks v.declared.now scope vs f) (
      with_variables scope vs,
      variables_meant v.names.now scope vs,
      bound_meant v.names.now v.declared.now (with_variables scope vs) f,
    )

-- what is made of formulas is this formula; only memory may fail
abbrev pub Makes : FormulaTree → Result Formula FormFault → Type 0
Makes tree result = Reads tree_of_formula result [] tree

-- two formulas
abbrev pub formula_pair : Formula → Formula → FormulaTrees
formula_pair f g = more_formulas (tree_of_formula f) (more_formulas (tree_of_formula g) no_formula)

-- a formula under a quantifier, and over a number of steps: for all, or for any
abbrev pub quantifier_tree : Junction → List Var → Bound → FormulaTree → FormulaTree
quantifier_tree junction.All vars b f = for_all vars b f
quantifier_tree junction.Any vars b f = for_some vars b f

abbrev pub counted_tree : Junction → ℕ → FormulaTree → FormulaTree
counted_tree junction.All k f = during k f
counted_tree junction.Any k f = within k f

-- an effect, and effects
abbrev pub ReadsEffect : Vocabulary NameSignature → Scope → FormTree → Result Effect FormFault → Type 0
ReadsEffect v scope f result =
    Reads tree_of_effect result (effect_breaks v.declared.now scope f) (effect_meant v.names.now v.declared.now scope f)

abbrev pub ReadsEffects : Vocabulary NameSignature → Scope → FormTrees → Result Effects FormFault → Type 0
ReadsEffects v scope fs result =
    Reads tree_of_effects result (effects_breaks v.declared.now scope fs) (effects_meant v.names.now v.declared.now scope fs)

-- the effect of a list that begins with a word, with what the list breaks itself
abbrev pub ReadsEffectCall : Vocabulary NameSignature → Scope → Call → Result Effect FormFault → Type 0
ReadsEffectCall v scope call result =
    let word = effect_word call.word.now in
    let rest = trees_in call.rest.now in
    Reads tree_of_effect result
    (effect_list_breaks scope word rest call.at ++ effect_parts_breaks v.declared.now scope word rest)
    (effect_list_meant v.names.now v.declared.now scope word rest)

-- the effect of these parts of a list
abbrev pub ReadsEffectParts : Vocabulary NameSignature → Scope → EffectParts → Result Effect FormFault → Type 0
ReadsEffectParts v scope p result =
    Reads tree_of_effect result
    (effect_parts_breaks v.declared.now scope (word_of_change p) (elements_of_change p))
    (effect_list_meant v.names.now v.declared.now scope (word_of_change p) (elements_of_change p))

-- the place in a table of a list's first word, and the terms after it
abbrev pub ReadsTarget : Vocabulary NameSignature → Scope → Table → Call → Result (ℕ × Terms) FormFault → Type 0
ReadsTarget v scope table call result =
    let functions = v.declared.now.functions in
    Reads (λ (x : ℕ × Terms). (x.0, tree_of_terms x.1)) result
    (target_breaks table functions scope (list_of call))
    (target_meant v.names.now table functions scope (list_of call))
