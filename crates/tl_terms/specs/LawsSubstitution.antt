-- Formulas with values put in.
use Rattle.std.specs.Prelude.{◌≡◌, ◌↔◌, ℕ, List, map}
use Rattle.std.specs.List.{list_any, list_all}
use Rattle.tl_syntax.specs.declared.value.Value.{Value}
use Rattle.tl_syntax.specs.declared.variable.Var.{Var}
use Rattle.tl_syntax.specs.declared.bound.Bound.{Bound}
use Rattle.tl_syntax.specs.Lists.{Each, AtLeastOne}
use Rattle.tl_syntax.specs.Trees.{FormulaTree, for_all, for_some}
use Rattle.tl_terms.specs.Situation.{Situation}
use Rattle.tl_syntax.specs.Assignment.{Assignment, no_values, bind}
use Rattle.tl_terms.specs.Bounds.{tuples}
use Rattle.tl_terms.specs.Truth.{state_true}
use Rattle.tl_terms.specs.Problem.{PlainProblem}
use Rattle.tl_terms.specs.Definitions.{situation_of}
use Rattle.tl_terms.specs.Run.{Situations, Holds, Run, state_at, Satisfies}
use Rattle.tl_syntax.specs.Substitution.{over, substituted}
use Rattle.tl_terms.specs.Simplification.{simplified_and, simplified_or}
use Rattle.tl_terms.specs.Progression.{progressed}

-- a formula with the values of the tuple put in for the variables
abbrev pub instance : List Var → FormulaTree → List Value → FormulaTree
instance ss f t = substituted (bind ss t no_values) f

-- a `forall` is true where each instance is, and an `exists` where one is
pub record QuantifiersAreTrueByInstances (s : Situation) (ss : List Var) (b : Bound) (f : FormulaTree) : Type 0 where
  pub of_forall : state_true s no_values (for_all ss b f) ≡ list_all (λ t. state_true s no_values (instance ss f t))
      (tuples s no_values ss b)
  pub of_exists : state_true s no_values (for_some ss b f) ≡ list_any (λ t. state_true s no_values (instance ss f t))
      (tuples s no_values ss b)

-- a `forall` holds at a position where each instance does, and an `exists` where one does
pub record QuantifiersHoldByInstances (p : PlainProblem) (r : Run) (i : ℕ) (ss : List Var) (b : Bound) (f : FormulaTree) : Type 0 where
  pub of_forall : Satisfies p r i (for_all ss b f) ↔ Each (λ t. Satisfies p r i (instance ss f t))
      (tuples (situation_of p (state_at r i)) no_values ss b)
  pub of_exists : Satisfies p r i (for_some ss b f) ↔ AtLeastOne (λ t. Satisfies p r i (instance ss f t))
      (tuples (situation_of p (state_at r i)) no_values ss b)

-- a `forall` progresses to the conjunction of its progressed instances, and an `exists` to the
-- disjunction, in tuple order
pub record QuantifiersProgressByInstances (s : Situation) (ss : List Var) (b : Bound) (f : FormulaTree) : Type 0 where
  pub of_forall : progressed s no_values (for_all ss b f) ≡ simplified_and
      (map (λ t. progressed s no_values (instance ss f t)) (tuples s no_values ss b))
  pub of_exists : progressed s no_values (for_some ss b f) ≡ simplified_or
      (map (λ t. progressed s no_values (instance ss f t)) (tuples s no_values ss b))

-- instances are the substituted formulas, for truth
abbrev pub TruthByInstances : Type 0
TruthByInstances = (s : Situation) (ss : List Var) (b : Bound) (f : FormulaTree) → QuantifiersAreTrueByInstances s ss b f

-- instances are the substituted formulas, for satisfaction
abbrev pub SatisfactionByInstances : Type 0
SatisfactionByInstances = (p : PlainProblem) (r : Run) (i : ℕ) (ss : List Var) (b : Bound) (f : FormulaTree) →
    QuantifiersHoldByInstances p r i ss b f

-- instances are the substituted formulas, for progression
abbrev pub ProgressionByInstances : Type 0
ProgressionByInstances = (s : Situation) (ss : List Var) (b : Bound) (f : FormulaTree) → QuantifiersProgressByInstances s ss b f

-- putting values in twice is putting them in once, those of the first time first
abbrev pub SubstitutedTwice : Type 0
SubstitutedTwice = (d e : Assignment) (f : FormulaTree) → substituted d (substituted e f) ≡ substituted (over e d) f

-- a formula with no value put in is itself
abbrev pub SubstitutedByNothing : Type 0
SubstitutedByNothing = (f : FormulaTree) → substituted no_values f ≡ f

-- a formula with values put in means under an assignment what the formula means under both
pub record MeansTheSameSubstituted (d e : Assignment) (f : FormulaTree) : Type 0 where
  pub of_truth : (s : Situation) → state_true s d (substituted e f) ≡ state_true s (over e d) f
  pub of_satisfaction : (r : Situations) (i : ℕ) → Holds r d (substituted e f) i ↔ Holds r (over e d) f i
  pub of_progression : (s : Situation) → progressed s d (substituted e f) ≡ progressed s (over e d) f

-- substitution over an assignment
abbrev pub SubstitutedOver : Type 0
SubstitutedOver = (d e : Assignment) (f : FormulaTree) → MeansTheSameSubstituted d e f
