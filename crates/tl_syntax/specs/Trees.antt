-- Terms and formulas as plain trees: lists without capacities, children without addresses.
use Rattle.std.specs.Prelude.{ℕ, List, [], ◌∷◌}
use Rattle.tl_syntax.specs.declared.value.Value.{Value}
use Rattle.tl_syntax.specs.declared.value.Op.{Op}
use Rattle.tl_syntax.specs.declared.value.Cmp.{Cmp}
use Rattle.tl_syntax.specs.declared.variable.Var.{Var}
use Rattle.tl_syntax.specs.declared.variable.Arg.{Arg}
use Rattle.tl_syntax.specs.declared.bound.Bound.{Bound}

mutual
  -- a variable, a value, a place of a function (a fluent, Pednault 1989), or an operation with the
  -- offset of its form
  pub data TermTree : Type 0 where
    variable : Var → TermTree
    value : Value → TermTree
    place : ℕ → TermTrees → TermTree
    arith : Op → TermTree → TermTree → ℕ → TermTree
    deriving Discrete as TermTree-discrete

  -- a list of terms
  pub data TermTrees : Type 0 where
    no_term : TermTrees
    more_terms : TermTree → TermTrees → TermTrees
    deriving Discrete as TermTrees-discrete

mutual
  -- a formula of first-order linear temporal logic with bounded quantifiers and a goal modality
  -- (Bacchus and Kabanza 2000); `within` and `during` are read over a number of steps (Koymans
  -- 1990), and `during` is written `for`
  pub data FormulaTree : Type 0 where
    verum : FormulaTree
    falsum : FormulaTree
    atom : ℕ → TermTrees → FormulaTree
    defined : ℕ → TermTrees → FormulaTree
    compare : Cmp → TermTree → TermTree → FormulaTree
    goal_fact : ℕ → List Arg → FormulaTree
    goal_place : ℕ → List Arg → Arg → FormulaTree
    goal_not : ℕ → List Arg → FormulaTree
    negation : FormulaTree → FormulaTree
    conjunction : FormulaTrees → FormulaTree
    disjunction : FormulaTrees → FormulaTree
    for_all : List Var → Bound → FormulaTree → FormulaTree
    for_some : List Var → Bound → FormulaTree → FormulaTree
    next : FormulaTree → FormulaTree
    always : FormulaTree → FormulaTree
    eventually : FormulaTree → FormulaTree
    until : FormulaTree → FormulaTree → FormulaTree
    within : ℕ → FormulaTree → FormulaTree
    during : ℕ → FormulaTree → FormulaTree
    deriving Discrete as FormulaTree-discrete

  -- a list of formulas
  pub data FormulaTrees : Type 0 where
    no_formula : FormulaTrees
    more_formulas : FormulaTree → FormulaTrees → FormulaTrees
    deriving Discrete as FormulaTrees-discrete

-- the formulas of a list
abbrev pub formulas_of_list : List FormulaTree → FormulaTrees
formulas_of_list [] = no_formula
formulas_of_list (f ∷ fs) = more_formulas f (formulas_of_list fs)
