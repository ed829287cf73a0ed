-- Values put in for variables.
use Rattle.std.specs.Prelude.{List, [], ◌∷◌, cond, ◌==◌, Option, Some, None}
use Rattle.tl_syntax.specs.declared.value.Value.{Value}
use Rattle.tl_syntax.specs.declared.variable.Var.{Var}
use Rattle.tl_syntax.specs.declared.variable.Arg.{Arg}
use Rattle.tl_syntax.specs.declared.variable.Arg.TheVariants as arg
use Rattle.tl_syntax.specs.declared.bound.Bound.{Bound}
use Rattle.tl_syntax.specs.declared.bound.Bound.TheVariants as bound
use Rattle.tl_syntax.specs.Trees.{TermTree, TermTrees, variable, value, place, arith, no_term, more_terms, FormulaTree, FormulaTrees, verum}
use Rattle.tl_syntax.specs.Trees.{falsum, atom, defined, compare, goal_fact, goal_place, goal_not, negation, conjunction, disjunction}
use Rattle.tl_syntax.specs.Trees.{for_all, for_some, next, always, eventually, until, within, during, no_formula, more_formulas}
use Rattle.tl_syntax.specs.Assignment.{Assignment}

-- the first value, or, where there is none, the second
abbrev pub or_else : Option Value → Option Value → Option Value
or_else (Some v) other = Some v
or_else None other = other

-- the values of e, and at the slots without one those of d
abbrev pub over : Assignment → Assignment → Assignment
over e d = λ q. or_else (e q) (d q)

-- the values of e without those of the variables
abbrev pub without : List Var → Assignment → Assignment
without [] e = e
without (s ∷ ss) e = λ q. cond (q == s.slot) None (without ss e q)

-- the value, or, where there is none, the argument
abbrev pub value_or_arg : Option Value → Arg → Arg
value_or_arg (Some v) a = arg.Val v
value_or_arg None a = a

-- an argument with the values of e put in
abbrev pub substituted_arg : Assignment → Arg → Arg
substituted_arg e (arg.Var s) = value_or_arg (e s.slot) (arg.Var s)
substituted_arg e (arg.Val v) = arg.Val v

-- arguments with the values of e put in
abbrev pub substituted_args : Assignment → List Arg → List Arg
substituted_args e [] = []
substituted_args e (x ∷ xs) = substituted_arg e x ∷ substituted_args e xs

-- a bound with the values of e put in
abbrev pub substituted_bound : Assignment → Bound → Bound
substituted_bound e (bound.Fact p xs) = bound.Fact p (substituted_args e xs)
substituted_bound e (bound.Place f xs x) = bound.Place f (substituted_args e xs) (substituted_arg e x)
substituted_bound e (bound.GoalFact p xs) = bound.GoalFact p (substituted_args e xs)
substituted_bound e (bound.GoalPlace f xs x) = bound.GoalPlace f (substituted_args e xs) (substituted_arg e x)
substituted_bound e (bound.GoalNot p xs) = bound.GoalNot p (substituted_args e xs)

-- the value, or, where there is none, the term
abbrev pub value_or_term : Option Value → TermTree → TermTree
value_or_term (Some v) t = value v
value_or_term None t = t

-- a term, and a list of terms, with the values of e put in
unfoldable mutual
  pub substituted_term : Assignment → TermTree → TermTree
  substituted_term e (variable s) = value_or_term (e s.slot) (variable s)
  substituted_term e (value v) = value v
  substituted_term e (place f ts) = place f (substituted_terms e ts)
  substituted_term e (arith op s t at) = arith op (substituted_term e s) (substituted_term e t) at

  pub substituted_terms : Assignment → TermTrees → TermTrees
  substituted_terms e no_term = no_term
  substituted_terms e (more_terms t ts) = more_terms (substituted_term e t) (substituted_terms e ts)

-- a formula with the values of e put in for its free variables
unfoldable mutual
  pub substituted : Assignment → FormulaTree → FormulaTree
  substituted e verum = verum
  substituted e falsum = falsum
  substituted e (atom p ts) = atom p (substituted_terms e ts)
  substituted e (defined p ts) = defined p (substituted_terms e ts)
  substituted e (compare c s t) = compare c (substituted_term e s) (substituted_term e t)
  substituted e (goal_fact p xs) = goal_fact p (substituted_args e xs)
  substituted e (goal_place f xs x) = goal_place f (substituted_args e xs) (substituted_arg e x)
  substituted e (goal_not p xs) = goal_not p (substituted_args e xs)
  substituted e (negation f) = negation (substituted e f)
  substituted e (conjunction fs) = conjunction (substituted_all e fs)
  substituted e (disjunction fs) = disjunction (substituted_all e fs)
  substituted e (for_all ss b f) = for_all ss (substituted_bound (without ss e) b) (substituted (without ss e) f)
  substituted e (for_some ss b f) = for_some ss (substituted_bound (without ss e) b) (substituted (without ss e) f)
  substituted e (next f) = next (substituted e f)
  substituted e (always f) = always (substituted e f)
  substituted e (eventually f) = eventually (substituted e f)
  substituted e (until f g) = until (substituted e f) (substituted e g)
  substituted e (within n f) = within n (substituted e f)
  substituted e (during n f) = during n (substituted e f)

  pub substituted_all : Assignment → FormulaTrees → FormulaTrees
  substituted_all e no_formula = no_formula
  substituted_all e (more_formulas f fs) = more_formulas (substituted e f) (substituted_all e fs)
