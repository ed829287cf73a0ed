-- Where no slot has a value, nothing is put in.
use Rattle.std.proofs.Common.{◌≡◌, ℕ, List, [], ◌∷◌, Bool, true, false, cond, ◌==◌, Option, Some, None, refl, ap, ap₂, ◌∙◌}
use mathlib.Core.Path.{fun_ext}
use Rattle.tl_syntax.specs.declared.bound.Bound.{Bound}
use Rattle.tl_syntax.specs.declared.bound.Bound.TheVariants as bound
use Rattle.tl_syntax.specs.declared.value.Value.{Value}
use Rattle.tl_syntax.specs.declared.variable.Arg.{Arg}
use Rattle.tl_syntax.specs.declared.variable.Arg.TheVariants as arg
use Rattle.tl_syntax.specs.declared.variable.Var.{Var}
use Rattle.tl_syntax.specs.Assignment.{Assignment, no_values}
use Rattle.tl_syntax.specs.Substitution.{without, substituted_arg, substituted_args, substituted_bound, substituted_term, substituted_terms}
use Rattle.tl_syntax.specs.Substitution.{substituted, substituted_all}
use Rattle.tl_syntax.specs.Trees.{TermTree, TermTrees, variable, value, place, arith, no_term, more_terms, FormulaTree, FormulaTrees, verum}
use Rattle.tl_syntax.specs.Trees.{falsum, atom, defined, compare, goal_fact, goal_place, goal_not, negation, conjunction, disjunction}
use Rattle.tl_syntax.specs.Trees.{for_all, for_some, next, always, eventually, until, within, during, no_formula, more_formulas}

none-either : (b : Bool) (o : Option Value) → o ≡ None → cond b None o ≡ None
none-either true o h = refl
none-either false o h = h

without-nothing : (ss : List Var) → without ss no_values ≡ no_values
without-nothing [] = refl
without-nothing (s ∷ ss) = fun_ext (λ q. none-either (q == s.slot) (without ss no_values q)
    (ap (λ (e : Assignment). e q) (without-nothing ss)))

arg-nothing : (x : Arg) → substituted_arg no_values x ≡ x
arg-nothing (arg.Var s) = refl
arg-nothing (arg.Val v) = refl

args-nothing : (xs : List Arg) → substituted_args no_values xs ≡ xs
args-nothing [] = refl
args-nothing (x ∷ xs) = ap₂ (λ (y : Arg) ys. y ∷ ys) (arg-nothing x) (args-nothing xs)

bound-nothing : (b : Bound) → substituted_bound no_values b ≡ b
bound-nothing (bound.Fact p xs) = ap (bound.Fact p) (args-nothing xs)
bound-nothing (bound.Place f xs x) = ap₂ (bound.Place f) (args-nothing xs) (arg-nothing x)
bound-nothing (bound.GoalFact p xs) = ap (bound.GoalFact p) (args-nothing xs)
bound-nothing (bound.GoalPlace f xs x) = ap₂ (bound.GoalPlace f) (args-nothing xs) (arg-nothing x)
bound-nothing (bound.GoalNot p xs) = ap (bound.GoalNot p) (args-nothing xs)

mutual
  unfolding substituted_term substituted_terms

  pub term-nothing : (t : TermTree) → substituted_term no_values t ≡ t
  term-nothing (variable s) = refl
  term-nothing (value v) = refl
  term-nothing (place f ts) = ap (place f) (terms-nothing ts)
  term-nothing (arith op s t at) = ap₂ (λ (x y : TermTree). arith op x y at) (term-nothing s) (term-nothing t)

  pub terms-nothing : (ts : TermTrees) → substituted_terms no_values ts ≡ ts
  terms-nothing no_term = refl
  terms-nothing (more_terms t ts) = ap₂ more_terms (term-nothing t) (terms-nothing ts)

-- below a quantifier nothing is put in either
scope-nothing : (quantifier : List Var → Bound → FormulaTree → FormulaTree) (ss : List Var) (b : Bound) (f : FormulaTree) →
    substituted no_values f ≡ f → quantifier ss (substituted_bound (without ss no_values) b) (substituted (without ss no_values) f) ≡
    quantifier ss b f
scope-nothing quantifier ss b f h =
    ap (λ (e : Assignment). quantifier ss (substituted_bound e b) (substituted e f)) (without-nothing ss) ∙
    ap₂ (quantifier ss) (bound-nothing b) h

mutual
  unfolding substituted substituted_all

  pub formula-nothing : (f : FormulaTree) → substituted no_values f ≡ f
  formula-nothing verum = refl
  formula-nothing falsum = refl
  formula-nothing (atom p ts) = ap (atom p) (terms-nothing ts)
  formula-nothing (defined p ts) = ap (defined p) (terms-nothing ts)
  formula-nothing (compare c s t) = ap₂ (compare c) (term-nothing s) (term-nothing t)
  formula-nothing (goal_fact p xs) = ap (goal_fact p) (args-nothing xs)
  formula-nothing (goal_place f xs x) = ap₂ (goal_place f) (args-nothing xs) (arg-nothing x)
  formula-nothing (goal_not p xs) = ap (goal_not p) (args-nothing xs)
  formula-nothing (negation f) = ap negation (formula-nothing f)
  formula-nothing (conjunction fs) = ap conjunction (formulas-nothing fs)
  formula-nothing (disjunction fs) = ap disjunction (formulas-nothing fs)
  formula-nothing (for_all ss b f) = scope-nothing for_all ss b f (formula-nothing f)
  formula-nothing (for_some ss b f) = scope-nothing for_some ss b f (formula-nothing f)
  formula-nothing (next f) = ap next (formula-nothing f)
  formula-nothing (always f) = ap always (formula-nothing f)
  formula-nothing (eventually f) = ap eventually (formula-nothing f)
  formula-nothing (until f g) = ap₂ until (formula-nothing f) (formula-nothing g)
  formula-nothing (within n f) = ap (within n) (formula-nothing f)
  formula-nothing (during n f) = ap (during n) (formula-nothing f)

  pub formulas-nothing : (fs : FormulaTrees) → substituted_all no_values fs ≡ fs
  formulas-nothing no_formula = refl
  formulas-nothing (more_formulas f fs) = ap₂ more_formulas (formula-nothing f) (formulas-nothing fs)

pub ruleset nothing_put_in = (term-nothing, terms-nothing, formula-nothing, formulas-nothing)
