-- The definitions in the words of substitution: a formula under values is the formula with the values put in.
use Rattle.std.proofs.Common.{◌≡◌, ℕ, zero, suc, ◌↔◌, List, [], ◌∷◌, map, Bool, true, false, cond, not, ◌==◌, ◌&&◌, ◌||◌, Some, None, refl}
use Rattle.std.proofs.Common.{sym, ap, ap₂, ◌∙◌}
use Rattle.std.specs.List.{list_any, list_all}
use mathlib.Core.Path.{fun_ext}
use Rattle.tl_syntax.specs.Assignment.{Assignment, no_values, bind}
use Rattle.tl_terms.specs.Bounds.{tuples}
use Rattle.tl_terms.specs.LawsProgression.{ProgressesByTheTable}
use Rattle.tl_terms.specs.LawsSubstitution.{QuantifiersAreTrueByInstances, QuantifiersHoldByInstances, QuantifiersProgressByInstances}
use Rattle.tl_terms.specs.LawsSubstitution.{MeansTheSameSubstituted}
use Rattle.tl_syntax.specs.Lists.{Each, AtLeastOne}
use Rattle.tl_terms.specs.Problem.{PlainProblem}
use Rattle.tl_terms.specs.Progression.{constant, progressed, progressed_all}
use Rattle.tl_terms.specs.Run.{Situations, Holds, Run, situations_of, SatisfiesAlong}
use Rattle.tl_terms.specs.Simplification.{simplified_and, simplified_or, simplified_not}
use Rattle.tl_terms.specs.Situation.{Situation}
use Rattle.tl_syntax.specs.Substitution.{or_else, over, without, value_or_arg, substituted_arg, substituted_args, substituted_bound}
use Rattle.tl_syntax.specs.Substitution.{value_or_term, substituted_term, substituted_terms, substituted, substituted_all}
use Rattle.tl_syntax.specs.Trees.{TermTree, variable, value, place, arith, TermTrees, no_term, more_terms, FormulaTree, verum, falsum, atom}
use Rattle.tl_syntax.specs.Trees.{defined, compare, goal_fact, goal_place, goal_not, negation, conjunction, disjunction, for_all, for_some}
use Rattle.tl_syntax.specs.Trees.{next, always, eventually, until, within, during, FormulaTrees, no_formula, more_formulas}
use Rattle.tl_terms.specs.Truth.{state_true, all_true, one_true}
use Rattle.tl_syntax.proofs.ListLaws.{Each-map, One-map}
use Rattle.tl_terms.proofs.SubstitutedHolds.{over-no_values, bind-over, basic-substituted, tuples-substituted, Holds-substituted}
use Rattle.tl_terms.proofs.SubstitutedHolds.{Holds-substituted-no_values}
use Rattle.tl_syntax.specs.declared.value.Value.{Value}
use Rattle.tl_syntax.specs.declared.variable.Var.{Var}
use Rattle.tl_syntax.specs.declared.variable.Arg.{Arg}
use Rattle.tl_syntax.specs.declared.bound.Bound.{Bound}
use Rattle.tl_syntax.specs.declared.variable.Arg.TheVariants as arg
use Rattle.tl_syntax.specs.declared.bound.Bound.TheVariants as bound

-- ---- truth

mutual
  unfolding state_true substituted

  pub state-substituted : (s : Situation) (d e : Assignment) (f : FormulaTree) → state_true s d (substituted e f) ≡
      state_true s (over e d) f
  state-substituted s d e verum = refl
  state-substituted s d e falsum = refl
  state-substituted s d e (atom p ts) = basic-substituted s e d (atom p ts) tt
  state-substituted s d e (defined p ts) = basic-substituted s e d (defined p ts) tt
  state-substituted s d e (compare c x y) = basic-substituted s e d (compare c x y) tt
  state-substituted s d e (goal_fact p xs) = basic-substituted s e d (goal_fact p xs) tt
  state-substituted s d e (goal_place k xs x) = basic-substituted s e d (goal_place k xs x) tt
  state-substituted s d e (goal_not p xs) = basic-substituted s e d (goal_not p xs) tt
  state-substituted s d e (negation f) = ap not (state-substituted s d e f)
  state-substituted s d e (conjunction fs) = all-substituted s d e fs
  state-substituted s d e (disjunction fs) = one-substituted s d e fs
  state-substituted s d e (for_all ss b f) =
      ap₂ (λ (p : List Value → Bool) ts. list_all p ts)
      (fun_ext (λ t. state-substituted s (bind ss t d) (without ss e) f ∙ ap (λ (x : Assignment). state_true s x f) (bind-over ss t e d)))
      (tuples-substituted s e d ss b)
  state-substituted s d e (for_some ss b f) =
      ap₂ (λ (p : List Value → Bool) ts. list_any p ts)
      (fun_ext (λ t. state-substituted s (bind ss t d) (without ss e) f ∙ ap (λ (x : Assignment). state_true s x f) (bind-over ss t e d)))
      (tuples-substituted s e d ss b)
  state-substituted s d e (next f) = refl
  state-substituted s d e (always f) = refl
  state-substituted s d e (eventually f) = refl
  state-substituted s d e (until f g) = refl
  state-substituted s d e (within n f) = refl
  state-substituted s d e (during n f) = refl

  all-substituted : (s : Situation) (d e : Assignment) (fs : FormulaTrees) → all_true s d (substituted_all e fs) ≡ all_true s (over e d) fs
  all-substituted s d e no_formula = refl
  all-substituted s d e (more_formulas f fs) = ap₂ ◌&&◌ (state-substituted s d e f) (all-substituted s d e fs)

  one-substituted : (s : Situation) (d e : Assignment) (fs : FormulaTrees) → one_true s d (substituted_all e fs) ≡ one_true s (over e d) fs
  one-substituted s d e no_formula = refl
  one-substituted s d e (more_formulas f fs) = ap₂ ◌||◌ (state-substituted s d e f) (one-substituted s d e fs)

-- a `forall` is true where each tuple of its bound gives a true instance
pub state-for_all : (s : Situation) (ss : List Var) (b : Bound) (f : FormulaTree)
    → state_true s no_values (for_all ss b f) ≡ list_all (λ t. state_true s no_values (substituted (bind ss t no_values) f))
    (tuples s no_values ss b)
unfolding state_true
state-for_all s ss b f = ap (λ (p : List Value → Bool). list_all p (tuples s no_values ss b))
    (fun_ext (λ t. sym (state-substituted s no_values (bind ss t no_values) f ∙
    ap (λ (x : Assignment). state_true s x f) (over-no_values (bind ss t no_values)))))

-- an `exists` is true where some tuple of its bound gives a true instance
pub state-for_some : (s : Situation) (ss : List Var) (b : Bound) (f : FormulaTree)
    → state_true s no_values (for_some ss b f) ≡ list_any (λ t. state_true s no_values (substituted (bind ss t no_values) f))
    (tuples s no_values ss b)
unfolding state_true
state-for_some s ss b f = ap (λ (p : List Value → Bool). list_any p (tuples s no_values ss b))
    (fun_ext (λ t. sym (state-substituted s no_values (bind ss t no_values) f ∙
    ap (λ (x : Assignment). state_true s x f) (over-no_values (bind ss t no_values)))))

-- ---- putting values in twice

over-without-at : (ss : List Var) (e d : Assignment) (q : ℕ) → over (without ss e) (without ss d) q ≡ without ss (over e d) q
over-without-at [] e d q = refl
over-without-at (s ∷ ss) e d q = (elim (q == s.slot) as (λ b. or_else (cond b None (without ss e q)) (cond b None (without ss d q)) ≡
    cond b None (without ss (over e d) q)) [
      | true ↦ refl
      | false ↦ over-without-at ss e d q
    ])

over-without : (ss : List Var) (e d : Assignment) → over (without ss e) (without ss d) ≡ without ss (over e d)
over-without ss e d = fun_ext (over-without-at ss e d)

arg-twice : (d e : Assignment) (a : Arg) → substituted_arg d (substituted_arg e a) ≡ substituted_arg (over e d) a
arg-twice d e (arg.Val v) = refl
arg-twice d e (arg.Var s) = (elim (e s.slot) as (λ o. substituted_arg d (value_or_arg o (arg.Var s)) ≡
    value_or_arg (or_else o (d s.slot)) (arg.Var s)) [ Some v ↦ refl | None ↦ refl ])

args-twice : (d e : Assignment) (xs : List Arg) → substituted_args d (substituted_args e xs) ≡ substituted_args (over e d) xs
args-twice d e [] = refl
args-twice d e (x ∷ xs) = ap₂ ◌∷◌ (arg-twice d e x) (args-twice d e xs)

bound-twice : (d e : Assignment) (b : Bound) → substituted_bound d (substituted_bound e b) ≡ substituted_bound (over e d) b
bound-twice d e (bound.Fact p xs) = ap (bound.Fact p) (args-twice d e xs)
bound-twice d e (bound.Place f xs x) = ap₂ (bound.Place f) (args-twice d e xs) (arg-twice d e x)
bound-twice d e (bound.GoalFact p xs) = ap (bound.GoalFact p) (args-twice d e xs)
bound-twice d e (bound.GoalNot p xs) = ap (bound.GoalNot p) (args-twice d e xs)
bound-twice d e (bound.GoalPlace f xs x) = ap₂ (bound.GoalPlace f) (args-twice d e xs) (arg-twice d e x)

mutual
  unfolding substituted_term

  term-twice : (d e : Assignment) (t : TermTree) → substituted_term d (substituted_term e t) ≡ substituted_term (over e d) t
  term-twice d e (variable s) = (elim (e s.slot) as (λ o. substituted_term d (value_or_term o (variable s)) ≡
      value_or_term (or_else o (d s.slot)) (variable s)) [ Some v ↦ refl | None ↦ refl ])
  term-twice d e (value v) = refl
  term-twice d e (place f ts) = ap (place f) (terms-twice d e ts)
  term-twice d e (arith op s t at) = ap₂ (λ a b. arith op a b at) (term-twice d e s) (term-twice d e t)

  terms-twice : (d e : Assignment) (ts : TermTrees) → substituted_terms d (substituted_terms e ts) ≡ substituted_terms (over e d) ts
  terms-twice d e no_term = refl
  terms-twice d e (more_terms t ts) = ap₂ more_terms (term-twice d e t) (terms-twice d e ts)

mutual
  unfolding substituted

  pub substituted-twice : (d e : Assignment) (f : FormulaTree) → substituted d (substituted e f) ≡ substituted (over e d) f
  substituted-twice d e verum = refl
  substituted-twice d e falsum = refl
  substituted-twice d e (atom p ts) = ap (atom p) (terms-twice d e ts)
  substituted-twice d e (defined p ts) = ap (defined p) (terms-twice d e ts)
  substituted-twice d e (compare c x y) = ap₂ (compare c) (term-twice d e x) (term-twice d e y)
  substituted-twice d e (goal_fact p xs) = ap (goal_fact p) (args-twice d e xs)
  substituted-twice d e (goal_place k xs x) = ap₂ (goal_place k) (args-twice d e xs) (arg-twice d e x)
  substituted-twice d e (goal_not p xs) = ap (goal_not p) (args-twice d e xs)
  substituted-twice d e (negation f) = ap negation (substituted-twice d e f)
  substituted-twice d e (conjunction fs) = ap conjunction (all-twice d e fs)
  substituted-twice d e (disjunction fs) = ap disjunction (all-twice d e fs)
  substituted-twice d e (for_all ss b f) = ap₂ (for_all ss) (bound-twice (without ss d) (without ss e) b ∙
      ap (λ (x : Assignment). substituted_bound x b) (over-without ss e d))
      (substituted-twice (without ss d) (without ss e) f ∙ ap (λ (x : Assignment). substituted x f) (over-without ss e d))
  substituted-twice d e (for_some ss b f) = ap₂ (for_some ss) (bound-twice (without ss d) (without ss e) b ∙
      ap (λ (x : Assignment). substituted_bound x b) (over-without ss e d))
      (substituted-twice (without ss d) (without ss e) f ∙ ap (λ (x : Assignment). substituted x f) (over-without ss e d))
  substituted-twice d e (next f) = ap next (substituted-twice d e f)
  substituted-twice d e (always f) = ap always (substituted-twice d e f)
  substituted-twice d e (eventually f) = ap eventually (substituted-twice d e f)
  substituted-twice d e (until f g) = ap₂ until (substituted-twice d e f) (substituted-twice d e g)
  substituted-twice d e (within n f) = ap (within n) (substituted-twice d e f)
  substituted-twice d e (during n f) = ap (during n) (substituted-twice d e f)

  all-twice : (d e : Assignment) (fs : FormulaTrees) → substituted_all d (substituted_all e fs) ≡ substituted_all (over e d) fs
  all-twice d e no_formula = refl
  all-twice d e (more_formulas f fs) = ap₂ more_formulas (substituted-twice d e f) (all-twice d e fs)

-- ---- progression

mutual
  unfolding progressed substituted

  pub progressed-substituted : (s : Situation) (d e : Assignment) (f : FormulaTree) → progressed s d (substituted e f) ≡
      progressed s (over e d) f
  progressed-substituted s d e verum = refl
  progressed-substituted s d e falsum = refl
  progressed-substituted s d e (atom p ts) = ap constant (state-substituted s d e (atom p ts))
  progressed-substituted s d e (defined p ts) = ap constant (state-substituted s d e (defined p ts))
  progressed-substituted s d e (compare c x y) = ap constant (state-substituted s d e (compare c x y))
  progressed-substituted s d e (goal_fact p xs) = ap constant (state-substituted s d e (goal_fact p xs))
  progressed-substituted s d e (goal_place k xs x) = ap constant (state-substituted s d e (goal_place k xs x))
  progressed-substituted s d e (goal_not p xs) = ap constant (state-substituted s d e (goal_not p xs))
  progressed-substituted s d e (negation f) = ap simplified_not (progressed-substituted s d e f)
  progressed-substituted s d e (conjunction fs) = ap simplified_and (progressed_all-substituted s d e fs)
  progressed-substituted s d e (disjunction fs) = ap simplified_or (progressed_all-substituted s d e fs)
  progressed-substituted s d e (for_all ss b f) =
      ap₂ (λ (p : List Value → FormulaTree) ts. simplified_and (map p ts))
      (fun_ext (λ t. progressed-substituted s (bind ss t d) (without ss e) f ∙
      ap (λ (x : Assignment). progressed s x f) (bind-over ss t e d)))
      (tuples-substituted s e d ss b)
  progressed-substituted s d e (for_some ss b f) =
      ap₂ (λ (p : List Value → FormulaTree) ts. simplified_or (map p ts))
      (fun_ext (λ t. progressed-substituted s (bind ss t d) (without ss e) f ∙
      ap (λ (x : Assignment). progressed s x f) (bind-over ss t e d)))
      (tuples-substituted s e d ss b)
  progressed-substituted s d e (next f) = substituted-twice d e f
  progressed-substituted s d e (always f) = ap₂ (λ a b. simplified_and (a ∷ b ∷ [])) (progressed-substituted s d e f)
      (substituted-twice d e (always f))
  progressed-substituted s d e (eventually f) = ap₂ (λ a b. simplified_or (a ∷ b ∷ [])) (progressed-substituted s d e f)
      (substituted-twice d e (eventually f))
  progressed-substituted s d e (until f g) = ap₂ (λ a b. simplified_or (a ∷ b ∷ [])) (progressed-substituted s d e g)
      (ap₂ (λ a b. simplified_and (a ∷ b ∷ [])) (progressed-substituted s d e f) (substituted-twice d e (until f g)))
  progressed-substituted s d e (within zero f) = progressed-substituted s d e f
  progressed-substituted s d e (within (suc n) f) = ap₂ (λ a b. simplified_or (a ∷ b ∷ [])) (progressed-substituted s d e f)
      (substituted-twice d e (within n f))
  progressed-substituted s d e (during zero f) = progressed-substituted s d e f
  progressed-substituted s d e (during (suc n) f) = ap₂ (λ a b. simplified_and (a ∷ b ∷ [])) (progressed-substituted s d e f)
      (substituted-twice d e (during n f))

  progressed_all-substituted : (s : Situation) (d e : Assignment) (fs : FormulaTrees) → progressed_all s d (substituted_all e fs) ≡
      progressed_all s (over e d) fs
  progressed_all-substituted s d e no_formula = refl
  progressed_all-substituted s d e (more_formulas f fs) = ap₂ ◌∷◌ (progressed-substituted s d e f) (progressed_all-substituted s d e fs)

-- a `forall` progresses to the simplified_and of its progressed instances, in tuple order
pub progressed-for_all : (s : Situation) (ss : List Var) (b : Bound) (f : FormulaTree)
    → progressed s no_values (for_all ss b f) ≡ simplified_and (map (λ t. progressed s no_values (substituted (bind ss t no_values) f))
    (tuples s no_values ss b))
unfolding progressed
progressed-for_all s ss b f = ap (λ (p : List Value → FormulaTree). simplified_and (map p (tuples s no_values ss b)))
    (fun_ext (λ t. sym (progressed-substituted s no_values (bind ss t no_values) f ∙
    ap (λ (x : Assignment). progressed s x f) (over-no_values (bind ss t no_values)))))

-- an `exists` progresses to the simplified_or of its progressed instances, in tuple order
pub progressed-for_some : (s : Situation) (ss : List Var) (b : Bound) (f : FormulaTree)
    → progressed s no_values (for_some ss b f) ≡ simplified_or (map (λ t. progressed s no_values (substituted (bind ss t no_values) f))
    (tuples s no_values ss b))
unfolding progressed
progressed-for_some s ss b f = ap (λ (p : List Value → FormulaTree). simplified_or (map p (tuples s no_values ss b)))
    (fun_ext (λ t. sym (progressed-substituted s no_values (bind ss t no_values) f ∙
    ap (λ (x : Assignment). progressed s x f) (over-no_values (bind ss t no_values)))))

-- a `forall` holds where each of its instances does
pub Holds-for_all : (r : Situations) (i : ℕ) (ss : List Var) (b : Bound) (f : FormulaTree)
    → Holds r no_values (for_all ss b f) i ↔ Each (λ t. Holds r no_values (substituted (bind ss t no_values) f) i)
    (tuples (r i) no_values ss b)
unfolding Holds
Holds-for_all r i ss b f = Each-map (λ t. let k = Holds-substituted-no_values r (bind ss t no_values) f i in (k.1, k.0))
    (tuples (r i) no_values ss b)

-- an `exists` holds where one of its instances does
pub Holds-for_some : (r : Situations) (i : ℕ) (ss : List Var) (b : Bound) (f : FormulaTree)
    → Holds r no_values (for_some ss b f) i ↔ AtLeastOne (λ t. Holds r no_values (substituted (bind ss t no_values) f) i)
    (tuples (r i) no_values ss b)
unfolding Holds
Holds-for_some r i ss b f = One-map (λ t. let k = Holds-substituted-no_values r (bind ss t no_values) f i in (k.1, k.0))
    (tuples (r i) no_values ss b)

-- ---- together

pub truth-by-instances : (s : Situation) (ss : List Var) (b : Bound) (f : FormulaTree) → QuantifiersAreTrueByInstances s ss b f
truth-by-instances s ss b f = record { of_forall = state-for_all s ss b f; of_exists = state-for_some s ss b f }

pub satisfaction-by-instances : (p : PlainProblem) (r : Run) (i : ℕ) (ss : List Var) (b : Bound) (f : FormulaTree) →
    QuantifiersHoldByInstances p r i ss b f
unfolding SatisfiesAlong
satisfaction-by-instances p r i ss b f = record {
  of_forall = Holds-for_all (situations_of p r) i ss b f;
  of_exists =
      Holds-for_some (situations_of p r) i ss b f;
}

pub progression-by-instances : (s : Situation) (ss : List Var) (b : Bound) (f : FormulaTree) → QuantifiersProgressByInstances s ss b f
progression-by-instances s ss b f = record { of_forall = progressed-for_all s ss b f; of_exists = progressed-for_some s ss b f }

pub substituted-over : (d e : Assignment) (f : FormulaTree) → MeansTheSameSubstituted d e f
substituted-over d e f = record {
  of_truth = λ s. state-substituted s d e f;
  of_satisfaction = λ r i. Holds-substituted r d e f i;
  of_progression = λ s. progressed-substituted s d e f;
}

-- ---- no values

without-none : (ss : List Var) → without ss no_values ≡ no_values
without-none ss = fun_ext (at ss)
  where
    at : (us : List Var) (q : ℕ) → without us no_values q ≡ None
    at [] q = refl
    at (u ∷ us) q = (elim (q == u.slot) as (λ b. cond b None (without us no_values q) ≡ None) [ true ↦ refl | false ↦ at us q ])

arg-none : (a : Arg) → substituted_arg no_values a ≡ a
arg-none (arg.Var s) = refl
arg-none (arg.Val v) = refl

args-none : (xs : List Arg) → substituted_args no_values xs ≡ xs
args-none [] = refl
args-none (x ∷ xs) = ap₂ ◌∷◌ (arg-none x) (args-none xs)

bound-none : (b : Bound) → substituted_bound no_values b ≡ b
bound-none (bound.Fact p xs) = ap (bound.Fact p) (args-none xs)
bound-none (bound.Place f xs x) = ap₂ (bound.Place f) (args-none xs) (arg-none x)
bound-none (bound.GoalFact p xs) = ap (bound.GoalFact p) (args-none xs)
bound-none (bound.GoalPlace f xs x) = ap₂ (bound.GoalPlace f) (args-none xs) (arg-none x)
bound-none (bound.GoalNot p xs) = ap (bound.GoalNot p) (args-none xs)

mutual
  unfolding substituted_term

  term-none : (t : TermTree) → substituted_term no_values t ≡ t
  term-none (variable s) = refl
  term-none (value v) = refl
  term-none (place f ts) = ap (place f) (terms-none ts)
  term-none (arith op s t at) = ap₂ (λ a b. arith op a b at) (term-none s) (term-none t)

  terms-none : (ts : TermTrees) → substituted_terms no_values ts ≡ ts
  terms-none no_term = refl
  terms-none (more_terms t ts) = ap₂ more_terms (term-none t) (terms-none ts)

mutual
  unfolding substituted

  pub substituted-none : (f : FormulaTree) → substituted no_values f ≡ f
  substituted-none verum = refl
  substituted-none falsum = refl
  substituted-none (atom p ts) = ap (atom p) (terms-none ts)
  substituted-none (defined p ts) = ap (defined p) (terms-none ts)
  substituted-none (compare c x y) = ap₂ (compare c) (term-none x) (term-none y)
  substituted-none (goal_fact p xs) = ap (goal_fact p) (args-none xs)
  substituted-none (goal_place k xs x) = ap₂ (goal_place k) (args-none xs) (arg-none x)
  substituted-none (goal_not p xs) = ap (goal_not p) (args-none xs)
  substituted-none (negation f) = ap negation (substituted-none f)
  substituted-none (conjunction fs) = ap conjunction (all-none fs)
  substituted-none (disjunction fs) = ap disjunction (all-none fs)
  substituted-none (for_all ss b f) = ap₂ (for_all ss) (ap (λ (x : Assignment). substituted_bound x b) (without-none ss) ∙ bound-none b)
      (ap (λ (x : Assignment). substituted x f) (without-none ss) ∙ substituted-none f)
  substituted-none (for_some ss b f) = ap₂ (for_some ss) (ap (λ (x : Assignment). substituted_bound x b) (without-none ss) ∙ bound-none b)
      (ap (λ (x : Assignment). substituted x f) (without-none ss) ∙ substituted-none f)
  substituted-none (next f) = ap next (substituted-none f)
  substituted-none (always f) = ap always (substituted-none f)
  substituted-none (eventually f) = ap eventually (substituted-none f)
  substituted-none (until f g) = ap₂ until (substituted-none f) (substituted-none g)
  substituted-none (within n f) = ap (within n) (substituted-none f)
  substituted-none (during n f) = ap (during n) (substituted-none f)

  all-none : (fs : FormulaTrees) → substituted_all no_values fs ≡ fs
  all-none no_formula = refl
  all-none (more_formulas f fs) = ap₂ more_formulas (substituted-none f) (all-none fs)

-- progression goes by its table
pub progression-table : (s : Situation) (f g : FormulaTree) (n : ℕ) → ProgressesByTheTable s f g n
unfolding progressed
progression-table s f g n = record {
  of_next = substituted-none f;
  of_always = ap (λ (h : FormulaTree). simplified_and (progressed s no_values f ∷ h ∷ [])) (substituted-none (always f));
  of_eventually = ap (λ (h : FormulaTree). simplified_or (progressed s no_values f ∷ h ∷ [])) (substituted-none (eventually f));
  of_until = ap (λ (h : FormulaTree). simplified_or (progressed s no_values g ∷ simplified_and (progressed s no_values f ∷ h ∷ []) ∷ []))
      (substituted-none (until f g));
  of_within_none = refl;
  of_within_more = ap (λ (h : FormulaTree). simplified_or (progressed s no_values f ∷ h ∷ [])) (substituted-none (within n f));
  of_during_none = refl;
  of_during_more = ap (λ (h : FormulaTree). simplified_and (progressed s no_values f ∷ h ∷ [])) (substituted-none (during n f));
}
