-- What fits some declarations fits more of them.
use Rattle.std.proofs.Common.{ℕ, List, ◌++◌}
use Rattle.tl_syntax.specs.declared.bound.Bound.{Bound}
use Rattle.tl_syntax.specs.declared.bound.Bound.TheVariants as bound
use Rattle.tl_syntax.specs.declared.variable.Var.{Var}
use Rattle.tl_syntax.specs.Effects.{EffectTree, EffectTrees, add, del, assign, when, each, no_effect, more_effects}
use Rattle.tl_syntax.specs.Fits.{BoundFits, VariablesFit, TermFits, TermsFit, Fits, AllFit, EffectFits, EffectsFit}
use Rattle.tl_syntax.specs.FreeVariables.{slots_of}
use Rattle.tl_syntax.specs.Signature.{Signature, Takes}
use Rattle.tl_syntax.specs.Trees.{TermTree, variable, value, place, arith, TermTrees, no_term, more_terms, FormulaTree, verum, falsum, atom}
use Rattle.tl_syntax.specs.Trees.{defined, compare, goal_fact, goal_place, goal_not, negation, conjunction, disjunction, for_all, for_some}
use Rattle.tl_syntax.specs.Trees.{next, always, eventually, until, within, during, FormulaTrees, no_formula, more_formulas}

-- what takes arguments by the first signature takes as many by the second
pub record IsPartOf (g h : Signature) : Type 0 where
  pub predicates : (p n : ℕ) → Takes g.predicates p n → Takes h.predicates p n
  pub functions : (p n : ℕ) → Takes g.functions p n → Takes h.functions p n
  pub definitions : (p n : ℕ) → Takes g.definitions p n → Takes h.definitions p n

module _ (g h : Signature) (part : IsPartOf g h) where
  pub bound-fits : (b : Bound) → BoundFits g b → BoundFits h b
  bound-fits (bound.Fact p xs) fits = (part.predicates p _ fits.0, fits.1)
  bound-fits (bound.Place f xs x) fits = ((part.functions f _ fits.0.0, fits.0.1), fits.1)
  bound-fits (bound.GoalFact p xs) fits = (part.predicates p _ fits.0, fits.1)
  bound-fits (bound.GoalPlace f xs x) fits = ((part.functions f _ fits.0.0, fits.0.1), fits.1)
  bound-fits (bound.GoalNot p xs) fits = (part.predicates p _ fits.0, fits.1)

  variables-fit : (around : List ℕ) (vs : List Var) (b : Bound) → VariablesFit g around vs b → VariablesFit h around vs b
  variables-fit around vs b fits = record {
    frame = fits.frame;
    fresh = fits.fresh;
    differ = fits.differ;
    occur = fits.occur;
    bound =
        bound-fits b fits.bound;
  }

  mutual
    unfolding TermFits

    term-fits : (t : TermTree) → TermFits g t → TermFits h t
    term-fits (variable v) fits = fits
    term-fits (value v) fits = fits
    term-fits (place f ts) fits = (part.functions f _ fits.0, terms-fit ts fits.1)
    term-fits (arith op s t at) fits = (term-fits s fits.0, term-fits t fits.1)

    terms-fit : (ts : TermTrees) → TermsFit g ts → TermsFit h ts
    terms-fit no_term fits = fits
    terms-fit (more_terms t ts) fits = (term-fits t fits.0, terms-fit ts fits.1)

  mutual
    unfolding Fits

    pub formula-fits : (around : List ℕ) (f : FormulaTree) → Fits g around f → Fits h around f
    formula-fits around verum fits = fits
    formula-fits around falsum fits = fits
    formula-fits around (atom p ts) fits = (part.predicates p _ fits.0, terms-fit ts fits.1)
    formula-fits around (defined p ts) fits = (part.definitions p _ fits.0, terms-fit ts fits.1)
    formula-fits around (compare c s t) fits = (term-fits s fits.0, term-fits t fits.1)
    formula-fits around (goal_fact p xs) fits = (part.predicates p _ fits.0, fits.1)
    formula-fits around (goal_place f xs x) fits = ((part.functions f _ fits.0.0, fits.0.1), fits.1)
    formula-fits around (goal_not p xs) fits = (part.predicates p _ fits.0, fits.1)
    formula-fits around (negation f) fits = formula-fits around f fits
    formula-fits around (conjunction fs) fits = all-fit around fs fits
    formula-fits around (disjunction fs) fits = all-fit around fs fits
    formula-fits around (for_all vs b f) fits = (variables-fit around vs b fits.0, formula-fits (slots_of vs ++ around) f fits.1)
    formula-fits around (for_some vs b f) fits = (variables-fit around vs b fits.0, formula-fits (slots_of vs ++ around) f fits.1)
    formula-fits around (next f) fits = formula-fits around f fits
    formula-fits around (always f) fits = formula-fits around f fits
    formula-fits around (eventually f) fits = formula-fits around f fits
    formula-fits around (until f i) fits = (formula-fits around f fits.0, formula-fits around i fits.1)
    formula-fits around (within n f) fits = formula-fits around f fits
    formula-fits around (during n f) fits = formula-fits around f fits

    all-fit : (around : List ℕ) (fs : FormulaTrees) → AllFit g around fs → AllFit h around fs
    all-fit around no_formula fits = fits
    all-fit around (more_formulas f fs) fits = (formula-fits around f fits.0, all-fit around fs fits.1)

  mutual
    unfolding EffectFits

    effect-fits : (around : List ℕ) (e : EffectTree) → EffectFits g around e → EffectFits h around e
    effect-fits around (add p ts) fits = (part.predicates p _ fits.0, terms-fit ts fits.1)
    effect-fits around (del p ts) fits = (part.predicates p _ fits.0, terms-fit ts fits.1)
    effect-fits around (assign f ts t) fits = (part.functions f _ fits.0, terms-fit ts fits.1, term-fits t fits.2)
    effect-fits around (when f es) fits = (formula-fits around f fits.0, effects-fit around es fits.1)
    effect-fits around (each vs b es) fits = (variables-fit around vs b fits.0, effects-fit (slots_of vs ++ around) es fits.1)

    pub effects-fit : (around : List ℕ) (es : EffectTrees) → EffectsFit g around es → EffectsFit h around es
    effects-fit around no_effect fits = fits
    effects-fit around (more_effects e es) fits = (effect-fits around e fits.0, effects-fit around es fits.1)
