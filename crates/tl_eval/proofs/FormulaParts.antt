-- The parts of a formula that fits: they fit, and are smaller.
use Rattle.std.proofs.Common.{◌≡◌, ◌≤◌, ◌<◌, ◌+◌, ℕ, zero, suc, List, [], ◌∷◌, ◌++◌, map, take, Some, length, get_or, Box, Global, sym, ap}
use Rattle.std.proofs.Common.{◌∙◌, subst, arith}
use Rattle.tl_eval.specs.Small.{HasFewArguments, HaveFewArguments}
use Rattle.tl_eval.specs.StateTruth.{FitsAt}
use Rattle.tl_eval.proofs.ArityLaws.{AreFew, term-few, terms-few}
use Rattle.tl_eval.proofs.PatternLaws.{few-variables, bound-few}
use Rattle.tl_eval.proofs.FormulaSizes.{formula_nodes, formulas_nodes}
use Rattle.tl_syntax.specs.declared.bound.Bound.{Bound}
use Rattle.tl_syntax.specs.declared.bound.Bound.TheVariants as bound
use Rattle.tl_syntax.specs.declared.formula.Formula.{Formula}
use Rattle.tl_syntax.specs.declared.formula.Formula.TheVariants as formula
use Rattle.tl_syntax.specs.declared.formula.Formulas.{Formulas}
use Rattle.tl_syntax.specs.declared.junction.Junction.{Junction}
use Rattle.tl_syntax.specs.declared.junction.Junction.TheVariants.{All, Any}
use Rattle.tl_syntax.specs.declared.term.Term.{Term}
use Rattle.tl_syntax.specs.declared.term.Terms.{Terms}
use Rattle.tl_syntax.specs.declared.value.Cmp.{Cmp}
use Rattle.tl_syntax.specs.declared.variable.Arg.{Arg}
use Rattle.tl_syntax.specs.declared.variable.Var.{Var}
use Rattle.tl_syntax.specs.BoundVariables.{DifferInSlot, OccurIn}
use Rattle.tl_syntax.specs.Lists.{Each}
use Rattle.tl_syntax.specs.Fits.{BoundFits, Fits, AllFit, VariablesFit, term_count}
use Rattle.tl_syntax.specs.FreeVariables.{slots_of}
use Rattle.tl_syntax.specs.Junctions.{joined, quantified}
use Rattle.tl_syntax.specs.Signature.{Signature, with_definitions_below, Takes}
use Rattle.tl_syntax.specs.TreeOfFormula.{tree_of_formula, tree_of_formulas}
use Rattle.tl_syntax.specs.TreeOfTerm.{tree_of_term, tree_of_terms}
use Rattle.tl_syntax.specs.Trees.{FormulaTree, FormulaTrees, TermTrees, atom, defined, compare, goal_fact, goal_place, goal_not, negation}
use Rattle.tl_syntax.specs.Trees.{conjunction, disjunction, for_all, for_some, formulas_of_list}
use Rattle.tl_syntax.proofs.FormulaTrees.{tree-Atom, tree-Defined, tree-Compare, tree-GoalFact, tree-GoalPlace, tree-GoalNot, tree-Not}
use Rattle.tl_syntax.proofs.FormulaTrees.{tree-And, tree-Or, tree-ForAll, tree-Exists, trees-Formulas}

-- few arguments, which have few arguments themselves
pub record Arguments (ts : TermTrees) : Type 0 where
  pub few : term_count ts ≤ 8
  pub small : HaveFewArguments ts

pub arguments-Atom : (g : Signature) (n : ℕ) (f : Formula) (p : ℕ) (ts : Terms) → AreFew g.predicates → AreFew g.functions → f ≡
    formula.Atom p ts → FitsAt g n (tree_of_formula f) → Arguments (tree_of_terms ts)
unfolding Fits
arguments-Atom g n f p ts few small q h =
    let whole : FitsAt g n (atom p (tree_of_terms ts)) = subst (FitsAt g n) (ap tree_of_formula q ∙ tree-Atom p ts) h in
    record {
      few = few p (term_count (tree_of_terms ts)) whole.fits.0;
      small =
          terms-few (with_definitions_below (n + 1) g) small (tree_of_terms ts) whole.fits.1;
    }

pub arguments-Defined : (g : Signature) (n p : ℕ) (ts : TermTrees) → AreFew (take (n + 1) g.definitions) → AreFew g.functions →
    FitsAt g n (defined p ts) → Arguments ts
unfolding Fits
arguments-Defined g n p ts few small h = record {
  few = few p (term_count ts) h.fits.0;
  small =
      terms-few (with_definitions_below (n + 1) g) small ts h.fits.1;
}

-- the definition takes as many values as there are
pub takes-Defined : (g : Signature) (n p count : ℕ) (ts : TermTrees) → count ≡ term_count ts → FitsAt g n (defined p ts) →
    Takes (with_definitions_below (n + 1) g).definitions p count
unfolding Fits
takes-Defined g n p count ts q h = h.fits.0 ∙ ap (λ (m : ℕ). Some m) (sym q)

-- both sides have few arguments
pub record Sides (s t : Term) : Type 0 where
  pub left : HasFewArguments (tree_of_term s)
  pub right : HasFewArguments (tree_of_term t)

pub sides-Compare : (g : Signature) (n : ℕ) (f : Formula) (c : Cmp) (s t : Term) → AreFew g.functions → f ≡ formula.Compare c s t →
    FitsAt g n (tree_of_formula f) → Sides s t
unfolding Fits
sides-Compare g n f c s t small q h =
    let whole : FitsAt g n (compare c (tree_of_term s) (tree_of_term t)) =
    subst (FitsAt g n) (ap tree_of_formula q ∙ tree-Compare c s t) h in
    record {
      left = term-few (with_definitions_below (n + 1) g) small (tree_of_term s) whole.fits.0;
      right =
          term-few (with_definitions_below (n + 1) g) small (tree_of_term t) whole.fits.1;
    }

pub few-GoalFact : (g : Signature) (n : ℕ) (f : Formula) (p : ℕ) (xs : List Arg) → AreFew g.predicates → f ≡ formula.GoalFact p xs →
    FitsAt g n (tree_of_formula f) → length xs ≤ 8
unfolding Fits
few-GoalFact g n f p xs few q h = let whole : FitsAt g n (goal_fact p xs) =
    subst (FitsAt g n) (ap tree_of_formula q ∙ tree-GoalFact p xs) h in few p (length xs) whole.fits.0

pub few-GoalNot : (g : Signature) (n : ℕ) (f : Formula) (p : ℕ) (xs : List Arg) → AreFew g.predicates → f ≡ formula.GoalNot p xs →
    FitsAt g n (tree_of_formula f) → length xs ≤ 8
unfolding Fits
few-GoalNot g n f p xs few q h = let whole : FitsAt g n (goal_not p xs) = subst (FitsAt g n) (ap tree_of_formula q ∙ tree-GoalNot p xs) h in
    few p (length xs) whole.fits.0

pub few-GoalPlace : (g : Signature) (n : ℕ) (f : Formula) (k : ℕ) (xs : List Arg) (x : Arg) → AreFew g.functions → f ≡
    formula.GoalPlace k xs x → FitsAt g n (tree_of_formula f) → length xs ≤ 8
unfolding Fits
few-GoalPlace g n f k xs x few q h = let whole : FitsAt g n (goal_place k xs x) =
    subst (FitsAt g n) (ap tree_of_formula q ∙ tree-GoalPlace k xs x) h in few k (length xs) whole.fits.0.0

-- ---- what is entered below a formula: a tree that fits, with a smaller size

pub record Entered (g : Signature) (n : ℕ) (whole : Formula) (part : FormulaTree) (size : ℕ) : Type 0 where
  pub fits : FitsAt g n part
  pub smaller : size < formula_nodes (tree_of_formula whole)

pub part-Defined : (g : Signature) (n : ℕ) (f : Formula) (p : ℕ) (ts : Terms) → f ≡ formula.Defined p ts → FitsAt g n (tree_of_formula f) →
    Entered g n f (defined p (tree_of_terms ts)) 2
unfolding formula_nodes
part-Defined g n f p ts q h =
    let same : tree_of_formula f ≡ defined p (tree_of_terms ts) = ap tree_of_formula q ∙ tree-Defined p ts in
    let nodes : formula_nodes (tree_of_formula f) ≡ 3 = ap formula_nodes same in
    record { fits = subst (FitsAt g n) same h; smaller = omega arith }

pub part-Not : (g : Signature) (n : ℕ) (f : Formula) (x : Box Formula Global) → f ≡ formula.Not x → FitsAt g n (tree_of_formula f) →
    Entered g n f (tree_of_formula x.value) (formula_nodes (tree_of_formula x.value))
unfolding Fits formula_nodes
part-Not g n f x q h =
    let same : tree_of_formula f ≡ negation (tree_of_formula x.value) = ap tree_of_formula q ∙ tree-Not x in
    let whole : FitsAt g n (negation (tree_of_formula x.value)) = subst (FitsAt g n) same h in
    let nodes : formula_nodes (tree_of_formula f) ≡ 1 + formula_nodes (tree_of_formula x.value) = ap formula_nodes same in
    record { fits = record { around = whole.around; fits = whole.fits }; smaller = omega arith }

pub part-And : (g : Signature) (n : ℕ) (f : Formula) (x : Formulas) → f ≡ formula.And x → FitsAt g n (tree_of_formula f) →
    Entered g n f (joined All (tree_of_formulas x)) (formulas_nodes (tree_of_formulas x))
unfolding formula_nodes
part-And g n f x q h =
    let same : tree_of_formula f ≡ conjunction (tree_of_formulas x) = ap tree_of_formula q ∙ tree-And x in
    let nodes : formula_nodes (tree_of_formula f) ≡ 1 + formulas_nodes (tree_of_formulas x) = ap formula_nodes same in
    record { fits = subst (FitsAt g n) same h; smaller = omega arith }

pub part-Or : (g : Signature) (n : ℕ) (f : Formula) (x : Formulas) → f ≡ formula.Or x → FitsAt g n (tree_of_formula f) →
    Entered g n f (joined Any (tree_of_formulas x)) (formulas_nodes (tree_of_formulas x))
unfolding formula_nodes
part-Or g n f x q h =
    let same : tree_of_formula f ≡ disjunction (tree_of_formulas x) = ap tree_of_formula q ∙ tree-Or x in
    let nodes : formula_nodes (tree_of_formula f) ≡ 1 + formulas_nodes (tree_of_formulas x) = ap formula_nodes same in
    record { fits = subst (FitsAt g n) same h; smaller = omega arith }

pub part-ForAll : (g : Signature) (n : ℕ) (f : Formula) (ss : List Var) (b : Bound) (x : Box Formula Global) → f ≡ formula.ForAll ss b x →
    FitsAt g n (tree_of_formula f) → Entered g n f (quantified All ss b (tree_of_formula x.value))
    (2 + formula_nodes (tree_of_formula x.value))
unfolding formula_nodes
part-ForAll g n f ss b x q h =
    let same : tree_of_formula f ≡ for_all ss b (tree_of_formula x.value) = ap tree_of_formula q ∙ tree-ForAll ss b x in
    let nodes : formula_nodes (tree_of_formula f) ≡ 3 + formula_nodes (tree_of_formula x.value) = ap formula_nodes same in
    record { fits = subst (FitsAt g n) same h; smaller = omega arith }

pub part-Exists : (g : Signature) (n : ℕ) (f : Formula) (ss : List Var) (b : Bound) (x : Box Formula Global) → f ≡ formula.Exists ss b x →
    FitsAt g n (tree_of_formula f) → Entered g n f (quantified Any ss b (tree_of_formula x.value))
    (2 + formula_nodes (tree_of_formula x.value))
unfolding formula_nodes
part-Exists g n f ss b x q h =
    let same : tree_of_formula f ≡ for_some ss b (tree_of_formula x.value) = ap tree_of_formula q ∙ tree-Exists ss b x in
    let nodes : formula_nodes (tree_of_formula f) ≡ 3 + formula_nodes (tree_of_formula x.value) = ap formula_nodes same in
    record { fits = subst (FitsAt g n) same h; smaller = omega arith }

-- ---- a part of a conjunction or a disjunction

all-at : (g : Signature) (around : List ℕ) (xs : List Formula) (i : ℕ) (d : Formula) →
    AllFit g around (formulas_of_list (map tree_of_formula xs)) → i < length xs → Fits g around (tree_of_formula (get_or xs i d))
unfolding Fits
all-at g around [] i d h k = absurd (omega arith)
all-at g around (x ∷ xs) zero d h k = h.0
all-at g around (x ∷ xs) (suc i) d h k = all-at g around xs i d h.1 (omega arith)

size-at : (xs : List Formula) (i : ℕ) (d : Formula) → i < length xs → formula_nodes (tree_of_formula (get_or xs i d)) < formulas_nodes
    (formulas_of_list (map tree_of_formula xs))
unfolding formula_nodes
size-at [] i d k = absurd (omega arith)
size-at (x ∷ xs) zero d k = omega arith
size-at (x ∷ xs) (suc i) d k = let more = size-at xs i d (omega arith) in omega arith

all-fit : (g : Signature) (n : ℕ) (j : Junction) (fs : FormulaTrees) (h : FitsAt g n (joined j fs)) →
    AllFit (with_definitions_below (n + 1) g) h.around fs
unfolding Fits
all-fit g n Any fs h = h.fits
all-fit g n All fs h = h.fits

pub record Item (g : Signature) (n : ℕ) (all : FormulaTrees) (x : FormulaTree) : Type 0 where
  pub fits : FitsAt g n x
  pub smaller : formula_nodes x < formulas_nodes all

pub item-fits : (g : Signature) (n : ℕ) (j : Junction) (all : Formulas) (items : List Formula) (i : ℕ) (x : Formula) → items ≡
    all.items.items → i < length items → x ≡ get_or items i x
    → FitsAt g n (joined j (tree_of_formulas all)) → Item g n (tree_of_formulas all) (tree_of_formula x)
item-fits g n j all items i x q h k fits =
    let same : tree_of_formulas all ≡ formulas_of_list (map tree_of_formula items) = trees-Formulas all ∙
    ap (λ (xs : List Formula). formulas_of_list (map tree_of_formula xs)) (sym q) in
    let each : AllFit (with_definitions_below (n + 1) g) fits.around (formulas_of_list (map tree_of_formula items)) =
    subst (AllFit (with_definitions_below (n + 1) g) fits.around) same (all-fit g n j (tree_of_formulas all) fits) in
    let size = size-at items i x h in
    let nodes : formula_nodes (tree_of_formula x) ≡ formula_nodes (tree_of_formula (get_or items i x)) =
    ap (λ (y : Formula). formula_nodes (tree_of_formula y)) k in
    let total : formulas_nodes (tree_of_formulas all) ≡ formulas_nodes (formulas_of_list (map tree_of_formula items)) =
    ap formulas_nodes same in
    record {
      fits = record {
        around = fits.around;
        fits = subst (λ (y : Formula).
            Fits (with_definitions_below (n + 1) g) fits.around (tree_of_formula y)) (sym k)
            (all-at (with_definitions_below (n + 1) g) fits.around items i x each h);
      };
      smaller = omega arith;
    }

-- ---- the body of a quantifier

pub record Quantifier (g : Signature) (n : ℕ) (ss : List Var) (b : Bound) (f : FormulaTree) : Type 0 where
  pub around : List ℕ
  pub variables : VariablesFit (with_definitions_below (n + 1) g) around ss b
  pub body : FitsAt g n f

pub quantifier-fits : (g : Signature) (n : ℕ) (j : Junction) (ss : List Var) (b : Bound) (f : FormulaTree) →
    FitsAt g n (quantified j ss b f) → Quantifier g n ss b f
unfolding Fits
quantifier-fits g n Any ss b f h = record {
  around = h.around;
  variables = h.fits.0;
  body =
      record { around = slots_of ss ++ h.around; fits = h.fits.1 };
}
quantifier-fits g n All ss b f h = record {
  around = h.around;
  variables = h.fits.0;
  body =
      record { around = slots_of ss ++ h.around; fits = h.fits.1 };
}

-- ---- what the next tuple of a quantifier needs

bound-whole : (g : Signature) (m : ℕ) (b : Bound) → BoundFits (with_definitions_below m g) b → BoundFits g b
bound-whole g m (bound.Fact c xs) h = h
bound-whole g m (bound.Place c xs x) h = h
bound-whole g m (bound.GoalFact c xs) h = h
bound-whole g m (bound.GoalPlace c xs x) h = h
bound-whole g m (bound.GoalNot c xs) h = h

pub record Tuples (g : Signature) (n : ℕ) (ss : List Var) (b : Bound) (f : FormulaTree) : Type 0 where
  pub differ : DifferInSlot ss
  pub occur : OccurIn ss b
  pub bound : BoundFits g b
  pub few : length ss ≤ 9
  pub in_frame : Each (λ s. s.slot < 32) ss
  pub body : FitsAt g n f

pub tuples-fit : (g : Signature) (n : ℕ) (j : Junction) (ss : List Var) (b : Bound) (f : FormulaTree) → AreFew g.predicates →
    AreFew g.functions → FitsAt g n (quantified j ss b f) → Tuples g n ss b f
tuples-fit g n j ss b f p k h =
    let q = quantifier-fits g n j ss b f h in
    let fits = bound-whole g (n + 1) b q.variables.bound in
    record {
      differ = q.variables.differ;
      occur = q.variables.occur;
      bound = fits;
      few = few-variables ss b q.variables.differ q.variables.occur (bound-few g p k b fits);
      in_frame = q.variables.frame;
      body = q.body;
    }
