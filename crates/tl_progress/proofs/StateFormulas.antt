-- Formulas without temporal words.
use Rattle.std.proofs.Common.{◌≡◌, List, [], ◌∷◌, ◌++◌, flat_map, Bool, true, false, not, ◌&&◌, ◌||◌, refl, sym, ap, ap₂, ◌∙◌}
use mathlib.Core.Path.{fun_ext}
use Rattle.std.specs.List.{list_any, list_all}
use Rattle.tl_syntax.specs.declared.value.Value.{Value}
use Rattle.tl_syntax.specs.Assignment.{Assignment, bind}
use Rattle.tl_syntax.specs.StateFormulas.{IsState, AreState}
use Rattle.tl_syntax.specs.Trees.{FormulaTree, FormulaTrees, verum, falsum, atom, defined, compare, goal_fact, goal_place, goal_not}
use Rattle.tl_syntax.specs.Trees.{negation, conjunction, disjunction, for_all, for_some, next, always, eventually, until, within, during}
use Rattle.tl_syntax.specs.Trees.{no_formula, more_formulas}
use Rattle.tl_terms.specs.Bounds.{tuples}
use Rattle.tl_terms.specs.Definitions.{situation_of}
use Rattle.tl_terms.specs.Idle.{idle_true, idle_all, idle_one}
use Rattle.tl_terms.specs.Looked.{LookedTable, looks_of, looked_in_basics, looked_in_parts}
use Rattle.tl_terms.specs.Operations.{Operation}
use Rattle.tl_terms.specs.Problem.{PlainProblem}
use Rattle.tl_terms.specs.Progression.{constant}
use Rattle.tl_terms.specs.Situation.{Situation}
use Rattle.tl_terms.specs.Truth.{state_true, all_true, one_true}
use Rattle.tl_terms.specs.World.{World}
use Rattle.tl_terms.proofs.RunLaws.{progressed-state}
use Rattle.tl_progress.specs.Answers.{idly_true, looked_idly, looked_for_residual, residual}

module _ (s : Situation) where
  mutual
    unfolding idle_true state_true

    pub state-idle : (e : Assignment) (f : FormulaTree) → IsState f → idle_true s e f ≡ state_true s e f
    state-idle e verum h = refl
    state-idle e falsum h = refl
    state-idle e (atom p ts) h = refl
    state-idle e (defined p ts) h = refl
    state-idle e (compare c x y) h = refl
    state-idle e (goal_fact p xs) h = refl
    state-idle e (goal_place k xs x) h = refl
    state-idle e (goal_not p xs) h = refl
    state-idle e (negation f) h = ap not (state-idle e f h)
    state-idle e (conjunction fs) h = all-idle e fs h
    state-idle e (disjunction fs) h = one-idle e fs h
    state-idle e (for_all ss b f) h = ap (λ (test : List Value → Bool). list_all test (tuples s e ss b))
        (fun_ext (λ t. state-idle (bind ss t e) f h))
    state-idle e (for_some ss b f) h = ap (λ (test : List Value → Bool). list_any test (tuples s e ss b))
        (fun_ext (λ t. state-idle (bind ss t e) f h))
    state-idle e (next f) h = absurd h
    state-idle e (always f) h = absurd h
    state-idle e (eventually f) h = absurd h
    state-idle e (until f g) h = absurd h
    state-idle e (within n f) h = absurd h
    state-idle e (during n f) h = absurd h

    all-idle : (e : Assignment) (fs : FormulaTrees) → AreState fs → idle_all s e fs ≡ all_true s e fs
    all-idle e no_formula h = refl
    all-idle e (more_formulas f fs) h = ap₂ (λ a b. a && b) (state-idle e f h.0) (all-idle e fs h.1)

    one-idle : (e : Assignment) (fs : FormulaTrees) → AreState fs → idle_one s e fs ≡ one_true s e fs
    one-idle e no_formula h = refl
    one-idle e (more_formulas f fs) h = ap₂ (λ a b. a || b) (state-idle e f h.0) (one-idle e fs h.1)

module _ (d : LookedTable) (bs : List Situation) (s : Situation) where
  mutual
    unfolding looked_in_basics

    pub state-looked : (e : Assignment) (f : FormulaTree) → IsState f → looked_in_basics true d bs s e f ≡ looked_in_basics false d bs s e f
    state-looked e verum h = refl
    state-looked e falsum h = refl
    state-looked e (atom p ts) h = refl
    state-looked e (defined p ts) h = refl
    state-looked e (compare c x y) h = refl
    state-looked e (goal_fact p xs) h = refl
    state-looked e (goal_place k xs x) h = refl
    state-looked e (goal_not p xs) h = refl
    state-looked e (negation f) h = state-looked e f h
    state-looked e (conjunction fs) h = all-looked e fs h
    state-looked e (disjunction fs) h = all-looked e fs h
    state-looked e (for_all ss b f) h = ap (λ (look : List Value → List Operation). flat_map look (flat_map (λ q. tuples q e ss b) bs))
        (fun_ext (λ t. state-looked (bind ss t e) f h))
    state-looked e (for_some ss b f) h = ap (λ (look : List Value → List Operation). flat_map look (flat_map (λ q. tuples q e ss b) bs))
        (fun_ext (λ t. state-looked (bind ss t e) f h))
    state-looked e (next f) h = absurd h
    state-looked e (always f) h = absurd h
    state-looked e (eventually f) h = absurd h
    state-looked e (until f g) h = absurd h
    state-looked e (within n f) h = absurd h
    state-looked e (during n f) h = absurd h

    all-looked : (e : Assignment) (fs : FormulaTrees) → AreState fs → looked_in_parts true d bs s e fs ≡ looked_in_parts false d bs s e fs
    all-looked e no_formula h = refl
    all-looked e (more_formulas f fs) h = ap₂ (λ (a b : List Operation). a ++ b) (state-looked e f h.0) (all-looked e fs h.1)

-- a formula without temporal words leaves the constant of its truth, and the idling check looks at what progression does
pub constant-next : (p : PlainProblem) (w : World) (e : Assignment) (f : FormulaTree) (b : Bool) → IsState f → b ≡ idly_true p w e f →
    constant b ≡ residual p w e f
constant-next p w e f b h k = ap constant (k ∙ state-idle (situation_of p w) e f h) ∙ sym (progressed-state (situation_of p w) e f h)

pub looked-same : (p : PlainProblem) (w : World) (e : Assignment) (f : FormulaTree) → IsState f → looked_idly p w e f ≡
    looked_for_residual p w e f
looked-same p w e f h = state-looked (looks_of p w) (situation_of p w ∷ []) (situation_of p w) e f h
