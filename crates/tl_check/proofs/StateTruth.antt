-- A formula without temporal words goes by the first world alone.
use Rattle.std.proofs.Common.{◌≡◌, ◌||◌, ◌&&◌, not, List, ◌∷◌, Bool, refl, ap, ap₂}
use Rattle.std.specs.List.{list_any, list_all}
use mathlib.Core.Path.{fun_ext}
use Rattle.tl_check.specs.Ahead.{Course, true_ahead, all_ahead, one_ahead}
use Rattle.tl_syntax.specs.declared.value.Value.{Value}
use Rattle.tl_syntax.specs.Assignment.{Assignment, bind}
use Rattle.tl_syntax.specs.StateFormulas.{IsState, AreState}
use Rattle.tl_syntax.specs.Trees.{FormulaTree, FormulaTrees, verum, falsum, atom, defined, compare, goal_fact, goal_place, goal_not}
use Rattle.tl_syntax.specs.Trees.{negation, conjunction, disjunction, for_all, for_some, next, always, eventually, until, within, during}
use Rattle.tl_syntax.specs.Trees.{no_formula, more_formulas}
use Rattle.tl_terms.specs.Bounds.{tuples}
use Rattle.tl_terms.specs.Definitions.{situation_of}
use Rattle.tl_terms.specs.Truth.{state_true, all_true, one_true}
use Rattle.tl_terms.specs.World.{World}

mutual
  unfolding true_ahead state_true

  pub ahead-state : (p : Course) (e : Assignment) (f : FormulaTree) (w : World) (ws : List World) → IsState f → true_ahead p e f (w ∷ ws) ≡
      state_true (situation_of p.problem w) e f
  ahead-state p e verum w ws h = refl
  ahead-state p e falsum w ws h = refl
  ahead-state p e (atom q ts) w ws h = refl
  ahead-state p e (defined q ts) w ws h = refl
  ahead-state p e (compare c x y) w ws h = refl
  ahead-state p e (goal_fact q xs) w ws h = refl
  ahead-state p e (goal_place k xs x) w ws h = refl
  ahead-state p e (goal_not q xs) w ws h = refl
  ahead-state p e (negation f) w ws h = ap not (ahead-state p e f w ws h)
  ahead-state p e (conjunction fs) w ws h = all-state p e fs w ws h
  ahead-state p e (disjunction fs) w ws h = one-state p e fs w ws h
  ahead-state p e (for_all ss b f) w ws h =
      ap (λ (q : List Value → Bool). list_all q (tuples (situation_of p.problem w) e ss b))
      (fun_ext (λ t. ahead-state p (bind ss t e) f w ws h))
  ahead-state p e (for_some ss b f) w ws h =
      ap (λ (q : List Value → Bool). list_any q (tuples (situation_of p.problem w) e ss b))
      (fun_ext (λ t. ahead-state p (bind ss t e) f w ws h))
  ahead-state p e (next f) w ws h = absurd h
  ahead-state p e (always f) w ws h = absurd h
  ahead-state p e (eventually f) w ws h = absurd h
  ahead-state p e (until f g) w ws h = absurd h
  ahead-state p e (within n f) w ws h = absurd h
  ahead-state p e (during n f) w ws h = absurd h

  all-state : (p : Course) (e : Assignment) (fs : FormulaTrees) (w : World) (ws : List World) → AreState fs → all_ahead p e fs (w ∷ ws) ≡
      all_true (situation_of p.problem w) e fs
  all-state p e no_formula w ws h = refl
  all-state p e (more_formulas f fs) w ws h = ap₂ ◌&&◌ (ahead-state p e f w ws h.0) (all-state p e fs w ws h.1)

  one-state : (p : Course) (e : Assignment) (fs : FormulaTrees) (w : World) (ws : List World) → AreState fs → one_ahead p e fs (w ∷ ws) ≡
      one_true (situation_of p.problem w) e fs
  one-state p e no_formula w ws h = refl
  one-state p e (more_formulas f fs) w ws h = ap₂ ◌||◌ (ahead-state p e f w ws h.0) (one-state p e fs w ws h.1)
