-- The truth of a formula in the first of some worlds that the others follow, and after the last of
-- them those that come again and again.
use Rattle.std.specs.Prelude.{List, [], ◌∷◌, ◌++◌, Bool, true, false, map, not, ◌&&◌, ◌||◌}
use Rattle.std.specs.List.{list_any, list_all}
use Rattle.tl_check.specs.Passes.{first_or, next_labels, always_labels, eventually_labels, until_labels, within_labels}
use Rattle.tl_syntax.specs.Assignment.{Assignment, bind}
use Rattle.tl_syntax.specs.Trees.{FormulaTree, FormulaTrees, verum, falsum, atom, defined, compare, goal_fact, goal_place, goal_not}
use Rattle.tl_syntax.specs.Trees.{negation, conjunction, disjunction, for_all, for_some, next, always, eventually, until, within, during}
use Rattle.tl_syntax.specs.Trees.{no_formula, more_formulas}
use Rattle.tl_terms.specs.Bounds.{tuples}
use Rattle.tl_terms.specs.Definitions.{situation_of}
use Rattle.tl_terms.specs.Problem.{PlainProblem}
use Rattle.tl_terms.specs.Situation.{Situation}
use Rattle.tl_terms.specs.Truth.{state_true}
use Rattle.tl_terms.specs.World.{World}

-- the problem of which worlds are states, and the worlds that come after the last of them, again
-- and again
pub record Course : Type 0 where
  pub problem : PlainProblem
  pub again : List World

-- a test of some worlds in their order
abbrev pub Ahead : Type 0
Ahead = List World → Bool

-- the test at each of the worlds, the others after it following
abbrev pub marks : Ahead → List World → List Bool
marks t [] = []
marks t (w ∷ ws) = t (w ∷ ws) ∷ marks t ws

-- the test at each of the worlds, and then at each of those that come again: no position that comes
-- later has another label
abbrev pub marks_on : Course → Ahead → List World → List Bool
marks_on c t ws = marks t ws ++ marks t c.again

-- the first label, where there is one
abbrev pub first_of : List Bool → Bool
first_of bs = first_or false bs

-- the test of the first world, where there is one
abbrev pub in_first : PlainProblem → (Situation → Bool) → Ahead
in_first p t [] = false
in_first p t (w ∷ ws) = t (situation_of p w)

-- the formula in the first world; of a temporal word it is the first of the labels that the word
-- makes of those of its part, or parts
unfoldable mutual
  pub true_ahead : Course → Assignment → FormulaTree → Ahead
  true_ahead c e verum ws = true
  true_ahead c e falsum ws = false
  true_ahead c e (atom q ts) ws = in_first c.problem (λ s. state_true s e (atom q ts)) ws
  true_ahead c e (defined q ts) ws = in_first c.problem (λ s. state_true s e (defined q ts)) ws
  true_ahead c e (compare o x y) ws = in_first c.problem (λ s. state_true s e (compare o x y)) ws
  true_ahead c e (goal_fact q xs) ws = in_first c.problem (λ s. state_true s e (goal_fact q xs)) ws
  true_ahead c e (goal_place k xs x) ws = in_first c.problem (λ s. state_true s e (goal_place k xs x)) ws
  true_ahead c e (goal_not q xs) ws = in_first c.problem (λ s. state_true s e (goal_not q xs)) ws
  true_ahead c e (negation f) ws = not (true_ahead c e f ws)
  true_ahead c e (conjunction fs) ws = all_ahead c e fs ws
  true_ahead c e (disjunction fs) ws = one_ahead c e fs ws
  true_ahead c e (for_all ss b f) ws = in_first c.problem (λ s. list_all (λ t. true_ahead c (bind ss t e) f ws) (tuples s e ss b)) ws
  true_ahead c e (for_some ss b f) ws = in_first c.problem (λ s. list_any (λ t. true_ahead c (bind ss t e) f ws) (tuples s e ss b)) ws
  true_ahead c e (next f) ws = first_of (next_labels (marks_on c (true_ahead c e f) ws))
  true_ahead c e (always f) ws = first_of (always_labels (marks_on c (true_ahead c e f) ws))
  true_ahead c e (eventually f) ws = first_of (eventually_labels (marks_on c (true_ahead c e f) ws))
  true_ahead c e (until f g) ws = first_of (until_labels (marks_on c (true_ahead c e f) ws) (marks_on c (true_ahead c e g) ws))
  true_ahead c e (within n f) ws = first_of (within_labels n (marks_on c (true_ahead c e f) ws))
  true_ahead c e (during n f) ws = first_of (map not (within_labels n (map not (marks_on c (true_ahead c e f) ws))))

  pub all_ahead : Course → Assignment → FormulaTrees → Ahead
  all_ahead c e no_formula ws = true
  all_ahead c e (more_formulas f fs) ws = true_ahead c e f ws && all_ahead c e fs ws

  pub one_ahead : Course → Assignment → FormulaTrees → Ahead
  one_ahead c e no_formula ws = false
  one_ahead c e (more_formulas f fs) ws = true_ahead c e f ws || one_ahead c e fs ws
