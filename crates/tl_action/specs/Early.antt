-- Parts of a precondition that are tested before all parameters have values.
use Rattle.std.specs.Prelude.{◌≡◌, ◌==◌, ◌&&◌, ℕ, List, drop, take, Bool, true, false, Option, IsTrue}
use Rattle.std.specs.List.{list_any}
use Rattle.tl_action.specs.declared.arranged.Arranged.{Arranged}
use Rattle.tl_action.specs.declared.here.Here.{Here}
use Rattle.tl_action.specs.Join.{arranged, stands_in_one, IsFound}
use Rattle.tl_action.specs.UnderFrames.{problem_here, situation_here}
use Rattle.tl_eval.specs.Frames.{assignment_in}
use Rattle.tl_syntax.specs.declared.formula.Formula.{Formula}
use Rattle.tl_syntax.specs.declared.formula.Formulas.{Formulas}
use Rattle.tl_syntax.specs.declared.value.Value.{Value}
use Rattle.tl_syntax.specs.declared.variable.Var.{Var}
use Rattle.tl_syntax.specs.Assignment.{Assignment}
use Rattle.tl_syntax.specs.Lists.{Each}
use Rattle.tl_syntax.specs.TreeOfFormula.{tree_of_formula, tree_of_formulas}
use Rattle.tl_syntax.specs.Trees.{TermTree, variable, value, place, arith}
use Rattle.tl_terms.specs.ProblemMeaning.{plain_operator}
use Rattle.tl_terms.specs.Situation.{Situation}
use Rattle.tl_terms.specs.Truth.{state_true, all_true}

-- the variable has the slot, and stands in one of the first j bounds that are joined
abbrev pub is_known_as : Arranged → ℕ → ℕ → Var → Bool
is_known_as a j q s = (s.slot == q) && stands_in_one (take j (arranged a).bounds) s

-- a parameter of the slot does
abbrev pub is_known_slot : Arranged → ℕ → ℕ → Bool
is_known_slot a j q = list_any (is_known_as a j q) a.operator.now.params

-- the term is a value or such a parameter
abbrev pub is_known_term : Arranged → ℕ → TermTree → Bool
is_known_term a j (variable s) = is_known_slot a j s.slot
is_known_term a j (value v) = true
is_known_term a j (place f ts) = false
is_known_term a j (arith op s t at) = false

-- each of the slots is that of such a parameter
abbrev pub AreKnown : Arranged → ℕ → List ℕ → Type 0
AreKnown a j qs = Each (λ q. IsTrue (is_known_slot a j q)) qs

-- where the part is false, so is the precondition
abbrev pub IsConjunct : Formula → Formula → Type 0
IsConjunct pre part = (s : Situation) (e : Assignment) → state_true s e (tree_of_formula part) ≡ false →
    state_true s e (tree_of_formula pre) ≡ false

-- where the part is false, so is the conjunction
abbrev pub IsAmongParts : Formulas → Formula → Type 0
IsAmongParts parts part = (s : Situation) (e : Assignment) → state_true s e (tree_of_formula part) ≡ false →
    all_true s e (tree_of_formulas parts) ≡ false

-- it is the truth of the formula in the world under the frame
abbrev pub IsTruthHere : Here → List (Option Value) → Formula → Bool → Type 0
IsTruthHere here frame f b = b ≡ state_true (situation_here here) (assignment_in frame) (tree_of_formula f)

-- no row that completes the frame from the j-th bound on is one with which the operator can be
-- applied
abbrev pub HasNoneFoundUnder : Here → Arranged → List (Option Value) → ℕ → Type 0
HasNoneFoundUnder here a frame j = (t : List Value) → ¬ IsFound (problem_here here) here.world.now (plain_operator (arranged a))
    (take j (arranged a).bounds) (drop j (arranged a).bounds) (assignment_in frame) t
