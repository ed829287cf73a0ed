-- What remains of formulas for the positions that follow, by their numbers.
use Rattle.std.specs.Prelude.{ℕ, List, [], ◌∷◌, Option}
use Rattle.tl_eval.specs.Frames.{assignment_in}
use Rattle.tl_nodes.specs.declared.nodes.Nodes.{Nodes}
use Rattle.tl_nodes.specs.Joins.{simplified_join}
use Rattle.tl_nodes.specs.NodeTrees.{tree_at}
use Rattle.tl_nodes.specs.Numbers.{trees}
use Rattle.tl_progress.specs.declared.remaining.PartAndRest.{PartAndRest}
use Rattle.tl_progress.specs.declared.remaining.StepsAnswer.{StepsAnswer}
use Rattle.tl_progress.specs.declared.remaining.UntilAnswers.{UntilAnswers}
use Rattle.tl_progress.specs.Steps.{steps_left}
use Rattle.tl_syntax.specs.declared.junction.Junction.TheVariants.{All, Any}
use Rattle.tl_syntax.specs.declared.value.Value.{Value}
use Rattle.tl_syntax.specs.Substitution.{substituted}
use Rattle.tl_syntax.specs.Trees.{FormulaTree}

-- a number's tree with the values of the frame put in
abbrev pub remaining_at : Nodes → List (Option Value) → ℕ → FormulaTree
remaining_at nodes frame i = substituted (assignment_in frame) (tree_at (trees nodes) i)

-- the join of a part and of what remains of a number's tree
abbrev pub with_remaining : Nodes → List (Option Value) → PartAndRest → FormulaTree
with_remaining nodes frame b = simplified_join b.junction (tree_at (trees nodes) b.part ∷
    substituted (assignment_in frame) (tree_at (trees nodes) b.at) ∷ [])

-- what has to hold next for an `until`, from that for its second part and its first
abbrev pub until_remaining : Nodes → List (Option Value) → UntilAnswers → FormulaTree
until_remaining nodes frame u = simplified_join Any (tree_at (trees nodes) u.second ∷
    simplified_join All (tree_at (trees nodes) u.first ∷ substituted (assignment_in frame) (tree_at (trees nodes) u.at) ∷ []) ∷ [])

-- what has to hold next for a formula that counts states, from that for its part
abbrev pub steps_left_at : Nodes → List (Option Value) → StepsAnswer → FormulaTree
steps_left_at nodes frame s = steps_left s.junction (assignment_in frame) s.steps (tree_at (trees nodes) s.answer)
    (tree_at (trees nodes) s.part)
