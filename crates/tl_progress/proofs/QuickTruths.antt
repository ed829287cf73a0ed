-- A truth that is found whatever the problem.
use Rattle.std.proofs.Common.{◌≡◌, ℕ, List, Bool, Option, Some, None, IfSome, ◌∙◌}
use Rattle.tl_nodes.specs.NodeTrees.{tree_at}
use Rattle.tl_syntax.specs.Assignment.{Assignment}
use Rattle.tl_syntax.specs.Trees.{FormulaTree}
use Rattle.tl_terms.specs.Definitions.{situation_of}
use Rattle.tl_terms.specs.Problem.{PlainProblem}
use Rattle.tl_terms.specs.Truth.{state_true}
use Rattle.tl_terms.specs.World.{World}
use Rattle.tl_progress.specs.Answers.{idly_true}

pub plain-in : (p : PlainProblem) (w : World) (e : Assignment) (ts : List FormulaTree) (at : ℕ) (f : FormulaTree) (r : Option Bool) →
    state_true (situation_of p w) e f ≡ idly_true p w e (tree_at ts at)
    → IfSome r (λ b. (q : PlainProblem) → b ≡ state_true (situation_of q w) e f) → IfSome r (λ b. b ≡ idly_true p w e (tree_at ts at))
plain-in p w e ts at f None q h = tt
plain-in p w e ts at f (Some b) q h = h p ∙ q
