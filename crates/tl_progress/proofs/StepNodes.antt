-- Nodes of formulas that count states.
use Rattle.std.proofs.Common.{◌≡◌, ◌<◌, ◌-◌, ℕ, suc, List, [], ◌∷◌, true, Some, slice_get, length, refl, sym, ap, ap₂, ◌∙◌, subst}
use Rattle.tl_nodes.specs.declared.node.Node.{Node}
use Rattle.tl_nodes.specs.Fits.{fits}
use Rattle.tl_nodes.specs.Joins.{simplified_join}
use Rattle.tl_nodes.specs.NodeTrees.{tree_at, tree_of_node}
use Rattle.tl_nodes.proofs.FormulaLayers.{fits-Within, fits-During}
use Rattle.tl_nodes.proofs.TreesOfNodes.{at-there}
use Rattle.tl_syntax.specs.declared.junction.Junction.{Junction}
use Rattle.tl_syntax.specs.declared.junction.Junction.TheVariants.{All, Any}
use Rattle.tl_syntax.specs.Assignment.{Assignment}
use Rattle.tl_syntax.specs.Substitution.{substituted}
use Rattle.tl_syntax.specs.Trees.{FormulaTree}
use Rattle.tl_progress.specs.Steps.{within_or_during, step_node, steps_left}

step-fits : (junction : Junction) (ts : List FormulaTree) (n i : ℕ) → i < length ts → fits (length ts) (step_node junction n i) ≡ true
step-fits All ts n i h = fits-During ts n i _ (at-there ts i h)
step-fits Any ts n i h = fits-Within ts n i _ (at-there ts i h)

pub step-node-fits : (junction : Junction) (ts : List FormulaTree) (n i : ℕ) (a : Node) → a ≡ step_node junction n i → i < length ts →
    fits (length ts) a ≡ true
step-node-fits junction ts n i a e h = subst (λ (b : Node). fits (length ts) b ≡ true) (sym e) (step-fits junction ts n i h)

step-tree : (junction : Junction) (ts : List FormulaTree) (n i : ℕ) → tree_of_node ts (step_node junction n i) ≡
    within_or_during junction n (tree_at ts i)
unfolding tree_of_node
step-tree All ts n i = refl
step-tree Any ts n i = refl

pub none-left : (junction : Junction) (e : Assignment) (ts : List FormulaTree) (m answer part : ℕ) → m ≡ 0 → answer < length ts →
    slice_get ts answer ≡ Some (steps_left junction e m (tree_at ts answer) (tree_at ts part))
none-left junction e ts m answer part z h = at-there ts answer h ∙ ap (λ (n : ℕ).
    Some (steps_left junction e n (tree_at ts answer) (tree_at ts part))) (sym z)

pub fewer-left : (junction : Junction) (e : Assignment) (ts us : List FormulaTree) (m answer part fewer : ℕ) (a : Node) → a ≡
    step_node junction (m - 1) part → m ≡ suc (m - 1) → tree_at us answer ≡ tree_at ts answer → tree_at us fewer ≡ tree_of_node ts a
    → simplified_join junction (tree_at us answer ∷ substituted e (tree_at us fewer) ∷ []) ≡
    steps_left junction e m (tree_at ts answer) (tree_at ts part)
fewer-left junction e ts us m answer part fewer a is more h k =
    ap₂ (λ (g f : FormulaTree). simplified_join junction (g ∷ substituted e f ∷ [])) h
    (k ∙ (ap (tree_of_node ts) is ∙ step-tree junction ts (m - 1) part))
    ∙ sym (ap (λ (n : ℕ). steps_left junction e n (tree_at ts answer) (tree_at ts part)) more)
