-- What is gathered of a quantifier's instances, from one to the next.
use Rattle.std.proofs.Common.{◌≡◌, ◌<◌, ℕ, List, [], ◌∷◌, ◌++◌, map, Bool, true, length, Option, Some, slice_get, sym, ap, ◌∙◌, subst}
use Rattle.tl_eval.specs.Frames.{assignment_in}
use Rattle.tl_nodes.specs.Fits.{all_below}
use Rattle.tl_nodes.specs.Joins.{simplified_join}
use Rattle.tl_nodes.specs.NodeTrees.{tree_at, trees_at}
use Rattle.tl_nodes.specs.Numbering.{Keeps}
use Rattle.tl_syntax.specs.declared.bound.Bound.{Bound}
use Rattle.tl_syntax.specs.declared.junction.Junction.{Junction}
use Rattle.tl_syntax.specs.declared.value.Value.{Value}
use Rattle.tl_syntax.specs.declared.variable.Var.{Var}
use Rattle.tl_syntax.specs.Assignment.{Assignment, bind}
use Rattle.tl_syntax.specs.Junctions.{deciding_truth, quantified}
use Rattle.tl_syntax.specs.Trees.{FormulaTree}
use Rattle.tl_terms.specs.Problem.{PlainProblem}
use Rattle.tl_terms.specs.Progression.{constant}
use Rattle.tl_terms.specs.Situation.{Situation}
use Rattle.tl_terms.specs.World.{World}
use Rattle.tl_world.specs.MatchReading.{Reading}
use Rattle.tl_eval.specs.declared.fault.EvalFault.{EvalFault}
use Rattle.tl_progress.specs.declared.quantifier.Quantifier.{Quantifier}
use Rattle.tl_eval.specs.Faults.{IsCausedBy}
use Rattle.tl_progress.specs.Answers.{looked_for_residual, residual}
use Rattle.tl_progress.specs.Quantifiers.{HasStepped, Stands, bound_in, node_bound, node_vars, quantified_in, vars_in}
use Rattle.tl_progress.proofs.Gathering.{Gathered, below-still, gather-on, gather-decided, gather-end}
use Rattle.tl_progress.proofs.Instances.{left_after}
use Rattle.tl_progress.proofs.InstanceSteps.{HasCome}
use Rattle.tl_progress.proofs.NextInstances.{instance_next, next_after, next_of_all, next-caused, quantified-next}
use Rattle.tl_progress.proofs.PutLayers.{stays}

module _ (p : PlainProblem) (w : World) (e : Assignment) (ss : List Var) (b : Bound) (f : FormulaTree) (junction : Junction) where
  -- no instance is left
  pub gathered-all : (us : List FormulaTree) (ids : List ℕ) (before : Option (List Value)) →
      Gathered junction us ids (next_after p w e ss b f before) (next_of_all p w e ss b f) → left_after p w e ss b f before ≡ []
      → simplified_join junction (trees_at us ids) ≡ residual p w e (quantified junction ss b f)
  gathered-all us ids before was none =
      gather-end junction us ids (next_after p w e ss b f before) (next_of_all p w e ss b f) was
      (ap (map (instance_next p w e ss b f)) none) ∙ quantified-next p w e ss b f junction

  module _ (before after : Option (List Value)) (new : List (Option Value)) (come : HasCome p w e ss b f before after new) (g : FormulaTree)
      (same : g ≡ f) where
    pub instance-caused : (x : EvalFault) → IsCausedBy (looked_for_residual p w (assignment_in new) g) x →
        IsCausedBy (looked_for_residual p w e (quantified junction ss b f)) x
    instance-caused x h =
        next-caused p w e ss b f junction come.tuple x come.among
        (subst (λ (h : FormulaTree). IsCausedBy (looked_for_residual p w (bind ss come.tuple e) h) x) same
        (subst (λ (d : Assignment). IsCausedBy (looked_for_residual p w d g) x) come.here h))

    module _ (us vs : List FormulaTree) (kept : Keeps us vs) (ids : List ℕ)
        (was : Gathered junction us ids (next_after p w e ss b f before) (next_of_all p w e ss b f)) (id : ℕ)
        (there : slice_get vs id ≡ Some (residual p w (assignment_in new) g)) where
      was-more : Gathered junction us ids (instance_next p w e ss b f come.tuple ∷ next_after p w e ss b f after) (next_of_all p w e ss b f)
      was-more = subst (λ (ts : List (List Value)). Gathered junction us ids (map (instance_next p w e ss b f) ts)
          (next_of_all p w e ss b f)) come.left was

      now-there : slice_get vs id ≡ Some (instance_next p w e ss b f come.tuple)
      now-there = subst (λ (h : FormulaTree). slice_get vs id ≡ Some (residual p w (bind ss come.tuple e) h)) same
          (subst (λ (d : Assignment). slice_get vs id ≡ Some (residual p w d g)) come.here there)

      pub instance-decides : tree_at vs id ≡ constant (deciding_truth junction) → slice_get vs id ≡
          Some (residual p w e (quantified junction ss b f))
      instance-decides h =
          gather-decided junction us vs kept ids (instance_next p w e ss b f come.tuple) (next_after p w e ss b f after)
          (next_of_all p w e ss b f) was-more id now-there h
          ∙ ap (λ (h : FormulaTree). Some h) (quantified-next p w e ss b f junction)

      pub instances-below : all_below (length vs) ids ≡ true
      instances-below = below-still junction us vs kept ids (instance_next p w e ss b f come.tuple) (next_after p w e ss b f after)
          (next_of_all p w e ss b f) was-more id now-there

      pub instance-gathered : (js : List ℕ) → all_below (length vs) js ≡ true →
          ((rest : List FormulaTree) → simplified_join junction (trees_at vs js ++ rest) ≡
          simplified_join junction (trees_at vs ids ++ tree_at vs id ∷ rest))
          → Gathered junction vs js (next_after p w e ss b f after) (next_of_all p w e ss b f)
      instance-gathered js k more = gather-on junction us vs kept ids (instance_next p w e ss b f come.tuple)
          (next_after p w e ss b f after) (next_of_all p w e ss b f) was-more id now-there js k more

-- the quantifier of a node, while the table of nodes grows
module _ (ts us : List FormulaTree) (kept : Keeps ts us) (q : Quantifier) (at : q.at < length ts) where
  pub same-node : tree_at us q.at ≡ tree_at ts q.at
  same-node = stays ts us kept q.at at

  pub stands-still : q.part < length ts → Stands ts q → Stands us q
  stands-still part h =
      subst (λ (f : FormulaTree). f ≡ quantified_in f q (tree_at us q.part)) (sym same-node)
      (subst (λ (g : FormulaTree). tree_at ts q.at ≡ quantified_in (tree_at ts q.at) q g) (sym (stays ts us kept q.part part)) h)

  pub stepped-then : (s : Situation) (before after : Reading) (old new : List (Option Value)) (found : Bool) →
      HasStepped s (node_vars us q) (node_bound us q) before after old new found →
      HasStepped s (node_vars ts q) (node_bound ts q) before after old new found
  stepped-then s before after old new found h = subst (λ (f : FormulaTree).
      HasStepped s (vars_in f) (bound_in f) before after old new found) same-node h
