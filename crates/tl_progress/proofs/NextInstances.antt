-- What has to hold next for the instances of a quantifier, in tuple order.
use Rattle.std.proofs.Common.{◌≡◌, ℕ, List, [], map, false, Option, None, refl, ap, subst}
use Rattle.tl_nodes.specs.Joins.{simplified_join}
use Rattle.tl_syntax.specs.declared.bound.Bound.{Bound}
use Rattle.tl_syntax.specs.declared.junction.Junction.{Junction}
use Rattle.tl_syntax.specs.declared.junction.Junction.TheVariants.{All, Any}
use Rattle.tl_syntax.specs.declared.value.Value.{Value}
use Rattle.tl_syntax.specs.declared.variable.Var.{Var}
use Rattle.tl_syntax.specs.Assignment.{Assignment, bind}
use Rattle.tl_syntax.specs.Junctions.{quantified}
use Rattle.tl_syntax.specs.Lists.{Among}
use Rattle.tl_syntax.specs.Trees.{FormulaTree}
use Rattle.tl_terms.specs.Looked.{looks_of}
use Rattle.tl_terms.specs.Problem.{PlainProblem}
use Rattle.tl_terms.specs.Progression.{progressed}
use Rattle.tl_terms.specs.World.{World}
use Rattle.tl_eval.proofs.TupleRest.{all-after-none}
use Rattle.tl_eval.specs.declared.fault.EvalFault.{EvalFault}
use Rattle.tl_eval.specs.declared.fault.EvalFault.TheVariants as fault
use Rattle.tl_eval.specs.Faults.{IsCausedBy}
use Rattle.tl_progress.specs.Answers.{looked_for_residual, residual}
use Rattle.tl_progress.proofs.Instances.{all_tuples, left_after, quantified-looked}
use Rattle.tl_progress.proofs.Gathering.{Gathered, gather-begun}

module _ (p : PlainProblem) (w : World) (e : Assignment) (ss : List Var) (b : Bound) (f : FormulaTree) where
  -- what has to hold next for the instance
  abbrev pub instance_next : List Value → FormulaTree
  instance_next t = residual p w (bind ss t e) f

  -- and for the instances that are left after the tuple, or for all
  abbrev pub next_after : Option (List Value) → List FormulaTree
  next_after after = map instance_next (left_after p w e ss b f after)

  abbrev pub next_of_all : List FormulaTree
  next_of_all = map instance_next (all_tuples p w e ss b f)

  pub instances-begun : (junction : Junction) (us : List FormulaTree) (ids : List ℕ) → ids ≡ [] →
      Gathered junction us ids (next_after None) next_of_all
  instances-begun junction us ids k = subst (λ (fs : List FormulaTree). Gathered junction us ids fs next_of_all)
      (ap (map instance_next) (all-after-none (all_tuples p w e ss b f))) (gather-begun junction us ids next_of_all k)

  pub quantified-next : (junction : Junction) → simplified_join junction next_of_all ≡ residual p w e (quantified junction ss b f)
  unfolding simplified_join progressed
  quantified-next All = refl
  quantified-next Any = refl

  pub next-caused : (junction : Junction) (t : List Value) (x : EvalFault) → Among t (all_tuples p w e ss b f) →
      IsCausedBy (looked_for_residual p w (bind ss t e) f) x → IsCausedBy (looked_for_residual p w e (quantified junction ss b f)) x
  next-caused junction t (fault.Range m) is h = (quantified-looked p w e ss b f junction false (looks_of p w) t _ is h.0, h.1)
  next-caused junction t fault.NoMemory is h = tt
