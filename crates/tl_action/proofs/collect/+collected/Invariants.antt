use Rattle.std.proofs.Common.{◌+◌, map, drop, length}
use Rattle.tl_action.specs.Agreement.{EffectsLeave, EachLeaves}
use Rattle.tl_action.proofs.BoundTuples.{all, left}
use Rattle.tl_action.proofs.EffectSizes.{effect_nodes, effects_nodes}
use Rattle.tl_action.proofs.EffectLists.{EffectsPassed}
use Rattle.tl_action.proofs.EffectTuples.{TuplesPassed}
use Rattle.tl_eval.specs.BoundTuples.{ReadsBound}
use Rattle.tl_eval.specs.Frames.{assignment_in}
use Rattle.tl_syntax.specs.Signature.{signature_of}
use Rattle.tl_syntax.specs.TreeOfEffect.{tree_of_effect, tree_of_effects, effects_of_list}
use Rattle.tl_terms.specs.Definitions.{situation_of}
use Rattle.tl_terms.specs.ProblemMeaning.{plain_problem}
use Rattle.tl_action.proofs.collect.+collected.Given as goal

abbrev pub decreases-collect : goal.decreases-collect
decreases-collect l = effect_nodes (tree_of_effect l.effect.now)

abbrev pub decreases-collect_all : goal.decreases-collect_all
decreases-collect_all l = effects_nodes (tree_of_effects l.effects.now)

abbrev pub decreases-collect_each : goal.decreases-collect_each
decreases-collect_each l = 1 + effects_nodes (tree_of_effects l.each.now.effects.now)

abbrev pub invariant-collect_all-loop-effect : goal.invariant-collect_all-loop-effect
invariant-collect_all-loop-effect l = record {
  frame : EffectsLeave (signature_of l.here.task.now.problem.domain) (tree_of_effects l.effects) (assignment_in l.fn.env)
      (assignment_in l.env);
  passed : EffectsPassed (signature_of l.here.task.now.problem.domain) (plain_problem l.here.task.now.problem) l.here.world.now
      (assignment_in l.fn.env) (tree_of_effects l.effects) (effects_of_list (map tree_of_effect (drop l.effect-index l.effect-items)))
      l.fn.changes l.changes;
}

abbrev pub decreases-collect_each-loop-vars : goal.decreases-collect_each-loop-vars
decreases-collect_each-loop-vars l = length (left (situation_of (plain_problem l.here.task.now.problem) l.here.world.now)
    (assignment_in l.fn.env) l.vars l.each.bound.now l.tuples.tuple)

abbrev pub invariant-collect_each-loop-vars : goal.invariant-collect_each-loop-vars
invariant-collect_each-loop-vars l =
    let p = plain_problem l.here.task.now.problem in
    let s = situation_of p l.here.world.now in
    let e = assignment_in l.fn.env in
    record {
      reads : ReadsBound s l.vars e l.each.bound.now l.tuples;
      frame : EachLeaves (signature_of l.here.task.now.problem.domain) l.vars (tree_of_effects l.each.effects.now) e (assignment_in l.env);
      passed : TuplesPassed p l.here.world.now e l.vars (tree_of_effects l.each.effects.now) (all s e l.vars l.each.bound.now)
          (left s e l.vars l.each.bound.now l.tuples.tuple) l.fn.changes l.changes;
    }
