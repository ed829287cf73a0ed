use Rattle.std.proofs.Common.{◌<◌, List, length, Option, Some, refl, sym, ap, ◌∙◌, subst, arith}
use Rattle.tl_action.proofs.EffectParts.{CollectsAll, reads-Add, reads-Del, reads-Assign, at-Add, at-Del, at-Assign, agree-self, frame-same}
use Rattle.tl_action.proofs.EffectParts.{reads-When, when-true, when-false, when-noted, frame-When, reads-Each, at-Each, frame-Each}
use Rattle.tl_action.proofs.EffectParts.{inner-reads, frame-after}
use Rattle.tl_action.proofs.EffectLists.{effects-begun, item-smaller, item-reads, frame-on, item-on, item-undefined, item-fault}
use Rattle.tl_action.proofs.EffectLists.{effects-all}
use Rattle.tl_action.proofs.EffectTuples.{TuplesPassed, tuples-begun, tuple-on, tuple-undefined, tuple-fault, tuples-all}
use Rattle.tl_action.proofs.BoundTuples.{all, left, none-done, first-left, none-left, fewer-left}
use Rattle.tl_eval.specs.Frames.{assignment_in}
use Rattle.tl_syntax.specs.declared.value.Value.{Value}
use Rattle.tl_syntax.specs.declared.variable.Var.{Var}
use Rattle.tl_syntax.specs.Assignment.{bind}
use Rattle.tl_syntax.specs.Lists.{Each}
use Rattle.tl_syntax.specs.Signature.{signature_of}
use Rattle.tl_syntax.specs.TreeOfEffect.{tree_of_effect, tree_of_effects}
use Rattle.tl_terms.specs.Bounds.{tuples}
use Rattle.tl_terms.specs.Definitions.{situation_of}
use Rattle.tl_terms.specs.ProblemMeaning.{plain_problem}
use Rattle.tl_action.proofs.collect.+collected.Goals as goal

pub collect-collect_fact-requires : goal.collect-collect_fact-requires
collect-collect_fact-requires t c =
    reads-Add (signature_of c.args.here.now.task.now.problem.domain) c.args.effect.now c.in-Add.pred c.in-Add.args c.in-Add.is c.requires

pub collect-collect_fact-requires-in-Del : goal.collect-collect_fact-requires-in-Del
collect-collect_fact-requires-in-Del t c =
    reads-Del (signature_of c.args.here.now.task.now.problem.domain) c.args.effect.now c.in-Del.pred c.in-Del.args c.in-Del.is c.requires

pub collect-collect_place-requires-clause-args : goal.collect-collect_place-requires-clause-args
collect-collect_place-requires-clause-args t c =
    let reads = reads-Assign (signature_of c.args.here.now.task.now.problem.domain) c.args.effect.now c.in-Assign.fun c.in-Assign.args
    c.in-Assign.value c.in-Assign.is c.requires in reads.0

pub collect-collect_place-requires-clause-value : goal.collect-collect_place-requires-clause-value
collect-collect_place-requires-clause-value t c =
    let reads = reads-Assign (signature_of c.args.here.now.task.now.problem.domain) c.args.effect.now c.in-Assign.fun c.in-Assign.args
    c.in-Assign.value c.in-Assign.is c.requires in reads.1

pub collect-returns-in-Add-clause-changes : goal.collect-returns-in-Add-clause-changes
collect-returns-in-Add-clause-changes t c =
    at-Add (plain_problem c.args.here.now.task.now.problem) c.args.here.now.world.now
    (assignment_in c.args.env.now) c.args.effect.now c.args.changes.now c.collect_fact.result c.in-Add.pred c.in-Add.args
    c.collect_fact.new.facts c.in-Add.is c.collect_fact.ensures.fact

pub collect-returns-in-Add-clause-frame : goal.collect-returns-in-Add-clause-frame
collect-returns-in-Add-clause-frame t c =
    frame-same (signature_of c.args.here.now.task.now.problem.domain) (tree_of_effect c.args.effect.now)
    (assignment_in c.collect_fact.new.env) (assignment_in c.args.env.now) (ap assignment_in c.collect_fact.ensures.frame)

pub collect-returns-in-Del-clause-changes : goal.collect-returns-in-Del-clause-changes
collect-returns-in-Del-clause-changes t c =
    at-Del (plain_problem c.args.here.now.task.now.problem) c.args.here.now.world.now
    (assignment_in c.args.env.now) c.args.effect.now c.args.changes.now c.collect_fact-in-Del.result c.in-Del.pred c.in-Del.args
    c.collect_fact-in-Del.new.facts c.in-Del.is c.collect_fact-in-Del.ensures.fact

pub collect-returns-in-Del-clause-frame : goal.collect-returns-in-Del-clause-frame
collect-returns-in-Del-clause-frame t c =
    frame-same (signature_of c.args.here.now.task.now.problem.domain) (tree_of_effect c.args.effect.now)
    (assignment_in c.collect_fact-in-Del.new.env) (assignment_in c.args.env.now) (ap assignment_in c.collect_fact-in-Del.ensures.frame)

pub collect-returns-in-Assign-clause-changes : goal.collect-returns-in-Assign-clause-changes
collect-returns-in-Assign-clause-changes t c =
    at-Assign (plain_problem c.args.here.now.task.now.problem) c.args.here.now.world.now
    (assignment_in c.args.env.now) c.args.effect.now c.args.changes.now c.collect_place.result c.in-Assign.fun c.in-Assign.args
    c.in-Assign.value c.collect_place.new.places c.in-Assign.is c.collect_place.ensures.place

pub collect-returns-in-Assign-clause-frame : goal.collect-returns-in-Assign-clause-frame
collect-returns-in-Assign-clause-frame t c =
    frame-same (signature_of c.args.here.now.task.now.problem.domain) (tree_of_effect c.args.effect.now)
    (assignment_in c.collect_place.new.env) (assignment_in c.args.env.now) (ap assignment_in c.collect_place.ensures.frame)

pub collect-state-requires-clause-fits : goal.collect-state-requires-clause-fits
collect-state-requires-clause-fits t c =
    let reads = reads-When (signature_of c.args.here.now.task.now.problem.domain) c.args.effect.now c.in-When.condition c.in-When.effects
    c.in-When.is c.requires in
    reads.fits

pub collect-state-requires-clause-state : goal.collect-state-requires-clause-state
collect-state-requires-clause-state t c =
    let reads = reads-When (signature_of c.args.here.now.task.now.problem.domain) c.args.effect.now c.in-When.condition c.in-When.effects
    c.in-When.is c.requires in
    reads.state

pub collect-collect_all-requires : goal.collect-collect_all-requires
collect-collect_all-requires t c =
    let reads = reads-When (signature_of c.args.here.now.task.now.problem.domain) c.args.effect.now c.in-When.condition c.in-When.effects
    c.in-When.is c.requires in
    (omega (arith, reads.smaller, c.decreases), reads.effects)

pub collect-returns-in-Ok-true-clause-changes : goal.collect-returns-in-Ok-true-clause-changes
collect-returns-in-Ok-true-clause-changes t c =
    when-true (plain_problem c.args.here.now.task.now.problem) c.args.here.now.world.now
    (assignment_in c.args.env.now) c.args.effect.now c.in-When.condition c.in-When.effects c.in-When.is c.args.changes.now
    (sym c.in-Ok-true.field-0-test ∙ c.in-Ok-true.ensures.value) c.collect_all.new.changes c.collect_all.result
    (subst (λ env. CollectsAll (plain_problem c.args.here.now.task.now.problem) c.args.here.now.world.now (assignment_in env)
    (tree_of_effects c.in-When.effects) c.args.changes.now c.collect_all.new.changes c.collect_all.result) c.state.ensures.frame
    c.collect_all.ensures.changes)

pub collect-returns-in-Ok-true-clause-frame : goal.collect-returns-in-Ok-true-clause-frame
collect-returns-in-Ok-true-clause-frame t c =
    frame-When (signature_of c.args.here.now.task.now.problem.domain) c.args.effect.now c.in-When.condition c.in-When.effects
    (assignment_in c.state.new.env) (assignment_in c.collect_all.new.env) (assignment_in c.args.env.now) c.in-When.is
    (ap assignment_in c.state.ensures.frame) c.collect_all.ensures.frame

pub collect-returns-in-Ok-false-clause-changes : goal.collect-returns-in-Ok-false-clause-changes
collect-returns-in-Ok-false-clause-changes t c =
    when-false (plain_problem c.args.here.now.task.now.problem) c.args.here.now.world.now
    (assignment_in c.args.env.now) c.args.effect.now c.in-When.condition c.in-When.effects c.in-When.is c.args.changes.now
    (sym c.in-Ok-false.field-0-test ∙ c.in-Ok-false.ensures.value)

pub collect-returns-in-Ok-false-clause-frame : goal.collect-returns-in-Ok-false-clause-frame
collect-returns-in-Ok-false-clause-frame t c =
    frame-same (signature_of c.args.here.now.task.now.problem.domain) (tree_of_effect c.args.effect.now) (assignment_in c.state.new.env)
    (assignment_in c.args.env.now) (ap assignment_in c.state.ensures.frame)

pub collect-returns-in-Err-clause-changes : goal.collect-returns-in-Err-clause-changes
collect-returns-in-Err-clause-changes t c =
    when-noted (plain_problem c.args.here.now.task.now.problem) c.args.here.now.world.now
    (assignment_in c.args.env.now) c.args.effect.now c.in-When.condition c.in-When.effects c.in-When.is c.args.changes.now c.in-Err.note
    c.in-Err.ensures.note c.args.changes.now

pub collect-returns-in-Err-clause-frame : goal.collect-returns-in-Err-clause-frame
collect-returns-in-Err-clause-frame t c =
    frame-same (signature_of c.args.here.now.task.now.problem.domain) (tree_of_effect c.args.effect.now) (assignment_in c.state.new.env)
    (assignment_in c.args.env.now) (ap assignment_in c.state.ensures.frame)

pub collect-collect_each-requires : goal.collect-collect_each-requires
collect-collect_each-requires t c =
    let reads = reads-Each (signature_of c.args.here.now.task.now.problem.domain) c.args.effect.now c.in-Each.vars c.in-Each.bound
    c.in-Each.effects c.in-Each.is c.requires in
    (omega (arith, reads.smaller, c.decreases), (reads.effects, (reads.variables.differ, (reads.variables.occur, reads.variables.bound))))

pub collect-returns-in-Each-clause-changes : goal.collect-returns-in-Each-clause-changes
collect-returns-in-Each-clause-changes t c =
    at-Each (plain_problem c.args.here.now.task.now.problem) c.args.here.now.world.now
    (assignment_in c.args.env.now) c.args.effect.now c.in-Each.vars c.in-Each.bound c.in-Each.effects
    (tuples (situation_of (plain_problem c.args.here.now.task.now.problem) c.args.here.now.world.now)
    (assignment_in c.args.env.now) c.in-Each.vars c.in-Each.bound) c.args.changes.now c.collect_each.new.changes c.collect_each.result
    c.in-Each.is refl c.collect_each.ensures.changes

pub collect-returns-in-Each-clause-frame : goal.collect-returns-in-Each-clause-frame
collect-returns-in-Each-clause-frame t c =
    frame-Each (signature_of c.args.here.now.task.now.problem.domain) c.args.effect.now c.in-Each.vars c.in-Each.bound c.in-Each.effects
    (assignment_in c.collect_each.new.env) (assignment_in c.args.env.now) c.in-Each.is c.collect_each.ensures.frame

pub collect_all-loop-effect-init : goal.collect_all-loop-effect-init
collect_all-loop-effect-init t c =
    record {
      frame = λ around fits. agree-self around (assignment_in c.args.env.now);
      passed = effects-begun (signature_of c.args.here.now.task.now.problem.domain)
          (plain_problem c.args.here.now.task.now.problem) c.args.here.now.world.now
          (assignment_in c.args.env.now) c.args.effects.now c.as_slice-effect-items.result.now c.args.changes.now
          c.as_slice-effect-items.ensures c.requires.state;
    }

pub collect_all-collect-requires : goal.collect_all-collect-requires
collect_all-collect-requires t c =
    let smaller = item-smaller (signature_of c.args.here.now.task.now.problem.domain)
    (plain_problem c.args.here.now.task.now.problem) c.args.here.now.world.now (assignment_in c.args.env.now)
    (tree_of_effects c.args.effects.now) c.as_slice-effect-items.result.now c.loop-effect.effect-index c.effect-item.result
    c.loop-effect-test.true c.effect-item.is c.args.changes.now c.loop-effect.changes c.loop-effect.invariant.passed in (
      omega (arith, smaller, c.decreases),
      item-reads (signature_of c.args.here.now.task.now.problem.domain)
          (plain_problem c.args.here.now.task.now.problem) c.args.here.now.world.now (assignment_in c.args.env.now)
          (tree_of_effects c.args.effects.now) c.as_slice-effect-items.result.now c.loop-effect.effect-index c.effect-item.result
          c.loop-effect-test.true c.effect-item.is c.args.changes.now c.loop-effect.changes c.loop-effect.invariant.passed c.requires,
    )

pub collect_all-returns-in-Ok-false-clause-changes : goal.collect_all-returns-in-Ok-false-clause-changes
collect_all-returns-in-Ok-false-clause-changes t c =
    item-undefined (signature_of c.args.here.now.task.now.problem.domain)
    (plain_problem c.args.here.now.task.now.problem) c.args.here.now.world.now (assignment_in c.args.env.now)
    (tree_of_effects c.args.effects.now) c.as_slice-effect-items.result.now c.loop-effect.effect-index c.effect-item.result
    c.loop-effect-test.true c.effect-item.is c.args.changes.now c.loop-effect.changes c.loop-effect.invariant.passed c.requires
    (assignment_in c.loop-effect.env) c.loop-effect.invariant.frame c.collect.new.changes c.in-Ok-false.field-0
    c.in-Ok-false.field-0-test c.in-Ok-false.ensures.changes

pub collect_all-returns-in-Ok-false-clause-frame : goal.collect_all-returns-in-Ok-false-clause-frame
collect_all-returns-in-Ok-false-clause-frame t c =
    frame-on (signature_of c.args.here.now.task.now.problem.domain) (plain_problem c.args.here.now.task.now.problem)
    c.args.here.now.world.now (assignment_in c.args.env.now) (tree_of_effects c.args.effects.now) c.as_slice-effect-items.result.now
    c.loop-effect.effect-index c.effect-item.result c.loop-effect-test.true c.effect-item.is c.args.changes.now c.loop-effect.changes
    c.loop-effect.invariant.passed (assignment_in c.loop-effect.env)
    (assignment_in c.collect.new.env) c.loop-effect.invariant.frame c.collect.ensures.frame

pub collect_all-returns-in-Err-clause-changes : goal.collect_all-returns-in-Err-clause-changes
collect_all-returns-in-Err-clause-changes t c =
    item-fault (signature_of c.args.here.now.task.now.problem.domain) (plain_problem c.args.here.now.task.now.problem)
    c.args.here.now.world.now (assignment_in c.args.env.now) (tree_of_effects c.args.effects.now) c.as_slice-effect-items.result.now
    c.loop-effect.effect-index c.effect-item.result c.loop-effect-test.true c.effect-item.is c.args.changes.now c.loop-effect.changes
    c.loop-effect.invariant.passed c.requires (assignment_in c.loop-effect.env) c.loop-effect.invariant.frame c.in-Err.fault
    c.in-Err.ensures.changes

pub collect_all-returns-in-Err-clause-frame : goal.collect_all-returns-in-Err-clause-frame
collect_all-returns-in-Err-clause-frame t c =
    frame-on (signature_of c.args.here.now.task.now.problem.domain) (plain_problem c.args.here.now.task.now.problem)
    c.args.here.now.world.now (assignment_in c.args.env.now) (tree_of_effects c.args.effects.now) c.as_slice-effect-items.result.now
    c.loop-effect.effect-index c.effect-item.result c.loop-effect-test.true c.effect-item.is c.args.changes.now c.loop-effect.changes
    c.loop-effect.invariant.passed (assignment_in c.loop-effect.env)
    (assignment_in c.collect.new.env) c.loop-effect.invariant.frame c.collect.ensures.frame

pub collect_all-loop-effect-preserved : goal.collect_all-loop-effect-preserved
collect_all-loop-effect-preserved t c =
    record {
      frame = frame-on (signature_of c.args.here.now.task.now.problem.domain)
          (plain_problem c.args.here.now.task.now.problem) c.args.here.now.world.now (assignment_in c.args.env.now)
          (tree_of_effects c.args.effects.now) c.as_slice-effect-items.result.now c.loop-effect.effect-index c.effect-item.result
          c.loop-effect-test.true c.effect-item.is c.args.changes.now c.loop-effect.changes c.loop-effect.invariant.passed
          (assignment_in c.loop-effect.env) (assignment_in c.collect.new.env) c.loop-effect.invariant.frame c.collect.ensures.frame;
      passed = item-on (signature_of c.args.here.now.task.now.problem.domain)
          (plain_problem c.args.here.now.task.now.problem) c.args.here.now.world.now (assignment_in c.args.env.now)
          (tree_of_effects c.args.effects.now) c.as_slice-effect-items.result.now c.loop-effect.effect-index c.effect-item.result
          c.loop-effect-test.true c.effect-item.is c.args.changes.now c.loop-effect.changes c.loop-effect.invariant.passed c.requires
          (assignment_in c.loop-effect.env) c.loop-effect.invariant.frame c.collect.new.changes c.in-Ok-true.field-0
          c.in-Ok-true.field-0-test c.in-Ok-true.ensures.changes;
    }

pub collect_all-returns-clause-changes : goal.collect_all-returns-clause-changes
collect_all-returns-clause-changes t c =
    effects-all (signature_of c.args.here.now.task.now.problem.domain)
    (plain_problem c.args.here.now.task.now.problem) c.args.here.now.world.now (assignment_in c.args.env.now)
    (tree_of_effects c.args.effects.now) c.as_slice-effect-items.result.now c.loop-effect.effect-index c.args.changes.now
    c.loop-effect.changes c.loop-effect-test.false c.loop-effect.invariant.passed

pub collect_each-loop-vars-init : goal.collect_each-loop-vars-init
collect_each-loop-vars-init t c =
    record {
      reads = c.tuples-tuples.ensures.reads c.args.each.now.vars.now (assignment_in c.args.env.now) c.open_in_place.ensures.stands;
      frame = λ around fresh fits. agree-self around (assignment_in c.args.env.now);
      passed = tuples-begun (plain_problem c.args.here.now.task.now.problem) c.args.here.now.world.now
          (assignment_in c.args.env.now) c.args.each.now.vars.now (tree_of_effects c.args.each.now.effects.now)
          (all (situation_of (plain_problem c.args.here.now.task.now.problem) c.args.here.now.world.now)
          (assignment_in c.args.env.now) c.args.each.now.vars.now c.args.each.now.bound.now)
          (left (situation_of (plain_problem c.args.here.now.task.now.problem) c.args.here.now.world.now)
          (assignment_in c.args.env.now) c.args.each.now.vars.now c.args.each.now.bound.now c.tuples-tuples.result.tuple) c.args.changes.now
          (ap (left (situation_of (plain_problem c.args.here.now.task.now.problem) c.args.here.now.world.now)
          (assignment_in c.args.env.now) c.args.each.now.vars.now c.args.each.now.bound.now) c.tuples-tuples.ensures.before ∙
          none-done (situation_of (plain_problem c.args.here.now.task.now.problem) c.args.here.now.world.now)
          (assignment_in c.args.env.now) c.args.each.now.vars.now c.args.each.now.bound.now);
    }

pub collect_each-put_values-requires-clause-same : goal.collect_each-put_values-requires-clause-same
collect_each-put_values-requires-clause-same t c =
    ap (λ (ss : List Var). length ss) c.as_slice.ensures ∙ sym (c.values.ensures.count _ c.args.each.now.vars.now
    (assignment_in c.args.env.now) c.args.each.now.bound.now (c.next.ensures.reads _ _ c.args.each.now.vars.now
    (assignment_in c.args.env.now) c.loop-vars.invariant.reads))

pub collect_each-put_values-requires-clause-slots : goal.collect_each-put_values-requires-clause-slots
collect_each-put_values-requires-clause-slots t c = subst (Each (λ (s : Var). s.slot < 32)) (sym c.as_slice.ensures) c.requires.reads.frame

pub collect_each-collect_all-requires : goal.collect_each-collect_all-requires
collect_each-collect_all-requires t c = (
  omega (arith, c.decreases),
  inner-reads
      (signature_of c.args.here.now.task.now.problem.domain) c.args.each.now.vars.now
      (tree_of_effects c.args.each.now.effects.now) c.requires.reads,
)

pub collect_each-returns-in-Ok-false-clause-changes : goal.collect_each-returns-in-Ok-false-clause-changes
collect_each-returns-in-Ok-false-clause-changes t c =
    let e = assignment_in c.args.env.now in
    let next = c.next.ensures.next _ _ c.args.each.now.vars.now e c.loop-vars.invariant.reads in
    let first = first-left (situation_of (plain_problem c.args.here.now.task.now.problem) c.args.here.now.world.now)
    (assignment_in c.args.env.now) c.args.each.now.vars.now c.args.each.now.bound.now c.requires.differ c.requires.occur
    c.loop-vars.tuples.tuple c.next.new.self.tuple next c.values.result.now c.values.ensures.values in
    let bound = c.put_values.ensures.values ∙ ap (λ (ss : List Var). bind ss c.values.result.now (assignment_in c.loop-vars.env))
    c.as_slice.ensures in
    tuple-undefined (signature_of c.args.here.now.task.now.problem.domain)
    (plain_problem c.args.here.now.task.now.problem) c.args.here.now.world.now (assignment_in c.args.env.now) c.args.each.now.vars.now
    (tree_of_effects c.args.each.now.effects.now) (all (situation_of
    (plain_problem c.args.here.now.task.now.problem) c.args.here.now.world.now)
    (assignment_in c.args.env.now) c.args.each.now.vars.now c.args.each.now.bound.now)
    (left (situation_of (plain_problem c.args.here.now.task.now.problem) c.args.here.now.world.now)
    (assignment_in c.args.env.now) c.args.each.now.vars.now c.args.each.now.bound.now c.loop-vars.tuples.tuple)
    (left (situation_of (plain_problem c.args.here.now.task.now.problem) c.args.here.now.world.now)
    (assignment_in c.args.env.now) c.args.each.now.vars.now c.args.each.now.bound.now (Some c.values.result.now)) c.values.result.now
    first c.args.changes.now c.loop-vars.changes c.loop-vars.invariant.passed c.requires.reads (assignment_in c.put_values.new.self)
    (assignment_in c.loop-vars.env) bound c.loop-vars.invariant.frame c.collect_all.new.changes c.in-Ok-false.field-0
    c.in-Ok-false.field-0-test c.in-Ok-false.ensures.changes

pub collect_each-returns-in-Ok-false-clause-frame : goal.collect_each-returns-in-Ok-false-clause-frame
collect_each-returns-in-Ok-false-clause-frame t c =
    let bound = c.put_values.ensures.values ∙ ap (λ (ss : List Var). bind ss c.values.result.now (assignment_in c.loop-vars.env))
    c.as_slice.ensures in
    frame-after (signature_of c.args.here.now.task.now.problem.domain) c.args.each.now.vars.now
    (tree_of_effects c.args.each.now.effects.now) c.values.result.now (assignment_in c.collect_all.new.env)
    (assignment_in c.put_values.new.self) (assignment_in c.loop-vars.env)
    (assignment_in c.args.env.now) bound c.loop-vars.invariant.frame c.collect_all.ensures.frame

pub collect_each-loop-vars-preserved : goal.collect_each-loop-vars-preserved
collect_each-loop-vars-preserved t c =
    let e = assignment_in c.args.env.now in
    let next = c.next.ensures.next _ _ c.args.each.now.vars.now e c.loop-vars.invariant.reads in
    let first = first-left (situation_of (plain_problem c.args.here.now.task.now.problem) c.args.here.now.world.now)
    (assignment_in c.args.env.now) c.args.each.now.vars.now c.args.each.now.bound.now c.requires.differ c.requires.occur
    c.loop-vars.tuples.tuple c.next.new.self.tuple next c.values.result.now c.values.ensures.values in
    let bound = c.put_values.ensures.values ∙ ap (λ (ss : List Var). bind ss c.values.result.now (assignment_in c.loop-vars.env))
    c.as_slice.ensures in
    record {
      reads = c.next.ensures.reads _ _ c.args.each.now.vars.now e c.loop-vars.invariant.reads;
      frame = frame-after (signature_of c.args.here.now.task.now.problem.domain) c.args.each.now.vars.now
          (tree_of_effects c.args.each.now.effects.now) c.values.result.now (assignment_in c.collect_all.new.env)
          (assignment_in c.put_values.new.self) (assignment_in c.loop-vars.env)
          (assignment_in c.args.env.now) bound c.loop-vars.invariant.frame c.collect_all.ensures.frame;
      passed = subst (λ (o : Option (List Value)). TuplesPassed (plain_problem c.args.here.now.task.now.problem) c.args.here.now.world.now
          (assignment_in c.args.env.now) c.args.each.now.vars.now (tree_of_effects c.args.each.now.effects.now)
          (all (situation_of (plain_problem c.args.here.now.task.now.problem) c.args.here.now.world.now)
          (assignment_in c.args.env.now) c.args.each.now.vars.now c.args.each.now.bound.now)
          (left (situation_of (plain_problem c.args.here.now.task.now.problem) c.args.here.now.world.now)
          (assignment_in c.args.env.now) c.args.each.now.vars.now c.args.each.now.bound.now o) c.args.changes.now c.collect_all.new.changes)
          (sym c.values.ensures.values)
          (tuple-on (signature_of c.args.here.now.task.now.problem.domain)
          (plain_problem c.args.here.now.task.now.problem) c.args.here.now.world.now
          (assignment_in c.args.env.now) c.args.each.now.vars.now (tree_of_effects c.args.each.now.effects.now)
          (all (situation_of (plain_problem c.args.here.now.task.now.problem) c.args.here.now.world.now)
          (assignment_in c.args.env.now) c.args.each.now.vars.now c.args.each.now.bound.now)
          (left (situation_of (plain_problem c.args.here.now.task.now.problem) c.args.here.now.world.now)
          (assignment_in c.args.env.now) c.args.each.now.vars.now c.args.each.now.bound.now c.loop-vars.tuples.tuple)
          (left (situation_of (plain_problem c.args.here.now.task.now.problem) c.args.here.now.world.now)
          (assignment_in c.args.env.now) c.args.each.now.vars.now c.args.each.now.bound.now (Some c.values.result.now))
          c.values.result.now first c.args.changes.now c.loop-vars.changes c.loop-vars.invariant.passed c.requires.reads
          (assignment_in c.put_values.new.self) (assignment_in c.loop-vars.env) bound c.loop-vars.invariant.frame
          c.collect_all.new.changes c.in-Ok-true.field-0 c.in-Ok-true.field-0-test c.in-Ok-true.ensures.changes);
    }

pub collect_each-loop-vars-smaller : goal.collect_each-loop-vars-smaller
collect_each-loop-vars-smaller t c =
    let e = assignment_in c.args.env.now in
    let next = c.next.ensures.next _ _ c.args.each.now.vars.now e c.loop-vars.invariant.reads in
    subst (λ (o : Option (List Value)). length (left (situation_of (plain_problem c.args.here.now.task.now.problem)
    c.args.here.now.world.now) (assignment_in c.args.env.now) c.args.each.now.vars.now c.args.each.now.bound.now o) < length
    (left (situation_of (plain_problem c.args.here.now.task.now.problem) c.args.here.now.world.now)
    (assignment_in c.args.env.now) c.args.each.now.vars.now c.args.each.now.bound.now c.loop-vars.tuples.tuple))
    (sym c.values.ensures.values) (fewer-left (situation_of (plain_problem c.args.here.now.task.now.problem) c.args.here.now.world.now)
    (assignment_in c.args.env.now) c.args.each.now.vars.now c.args.each.now.bound.now c.requires.differ c.requires.occur
    c.loop-vars.tuples.tuple c.next.new.self.tuple next c.values.result.now c.values.ensures.values)

pub collect_each-returns-in-Err-clause-changes : goal.collect_each-returns-in-Err-clause-changes
collect_each-returns-in-Err-clause-changes t c =
    let e = assignment_in c.args.env.now in
    let next = c.next.ensures.next _ _ c.args.each.now.vars.now e c.loop-vars.invariant.reads in
    let first = first-left (situation_of (plain_problem c.args.here.now.task.now.problem) c.args.here.now.world.now)
    (assignment_in c.args.env.now) c.args.each.now.vars.now c.args.each.now.bound.now c.requires.differ c.requires.occur
    c.loop-vars.tuples.tuple c.next.new.self.tuple next c.values.result.now c.values.ensures.values in
    let bound = c.put_values.ensures.values ∙ ap (λ (ss : List Var). bind ss c.values.result.now (assignment_in c.loop-vars.env))
    c.as_slice.ensures in
    tuple-fault (signature_of c.args.here.now.task.now.problem.domain)
    (plain_problem c.args.here.now.task.now.problem) c.args.here.now.world.now (assignment_in c.args.env.now) c.args.each.now.vars.now
    (tree_of_effects c.args.each.now.effects.now) (all (situation_of
    (plain_problem c.args.here.now.task.now.problem) c.args.here.now.world.now)
    (assignment_in c.args.env.now) c.args.each.now.vars.now c.args.each.now.bound.now)
    (left (situation_of (plain_problem c.args.here.now.task.now.problem) c.args.here.now.world.now)
    (assignment_in c.args.env.now) c.args.each.now.vars.now c.args.each.now.bound.now c.loop-vars.tuples.tuple)
    (left (situation_of (plain_problem c.args.here.now.task.now.problem) c.args.here.now.world.now)
    (assignment_in c.args.env.now) c.args.each.now.vars.now c.args.each.now.bound.now (Some c.values.result.now)) c.values.result.now
    first c.args.changes.now c.loop-vars.changes c.loop-vars.invariant.passed c.requires.reads (assignment_in c.put_values.new.self)
    (assignment_in c.loop-vars.env) bound c.loop-vars.invariant.frame c.in-Err.fault c.in-Err.ensures.changes

pub collect_each-returns-in-Err-clause-frame : goal.collect_each-returns-in-Err-clause-frame
collect_each-returns-in-Err-clause-frame t c =
    let bound = c.put_values.ensures.values ∙ ap (λ (ss : List Var). bind ss c.values.result.now (assignment_in c.loop-vars.env))
    c.as_slice.ensures in
    frame-after (signature_of c.args.here.now.task.now.problem.domain) c.args.each.now.vars.now
    (tree_of_effects c.args.each.now.effects.now) c.values.result.now (assignment_in c.collect_all.new.env)
    (assignment_in c.put_values.new.self) (assignment_in c.loop-vars.env)
    (assignment_in c.args.env.now) bound c.loop-vars.invariant.frame c.collect_all.ensures.frame

pub collect_each-returns-clause-changes : goal.collect_each-returns-clause-changes
collect_each-returns-clause-changes t c =
    let e = assignment_in c.args.env.now in
    let next = c.next.ensures.next _ _ c.args.each.now.vars.now e c.loop-vars.invariant.reads in
    tuples-all (plain_problem c.args.here.now.task.now.problem) c.args.here.now.world.now
    (assignment_in c.args.env.now) c.args.each.now.vars.now (tree_of_effects c.args.each.now.effects.now)
    (all (situation_of (plain_problem c.args.here.now.task.now.problem) c.args.here.now.world.now)
    (assignment_in c.args.env.now) c.args.each.now.vars.now c.args.each.now.bound.now)
    (left (situation_of (plain_problem c.args.here.now.task.now.problem) c.args.here.now.world.now)
    (assignment_in c.args.env.now) c.args.each.now.vars.now c.args.each.now.bound.now c.loop-vars.tuples.tuple) c.args.changes.now
    c.loop-vars.changes (none-left (situation_of (plain_problem c.args.here.now.task.now.problem) c.args.here.now.world.now)
    (assignment_in c.args.env.now) c.args.each.now.vars.now c.args.each.now.bound.now c.requires.differ c.requires.occur
    c.loop-vars.tuples.tuple c.next.new.self.tuple next (c.next.ensures.end c.loop-vars-test.false)) c.loop-vars.invariant.passed

pub collect_each-returns-clause-frame : goal.collect_each-returns-clause-frame
collect_each-returns-clause-frame t c =
    c.loop-vars.invariant.frame
