use Rattle.std.proofs.Common.{◌<◌, List, length, Option, sym, subst}
use Rattle.tl_check.proofs.TupleLaws.{IsReading, reading-begun, reading-fewer, reading-on, reading-end}
use Rattle.tl_eval.proofs.TupleRest.{rest_after}
use Rattle.tl_eval.specs.Frames.{assignment_in}
use Rattle.tl_syntax.specs.declared.value.Value.{Value}
use Rattle.tl_syntax.specs.Assignment.{bind}
use Rattle.tl_terms.specs.Bounds.{bound_true, tuples}
use Rattle.tl_terms.specs.Definitions.{situation_of}
use Rattle.tl_terms.specs.ProblemMeaning.{plain_problem}
use Rattle.tl_match.specs.Next.{IsNext}
use Rattle.tl_check.proofs.tuples.tuples_in.Goals as goal

pub reading-init : goal.reading-init
reading-init c =
    let s = situation_of (plain_problem c.args.along.now.task.now.problem) c.args.w.now in
    record {
      reads = c.tuples-tuples.ensures.reads c.args.binder.now.vars.now (assignment_in c.args.env.now) c.open_in_place.ensures.stands;
      so_far = reading-begun s (assignment_in c.args.env.now) c.args.binder.now.vars.now c.args.binder.now.bound.now c.requires.differ
          c.requires.occur c.tuples-tuples.result.tuple c.new-facts.result.items c.tuples-tuples.ensures.before c.new-facts.ensures.items;
    }

pub reading-smaller : goal.reading-smaller
reading-smaller c =
    let s = situation_of (plain_problem c.args.along.now.task.now.problem) c.args.w.now in
    let e = assignment_in c.args.env.now in
    let ss = c.args.binder.now.vars.now in
    let b = c.args.binder.now.bound.now in
    let next = subst (IsNext (length ss) (λ t. bound_true s (bind ss t e) b) c.reading.tuples.tuple) c.values.ensures.values
    (c.next.ensures.next _ _ ss e c.reading.invariant.reads) in
    subst (λ (o : Option (List Value)). length (rest_after o (tuples s e ss b)) < length
    (rest_after c.reading.tuples.tuple (tuples s e ss b))) (sym c.values.ensures.values)
    (reading-fewer s e ss b c.requires.differ c.requires.occur c.reading.tuples.tuple c.values.result.now next)

pub reading-preserved : goal.reading-preserved
reading-preserved c =
    let s = situation_of (plain_problem c.args.along.now.task.now.problem) c.args.w.now in
    let e = assignment_in c.args.env.now in
    let ss = c.args.binder.now.vars.now in
    let b = c.args.binder.now.bound.now in
    let next = subst (IsNext (length ss) (λ t. bound_true s (bind ss t e) b) c.reading.tuples.tuple) c.values.ensures.values
    (c.next.ensures.next _ _ ss e c.reading.invariant.reads) in
    record {
      reads = c.next.ensures.reads _ _ ss e c.reading.invariant.reads;
      so_far = subst (λ (o : Option (List Value)). IsReading s e ss b o c.push.new.self.items) (sym c.values.ensures.values)
          (reading-on s e ss b c.requires.differ c.requires.occur c.reading.tuples.tuple c.values.result.now next c.reading.facts.items
          c.push.new.self.items c.in_ok-fact.fact c.in_ok-fact.ensures c.in_ok-push.ensures.items c.reading.invariant.so_far);
    }

pub returns : goal.returns
returns c =
    let s = situation_of (plain_problem c.args.along.now.task.now.problem) c.args.w.now in
    let e = assignment_in c.args.env.now in
    let ss = c.args.binder.now.vars.now in
    let b = c.args.binder.now.bound.now in
    reading-end s e ss b c.requires.differ c.requires.occur c.reading.tuples.tuple c.next.new.self.tuple c.reading.facts.items
    (c.next.ensures.next _ _ ss e c.reading.invariant.reads) (c.next.ensures.end c.reading-test.false) c.reading.invariant.so_far
