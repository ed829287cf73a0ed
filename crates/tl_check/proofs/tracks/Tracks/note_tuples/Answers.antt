use Rattle.std.proofs.Common.{◌<◌, List, length, Option, sym, subst}
use Rattle.tl_check.proofs.GatheredLaws.{Noting, tuples-begun, tuples-fewer, tuples-on, tuples-end, one-counts, fact-is_tuple}
use Rattle.tl_eval.proofs.TupleRest.{rest_after}
use Rattle.tl_eval.specs.Frames.{assignment_in}
use Rattle.tl_syntax.specs.declared.value.Value.{Value}
use Rattle.tl_syntax.specs.Assignment.{bind}
use Rattle.tl_terms.specs.Bounds.{bound_true, tuples}
use Rattle.tl_terms.specs.Definitions.{situation_of}
use Rattle.tl_terms.specs.ProblemMeaning.{plain_problem}
use Rattle.tl_match.specs.Next.{IsNext}
use Rattle.tl_check.proofs.tracks.Tracks.note_tuples.Goals as goal

pub reading-init : goal.reading-init
reading-init c =
    let s = situation_of (plain_problem c.args.along.now.task.now.problem) c.args.alike.now.first.now in
    record {
      reads = c.tuples-tuples.ensures.reads c.args.alike.now.binder.vars.now (assignment_in c.args.env.now) c.open_in_place.ensures.stands;
      noted = tuples-begun s (assignment_in c.args.env.now) c.args.alike.now.binder.vars.now c.args.alike.now.binder.bound.now
          c.requires.differ c.requires.occur c.args.alike.now.span c.args.self.now.lines c.tuples-tuples.result.tuple
          c.tuples-tuples.ensures.before;
      covered = c.requires.covered;
      counts = λ h. h;
    }

pub reading-smaller : goal.reading-smaller
reading-smaller c =
    let s = situation_of (plain_problem c.args.along.now.task.now.problem) c.args.alike.now.first.now in
    let e = assignment_in c.args.env.now in
    let ss = c.args.alike.now.binder.vars.now in
    let b = c.args.alike.now.binder.bound.now in
    let next = subst (IsNext (length ss) (λ t. bound_true s (bind ss t e) b) c.reading.tuples.tuple) c.values.ensures.values
    (c.next.ensures.next _ _ ss e c.reading.invariant.reads) in
    subst (λ (o : Option (List Value)). length (rest_after o (tuples s e ss b)) < length
    (rest_after c.reading.tuples.tuple (tuples s e ss b))) (sym c.values.ensures.values)
    (tuples-fewer s e ss b c.requires.differ c.requires.occur c.args.alike.now.span c.args.self.now.lines c.reading.tuples.tuple
    c.values.result.now next)

pub reading-preserved : goal.reading-preserved
reading-preserved c =
    let s = situation_of (plain_problem c.args.along.now.task.now.problem) c.args.alike.now.first.now in
    let e = assignment_in c.args.env.now in
    let ss = c.args.alike.now.binder.vars.now in
    let b = c.args.alike.now.binder.bound.now in
    let next = subst (IsNext (length ss) (λ t. bound_true s (bind ss t e) b) c.reading.tuples.tuple) c.values.ensures.values
    (c.next.ensures.next _ _ ss e c.reading.invariant.reads) in
    let reads = c.next.ensures.reads _ _ ss e c.reading.invariant.reads in
    record {
      reads = reads;
      noted = subst (λ (o : Option (List Value)). Noting (tuples s e ss b) c.args.alike.now.span c.args.self.now.lines
          (rest_after o (tuples s e ss b)) c.note_span.new.self.lines) (sym c.values.ensures.values)
          (tuples-on s e ss b c.requires.differ c.requires.occur c.args.alike.now.span c.args.self.now.lines c.reading.tuples.tuple
          c.values.result.now next c.reading.self.lines c.note_span.new.self.lines c.in_ok-fact.fact c.in_ok-fact.ensures
          c.in_ok-note_span.ensures.here c.in_ok-note_span.ensures.others c.reading.invariant.noted);
      covered = c.in_ok-note_span.ensures.covered;
      counts = λ h. one-counts (length ss) c.in_ok-fact.fact c.reading.self.seen.items c.note_span.new.self.seen.items
          c.in_ok-note_span.ensures.one
          (fact-is_tuple (length ss) c.in_ok-fact.fact c.values.result.now c.in_ok-fact.ensures (c.values.ensures.count _ ss e b reads))
          (c.reading.invariant.counts h);
    }

pub returns-clause-noted : goal.returns-clause-noted
returns-clause-noted c = λ a.
    let s = situation_of (plain_problem c.args.along.now.task.now.problem) c.args.alike.now.first.now in
    let e = assignment_in c.args.env.now in
    let ss = c.args.alike.now.binder.vars.now in
    let b = c.args.alike.now.binder.bound.now in
    tuples-end s e ss b c.requires.differ c.requires.occur c.args.alike.now.span c.args.self.now.lines c.reading.tuples.tuple
    c.next.new.self.tuple c.reading.self.lines (c.next.ensures.next _ _ ss e c.reading.invariant.reads)
    (c.next.ensures.end c.reading-test.false) c.reading.invariant.noted a
