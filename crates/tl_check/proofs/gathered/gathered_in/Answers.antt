use Rattle.std.proofs.Common.{length, refl, ap, arith}
use Rattle.std.proofs.lemmas.Option.{slice_get_read}
use Rattle.tl_check.proofs.GatheredLaws.{told-on}
use Rattle.tl_check.proofs.SamePlaces.{same-tuples}
use Rattle.tl_check.specs.declared.span.Span.{Span}
use Rattle.tl_eval.specs.Frames.{assignment_in}
use Rattle.tl_terms.specs.ProblemMeaning.{plain_problem}
use Rattle.tl_check.proofs.gathered.gathered_in.Goals as goal

pub loop-i-preserved : goal.loop-i-preserved
loop-i-preserved c =
    let p = plain_problem c.args.along.now.task.now.problem in
    let e = assignment_in c.args.env.now in
    let ss = c.args.binder.now.vars.now in
    let b = c.args.binder.now.bound.now in
    let ws = c.args.worlds.now in
    let here : Span = record { from = c.loop-i.i; to = c.same_up_to-end.result } in
    let size = ap length c.requires.worlds in
    let w = c.index-worlds-i.result in
    let first = slice_get_read ws (length ws) c.loop-i.i w refl (omega (arith, c.loop-i-test.true, c.requires.span.within, size))
    c.index-worlds-i.is in
    record {
      from = omega (arith, c.loop-i.invariant.from, c.same_up_to-end.ensures.from);
      to = c.same_up_to-end.ensures.to;
      told = told-on p ws e ss b c.args.span.from here w c.loop-i.tracks c.note_tuples.new.self c.same_up_to-end.ensures.from first
          (λ a k v low high there. same-tuples p e ss b c.requires.differ c.requires.occur w v
          (c.same_up_to-end.ensures.same k w v low high first there) a)
          c.in_ok-note_tuples.ensures.noted c.in_ok-note_tuples.ensures.covered
          (c.in_ok-note_tuples.ensures.counts c.loop-i.invariant.told.counts) c.loop-i.invariant.told;
    }
