use Rattle.std.proofs.Common.{◌≡◌, ◌<◌, ◌+◌, ℕ, List, true, false, map, drop, length, get_or, Option, Some, slice_get, refl, sym, ap, ◌∙◌}
use Rattle.std.proofs.Common.{subst, arith}
use Rattle.std.proofs.lemmas.Option.{slice_get_within}
use Rattle.tl_eval.specs.Frames.{assignment_in}
use Rattle.tl_nodes.specs.Fits.{all_below}
use Rattle.tl_nodes.specs.Joins.{simplified_join}
use Rattle.tl_nodes.specs.NodeTrees.{tree_at, trees_at}
use Rattle.tl_nodes.specs.Numbers.{trees}
use Rattle.tl_syntax.specs.declared.value.Value.{Value}
use Rattle.tl_syntax.specs.Signature.{signature_of}
use Rattle.tl_syntax.specs.Trees.{FormulaTree}
use Rattle.tl_terms.specs.ProblemMeaning.{plain_problem}
use Rattle.tl_eval.specs.Faults.{IsCausedBy}
use Rattle.tl_progress.specs.Answers.{looked_for_residual, residual}
use Rattle.tl_progress.specs.KeptResiduals.{found_in}
use Rattle.tl_progress.specs.Parts.{IsBelow}
use Rattle.tl_progress.specs.Sentences.{IsSentence}
use Rattle.tl_progress.proofs.Found.{residual-fault}
use Rattle.tl_progress.proofs.Gathering.{Gathered, gather-begun, gather-on, gather-decided, gather-end, below-still}
use Rattle.tl_progress.proofs.OpenParts.{sentence-below, each-at, ids-next, ids-done}
use Rattle.tl_progress.proofs.PutLayers.{stays, longer}
use Rattle.tl_progress.proofs.ResidualLayers.{residuals-still}
use Rattle.tl_progress.proofs.joined.parts_residual.Goals as goal

pub loop-part-init : goal.loop-part-init
loop-part-init c = record {
  frame = refl;
  kept = λ i f h. h;
  found = c.requires.found;
  elsewhere = λ m k o. refl;
  passed = gather-begun c.args.rest.now.joined.junction (trees c.args.nodes.now) c.new-answers.result
      (map (residual (plain_problem c.args.here.now.task.now.problem) c.args.here.now.world.now (assignment_in c.args.env.now))
      (trees_at (trees c.args.nodes.now) c.args.rest.now.parts.now)) c.new-answers.ensures;
}

pub kept_residual-requires : goal.kept_residual-requires
kept_residual-requires c =
    let low = each-at (IsBelow false (trees c.args.nodes.now) c.args.rest.now.joined.at) c.args.rest.now.parts.now c.loop-part.part-index
    c.loop-part-test.true c.requires.below in
    let under = low.under in
    let inside : get_or c.args.rest.now.parts.now c.loop-part.part-index 0 < length (trees c.args.nodes.now) =
    omega (arith, under, c.requires.there.at) in
    let same = stays (trees c.args.nodes.now) (trees c.loop-part.nodes) c.loop-part.invariant.kept
    (get_or c.args.rest.now.parts.now c.loop-part.part-index 0) inside in
    record {
      there = record {
        at = longer (trees c.args.nodes.now) (trees c.loop-part.nodes) c.loop-part.invariant.kept
            (get_or c.args.rest.now.parts.now c.loop-part.part-index 0) inside;
        sentence = subst (IsSentence (signature_of c.args.here.now.task.now.problem.domain)) (sym same)
            (sentence-below (trees c.args.nodes.now) (signature_of c.args.here.now.task.now.problem.domain) c.args.rest.now.joined.at
            (get_or c.args.rest.now.parts.now c.loop-part.part-index 0) low c.requires.there.sentence);
      };
      found = c.loop-part.invariant.found;
    }

pub decides-requires : goal.decides-requires
decides-requires c = slice_get_within (trees c.kept_residual.new.nodes) c.in-Ok.answer _ c.in-Ok.ensures.number

pub returns-then-decides-clause-kept : goal.returns-then-decides-clause-kept
returns-then-decides-clause-kept c = λ i f h. c.in-Ok.ensures.kept i f (c.loop-part.invariant.kept i f h)

pub returns-then-decides-clause-number : goal.returns-then-decides-clause-number
returns-then-decides-clause-number c =
    let low = each-at (IsBelow false (trees c.args.nodes.now) c.args.rest.now.joined.at) c.args.rest.now.parts.now c.loop-part.part-index
    c.loop-part-test.true c.requires.below in
    let under = low.under in
    let inside : get_or c.args.rest.now.parts.now c.loop-part.part-index 0 < length (trees c.args.nodes.now) =
    omega (arith, under, c.requires.there.at) in
    let same = stays (trees c.args.nodes.now) (trees c.loop-part.nodes) c.loop-part.invariant.kept
    (get_or c.args.rest.now.parts.now c.loop-part.part-index 0) inside in
    gather-decided c.args.rest.now.joined.junction (trees c.loop-part.nodes)
    (trees c.kept_residual.new.nodes) c.in-Ok.ensures.kept c.loop-part.answers
    ((residual (plain_problem c.args.here.now.task.now.problem) c.args.here.now.world.now (assignment_in c.args.env.now))
    (tree_at (trees c.args.nodes.now) (get_or c.args.rest.now.parts.now c.loop-part.part-index 0)))
    (map (residual (plain_problem c.args.here.now.task.now.problem) c.args.here.now.world.now (assignment_in c.args.env.now))
    (trees_at (trees c.args.nodes.now) (drop (c.loop-part.part-index + 1) c.args.rest.now.parts.now)))
    (map (residual (plain_problem c.args.here.now.task.now.problem) c.args.here.now.world.now (assignment_in c.args.env.now))
    (trees_at (trees c.args.nodes.now) c.args.rest.now.parts.now))
    (subst (λ (fs : List FormulaTree). Gathered c.args.rest.now.joined.junction (trees c.loop-part.nodes) c.loop-part.answers fs
    (map (residual (plain_problem c.args.here.now.task.now.problem) c.args.here.now.world.now (assignment_in c.args.env.now))
    (trees_at (trees c.args.nodes.now) c.args.rest.now.parts.now)))
    (ids-next (plain_problem c.args.here.now.task.now.problem) c.args.here.now.world.now (assignment_in c.args.env.now)
    (trees c.args.nodes.now) c.args.rest.now.parts.now c.loop-part.part-index c.loop-part-test.true) c.loop-part.invariant.passed)
    c.in-Ok.answer
    (subst (λ (f : FormulaTree). slice_get (trees c.kept_residual.new.nodes) c.in-Ok.answer ≡
    Some (residual (plain_problem c.args.here.now.task.now.problem) c.args.here.now.world.now (assignment_in c.args.env.now) f)) same
    (subst (λ (v : List (Option Value)). slice_get (trees c.kept_residual.new.nodes) c.in-Ok.answer ≡
    Some (residual (plain_problem c.args.here.now.task.now.problem) c.args.here.now.world.now (assignment_in v)
    (tree_at (trees c.loop-part.nodes) (get_or c.args.rest.now.parts.now c.loop-part.part-index 0)))) c.loop-part.invariant.frame
    c.in-Ok.ensures.number))
    (c.decides.ensures c.if-decides.true)

pub returns-then-decides-clause-elsewhere : goal.returns-then-decides-clause-elsewhere
returns-then-decides-clause-elsewhere c = λ m k o. c.in-Ok.ensures.elsewhere m k o ∙ c.loop-part.invariant.elsewhere m k o

pub returns-then-decides-clause-frame : goal.returns-then-decides-clause-frame
returns-then-decides-clause-frame c = c.kept_residual.ensures.frame ∙ c.loop-part.invariant.frame

pub gather-requires : goal.gather-requires
gather-requires c =
    let low = each-at (IsBelow false (trees c.args.nodes.now) c.args.rest.now.joined.at) c.args.rest.now.parts.now c.loop-part.part-index
    c.loop-part-test.true c.requires.below in
    let under = low.under in
    let inside : get_or c.args.rest.now.parts.now c.loop-part.part-index 0 < length (trees c.args.nodes.now) =
    omega (arith, under, c.requires.there.at) in
    let same = stays (trees c.args.nodes.now) (trees c.loop-part.nodes) c.loop-part.invariant.kept
    (get_or c.args.rest.now.parts.now c.loop-part.part-index 0) inside in
    record {
      parts = below-still c.args.rest.now.joined.junction (trees c.loop-part.nodes)
          (trees c.kept_residual.new.nodes) c.in-Ok.ensures.kept c.loop-part.answers
          ((residual (plain_problem c.args.here.now.task.now.problem) c.args.here.now.world.now (assignment_in c.args.env.now))
          (tree_at (trees c.args.nodes.now) (get_or c.args.rest.now.parts.now c.loop-part.part-index 0)))
          (map (residual (plain_problem c.args.here.now.task.now.problem) c.args.here.now.world.now (assignment_in c.args.env.now))
          (trees_at (trees c.args.nodes.now) (drop (c.loop-part.part-index + 1) c.args.rest.now.parts.now)))
          (map (residual (plain_problem c.args.here.now.task.now.problem) c.args.here.now.world.now (assignment_in c.args.env.now))
          (trees_at (trees c.args.nodes.now) c.args.rest.now.parts.now))
          (subst (λ (fs : List FormulaTree). Gathered c.args.rest.now.joined.junction (trees c.loop-part.nodes) c.loop-part.answers fs
          (map (residual (plain_problem c.args.here.now.task.now.problem) c.args.here.now.world.now (assignment_in c.args.env.now))
          (trees_at (trees c.args.nodes.now) c.args.rest.now.parts.now)))
          (ids-next (plain_problem c.args.here.now.task.now.problem) c.args.here.now.world.now (assignment_in c.args.env.now)
          (trees c.args.nodes.now) c.args.rest.now.parts.now c.loop-part.part-index c.loop-part-test.true) c.loop-part.invariant.passed)
          c.in-Ok.answer
          (subst (λ (f : FormulaTree). slice_get (trees c.kept_residual.new.nodes) c.in-Ok.answer ≡
          Some (residual (plain_problem c.args.here.now.task.now.problem) c.args.here.now.world.now (assignment_in c.args.env.now) f))
          same (subst (λ (v : List (Option Value)). slice_get (trees c.kept_residual.new.nodes) c.in-Ok.answer ≡
          Some (residual (plain_problem c.args.here.now.task.now.problem) c.args.here.now.world.now (assignment_in v)
          (tree_at (trees c.loop-part.nodes) (get_or c.args.rest.now.parts.now c.loop-part.part-index 0)))) c.loop-part.invariant.frame
          c.in-Ok.ensures.number));
      part = slice_get_within (trees c.kept_residual.new.nodes) c.in-Ok.answer _ c.in-Ok.ensures.number;
    }

pub loop-part-preserved : goal.loop-part-preserved
loop-part-preserved c =
    let low = each-at (IsBelow false (trees c.args.nodes.now) c.args.rest.now.joined.at) c.args.rest.now.parts.now c.loop-part.part-index
    c.loop-part-test.true c.requires.below in
    let under = low.under in
    let inside : get_or c.args.rest.now.parts.now c.loop-part.part-index 0 < length (trees c.args.nodes.now) =
    omega (arith, under, c.requires.there.at) in
    let same = stays (trees c.args.nodes.now) (trees c.loop-part.nodes) c.loop-part.invariant.kept
    (get_or c.args.rest.now.parts.now c.loop-part.part-index 0) inside in
    record {
      frame = c.kept_residual.ensures.frame ∙ c.loop-part.invariant.frame;
      kept = λ i f h. c.in-Ok.ensures.kept i f (c.loop-part.invariant.kept i f h);
      found = c.in-Ok.ensures.found;
      elsewhere = λ m k o. c.in-Ok.ensures.elsewhere m k o ∙ c.loop-part.invariant.elsewhere m k o;
      passed = gather-on c.args.rest.now.joined.junction (trees c.loop-part.nodes)
          (trees c.kept_residual.new.nodes) c.in-Ok.ensures.kept c.loop-part.answers
          ((residual (plain_problem c.args.here.now.task.now.problem) c.args.here.now.world.now (assignment_in c.args.env.now))
          (tree_at (trees c.args.nodes.now) (get_or c.args.rest.now.parts.now c.loop-part.part-index 0)))
          (map (residual (plain_problem c.args.here.now.task.now.problem) c.args.here.now.world.now (assignment_in c.args.env.now))
          (trees_at (trees c.args.nodes.now) (drop (c.loop-part.part-index + 1) c.args.rest.now.parts.now)))
          (map (residual (plain_problem c.args.here.now.task.now.problem) c.args.here.now.world.now (assignment_in c.args.env.now))
          (trees_at (trees c.args.nodes.now) c.args.rest.now.parts.now))
          (subst (λ (fs : List FormulaTree). Gathered c.args.rest.now.joined.junction (trees c.loop-part.nodes) c.loop-part.answers fs
          (map (residual (plain_problem c.args.here.now.task.now.problem) c.args.here.now.world.now (assignment_in c.args.env.now))
          (trees_at (trees c.args.nodes.now) c.args.rest.now.parts.now)))
          (ids-next (plain_problem c.args.here.now.task.now.problem) c.args.here.now.world.now (assignment_in c.args.env.now)
          (trees c.args.nodes.now) c.args.rest.now.parts.now c.loop-part.part-index c.loop-part-test.true) c.loop-part.invariant.passed)
          c.in-Ok.answer
          (subst (λ (f : FormulaTree). slice_get (trees c.kept_residual.new.nodes) c.in-Ok.answer ≡
          Some (residual (plain_problem c.args.here.now.task.now.problem) c.args.here.now.world.now (assignment_in c.args.env.now) f))
          same (subst (λ (v : List (Option Value)). slice_get (trees c.kept_residual.new.nodes) c.in-Ok.answer ≡
          Some (residual (plain_problem c.args.here.now.task.now.problem) c.args.here.now.world.now (assignment_in v)
          (tree_at (trees c.loop-part.nodes) (get_or c.args.rest.now.parts.now c.loop-part.part-index 0)))) c.loop-part.invariant.frame
          c.in-Ok.ensures.number))
          c.gather.new.parts c.in_ok-gather-in-Ok.ensures.below c.in_ok-gather-in-Ok.ensures.same;
    }

pub returns-in_err-gather-in-Ok-clause-kept : goal.returns-in_err-gather-in-Ok-clause-kept
returns-in_err-gather-in-Ok-clause-kept c = λ i f h. c.in-Ok.ensures.kept i f (c.loop-part.invariant.kept i f h)

pub returns-in_err-gather-in-Ok-clause-elsewhere : goal.returns-in_err-gather-in-Ok-clause-elsewhere
returns-in_err-gather-in-Ok-clause-elsewhere c = λ m k o. c.in-Ok.ensures.elsewhere m k o ∙ c.loop-part.invariant.elsewhere m k o

pub returns-in_err-gather-in-Ok-clause-frame : goal.returns-in_err-gather-in-Ok-clause-frame
returns-in_err-gather-in-Ok-clause-frame c = c.kept_residual.ensures.frame ∙ c.loop-part.invariant.frame

pub returns-in-Err-clause-kept : goal.returns-in-Err-clause-kept
returns-in-Err-clause-kept c = λ i f h. c.in-Err.ensures.kept i f (c.loop-part.invariant.kept i f h)

pub returns-in-Err-clause-elsewhere : goal.returns-in-Err-clause-elsewhere
returns-in-Err-clause-elsewhere c = λ m k o. c.in-Err.ensures.elsewhere m k o ∙ c.loop-part.invariant.elsewhere m k o

pub returns-in-Err-clause-cause : goal.returns-in-Err-clause-cause
returns-in-Err-clause-cause c =
    let low = each-at (IsBelow false (trees c.args.nodes.now) c.args.rest.now.joined.at) c.args.rest.now.parts.now c.loop-part.part-index
    c.loop-part-test.true c.requires.below in
    let under = low.under in
    let inside : get_or c.args.rest.now.parts.now c.loop-part.part-index 0 < length (trees c.args.nodes.now) =
    omega (arith, under, c.requires.there.at) in
    let same = stays (trees c.args.nodes.now) (trees c.loop-part.nodes) c.loop-part.invariant.kept
    (get_or c.args.rest.now.parts.now c.loop-part.part-index 0) inside in
    residual-fault (plain_problem c.args.here.now.task.now.problem) c.args.here.now.world.now (assignment_in c.args.env.now)
    (trees c.args.nodes.now) c.args.rest.now.joined.at (get_or c.args.rest.now.parts.now c.loop-part.part-index 0) low c.in-Err.fault
    (subst (λ (f : FormulaTree). IsCausedBy (looked_for_residual (plain_problem c.args.here.now.task.now.problem) c.args.here.now.world.now
    (assignment_in c.args.env.now) f) c.in-Err.fault) same
    (subst (λ (v : List (Option Value)). IsCausedBy (looked_for_residual
    (plain_problem c.args.here.now.task.now.problem) c.args.here.now.world.now (assignment_in v)
    (tree_at (trees c.loop-part.nodes) (get_or c.args.rest.now.parts.now c.loop-part.part-index 0))) c.in-Err.fault)
    c.loop-part.invariant.frame c.in-Err.ensures.cause))

pub returns-in-Err-clause-frame : goal.returns-in-Err-clause-frame
returns-in-Err-clause-frame c = c.kept_residual.ensures.frame ∙ c.loop-part.invariant.frame

pub join-requires : goal.join-requires
join-requires c = subst (λ (ids : List ℕ). all_below (length (trees c.loop-part.nodes)) ids ≡ true)
    (sym c.as_slice.ensures) c.loop-part.invariant.passed.below

pub returns-clause-kept : goal.returns-clause-kept
returns-clause-kept c = λ i f h. c.in_ok-number.ensures.kept i f (c.loop-part.invariant.kept i f h)

pub returns-clause-number : goal.returns-clause-number
returns-clause-number c =
    c.in_ok-number.ensures.number ∙ ap (λ (f : FormulaTree). Some f) (ap
    (λ (ids : List ℕ). simplified_join c.args.rest.now.joined.junction (trees_at (trees c.loop-part.nodes) ids)) c.as_slice.ensures
    ∙ gather-end c.args.rest.now.joined.junction (trees c.loop-part.nodes) c.loop-part.answers
    (map (residual (plain_problem c.args.here.now.task.now.problem) c.args.here.now.world.now (assignment_in c.args.env.now))
    (trees_at (trees c.args.nodes.now) (drop c.loop-part.part-index c.args.rest.now.parts.now)))
    (map (residual (plain_problem c.args.here.now.task.now.problem) c.args.here.now.world.now (assignment_in c.args.env.now))
    (trees_at (trees c.args.nodes.now) c.args.rest.now.parts.now)) c.loop-part.invariant.passed
    (ids-done (plain_problem c.args.here.now.task.now.problem) c.args.here.now.world.now (assignment_in c.args.env.now)
    (trees c.args.nodes.now) c.args.rest.now.parts.now c.loop-part.part-index (omega (arith, c.loop-part-test.false))))

pub returns-clause-found : goal.returns-clause-found
returns-clause-found c = residuals-still (plain_problem c.args.here.now.task.now.problem) c.args.here.now.world.now
    (trees c.loop-part.nodes) (trees c.join.new.nodes) c.in_ok-number.ensures.kept
    (found_in c.loop-part.residuals c.args.rest.now.joined.world) c.loop-part.invariant.found

pub returns-in_err-number-clause-kept : goal.returns-in_err-number-clause-kept
returns-in_err-number-clause-kept c = λ i f h. c.in_err-number.ensures.kept i f (c.loop-part.invariant.kept i f h)

pub returns-in_err-number-clause-found : goal.returns-in_err-number-clause-found
returns-in_err-number-clause-found c = residuals-still (plain_problem c.args.here.now.task.now.problem) c.args.here.now.world.now
    (trees c.loop-part.nodes) (trees c.join.new.nodes) c.in_err-number.ensures.kept
    (found_in c.loop-part.residuals c.args.rest.now.joined.world) c.loop-part.invariant.found
