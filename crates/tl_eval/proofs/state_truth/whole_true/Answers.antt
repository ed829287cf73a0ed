use Rattle.std.proofs.Common.{◌≡◌, length, take, List, Option, ap, ◌∙◌, subst, arith}
use Rattle.std.proofs.lemmas.List.{length-map}
use Rattle.tl_eval.specs.Frames.{assignment_in}
use Rattle.tl_eval.specs.StateTruth.{IsTruth}
use Rattle.tl_eval.proofs.BodyLaws.{count-plain}
use Rattle.tl_eval.proofs.WholeLaws.{same-frames, whole-fits, whole-is}
use Rattle.tl_syntax.specs.declared.definition.Definition.{Definition}
use Rattle.tl_syntax.specs.declared.value.Value.{Value}
use Rattle.tl_syntax.specs.Signature.{signature_of}
use Rattle.tl_syntax.specs.TreeOfFormula.{tree_of_formula}
use Rattle.tl_terms.specs.ProblemMeaning.{plain_problem}
use Rattle.tl_eval.proofs.state_truth.whole_true.Goals as goal

pub truth_of-requires-clause-fits : goal.truth_of-requires-clause-fits
truth_of-requires-clause-fits c =
    whole-fits (signature_of c.args.task.now.problem.domain) c.whole-reading.result.number (tree_of_formula c.args.f.now)
    (omega (
      arith,
      length-map c.args.task.now.problem.domain.definitions (λ (x : Definition). length x.params),
      c.whole-reading.ensures.number,
    )) c.requires.fits

pub truth_of-requires-clause-room : goal.truth_of-requires-clause-room
truth_of-requires-clause-room c =
    let size : length c.as_mut_slice.result.now ≡ 32 = ap (λ (xs : List (Option Value)). length xs) c.as_mut_slice.ensures.value ∙
    c.env.invariant in
    omega arith

pub returns-clause-truth : goal.returns-clause-truth
returns-clause-truth c =
    let same : take 32 c.as_mut_slice.result.now ≡ c.args.env.now = ap (take 32) c.as_mut_slice.ensures.value ∙ c.env.view_is in
    let given = subst (λ (x : List (Option Value)). IsTruth (plain_problem c.args.task.now.problem) c.args.w.now
    c.whole-reading.result.number c.whole-reading.result.level (assignment_in x) (tree_of_formula c.args.f.now) c.truth_of.result) same
    c.truth_of.ensures.truth in
    whole-is (plain_problem c.args.task.now.problem) c.args.w.now c.whole-reading.result.number c.whole-reading.result.level
    (assignment_in c.args.env.now) (tree_of_formula c.args.f.now) c.truth_of.result
    (omega (arith, count-plain c.args.task.now.problem, c.whole-reading.ensures.number)) given

pub returns-clause-frame : goal.returns-clause-frame
returns-clause-frame c =
    let kept : length c.truth_of.new.frames ≡ length c.env.inside.values.items = c.truth_of.auto.frames ∙
    ap (λ (xs : List (Option Value)). length xs) c.as_mut_slice.ensures.value in
    same-frames 32 c.env.inside.values.len c.env.inside.values.items c.truth_of.new.frames kept c.env.inside.values.ok.0
    ∙ (c.truth_of.ensures.frame ∙ (ap (take 32) c.as_mut_slice.ensures.value ∙ c.env.view_is))
