use Rattle.std.proofs.Common.{◌<◌, List, [], false, length, Option, IfOk, IfErr, refl, sym, ◌∙◌, subst, arith}
use Rattle.tl_eval.specs.Frames.{assignment_in}
use Rattle.tl_nodes.specs.NodeTrees.{tree_at}
use Rattle.tl_nodes.specs.Numbers.{trees, Denotes}
use Rattle.tl_syntax.specs.declared.value.Value.{Value}
use Rattle.tl_syntax.specs.Signature.{signature_of}
use Rattle.tl_syntax.specs.Trees.{FormulaTree}
use Rattle.tl_terms.specs.ProblemMeaning.{plain_problem}
use Rattle.tl_eval.specs.Faults.{IsCausedBy}
use Rattle.tl_progress.specs.Answers.{looked_for_residual, residual}
use Rattle.tl_progress.specs.Parts.{IsBelow}
use Rattle.tl_progress.specs.Sentences.{IsSentence, FitsSomewhere}
use Rattle.tl_progress.proofs.Found.{last-of, residual-fault}
use Rattle.tl_progress.proofs.PutLayers.{stays, longer}
use Rattle.tl_progress.proofs.progression.ordered_residual.Goals as goal

pub loop-at-init : goal.loop-at-init
loop-at-init c = record {
  remembers = c.requires.remembers;
  frame = refl;
  kept = λ i f h. h;
  order = c.in_ok-order.ensures;
  known =
      c.new-known.ensures _ _ _;
}

pub work_out-requires : goal.work_out-requires
work_out-requires c =
    let last = last-of (IsBelow false (trees c.args.nodes.now) c.args.id) c.loop-at.order.items c.pop.new.self.items c.in-Some.at
    c.in-Some.ensures.items c.loop-at.invariant.order in
    let under = last.1.under in
    let inside : c.in-Some.at < length (trees c.args.nodes.now) = omega (arith, under, c.requires.there.at) in
    let same = stays (trees c.args.nodes.now) (trees c.loop-at.nodes) c.loop-at.invariant.kept c.in-Some.at inside in
    record {
      there = record {
        at = longer (trees c.args.nodes.now) (trees c.loop-at.nodes) c.loop-at.invariant.kept c.in-Some.at inside;
        sentence = subst (IsSentence (signature_of c.args.here.now.task.now.problem.domain)) (sym same)
            (record {
              fits = last.1.fits (signature_of c.args.here.now.task.now.problem.domain) [] c.requires.there.sentence.fits;
              closed =
                  last.1.scope [] c.requires.there.sentence.closed;
            });
      };
      known = c.loop-at.invariant.known;
      remembers = c.loop-at.invariant.remembers;
    }

pub returns-in-Err-clause-kept : goal.returns-in-Err-clause-kept
returns-in-Err-clause-kept c = λ i f h. c.in-Err.ensures.kept i f (c.loop-at.invariant.kept i f h)

pub returns-in-Err-clause-cause : goal.returns-in-Err-clause-cause
returns-in-Err-clause-cause c =
    let last = last-of (IsBelow false (trees c.args.nodes.now) c.args.id) c.loop-at.order.items c.pop.new.self.items c.in-Some.at
    c.in-Some.ensures.items c.loop-at.invariant.order in
    let under = last.1.under in
    let inside : c.in-Some.at < length (trees c.args.nodes.now) = omega (arith, under, c.requires.there.at) in
    let same = stays (trees c.args.nodes.now) (trees c.loop-at.nodes) c.loop-at.invariant.kept c.in-Some.at inside in
    residual-fault (plain_problem c.args.here.now.task.now.problem) c.args.here.now.world.now (assignment_in c.args.env.now)
    (trees c.args.nodes.now) c.args.id c.in-Some.at last.1 c.in-Err.fault
    (subst (λ (f : FormulaTree). IsCausedBy (looked_for_residual (plain_problem c.args.here.now.task.now.problem) c.args.here.now.world.now
    (assignment_in c.args.env.now) f) c.in-Err.fault) same
    (subst (λ (v : List (Option Value)). IsCausedBy (looked_for_residual
    (plain_problem c.args.here.now.task.now.problem) c.args.here.now.world.now (assignment_in v)
    (tree_at (trees c.loop-at.nodes) c.in-Some.at)) c.in-Err.fault) c.loop-at.invariant.frame c.in-Err.ensures.cause))

pub returns-in-Err-clause-stays : goal.returns-in-Err-clause-stays
returns-in-Err-clause-stays c = record {
  frame = c.work_out.ensures.stays.frame ∙ c.loop-at.invariant.frame;
  remembers =
      c.work_out.ensures.stays.remembers;
}

pub loop-at-preserved : goal.loop-at-preserved
loop-at-preserved c =
    let last = last-of (IsBelow false (trees c.args.nodes.now) c.args.id) c.loop-at.order.items c.pop.new.self.items c.in-Some.at
    c.in-Some.ensures.items c.loop-at.invariant.order in
    record {
      remembers = c.work_out.ensures.stays.remembers;
      frame = c.work_out.ensures.stays.frame ∙ c.loop-at.invariant.frame;
      kept = λ i f h. c.in-Ok.ensures.kept i f (c.loop-at.invariant.kept i f h);
      order = last.0;
      known = c.in-Ok.ensures.known;
    }

pub residual_of-requires : goal.residual_of-requires
residual_of-requires c = record {
  at = longer (trees c.args.nodes.now) (trees c.loop-at.nodes) c.loop-at.invariant.kept c.args.id c.requires.there.at;
  fits = subst (FitsSomewhere (signature_of c.args.here.now.task.now.problem.domain))
      (sym (stays (trees c.args.nodes.now) (trees c.loop-at.nodes) c.loop-at.invariant.kept c.args.id c.requires.there.at))
      (record { around = []; fits = c.requires.there.sentence.fits });
  known = record { truths = c.loop-at.invariant.known.truths; residuals = c.loop-at.invariant.known.residuals };
  remembers = c.loop-at.invariant.remembers;
}

pub returns-clause-kept : goal.returns-clause-kept
returns-clause-kept c = λ i f h. c.residual_of.ensures.kept i f (c.loop-at.invariant.kept i f h)

pub returns-clause-number : goal.returns-clause-number
returns-clause-number c =
    subst (λ (f : FormulaTree). IfOk c.residual_of.result (λ i. Denotes c.residual_of.new.nodes i
    (residual (plain_problem c.args.here.now.task.now.problem) c.args.here.now.world.now (assignment_in c.args.env.now) f)))
    (stays (trees c.args.nodes.now) (trees c.loop-at.nodes) c.loop-at.invariant.kept c.args.id c.requires.there.at)
    (subst (λ (v : List (Option Value)). IfOk c.residual_of.result (λ i.
    Denotes c.residual_of.new.nodes i (residual (plain_problem c.args.here.now.task.now.problem) c.args.here.now.world.now
    (assignment_in v) (tree_at (trees c.loop-at.nodes) c.args.id)))) c.loop-at.invariant.frame c.residual_of.ensures.number)

pub returns-clause-cause : goal.returns-clause-cause
returns-clause-cause c =
    subst (λ (f : FormulaTree). IfErr c.residual_of.result (IsCausedBy
    (looked_for_residual (plain_problem c.args.here.now.task.now.problem) c.args.here.now.world.now (assignment_in c.args.env.now) f)))
    (stays (trees c.args.nodes.now) (trees c.loop-at.nodes) c.loop-at.invariant.kept c.args.id c.requires.there.at)
    (subst (λ (v : List (Option Value)). IfErr c.residual_of.result (IsCausedBy
    (looked_for_residual (plain_problem c.args.here.now.task.now.problem) c.args.here.now.world.now (assignment_in v)
    (tree_at (trees c.loop-at.nodes) c.args.id)))) c.loop-at.invariant.frame c.residual_of.ensures.cause)

pub returns-clause-stays : goal.returns-clause-stays
returns-clause-stays c = record {
  frame = c.residual_of.ensures.stays.frame ∙ c.loop-at.invariant.frame;
  remembers =
      c.residual_of.ensures.stays.remembers;
}
