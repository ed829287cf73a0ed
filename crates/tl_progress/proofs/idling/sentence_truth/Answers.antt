use Rattle.std.proofs.Common.{◌≡◌, ◌<◌, List, [], true, length, nat_eq, Option, IfOk, IfErr, refl, ◌∙◌, subst, arith}
use Rattle.indexmap.specs.IndexMap.{get}
use Rattle.tl_eval.specs.Frames.{assignment_in}
use Rattle.tl_nodes.specs.NodeTrees.{tree_at}
use Rattle.tl_nodes.specs.Numbers.{trees}
use Rattle.tl_syntax.specs.declared.value.Value.{Value}
use Rattle.tl_syntax.specs.Signature.{signature_of}
use Rattle.tl_terms.specs.ProblemMeaning.{plain_problem}
use Rattle.tl_eval.specs.Faults.{IsCausedBy}
use Rattle.tl_progress.specs.Answers.{looked_idly, idly_true}
use Rattle.tl_progress.specs.Parts.{IsBelow}
use Rattle.tl_progress.proofs.Found.{last-of, fits-below, truth-fault}
use Rattle.tl_progress.proofs.Learned.{truths-more}
use Rattle.tl_progress.proofs.idling.sentence_truth.Goals as goal

pub loop-at-init : goal.loop-at-init
loop-at-init c = record {
  remembers = c.requires.remembers;
  frame = refl;
  order = c.in_ok-order.ensures;
  known = (c.new-known.ensures (plain_problem c.args.formulas.now.here.now.task.now.problem) c.args.formulas.now.here.now.world.now
      (trees c.args.formulas.now.nodes.now)).truths;
}

pub truth_of-requires : goal.truth_of-requires
truth_of-requires c =
    let last = last-of (IsBelow true (trees c.args.formulas.now.nodes.now) c.args.id) c.loop-at.order.items c.pop.new.self.items
    c.in-Some.at c.in-Some.ensures.items c.loop-at.invariant.order in
    let under = last.1.under in
    record {
      readable = record {
        at = omega (arith, under, c.requires.there.at);
        fits = fits-below true (trees c.args.formulas.now.nodes.now) (signature_of c.args.formulas.now.here.now.task.now.problem.domain)
            c.args.id c.in-Some.at last.1 (record { around = []; fits = c.requires.there.sentence.fits });
        known = c.loop-at.invariant.known;
      };
      remembers = c.loop-at.invariant.remembers;
    }

pub returns-in-Err-clause-cause : goal.returns-in-Err-clause-cause
returns-in-Err-clause-cause c =
    let last = last-of (IsBelow true (trees c.args.formulas.now.nodes.now) c.args.id) c.loop-at.order.items c.pop.new.self.items
    c.in-Some.at c.in-Some.ensures.items c.loop-at.invariant.order in
    truth-fault (plain_problem c.args.formulas.now.here.now.task.now.problem) c.args.formulas.now.here.now.world.now
    (assignment_in c.args.env.now) (trees c.args.formulas.now.nodes.now) c.args.id c.in-Some.at last.1 c.in-Err.fault
    (subst (λ (v : List (Option Value)). IsCausedBy (looked_idly (plain_problem c.args.formulas.now.here.now.task.now.problem)
    c.args.formulas.now.here.now.world.now (assignment_in v) (tree_at (trees c.args.formulas.now.nodes.now) c.in-Some.at))
    c.in-Err.fault) c.loop-at.invariant.frame c.in-Err.ensures.cause)

pub returns-in-Err-clause-stays : goal.returns-in-Err-clause-stays
returns-in-Err-clause-stays c = record {
  frame = c.truth_of.ensures.stays.frame ∙ c.loop-at.invariant.frame;
  remembers =
      c.truth_of.ensures.stays.remembers;
}

pub returns-in_err-insert-in-Ok-clause-stays : goal.returns-in_err-insert-in-Ok-clause-stays
returns-in_err-insert-in-Ok-clause-stays c = record {
  frame = c.truth_of.ensures.stays.frame ∙ c.loop-at.invariant.frame;
  remembers =
      c.truth_of.ensures.stays.remembers;
}

pub loop-at-preserved : goal.loop-at-preserved
loop-at-preserved c =
    let last = last-of (IsBelow true (trees c.args.formulas.now.nodes.now) c.args.id) c.loop-at.order.items c.pop.new.self.items
    c.in-Some.at c.in-Some.ensures.items c.loop-at.invariant.order in
    let under = last.1.under in
    let inside : c.in-Some.at < length (trees c.args.formulas.now.nodes.now) = omega (arith, under, c.requires.there.at) in
    record {
      remembers = c.truth_of.ensures.stays.remembers;
      frame = c.truth_of.ensures.stays.frame ∙ c.loop-at.invariant.frame;
      order = last.0;
      known = truths-more (plain_problem c.args.formulas.now.here.now.task.now.problem) c.args.formulas.now.here.now.world.now
          (assignment_in c.args.env.now) (trees c.args.formulas.now.nodes.now) c.in-Some.at inside
          (last.1.scope [] c.requires.there.sentence.closed) (get nat_eq c.loop-at.known.truths)
          (get nat_eq c.insert.new.self) c.in-Ok.truth c.in_ok-insert-in-Ok.ensures.updates.0
          (subst (λ (v : List (Option Value)). c.in-Ok.truth ≡ idly_true
          (plain_problem c.args.formulas.now.here.now.task.now.problem) c.args.formulas.now.here.now.world.now (assignment_in v)
          (tree_at (trees c.args.formulas.now.nodes.now) c.in-Some.at)) c.loop-at.invariant.frame c.in-Ok.ensures.truth)
          c.loop-at.invariant.known;
    }

pub truth_of-requires-2 : goal.truth_of-requires-2
truth_of-requires-2 c = record {
  readable = record {
    at = c.requires.there.at;
    fits = record { around = []; fits = c.requires.there.sentence.fits };
    known = c.loop-at.invariant.known;
  };
  remembers = c.loop-at.invariant.remembers;
}

pub returns-clause-truth : goal.returns-clause-truth
returns-clause-truth c = subst (λ (v : List (Option Value)). IfOk c.truth_of-2.result
    (λ b. b ≡ idly_true (plain_problem c.args.formulas.now.here.now.task.now.problem) c.args.formulas.now.here.now.world.now
    (assignment_in v) (tree_at (trees c.args.formulas.now.nodes.now) c.args.id))) c.loop-at.invariant.frame c.truth_of-2.ensures.truth

pub returns-clause-cause : goal.returns-clause-cause
returns-clause-cause c = subst (λ (v : List (Option Value)). IfErr c.truth_of-2.result
    (IsCausedBy (looked_idly (plain_problem c.args.formulas.now.here.now.task.now.problem) c.args.formulas.now.here.now.world.now
    (assignment_in v) (tree_at (trees c.args.formulas.now.nodes.now) c.args.id)))) c.loop-at.invariant.frame c.truth_of-2.ensures.cause

pub returns-clause-stays : goal.returns-clause-stays
returns-clause-stays c = record {
  frame = c.truth_of-2.ensures.stays.frame ∙ c.loop-at.invariant.frame;
  remembers =
      c.truth_of-2.ensures.stays.remembers;
}
