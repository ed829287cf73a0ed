use Rattle.std.proofs.Common.{◌≡◌, List, Bool, false, Option, refl, sym, ap, ◌∙◌, subst, arith}
use mathlib.Core.Bool.{beq}
use Rattle.tl_eval.specs.Frames.{assignment_in}
use Rattle.tl_nodes.specs.NodeTrees.{tree_at}
use Rattle.tl_nodes.specs.Numbers.{trees}
use Rattle.tl_syntax.specs.declared.value.Value.{Value}
use Rattle.tl_syntax.specs.Lists.{Each}
use Rattle.tl_syntax.specs.Signature.{signature_of}
use Rattle.tl_terms.specs.ProblemMeaning.{plain_problem}
use Rattle.tl_terms.specs.Progression.{constant}
use Rattle.tl_eval.specs.Faults.{IsCausedBy}
use Rattle.tl_progress.specs.Answers.{looked_for_residual, residual}
use Rattle.tl_progress.specs.Parts.{IsBelow}
use Rattle.tl_progress.proofs.Below.{part-among}
use Rattle.tl_progress.proofs.Found.{residual-fault}
use Rattle.tl_progress.proofs.OpenParts.{sentence-below, passed-none, passed-open, passed-on, passed-decided, passed-all, each-more}
use Rattle.tl_progress.proofs.joined.remembering_open_parts.Goals as goal

pub loop-i-init : goal.loop-i-init
loop-i-init c = record {
  remembers = c.requires.remembers;
  frame = refl;
  below = subst (Each (IsBelow false (trees c.args.formulas.now.nodes.now) c.args.joined.at)) (sym c.new-parts.ensures) tt;
  passed = passed-none (plain_problem c.args.formulas.now.here.now.task.now.problem) c.args.formulas.now.here.now.world.now
      (assignment_in c.args.env.now) (trees c.args.formulas.now.nodes.now) c.args.joined.at c.args.joined.junction c.new-parts.result
      c.new-parts.ensures;
}

pub state_part-requires-clause-there : goal.state_part-requires-clause-there
state_part-requires-clause-there c =
    let low = part-among false (trees c.args.formulas.now.nodes.now) c.args.joined.at c.args.joined.junction c.requires.join c.loop-i.i
    c.part_at-part.result c.part_at-part.ensures.smaller c.part_at-part.ensures.tree in
    record {
      at = omega (arith, c.part_at-part.ensures.smaller, c.requires.there.at);
      sentence =
          sentence-below (trees c.args.formulas.now.nodes.now) (signature_of c.args.formulas.now.here.now.task.now.problem.domain)
          c.args.joined.at c.part_at-part.result low c.requires.there.sentence;
    }

pub state_part-requires-clause-state : goal.state_part-requires-clause-state
state_part-requires-clause-state c = c.temporal.ensures.state.0 c.if-temporal.false

pub loop-i-preserved-then-temporal : goal.loop-i-preserved-then-temporal
loop-i-preserved-then-temporal c =
    let low = part-among false (trees c.args.formulas.now.nodes.now) c.args.joined.at c.args.joined.junction c.requires.join c.loop-i.i
    c.part_at-part.result c.part_at-part.ensures.smaller c.part_at-part.ensures.tree in
    record {
      remembers = c.loop-i.invariant.remembers;
      frame = c.loop-i.invariant.frame;
      below = each-more (IsBelow false (trees c.args.formulas.now.nodes.now) c.args.joined.at) c.loop-i.parts c.push.new.self
          c.part_at-part.result c.in_ok-push.ensures c.loop-i.invariant.below low;
      passed = passed-open (plain_problem c.args.formulas.now.here.now.task.now.problem) c.args.formulas.now.here.now.world.now
          (assignment_in c.args.env.now) (trees c.args.formulas.now.nodes.now) c.args.joined.at c.args.joined.junction c.loop-i.parts
          c.loop-i.i c.part_at-part.result c.part_at-part.ensures.tree c.loop-i.invariant.passed c.push.new.self c.in_ok-push.ensures;
    }

pub returns-then-truth-stop-clause-decided : goal.returns-then-truth-stop-clause-decided
returns-then-truth-stop-clause-decided c =
    passed-decided (plain_problem c.args.formulas.now.here.now.task.now.problem) c.args.formulas.now.here.now.world.now
    (assignment_in c.args.env.now) (trees c.args.formulas.now.nodes.now) c.args.joined.at c.args.joined.junction c.loop-i.parts
    c.loop-i.i c.part_at-part.result c.part_at-part.ensures.tree c.loop-i.invariant.passed c.requires.join c.in-Ok.truth
    (subst (λ (v : List (Option Value)). residual (plain_problem c.args.formulas.now.here.now.task.now.problem)
    c.args.formulas.now.here.now.world.now (assignment_in v) (tree_at (trees c.args.formulas.now.nodes.now) c.part_at-part.result) ≡
    constant c.in-Ok.truth) c.loop-i.invariant.frame c.in-Ok.ensures.truth)
    (ap (λ (b : Bool). beq c.in-Ok.truth b) (sym c.deciding_truth-stop.ensures) ∙ c.if-truth-stop.true)

pub returns-then-truth-stop-clause-stays : goal.returns-then-truth-stop-clause-stays
returns-then-truth-stop-clause-stays c = record {
  frame = c.state_part.ensures.stays.frame ∙ c.loop-i.invariant.frame;
  remembers =
      c.state_part.ensures.stays.remembers;
}

pub loop-i-preserved : goal.loop-i-preserved
loop-i-preserved c = record {
  remembers = c.state_part.ensures.stays.remembers;
  frame = c.state_part.ensures.stays.frame ∙ c.loop-i.invariant.frame;
  below = c.loop-i.invariant.below;
  passed = passed-on (plain_problem c.args.formulas.now.here.now.task.now.problem) c.args.formulas.now.here.now.world.now
      (assignment_in c.args.env.now) (trees c.args.formulas.now.nodes.now) c.args.joined.at c.args.joined.junction c.loop-i.parts c.loop-i.i
      c.part_at-part.result c.part_at-part.ensures.tree c.loop-i.invariant.passed c.in-Ok.truth
      (subst (λ (v : List (Option Value)). residual (plain_problem c.args.formulas.now.here.now.task.now.problem)
      c.args.formulas.now.here.now.world.now (assignment_in v) (tree_at (trees c.args.formulas.now.nodes.now) c.part_at-part.result) ≡
      constant c.in-Ok.truth) c.loop-i.invariant.frame c.in-Ok.ensures.truth)
      (ap (λ (b : Bool). beq c.in-Ok.truth b) (sym c.deciding_truth-stop.ensures) ∙ c.if-truth-stop.false);
}

pub returns-in-Err-clause-cause : goal.returns-in-Err-clause-cause
returns-in-Err-clause-cause c =
    let low = part-among false (trees c.args.formulas.now.nodes.now) c.args.joined.at c.args.joined.junction c.requires.join c.loop-i.i
    c.part_at-part.result c.part_at-part.ensures.smaller c.part_at-part.ensures.tree in
    residual-fault (plain_problem c.args.formulas.now.here.now.task.now.problem) c.args.formulas.now.here.now.world.now
    (assignment_in c.args.env.now) (trees c.args.formulas.now.nodes.now) c.args.joined.at c.part_at-part.result low c.in-Err.fault
    (subst (λ (v : List (Option Value)). IsCausedBy (looked_for_residual
    (plain_problem c.args.formulas.now.here.now.task.now.problem) c.args.formulas.now.here.now.world.now (assignment_in v)
    (tree_at (trees c.args.formulas.now.nodes.now) c.part_at-part.result)) c.in-Err.fault) c.loop-i.invariant.frame
    c.in-Err.ensures.cause)

pub returns-in-Err-clause-stays : goal.returns-in-Err-clause-stays
returns-in-Err-clause-stays c = record {
  frame = c.state_part.ensures.stays.frame ∙ c.loop-i.invariant.frame;
  remembers =
      c.state_part.ensures.stays.remembers;
}

pub returns-clause-parts : goal.returns-clause-parts
returns-clause-parts c =
    passed-all (plain_problem c.args.formulas.now.here.now.task.now.problem) c.args.formulas.now.here.now.world.now
    (assignment_in c.args.env.now) (trees c.args.formulas.now.nodes.now) c.args.joined.at c.args.joined.junction c.loop-i.parts
    c.loop-i.i (omega (arith, c.loop-i-test.false, c.part_count-i-end.ensures)) c.requires.join c.loop-i.invariant.below
    c.loop-i.invariant.passed
