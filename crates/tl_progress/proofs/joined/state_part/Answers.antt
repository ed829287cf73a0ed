use Rattle.std.proofs.Common.{◌≡◌, List, [], Bool, Result, Ok, Err, IfOk, IfErr, sym, ◌∙◌, subst}
use Rattle.tl_eval.specs.Frames.{assignment_in}
use Rattle.tl_nodes.specs.NodeTrees.{tree_at}
use Rattle.tl_nodes.specs.Numbers.{trees}
use Rattle.tl_syntax.specs.Assignment.{Assignment}
use Rattle.tl_syntax.specs.Signature.{signature_of}
use Rattle.tl_syntax.specs.StateFormulas.{IsState}
use Rattle.tl_syntax.specs.Trees.{FormulaTree}
use Rattle.tl_terms.specs.Operations.{Operation}
use Rattle.tl_terms.specs.Problem.{PlainProblem}
use Rattle.tl_terms.specs.ProblemMeaning.{plain_problem}
use Rattle.tl_terms.specs.Progression.{constant}
use Rattle.tl_terms.specs.World.{World}
use Rattle.tl_eval.specs.declared.fault.EvalFault.{EvalFault}
use Rattle.tl_eval.specs.Faults.{IsCausedBy}
use Rattle.tl_progress.specs.Answers.{idly_true, residual}
use Rattle.tl_progress.specs.Sentences.{FitsSomewhere}
use Rattle.tl_progress.proofs.StateFormulas.{constant-next, looked-same}
use Rattle.tl_progress.proofs.TruthLayers.{shown-Basic, basic-in, idle-Basic, looked-Basic}
use Rattle.tl_progress.proofs.joined.state_part.Goals as goal

-- the truth is the constant that is left
leaves : (p : PlainProblem) (w : World) (e : Assignment) (f : FormulaTree) → IsState f → (r : Result Bool EvalFault) →
    IfOk r (λ b. b ≡ idly_true p w e f) → IfOk r (λ b. residual p w e f ≡ constant b)
leaves p w e f state (Ok b) h = sym (constant-next p w e f b state h)
leaves p w e f state (Err x) h = tt

pub basic_truth-requires-clause-fits : goal.basic_truth-requires-clause-fits
basic_truth-requires-clause-fits c = subst (FitsSomewhere (signature_of c.args.formulas.now.here.now.task.now.problem.domain))
    (shown-Basic (trees c.args.formulas.now.nodes.now) c.args.part c.get.result.now c.get.ensures.tree c.in-Basic.f c.in-Basic.is)
    (record { around = []; fits = c.requires.there.sentence.fits })

pub basic_truth-requires-clause-basic : goal.basic_truth-requires-clause-basic
basic_truth-requires-clause-basic c = basic-in (trees c.args.formulas.now.nodes.now) c.args.part c.get.result.now c.get.ensures.tree
    c.get.ensures.parts c.in-Basic.f c.in-Basic.is

pub returns-in-Basic-clause-truth : goal.returns-in-Basic-clause-truth
returns-in-Basic-clause-truth c =
    leaves (plain_problem c.args.formulas.now.here.now.task.now.problem) c.args.formulas.now.here.now.world.now
    (assignment_in c.args.env.now) (tree_at (trees c.args.formulas.now.nodes.now) c.args.part) c.requires.state c.basic_truth.result
    (subst (λ (x : Bool). IfOk c.basic_truth.result (λ b. b ≡ x)) (idle-Basic
    (trees c.args.formulas.now.nodes.now) c.args.part c.get.result.now c.get.ensures.tree
    (plain_problem c.args.formulas.now.here.now.task.now.problem) c.args.formulas.now.here.now.world.now
    (assignment_in c.args.env.now) c.get.ensures.parts c.in-Basic.f c.in-Basic.is) c.basic_truth.ensures.truth)

pub returns-in-Basic-clause-cause : goal.returns-in-Basic-clause-cause
returns-in-Basic-clause-cause c =
    subst (λ (x : List Operation). IfErr c.basic_truth.result (IsCausedBy x))
    (looked-Basic (trees c.args.formulas.now.nodes.now) c.args.part c.get.result.now c.get.ensures.tree
    (plain_problem c.args.formulas.now.here.now.task.now.problem) c.args.formulas.now.here.now.world.now
    (assignment_in c.args.env.now) c.get.ensures.parts c.in-Basic.f c.in-Basic.is ∙
    looked-same (plain_problem c.args.formulas.now.here.now.task.now.problem) c.args.formulas.now.here.now.world.now
    (assignment_in c.args.env.now) (tree_at (trees c.args.formulas.now.nodes.now) c.args.part) c.requires.state)
    c.basic_truth.ensures.cause

pub truth_of-requires-clause-readable : goal.truth_of-requires-clause-readable
truth_of-requires-clause-readable c = record {
  at = c.requires.there.at;
  fits =
      record { around = []; fits = c.requires.there.sentence.fits };
  known = c.requires.known;
}

pub returns-then-is_shallow-clause-truth : goal.returns-then-is_shallow-clause-truth
returns-then-is_shallow-clause-truth c = leaves (plain_problem c.args.formulas.now.here.now.task.now.problem)
    c.args.formulas.now.here.now.world.now (assignment_in c.args.env.now)
    (tree_at (trees c.args.formulas.now.nodes.now) c.args.part) c.requires.state c.truth_of.result c.truth_of.ensures.truth

pub returns-then-is_shallow-clause-cause : goal.returns-then-is_shallow-clause-cause
returns-then-is_shallow-clause-cause c = subst (λ (x : List Operation). IfErr c.truth_of.result (IsCausedBy x))
    (looked-same (plain_problem c.args.formulas.now.here.now.task.now.problem) c.args.formulas.now.here.now.world.now
    (assignment_in c.args.env.now) (tree_at (trees c.args.formulas.now.nodes.now) c.args.part) c.requires.state) c.truth_of.ensures.cause

pub returns-clause-truth : goal.returns-clause-truth
returns-clause-truth c = leaves (plain_problem c.args.formulas.now.here.now.task.now.problem) c.args.formulas.now.here.now.world.now
    (assignment_in c.args.env.now) (tree_at (trees c.args.formulas.now.nodes.now) c.args.part) c.requires.state c.sentence_truth.result
    c.sentence_truth.ensures.truth

pub returns-clause-cause : goal.returns-clause-cause
returns-clause-cause c = subst (λ (x : List Operation). IfErr c.sentence_truth.result (IsCausedBy x))
    (looked-same (plain_problem c.args.formulas.now.here.now.task.now.problem) c.args.formulas.now.here.now.world.now
    (assignment_in c.args.env.now) (tree_at (trees c.args.formulas.now.nodes.now) c.args.part) c.requires.state)
    c.sentence_truth.ensures.cause
