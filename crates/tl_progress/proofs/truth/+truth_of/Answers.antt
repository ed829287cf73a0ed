use Rattle.std.proofs.Common.{◌≡◌, ◌<◌, ℕ, List, Bool, true, length, get_or, inl, Option, IfOk, IfErr, refl, sym, ap, ◌∙◌, subst, arith}
use Rattle.tl_eval.specs.Frames.{assignment_in}
use Rattle.tl_nodes.specs.Fits.{all_below}
use Rattle.tl_nodes.specs.Joins.{join_node}
use Rattle.tl_nodes.specs.NodeTrees.{tree_at, tree_of_node}
use Rattle.tl_nodes.specs.Numbers.{trees}
use Rattle.tl_syntax.specs.declared.value.Value.{Value}
use Rattle.tl_syntax.specs.declared.variable.Var.{Var}
use Rattle.tl_syntax.specs.Assignment.{Assignment}
use Rattle.tl_syntax.specs.Lists.{Each, Among}
use Rattle.tl_syntax.specs.Signature.{signature_of}
use Rattle.tl_syntax.specs.Trees.{FormulaTree}
use Rattle.tl_terms.specs.Operations.{Operation}
use Rattle.tl_terms.specs.ProblemMeaning.{plain_problem}
use Rattle.tl_eval.specs.Faults.{IsCausedBy}
use Rattle.tl_progress.specs.Answers.{decided, looked_idly, idly_true}
use Rattle.tl_progress.specs.Parts.{parts}
use Rattle.tl_progress.specs.Sentences.{FitsSomewhere}
use Rattle.tl_progress.proofs.Below.{part-lower, part-fits, among-at}
use Rattle.tl_progress.proofs.Decided.{ids-on, ids-here, ids-end}
use Rattle.tl_progress.proofs.Found.{fits-below, truth-caused, truth-fault, join-caused}
use Rattle.tl_progress.proofs.Instances.{Open, quantifier-fits, open-begun, open-end, open-on, open-here, caused}
use Rattle.tl_progress.proofs.InstanceSteps.{has-come, none-left, still-others}
use Rattle.tl_progress.proofs.PutLayers.{at-below, below-And, below-Or}
use Rattle.tl_progress.proofs.TruthLayers.{shown-Basic, shown-ForAll, shown-Exists, shown-And, shown-Or, basic-in, less-ForAll, less-Exists}
use Rattle.tl_progress.proofs.TruthLayers.{idle-True, idle-False, idle-Basic, looked-Basic, idle-Not, idle-Next, idle-Always}
use Rattle.tl_progress.proofs.TruthLayers.{idle-Eventually, idle-Until, idle-Within, idle-During, idle-join}
use Rattle.tl_progress.proofs.truth.+truth_of.Goals as goal

-- ---- one layer

pub layer_truth-basic_truth-requires-clause-fits : goal.layer_truth-basic_truth-requires-clause-fits
layer_truth-basic_truth-requires-clause-fits t c = subst (FitsSomewhere (signature_of c.args.formulas.now.here.now.task.now.problem.domain))
    (shown-Basic (trees c.args.formulas.now.nodes.now) c.args.at c.get.result.now c.get.ensures.tree c.in-Basic.f c.in-Basic.is)
    c.requires.readable.fits

pub layer_truth-basic_truth-requires-clause-basic : goal.layer_truth-basic_truth-requires-clause-basic
layer_truth-basic_truth-requires-clause-basic t c = basic-in (trees c.args.formulas.now.nodes.now) c.args.at c.get.result.now
    c.get.ensures.tree c.get.ensures.parts c.in-Basic.f c.in-Basic.is

pub layer_truth-returns-in-True-clause-truth : goal.layer_truth-returns-in-True-clause-truth
layer_truth-returns-in-True-clause-truth t c = idle-True (trees c.args.formulas.now.nodes.now) c.args.at c.get.result.now c.get.ensures.tree
    (plain_problem c.args.formulas.now.here.now.task.now.problem) c.args.formulas.now.here.now.world.now
    (assignment_in c.args.env.now) c.in-True.is

pub layer_truth-returns-in-False-clause-truth : goal.layer_truth-returns-in-False-clause-truth
layer_truth-returns-in-False-clause-truth t c = idle-False (trees c.args.formulas.now.nodes.now) c.args.at c.get.result.now
    c.get.ensures.tree (plain_problem c.args.formulas.now.here.now.task.now.problem) c.args.formulas.now.here.now.world.now
    (assignment_in c.args.env.now) c.in-False.is

pub layer_truth-returns-in-Basic-clause-truth : goal.layer_truth-returns-in-Basic-clause-truth
layer_truth-returns-in-Basic-clause-truth t c = subst (λ (x : Bool). IfOk c.basic_truth.result (λ b. b ≡ x))
    (idle-Basic (trees c.args.formulas.now.nodes.now) c.args.at c.get.result.now c.get.ensures.tree
    (plain_problem c.args.formulas.now.here.now.task.now.problem) c.args.formulas.now.here.now.world.now
    (assignment_in c.args.env.now) c.get.ensures.parts c.in-Basic.f c.in-Basic.is) c.basic_truth.ensures.truth

pub layer_truth-returns-in-Basic-clause-cause : goal.layer_truth-returns-in-Basic-clause-cause
layer_truth-returns-in-Basic-clause-cause t c = subst (λ (x : List Operation). IfErr c.basic_truth.result (IsCausedBy x))
    (looked-Basic (trees c.args.formulas.now.nodes.now) c.args.at c.get.result.now c.get.ensures.tree
    (plain_problem c.args.formulas.now.here.now.task.now.problem) c.args.formulas.now.here.now.world.now
    (assignment_in c.args.env.now) c.get.ensures.parts c.in-Basic.f c.in-Basic.is) c.basic_truth.ensures.cause

pub layer_truth-truth_of-requires : goal.layer_truth-truth_of-requires
layer_truth-truth_of-requires t c =
    let low = part-lower true (trees c.args.formulas.now.nodes.now) c.args.at c.in-Not.part c.get.result.now c.get.ensures.tree
    c.get.ensures.parts (subst (λ n. Among c.in-Not.part (parts true n)) (sym c.in-Not.is) (inl refl)) in
    let less = low.less in (
      omega (arith, less, c.decreases),
      (
        record {
          at = omega (arith, less, c.requires.readable.at);
          fits =
              fits-below true (trees c.args.formulas.now.nodes.now) (signature_of c.args.formulas.now.here.now.task.now.problem.domain)
              c.args.at
              c.in-Not.part low.below c.requires.readable.fits;
          known = c.requires.readable.known;
        },
        c.requires.remembers,
      ),
    )

pub layer_truth-returns-in-Ok-clause-truth : goal.layer_truth-returns-in-Ok-clause-truth
layer_truth-returns-in-Ok-clause-truth t c = idle-Not (trees c.args.formulas.now.nodes.now) c.args.at c.get.result.now c.get.ensures.tree
    (plain_problem c.args.formulas.now.here.now.task.now.problem) c.args.formulas.now.here.now.world.now
    (assignment_in c.args.env.now) c.in-Not.part c.in-Ok.truth c.in-Not.is c.in-Ok.ensures.truth

pub layer_truth-returns-in-Err-clause-cause : goal.layer_truth-returns-in-Err-clause-cause
layer_truth-returns-in-Err-clause-cause t c =
    let low = part-lower true (trees c.args.formulas.now.nodes.now) c.args.at c.in-Not.part c.get.result.now c.get.ensures.tree
    c.get.ensures.parts (subst (λ n. Among c.in-Not.part (parts true n)) (sym c.in-Not.is) (inl refl)) in
    truth-fault (plain_problem c.args.formulas.now.here.now.task.now.problem) c.args.formulas.now.here.now.world.now
    (assignment_in c.args.env.now) (trees c.args.formulas.now.nodes.now) c.args.at c.in-Not.part low.below c.in-Err.fault
    c.in-Err.ensures.cause

pub layer_truth-truth_of-requires-in-Next : goal.layer_truth-truth_of-requires-in-Next
layer_truth-truth_of-requires-in-Next t c =
    let low = part-lower true (trees c.args.formulas.now.nodes.now) c.args.at c.in-Next.part c.get.result.now c.get.ensures.tree
    c.get.ensures.parts (subst (λ n. Among c.in-Next.part (parts true n)) (sym c.in-Next.is) (inl refl)) in
    let less = low.less in (
      omega (arith, less, c.decreases),
      (
        record {
          at = omega (arith, less, c.requires.readable.at);
          fits =
              fits-below true (trees c.args.formulas.now.nodes.now) (signature_of c.args.formulas.now.here.now.task.now.problem.domain)
              c.args.at
              c.in-Next.part low.below c.requires.readable.fits;
          known = c.requires.readable.known;
        },
        c.requires.remembers,
      ),
    )

pub layer_truth-returns-in-Next-clause-truth : goal.layer_truth-returns-in-Next-clause-truth
layer_truth-returns-in-Next-clause-truth t c = subst (λ (x : Bool). IfOk c.truth_of-in-Next.result (λ b. b ≡ x))
    (idle-Next (trees c.args.formulas.now.nodes.now) c.args.at c.get.result.now c.get.ensures.tree
    (plain_problem c.args.formulas.now.here.now.task.now.problem) c.args.formulas.now.here.now.world.now
    (assignment_in c.args.env.now) c.in-Next.part c.in-Next.is) c.truth_of-in-Next.ensures.truth

pub layer_truth-returns-in-Next-clause-cause : goal.layer_truth-returns-in-Next-clause-cause
layer_truth-returns-in-Next-clause-cause t c =
    let low = part-lower true (trees c.args.formulas.now.nodes.now) c.args.at c.in-Next.part c.get.result.now c.get.ensures.tree
    c.get.ensures.parts (subst (λ n. Among c.in-Next.part (parts true n)) (sym c.in-Next.is) (inl refl)) in
    truth-caused (plain_problem c.args.formulas.now.here.now.task.now.problem) c.args.formulas.now.here.now.world.now
    (assignment_in c.args.env.now) (trees c.args.formulas.now.nodes.now) c.args.at c.in-Next.part low.below c.truth_of-in-Next.result
    c.truth_of-in-Next.ensures.cause

pub layer_truth-truth_of-requires-in-Always : goal.layer_truth-truth_of-requires-in-Always
layer_truth-truth_of-requires-in-Always t c =
    let low = part-lower true (trees c.args.formulas.now.nodes.now) c.args.at c.in-Always.part c.get.result.now c.get.ensures.tree
    c.get.ensures.parts (subst (λ n. Among c.in-Always.part (parts true n)) (sym c.in-Always.is) (inl refl)) in
    let less = low.less in (
      omega (arith, less, c.decreases),
      (
        record {
          at = omega (arith, less, c.requires.readable.at);
          fits =
              fits-below true (trees c.args.formulas.now.nodes.now) (signature_of c.args.formulas.now.here.now.task.now.problem.domain)
              c.args.at
              c.in-Always.part low.below c.requires.readable.fits;
          known = c.requires.readable.known;
        },
        c.requires.remembers,
      ),
    )

pub layer_truth-returns-in-Always-clause-truth : goal.layer_truth-returns-in-Always-clause-truth
layer_truth-returns-in-Always-clause-truth t c = subst (λ (x : Bool). IfOk c.truth_of-in-Always.result (λ b. b ≡ x))
    (idle-Always (trees c.args.formulas.now.nodes.now) c.args.at c.get.result.now c.get.ensures.tree
    (plain_problem c.args.formulas.now.here.now.task.now.problem) c.args.formulas.now.here.now.world.now
    (assignment_in c.args.env.now) c.in-Always.part c.in-Always.is) c.truth_of-in-Always.ensures.truth

pub layer_truth-returns-in-Always-clause-cause : goal.layer_truth-returns-in-Always-clause-cause
layer_truth-returns-in-Always-clause-cause t c =
    let low = part-lower true (trees c.args.formulas.now.nodes.now) c.args.at c.in-Always.part c.get.result.now c.get.ensures.tree
    c.get.ensures.parts (subst (λ n. Among c.in-Always.part (parts true n)) (sym c.in-Always.is) (inl refl)) in
    truth-caused (plain_problem c.args.formulas.now.here.now.task.now.problem) c.args.formulas.now.here.now.world.now
    (assignment_in c.args.env.now) (trees c.args.formulas.now.nodes.now) c.args.at c.in-Always.part low.below
    c.truth_of-in-Always.result c.truth_of-in-Always.ensures.cause

pub layer_truth-truth_of-requires-in-Eventually : goal.layer_truth-truth_of-requires-in-Eventually
layer_truth-truth_of-requires-in-Eventually t c =
    let low = part-lower true (trees c.args.formulas.now.nodes.now) c.args.at c.in-Eventually.part c.get.result.now c.get.ensures.tree
    c.get.ensures.parts (subst (λ n. Among c.in-Eventually.part (parts true n)) (sym c.in-Eventually.is) (inl refl)) in
    let less = low.less in (
      omega (arith, less, c.decreases),
      (
        record {
          at = omega (arith, less, c.requires.readable.at);
          fits =
              fits-below true (trees c.args.formulas.now.nodes.now) (signature_of c.args.formulas.now.here.now.task.now.problem.domain)
              c.args.at
              c.in-Eventually.part low.below c.requires.readable.fits;
          known = c.requires.readable.known;
        },
        c.requires.remembers,
      ),
    )

pub layer_truth-returns-in-Eventually-clause-truth : goal.layer_truth-returns-in-Eventually-clause-truth
layer_truth-returns-in-Eventually-clause-truth t c = subst (λ (x : Bool). IfOk c.truth_of-in-Eventually.result (λ b. b ≡ x))
    (idle-Eventually (trees c.args.formulas.now.nodes.now) c.args.at c.get.result.now c.get.ensures.tree
    (plain_problem c.args.formulas.now.here.now.task.now.problem) c.args.formulas.now.here.now.world.now
    (assignment_in c.args.env.now) c.in-Eventually.part c.in-Eventually.is) c.truth_of-in-Eventually.ensures.truth

pub layer_truth-returns-in-Eventually-clause-cause : goal.layer_truth-returns-in-Eventually-clause-cause
layer_truth-returns-in-Eventually-clause-cause t c =
    let low = part-lower true (trees c.args.formulas.now.nodes.now) c.args.at c.in-Eventually.part c.get.result.now c.get.ensures.tree
    c.get.ensures.parts (subst (λ n. Among c.in-Eventually.part (parts true n)) (sym c.in-Eventually.is) (inl refl)) in
    truth-caused (plain_problem c.args.formulas.now.here.now.task.now.problem) c.args.formulas.now.here.now.world.now
    (assignment_in c.args.env.now) (trees c.args.formulas.now.nodes.now) c.args.at c.in-Eventually.part low.below
    c.truth_of-in-Eventually.result c.truth_of-in-Eventually.ensures.cause

pub layer_truth-truth_of-requires-in-Until : goal.layer_truth-truth_of-requires-in-Until
layer_truth-truth_of-requires-in-Until t c =
    let low = part-lower true (trees c.args.formulas.now.nodes.now) c.args.at c.in-Until.second c.get.result.now c.get.ensures.tree
    c.get.ensures.parts (subst (λ n. Among c.in-Until.second (parts true n)) (sym c.in-Until.is) (inl refl)) in
    let less = low.less in (
      omega (arith, less, c.decreases),
      (
        record {
          at = omega (arith, less, c.requires.readable.at);
          fits =
              fits-below true (trees c.args.formulas.now.nodes.now) (signature_of c.args.formulas.now.here.now.task.now.problem.domain)
              c.args.at
              c.in-Until.second low.below c.requires.readable.fits;
          known = c.requires.readable.known;
        },
        c.requires.remembers,
      ),
    )

pub layer_truth-returns-in-Until-clause-truth : goal.layer_truth-returns-in-Until-clause-truth
layer_truth-returns-in-Until-clause-truth t c = subst (λ (x : Bool). IfOk c.truth_of-in-Until.result (λ b. b ≡ x))
    (idle-Until (trees c.args.formulas.now.nodes.now) c.args.at c.get.result.now c.get.ensures.tree
    (plain_problem c.args.formulas.now.here.now.task.now.problem) c.args.formulas.now.here.now.world.now
    (assignment_in c.args.env.now) c.in-Until.field-0 c.in-Until.second c.in-Until.is) c.truth_of-in-Until.ensures.truth

pub layer_truth-returns-in-Until-clause-cause : goal.layer_truth-returns-in-Until-clause-cause
layer_truth-returns-in-Until-clause-cause t c =
    let low = part-lower true (trees c.args.formulas.now.nodes.now) c.args.at c.in-Until.second c.get.result.now c.get.ensures.tree
    c.get.ensures.parts (subst (λ n. Among c.in-Until.second (parts true n)) (sym c.in-Until.is) (inl refl)) in
    truth-caused (plain_problem c.args.formulas.now.here.now.task.now.problem) c.args.formulas.now.here.now.world.now
    (assignment_in c.args.env.now) (trees c.args.formulas.now.nodes.now) c.args.at c.in-Until.second low.below
    c.truth_of-in-Until.result c.truth_of-in-Until.ensures.cause

pub layer_truth-truth_of-requires-in-Within : goal.layer_truth-truth_of-requires-in-Within
layer_truth-truth_of-requires-in-Within t c =
    let low = part-lower true (trees c.args.formulas.now.nodes.now) c.args.at c.in-Within.part c.get.result.now c.get.ensures.tree
    c.get.ensures.parts (subst (λ n. Among c.in-Within.part (parts true n)) (sym c.in-Within.is) (inl refl)) in
    let less = low.less in (
      omega (arith, less, c.decreases),
      (
        record {
          at = omega (arith, less, c.requires.readable.at);
          fits =
              fits-below true (trees c.args.formulas.now.nodes.now) (signature_of c.args.formulas.now.here.now.task.now.problem.domain)
              c.args.at
              c.in-Within.part low.below c.requires.readable.fits;
          known = c.requires.readable.known;
        },
        c.requires.remembers,
      ),
    )

pub layer_truth-returns-in-Within-clause-truth : goal.layer_truth-returns-in-Within-clause-truth
layer_truth-returns-in-Within-clause-truth t c = subst (λ (x : Bool). IfOk c.truth_of-in-Within.result (λ b. b ≡ x))
    (idle-Within (trees c.args.formulas.now.nodes.now) c.args.at c.get.result.now c.get.ensures.tree
    (plain_problem c.args.formulas.now.here.now.task.now.problem) c.args.formulas.now.here.now.world.now
    (assignment_in c.args.env.now) c.in-Within.field-0 c.in-Within.part c.in-Within.is) c.truth_of-in-Within.ensures.truth

pub layer_truth-returns-in-Within-clause-cause : goal.layer_truth-returns-in-Within-clause-cause
layer_truth-returns-in-Within-clause-cause t c =
    let low = part-lower true (trees c.args.formulas.now.nodes.now) c.args.at c.in-Within.part c.get.result.now c.get.ensures.tree
    c.get.ensures.parts (subst (λ n. Among c.in-Within.part (parts true n)) (sym c.in-Within.is) (inl refl)) in
    truth-caused (plain_problem c.args.formulas.now.here.now.task.now.problem) c.args.formulas.now.here.now.world.now
    (assignment_in c.args.env.now) (trees c.args.formulas.now.nodes.now) c.args.at c.in-Within.part low.below
    c.truth_of-in-Within.result c.truth_of-in-Within.ensures.cause

pub layer_truth-truth_of-requires-in-During : goal.layer_truth-truth_of-requires-in-During
layer_truth-truth_of-requires-in-During t c =
    let low = part-lower true (trees c.args.formulas.now.nodes.now) c.args.at c.in-During.part c.get.result.now c.get.ensures.tree
    c.get.ensures.parts (subst (λ n. Among c.in-During.part (parts true n)) (sym c.in-During.is) (inl refl)) in
    let less = low.less in (
      omega (arith, less, c.decreases),
      (
        record {
          at = omega (arith, less, c.requires.readable.at);
          fits =
              fits-below true (trees c.args.formulas.now.nodes.now) (signature_of c.args.formulas.now.here.now.task.now.problem.domain)
              c.args.at
              c.in-During.part low.below c.requires.readable.fits;
          known = c.requires.readable.known;
        },
        c.requires.remembers,
      ),
    )

pub layer_truth-returns-in-During-clause-truth : goal.layer_truth-returns-in-During-clause-truth
layer_truth-returns-in-During-clause-truth t c = subst (λ (x : Bool). IfOk c.truth_of-in-During.result (λ b. b ≡ x))
    (idle-During (trees c.args.formulas.now.nodes.now) c.args.at c.get.result.now c.get.ensures.tree
    (plain_problem c.args.formulas.now.here.now.task.now.problem) c.args.formulas.now.here.now.world.now
    (assignment_in c.args.env.now) c.in-During.field-0 c.in-During.part c.in-During.is) c.truth_of-in-During.ensures.truth

pub layer_truth-returns-in-During-clause-cause : goal.layer_truth-returns-in-During-clause-cause
layer_truth-returns-in-During-clause-cause t c =
    let low = part-lower true (trees c.args.formulas.now.nodes.now) c.args.at c.in-During.part c.get.result.now c.get.ensures.tree
    c.get.ensures.parts (subst (λ n. Among c.in-During.part (parts true n)) (sym c.in-During.is) (inl refl)) in
    truth-caused (plain_problem c.args.formulas.now.here.now.task.now.problem) c.args.formulas.now.here.now.world.now
    (assignment_in c.args.env.now) (trees c.args.formulas.now.nodes.now) c.args.at c.in-During.part low.below
    c.truth_of-in-During.result c.truth_of-in-During.ensures.cause

pub layer_truth-join_truth-requires : goal.layer_truth-join_truth-requires
layer_truth-join_truth-requires t c = (
  omega (arith, c.decreases),
  (
    record {
      at = c.requires.readable.at;
      below =
          below-And (trees c.args.formulas.now.nodes.now) c.args.at c.get.result.now c.get.ensures.parts c.in-And.parts c.in-And.is;
      fits =
          subst (FitsSomewhere (signature_of c.args.formulas.now.here.now.task.now.problem.domain))
          (shown-And (trees c.args.formulas.now.nodes.now) c.args.at c.get.result.now c.get.ensures.tree c.in-And.parts c.in-And.is)
          c.requires.readable.fits;
      known = c.requires.readable.known;
    },
    c.requires.remembers,
  ),
)

pub layer_truth-returns-in-And-clause-truth : goal.layer_truth-returns-in-And-clause-truth
layer_truth-returns-in-And-clause-truth t c =
    subst (λ (f : FormulaTree). IfOk c.join_truth.result (λ b. b ≡ idly_true
    (plain_problem c.args.formulas.now.here.now.task.now.problem) c.args.formulas.now.here.now.world.now
    (assignment_in c.args.env.now) f)) (sym (shown-And (trees c.args.formulas.now.nodes.now) c.args.at c.get.result.now
    c.get.ensures.tree c.in-And.parts c.in-And.is)) c.join_truth.ensures.truth

pub layer_truth-returns-in-And-clause-cause : goal.layer_truth-returns-in-And-clause-cause
layer_truth-returns-in-And-clause-cause t c =
    subst (λ (f : FormulaTree). IfErr c.join_truth.result (IsCausedBy (looked_idly
    (plain_problem c.args.formulas.now.here.now.task.now.problem) c.args.formulas.now.here.now.world.now
    (assignment_in c.args.env.now) f))) (sym (shown-And (trees c.args.formulas.now.nodes.now) c.args.at c.get.result.now
    c.get.ensures.tree c.in-And.parts c.in-And.is)) c.join_truth.ensures.cause

pub layer_truth-join_truth-requires-in-Or : goal.layer_truth-join_truth-requires-in-Or
layer_truth-join_truth-requires-in-Or t c = (
  omega (arith, c.decreases),
  (
    record {
      at = c.requires.readable.at;
      below =
          below-Or (trees c.args.formulas.now.nodes.now) c.args.at c.get.result.now c.get.ensures.parts c.in-Or.parts c.in-Or.is;
      fits =
          subst (FitsSomewhere (signature_of c.args.formulas.now.here.now.task.now.problem.domain))
          (shown-Or (trees c.args.formulas.now.nodes.now) c.args.at c.get.result.now c.get.ensures.tree c.in-Or.parts c.in-Or.is)
          c.requires.readable.fits;
      known = c.requires.readable.known;
    },
    c.requires.remembers,
  ),
)

pub layer_truth-returns-in-Or-clause-truth : goal.layer_truth-returns-in-Or-clause-truth
layer_truth-returns-in-Or-clause-truth t c =
    subst (λ (f : FormulaTree). IfOk c.join_truth-in-Or.result (λ b. b ≡
    idly_true (plain_problem c.args.formulas.now.here.now.task.now.problem) c.args.formulas.now.here.now.world.now
    (assignment_in c.args.env.now) f)) (sym (shown-Or (trees c.args.formulas.now.nodes.now) c.args.at c.get.result.now
    c.get.ensures.tree c.in-Or.parts c.in-Or.is)) c.join_truth-in-Or.ensures.truth

pub layer_truth-returns-in-Or-clause-cause : goal.layer_truth-returns-in-Or-clause-cause
layer_truth-returns-in-Or-clause-cause t c =
    subst (λ (f : FormulaTree). IfErr c.join_truth-in-Or.result (IsCausedBy
    (looked_idly (plain_problem c.args.formulas.now.here.now.task.now.problem) c.args.formulas.now.here.now.world.now
    (assignment_in c.args.env.now) f))) (sym (shown-Or (trees c.args.formulas.now.nodes.now) c.args.at c.get.result.now
    c.get.ensures.tree c.in-Or.parts c.in-Or.is)) c.join_truth-in-Or.ensures.cause

pub layer_truth-quantifier_truth-requires : goal.layer_truth-quantifier_truth-requires
layer_truth-quantifier_truth-requires t c =
    let less = less-ForAll (trees c.args.formulas.now.nodes.now) c.args.at c.get.result.now c.get.ensures.tree c.get.ensures.parts
    c.in-ForAll.vars c.in-ForAll.bound c.in-ForAll.part c.in-ForAll.is in (
      omega (arith, less, c.decreases),
      (
        record {
          part = omega (arith, less, c.requires.readable.at);
          fits =
              subst (FitsSomewhere (signature_of c.args.formulas.now.here.now.task.now.problem.domain))
              (shown-ForAll (trees c.args.formulas.now.nodes.now) c.args.at c.get.result.now c.get.ensures.tree c.in-ForAll.vars
              c.in-ForAll.bound
              c.in-ForAll.part c.in-ForAll.is) c.requires.readable.fits;
          known = c.requires.readable.known;
        },
        c.requires.remembers,
      ),
    )

pub layer_truth-returns-in-ForAll-clause-truth : goal.layer_truth-returns-in-ForAll-clause-truth
layer_truth-returns-in-ForAll-clause-truth t c =
    subst (λ (f : FormulaTree). IfOk c.quantifier_truth.result (λ b. b ≡
    idly_true (plain_problem c.args.formulas.now.here.now.task.now.problem) c.args.formulas.now.here.now.world.now
    (assignment_in c.args.env.now) f)) (sym (shown-ForAll (trees c.args.formulas.now.nodes.now) c.args.at c.get.result.now
    c.get.ensures.tree c.in-ForAll.vars c.in-ForAll.bound c.in-ForAll.part c.in-ForAll.is)) c.quantifier_truth.ensures.truth

pub layer_truth-returns-in-ForAll-clause-cause : goal.layer_truth-returns-in-ForAll-clause-cause
layer_truth-returns-in-ForAll-clause-cause t c =
    subst (λ (f : FormulaTree). IfErr c.quantifier_truth.result (IsCausedBy
    (looked_idly (plain_problem c.args.formulas.now.here.now.task.now.problem) c.args.formulas.now.here.now.world.now
    (assignment_in c.args.env.now) f))) (sym (shown-ForAll (trees c.args.formulas.now.nodes.now) c.args.at c.get.result.now
    c.get.ensures.tree c.in-ForAll.vars c.in-ForAll.bound c.in-ForAll.part c.in-ForAll.is)) c.quantifier_truth.ensures.cause

pub layer_truth-quantifier_truth-requires-in-Exists : goal.layer_truth-quantifier_truth-requires-in-Exists
layer_truth-quantifier_truth-requires-in-Exists t c =
    let less = less-Exists (trees c.args.formulas.now.nodes.now) c.args.at c.get.result.now c.get.ensures.tree c.get.ensures.parts
    c.in-Exists.vars c.in-Exists.bound c.in-Exists.part c.in-Exists.is in (
      omega (arith, less, c.decreases),
      (
        record {
          part = omega (arith, less, c.requires.readable.at);
          fits =
              subst (FitsSomewhere (signature_of c.args.formulas.now.here.now.task.now.problem.domain))
              (shown-Exists (trees c.args.formulas.now.nodes.now) c.args.at c.get.result.now c.get.ensures.tree c.in-Exists.vars
              c.in-Exists.bound
              c.in-Exists.part c.in-Exists.is) c.requires.readable.fits;
          known = c.requires.readable.known;
        },
        c.requires.remembers,
      ),
    )

pub layer_truth-returns-in-Exists-clause-truth : goal.layer_truth-returns-in-Exists-clause-truth
layer_truth-returns-in-Exists-clause-truth t c =
    subst (λ (f : FormulaTree). IfOk c.quantifier_truth-in-Exists.result
    (λ b. b ≡ idly_true (plain_problem c.args.formulas.now.here.now.task.now.problem) c.args.formulas.now.here.now.world.now
    (assignment_in c.args.env.now) f)) (sym (shown-Exists (trees c.args.formulas.now.nodes.now) c.args.at c.get.result.now
    c.get.ensures.tree c.in-Exists.vars c.in-Exists.bound c.in-Exists.part c.in-Exists.is)) c.quantifier_truth-in-Exists.ensures.truth

pub layer_truth-returns-in-Exists-clause-cause : goal.layer_truth-returns-in-Exists-clause-cause
layer_truth-returns-in-Exists-clause-cause t c =
    subst (λ (f : FormulaTree). IfErr c.quantifier_truth-in-Exists.result
    (IsCausedBy (looked_idly (plain_problem c.args.formulas.now.here.now.task.now.problem) c.args.formulas.now.here.now.world.now
    (assignment_in c.args.env.now) f))) (sym (shown-Exists (trees c.args.formulas.now.nodes.now) c.args.at c.get.result.now
    c.get.ensures.tree c.in-Exists.vars c.in-Exists.bound c.in-Exists.part c.in-Exists.is)) c.quantifier_truth-in-Exists.ensures.cause

-- ---- what is known

pub truth_of-returns-in-Some-clause-truth : goal.truth_of-returns-in-Some-clause-truth
truth_of-returns-in-Some-clause-truth t c = (c.requires.readable.known c.args.at c.in-Some.truth (sym c.in-Some.ensures)).1
    (assignment_in c.args.env.now)

-- ---- the parts of a join

pub join_truth-loop-part-init : goal.join_truth-loop-part-init
join_truth-loop-part-init t c = record { frame = refl; passed = refl; remembers = c.requires.remembers }

pub join_truth-part_truth-requires : goal.join_truth-part_truth-requires
join_truth-part_truth-requires t c =
    let within : c.loop-part.part-index < length c.as_slice-part-items.result.now = c.loop-part-test.true in
    let below = subst (λ (ids : List ℕ). all_below c.args.join.now.at ids ≡ true)
    (sym c.as_slice-part-items.ensures) c.requires.readable.below in
    let less = at-below c.args.join.now.at c.as_slice-part-items.result.now c.loop-part.part-index below within in
    let fits = subst (λ (ids : List ℕ). FitsSomewhere (signature_of c.args.formulas.now.here.now.task.now.problem.domain)
    (tree_of_node (trees c.args.formulas.now.nodes.now) (join_node c.args.join.now.junction ids)))
    (sym c.as_slice-part-items.ensures) c.requires.readable.fits in (
      omega (arith, less, c.decreases),
      (
        record {
          at = omega (arith, less, c.requires.readable.at);
          fits =
              part-fits true (trees c.args.formulas.now.nodes.now) c.args.join.now.junction c.as_slice-part-items.result.now
              (get_or c.as_slice-part-items.result.now c.loop-part.part-index 0)
              (among-at c.as_slice-part-items.result.now c.loop-part.part-index within)
              (signature_of c.args.formulas.now.here.now.task.now.problem.domain) fits;
          known = c.requires.readable.known;
        },
        c.loop-part.invariant.remembers,
      ),
    )

pub join_truth-returns-in-Err-clause-cause : goal.join_truth-returns-in-Err-clause-cause
join_truth-returns-in-Err-clause-cause t c =
    let within : c.loop-part.part-index < length c.as_slice-part-items.result.now = c.loop-part-test.true in
    subst (λ (ids : List ℕ). IsCausedBy (looked_idly (plain_problem c.args.formulas.now.here.now.task.now.problem)
    c.args.formulas.now.here.now.world.now (assignment_in c.args.env.now)
    (tree_of_node (trees c.args.formulas.now.nodes.now) (join_node c.args.join.now.junction ids))) c.in-Err.fault)
    c.as_slice-part-items.ensures
    (join-caused (plain_problem c.args.formulas.now.here.now.task.now.problem) c.args.formulas.now.here.now.world.now
    (assignment_in c.args.env.now) (trees c.args.formulas.now.nodes.now) c.args.join.now.junction c.as_slice-part-items.result.now
    (get_or c.as_slice-part-items.result.now c.loop-part.part-index 0)
    (among-at c.as_slice-part-items.result.now c.loop-part.part-index within) c.in-Err.fault
    (subst (λ (v : List (Option Value)). IsCausedBy (looked_idly (plain_problem c.args.formulas.now.here.now.task.now.problem)
    c.args.formulas.now.here.now.world.now (assignment_in v) (tree_at (trees c.args.formulas.now.nodes.now)
    (get_or c.as_slice-part-items.result.now c.loop-part.part-index 0))) c.in-Err.fault) c.loop-part.invariant.frame
    c.in-Err.ensures.cause))

pub join_truth-returns-in-Err-clause-stays : goal.join_truth-returns-in-Err-clause-stays
join_truth-returns-in-Err-clause-stays t c = record {
  frame = c.part_truth.ensures.stays.frame ∙ c.loop-part.invariant.frame;
  remembers =
      c.part_truth.ensures.stays.remembers;
}

pub join_truth-loop-part-preserved : goal.join_truth-loop-part-preserved
join_truth-loop-part-preserved t c = record {
  remembers = c.part_truth.ensures.stays.remembers;
  frame = c.part_truth.ensures.stays.frame ∙ c.loop-part.invariant.frame;
  passed = ids-on (λ (k : ℕ). idly_true (plain_problem c.args.formulas.now.here.now.task.now.problem) c.args.formulas.now.here.now.world.now
      (assignment_in c.args.env.now) (tree_at (trees c.args.formulas.now.nodes.now) k)) c.deciding_truth-stop.result
      c.as_slice-part-items.result.now c.loop-part.part-index c.loop-part.invariant.passed c.loop-part-test.true c.in-Ok.truth
      (subst (λ (v : List (Option Value)). c.in-Ok.truth ≡ idly_true (plain_problem c.args.formulas.now.here.now.task.now.problem)
      c.args.formulas.now.here.now.world.now (assignment_in v) (tree_at (trees c.args.formulas.now.nodes.now)
      (get_or c.as_slice-part-items.result.now c.loop-part.part-index 0))) c.loop-part.invariant.frame c.in-Ok.ensures.truth)
      c.if-truth-stop.false;
}

pub join_truth-returns-then-truth-stop-clause-truth : goal.join_truth-returns-then-truth-stop-clause-truth
join_truth-returns-then-truth-stop-clause-truth t c =
    ids-here (λ (k : ℕ). idly_true (plain_problem c.args.formulas.now.here.now.task.now.problem) c.args.formulas.now.here.now.world.now
    (assignment_in c.args.env.now) (tree_at (trees c.args.formulas.now.nodes.now) k)) c.deciding_truth-stop.result
    c.as_slice-part-items.result.now c.loop-part.part-index c.loop-part.invariant.passed c.loop-part-test.true c.in-Ok.truth
    (subst (λ (v : List (Option Value)). c.in-Ok.truth ≡ idly_true
    (plain_problem c.args.formulas.now.here.now.task.now.problem) c.args.formulas.now.here.now.world.now (assignment_in v)
    (tree_at (trees c.args.formulas.now.nodes.now) (get_or c.as_slice-part-items.result.now c.loop-part.part-index 0)))
    c.loop-part.invariant.frame c.in-Ok.ensures.truth) c.if-truth-stop.true
    ∙ (ap (decided c.deciding_truth-stop.result (λ (k : ℕ). idly_true (plain_problem c.args.formulas.now.here.now.task.now.problem)
    c.args.formulas.now.here.now.world.now (assignment_in c.args.env.now) (tree_at (trees c.args.formulas.now.nodes.now) k)))
    c.as_slice-part-items.ensures ∙ idle-join (trees c.args.formulas.now.nodes.now)
    (plain_problem c.args.formulas.now.here.now.task.now.problem) c.args.formulas.now.here.now.world.now
    (assignment_in c.args.env.now) c.args.join.now.junction c.deciding_truth-stop.result c.deciding_truth-stop.ensures
    c.args.join.now.parts.now)

pub join_truth-returns-then-truth-stop-clause-stays : goal.join_truth-returns-then-truth-stop-clause-stays
join_truth-returns-then-truth-stop-clause-stays t c = record {
  frame = c.part_truth.ensures.stays.frame ∙
      c.loop-part.invariant.frame;
  remembers = c.part_truth.ensures.stays.remembers;
}

pub join_truth-returns-clause-truth : goal.join_truth-returns-clause-truth
join_truth-returns-clause-truth t c =
    ids-end (λ (k : ℕ). idly_true (plain_problem c.args.formulas.now.here.now.task.now.problem) c.args.formulas.now.here.now.world.now
    (assignment_in c.args.env.now) (tree_at (trees c.args.formulas.now.nodes.now) k)) c.deciding_truth-stop.result
    c.as_slice-part-items.result.now c.loop-part.part-index c.loop-part.invariant.passed (omega (arith, c.loop-part-test.false))
    ∙ (ap (decided c.deciding_truth-stop.result (λ (k : ℕ). idly_true (plain_problem c.args.formulas.now.here.now.task.now.problem)
    c.args.formulas.now.here.now.world.now (assignment_in c.args.env.now) (tree_at (trees c.args.formulas.now.nodes.now) k)))
    c.as_slice-part-items.ensures ∙ idle-join (trees c.args.formulas.now.nodes.now)
    (plain_problem c.args.formulas.now.here.now.task.now.problem) c.args.formulas.now.here.now.world.now
    (assignment_in c.args.env.now) c.args.join.now.junction c.deciding_truth-stop.result c.deciding_truth-stop.ensures
    c.args.join.now.parts.now)

pub join_truth-returns-clause-stays : goal.join_truth-returns-clause-stays
join_truth-returns-clause-stays t c = record { frame = c.loop-part.invariant.frame; remembers = c.loop-part.invariant.remembers }

-- ---- the instances of a quantifier

pub quantifier_truth-open_in_place-requires-clause-differ : goal.quantifier_truth-open_in_place-requires-clause-differ
quantifier_truth-open_in_place-requires-clause-differ t c =
    let fit = quantifier-fits c.args.formulas.now.here.now.task.now.problem c.args.quantified.now.junction c.args.quantified.now.vars.now
    c.args.quantified.now.bound.now (tree_at (trees c.args.formulas.now.nodes.now) c.args.quantified.now.part) c.requires.readable.fits
    in
    fit.differ

pub quantifier_truth-open_in_place-requires-clause-occur : goal.quantifier_truth-open_in_place-requires-clause-occur
quantifier_truth-open_in_place-requires-clause-occur t c =
    let fit = quantifier-fits c.args.formulas.now.here.now.task.now.problem c.args.quantified.now.junction c.args.quantified.now.vars.now
    c.args.quantified.now.bound.now (tree_at (trees c.args.formulas.now.nodes.now) c.args.quantified.now.part) c.requires.readable.fits
    in
    fit.occur

pub quantifier_truth-open_in_place-requires-clause-fits : goal.quantifier_truth-open_in_place-requires-clause-fits
quantifier_truth-open_in_place-requires-clause-fits t c =
    let fit = quantifier-fits c.args.formulas.now.here.now.task.now.problem c.args.quantified.now.junction c.args.quantified.now.vars.now
    c.args.quantified.now.bound.now (tree_at (trees c.args.formulas.now.nodes.now) c.args.quantified.now.part) c.requires.readable.fits
    in
    fit.bound

pub quantifier_truth-give_back-requires-clause-slots : goal.quantifier_truth-give_back-requires-clause-slots
quantifier_truth-give_back-requires-clause-slots t c =
    let fit = quantifier-fits c.args.formulas.now.here.now.task.now.problem c.args.quantified.now.junction c.args.quantified.now.vars.now
    c.args.quantified.now.bound.now (tree_at (trees c.args.formulas.now.nodes.now) c.args.quantified.now.part) c.requires.readable.fits
    in
    subst (λ (ss : List Var). Each (λ s. s.slot < 32) ss) (sym c.as_slice-2.ensures) fit.in_frame

pub instances_truth-tuples-init : goal.instances_truth-tuples-init
instances_truth-tuples-init t c =
    record {
      remembers = c.requires.remembers;
      reads = c.requires.reads;
      others = λ u. refl;
      passed =
          subst (Open (plain_problem c.args.formulas.now.here.now.task.now.problem) c.args.formulas.now.here.now.world.now
          (assignment_in c.args.env.now) c.args.quantified.now.vars.now c.args.quantified.now.bound.now
          (tree_at (trees c.args.formulas.now.nodes.now) c.args.quantified.now.part) c.deciding_truth-stop.result) (sym c.requires.before)
          (open-begun (plain_problem c.args.formulas.now.here.now.task.now.problem) c.args.formulas.now.here.now.world.now
          (assignment_in c.args.env.now) c.args.quantified.now.vars.now c.args.quantified.now.bound.now
          (tree_at (trees c.args.formulas.now.nodes.now) c.args.quantified.now.part) c.deciding_truth-stop.result);
    }

pub instances_truth-put_instance-requires-clause-slots : goal.instances_truth-put_instance-requires-clause-slots
instances_truth-put_instance-requires-clause-slots t c =
    let fit = quantifier-fits c.args.formulas.now.here.now.task.now.problem c.args.quantified.now.junction c.args.quantified.now.vars.now
    c.args.quantified.now.bound.now (tree_at (trees c.args.formulas.now.nodes.now) c.args.quantified.now.part) c.requires.readable.fits
    in
    fit.in_frame

pub instances_truth-instance_truth-requires : goal.instances_truth-instance_truth-requires
instances_truth-instance_truth-requires t c =
    let fit = quantifier-fits c.args.formulas.now.here.now.task.now.problem c.args.quantified.now.junction c.args.quantified.now.vars.now
    c.args.quantified.now.bound.now (tree_at (trees c.args.formulas.now.nodes.now) c.args.quantified.now.part) c.requires.readable.fits
    in (
      omega (arith, c.decreases),
      (
        record { at = c.requires.readable.part; fits = fit.part; known = c.requires.readable.known },
        c.tuples.invariant.remembers,
      ),
    )

pub instances_truth-returns-then-truth-stop-clause-truth : goal.instances_truth-returns-then-truth-stop-clause-truth
instances_truth-returns-then-truth-stop-clause-truth t c =
    let fit = quantifier-fits c.args.formulas.now.here.now.task.now.problem c.args.quantified.now.junction c.args.quantified.now.vars.now
    c.args.quantified.now.bound.now (tree_at (trees c.args.formulas.now.nodes.now) c.args.quantified.now.part) c.requires.readable.fits
    in
    let come = has-come (plain_problem c.args.formulas.now.here.now.task.now.problem) c.args.formulas.now.here.now.world.now
    (assignment_in c.args.env.now) c.args.quantified.now.vars.now c.args.quantified.now.bound.now
    (tree_at (trees c.args.formulas.now.nodes.now) c.args.quantified.now.part) c.tuples.tuples c.put_instance.new.tuples c.tuples.env
    c.put_instance.new.env c.put_instance.result (c.put_instance.ensures _ _) c.tuples.invariant.reads fit.differ fit.occur
    c.tuples.invariant.others c.tuples-test.true in
    open-here (plain_problem c.args.formulas.now.here.now.task.now.problem) c.args.formulas.now.here.now.world.now
    (assignment_in c.args.env.now) c.args.quantified.now.vars.now c.args.quantified.now.bound.now
    (tree_at (trees c.args.formulas.now.nodes.now) c.args.quantified.now.part) fit.differ fit.occur c.tuples.tuples.tuple
    c.put_instance.new.tuples.tuple come.tuple come.next come.is c.args.quantified.now.junction c.deciding_truth-stop.result
    c.in-Ok.truth c.deciding_truth-stop.ensures c.tuples.invariant.passed
    (subst (λ (d : Assignment). c.in-Ok.truth ≡ idly_true (plain_problem c.args.formulas.now.here.now.task.now.problem)
    c.args.formulas.now.here.now.world.now d (tree_at (trees c.args.formulas.now.nodes.now) c.args.quantified.now.part)) come.here
    c.in-Ok.ensures.truth) c.if-truth-stop.true

pub instances_truth-returns-in-Err-clause-cause : goal.instances_truth-returns-in-Err-clause-cause
instances_truth-returns-in-Err-clause-cause t c =
    let fit = quantifier-fits c.args.formulas.now.here.now.task.now.problem c.args.quantified.now.junction c.args.quantified.now.vars.now
    c.args.quantified.now.bound.now (tree_at (trees c.args.formulas.now.nodes.now) c.args.quantified.now.part) c.requires.readable.fits
    in
    let come = has-come (plain_problem c.args.formulas.now.here.now.task.now.problem) c.args.formulas.now.here.now.world.now
    (assignment_in c.args.env.now) c.args.quantified.now.vars.now c.args.quantified.now.bound.now
    (tree_at (trees c.args.formulas.now.nodes.now) c.args.quantified.now.part) c.tuples.tuples c.put_instance.new.tuples c.tuples.env
    c.put_instance.new.env c.put_instance.result (c.put_instance.ensures _ _) c.tuples.invariant.reads fit.differ fit.occur
    c.tuples.invariant.others c.tuples-test.true in
    caused (plain_problem c.args.formulas.now.here.now.task.now.problem) c.args.formulas.now.here.now.world.now
    (assignment_in c.args.env.now) c.args.quantified.now.vars.now c.args.quantified.now.bound.now
    (tree_at (trees c.args.formulas.now.nodes.now) c.args.quantified.now.part) fit.differ fit.occur c.tuples.tuples.tuple
    c.put_instance.new.tuples.tuple come.tuple come.next come.is c.args.quantified.now.junction c.in-Err.fault
    (subst (λ (d : Assignment). IsCausedBy (looked_idly (plain_problem c.args.formulas.now.here.now.task.now.problem)
    c.args.formulas.now.here.now.world.now d (tree_at (trees c.args.formulas.now.nodes.now) c.args.quantified.now.part)) c.in-Err.fault)
    come.here c.in-Err.ensures.cause)

pub instances_truth-tuples-smaller : goal.instances_truth-tuples-smaller
instances_truth-tuples-smaller t c =
    let fit = quantifier-fits c.args.formulas.now.here.now.task.now.problem c.args.quantified.now.junction c.args.quantified.now.vars.now
    c.args.quantified.now.bound.now (tree_at (trees c.args.formulas.now.nodes.now) c.args.quantified.now.part) c.requires.readable.fits
    in
    let come = has-come (plain_problem c.args.formulas.now.here.now.task.now.problem) c.args.formulas.now.here.now.world.now
    (assignment_in c.args.env.now) c.args.quantified.now.vars.now c.args.quantified.now.bound.now
    (tree_at (trees c.args.formulas.now.nodes.now) c.args.quantified.now.part) c.tuples.tuples c.put_instance.new.tuples c.tuples.env
    c.put_instance.new.env c.put_instance.result (c.put_instance.ensures _ _) c.tuples.invariant.reads fit.differ fit.occur
    c.tuples.invariant.others c.tuples-test.true in
    come.fewer

pub instances_truth-tuples-preserved : goal.instances_truth-tuples-preserved
instances_truth-tuples-preserved t c =
    let fit = quantifier-fits c.args.formulas.now.here.now.task.now.problem c.args.quantified.now.junction c.args.quantified.now.vars.now
    c.args.quantified.now.bound.now (tree_at (trees c.args.formulas.now.nodes.now) c.args.quantified.now.part) c.requires.readable.fits
    in
    let come = has-come (plain_problem c.args.formulas.now.here.now.task.now.problem) c.args.formulas.now.here.now.world.now
    (assignment_in c.args.env.now) c.args.quantified.now.vars.now c.args.quantified.now.bound.now
    (tree_at (trees c.args.formulas.now.nodes.now) c.args.quantified.now.part) c.tuples.tuples c.put_instance.new.tuples c.tuples.env
    c.put_instance.new.env c.put_instance.result (c.put_instance.ensures _ _) c.tuples.invariant.reads fit.differ fit.occur
    c.tuples.invariant.others c.tuples-test.true in
    record {
      remembers = c.instance_truth.ensures.stays.remembers;
      reads = (c.put_instance.ensures _ _).reads (assignment_in c.args.env.now) c.tuples.invariant.reads;
      others = still-others (plain_problem c.args.formulas.now.here.now.task.now.problem) c.args.formulas.now.here.now.world.now
          (assignment_in c.args.env.now) c.args.quantified.now.vars.now c.args.quantified.now.bound.now
          (tree_at (trees c.args.formulas.now.nodes.now) c.args.quantified.now.part) c.tuples.tuples c.put_instance.new.tuples c.tuples.env
          c.put_instance.new.env c.put_instance.result (c.put_instance.ensures _ _) c.tuples.invariant.reads c.tuples.invariant.others
          c.instance_truth.new.env c.instance_truth.ensures.stays.frame;
      passed = subst (Open (plain_problem c.args.formulas.now.here.now.task.now.problem) c.args.formulas.now.here.now.world.now
          (assignment_in c.args.env.now) c.args.quantified.now.vars.now c.args.quantified.now.bound.now
          (tree_at (trees c.args.formulas.now.nodes.now) c.args.quantified.now.part) c.deciding_truth-stop.result) (sym come.is)
          (open-on (plain_problem c.args.formulas.now.here.now.task.now.problem) c.args.formulas.now.here.now.world.now
          (assignment_in c.args.env.now) c.args.quantified.now.vars.now c.args.quantified.now.bound.now
          (tree_at (trees c.args.formulas.now.nodes.now) c.args.quantified.now.part) fit.differ fit.occur c.tuples.tuples.tuple
          c.put_instance.new.tuples.tuple come.tuple come.next come.is c.deciding_truth-stop.result c.in-Ok.truth c.tuples.invariant.passed
          (subst (λ (d : Assignment). c.in-Ok.truth ≡ idly_true (plain_problem c.args.formulas.now.here.now.task.now.problem)
          c.args.formulas.now.here.now.world.now d (tree_at (trees c.args.formulas.now.nodes.now) c.args.quantified.now.part)) come.here
          c.in-Ok.ensures.truth) c.if-truth-stop.false);
    }

pub instances_truth-returns-clause-truth : goal.instances_truth-returns-clause-truth
instances_truth-returns-clause-truth t c =
    let fit = quantifier-fits c.args.formulas.now.here.now.task.now.problem c.args.quantified.now.junction c.args.quantified.now.vars.now
    c.args.quantified.now.bound.now (tree_at (trees c.args.formulas.now.nodes.now) c.args.quantified.now.part) c.requires.readable.fits
    in
    open-end (plain_problem c.args.formulas.now.here.now.task.now.problem) c.args.formulas.now.here.now.world.now
    (assignment_in c.args.env.now) c.args.quantified.now.vars.now c.args.quantified.now.bound.now
    (tree_at (trees c.args.formulas.now.nodes.now) c.args.quantified.now.part) fit.differ fit.occur c.tuples.tuples.tuple
    c.args.quantified.now.junction c.deciding_truth-stop.result c.deciding_truth-stop.ensures c.tuples.invariant.passed
    (none-left (plain_problem c.args.formulas.now.here.now.task.now.problem) c.args.formulas.now.here.now.world.now
    (assignment_in c.args.env.now) c.args.quantified.now.vars.now c.args.quantified.now.bound.now
    (tree_at (trees c.args.formulas.now.nodes.now) c.args.quantified.now.part) c.tuples.tuples c.put_instance.new.tuples c.tuples.env
    c.put_instance.new.env c.put_instance.result (c.put_instance.ensures _ _) c.tuples.invariant.reads fit.differ fit.occur
    c.tuples-test.false)

pub instances_truth-returns-then-truth-stop-clause-others : goal.instances_truth-returns-then-truth-stop-clause-others
instances_truth-returns-then-truth-stop-clause-others t c =
    still-others (plain_problem c.args.formulas.now.here.now.task.now.problem) c.args.formulas.now.here.now.world.now
    (assignment_in c.args.env.now) c.args.quantified.now.vars.now c.args.quantified.now.bound.now
    (tree_at (trees c.args.formulas.now.nodes.now) c.args.quantified.now.part) c.tuples.tuples c.put_instance.new.tuples c.tuples.env
    c.put_instance.new.env c.put_instance.result (c.put_instance.ensures _ _) c.tuples.invariant.reads c.tuples.invariant.others
    c.instance_truth.new.env c.instance_truth.ensures.stays.frame

pub instances_truth-returns-in-Err-clause-others : goal.instances_truth-returns-in-Err-clause-others
instances_truth-returns-in-Err-clause-others t c =
    still-others (plain_problem c.args.formulas.now.here.now.task.now.problem) c.args.formulas.now.here.now.world.now
    (assignment_in c.args.env.now) c.args.quantified.now.vars.now c.args.quantified.now.bound.now
    (tree_at (trees c.args.formulas.now.nodes.now) c.args.quantified.now.part) c.tuples.tuples c.put_instance.new.tuples c.tuples.env
    c.put_instance.new.env c.put_instance.result (c.put_instance.ensures _ _) c.tuples.invariant.reads c.tuples.invariant.others
    c.instance_truth.new.env c.instance_truth.ensures.stays.frame

pub instances_truth-returns-clause-others : goal.instances_truth-returns-clause-others
instances_truth-returns-clause-others t c =
    still-others (plain_problem c.args.formulas.now.here.now.task.now.problem) c.args.formulas.now.here.now.world.now
    (assignment_in c.args.env.now) c.args.quantified.now.vars.now c.args.quantified.now.bound.now
    (tree_at (trees c.args.formulas.now.nodes.now) c.args.quantified.now.part) c.tuples.tuples c.put_instance.new.tuples c.tuples.env
    c.put_instance.new.env c.put_instance.result (c.put_instance.ensures _ _) c.tuples.invariant.reads c.tuples.invariant.others
    c.put_instance.new.env refl

pub quantifier_truth-instances_truth-truth-requires : goal.quantifier_truth-instances_truth-truth-requires
quantifier_truth-instances_truth-truth-requires t c =
    let reads = c.tuples-tuples.ensures.reads c.args.quantified.now.vars.now
    (assignment_in c.args.env.now) c.open_in_place.ensures.stands in
    (omega (arith, c.decreases), (c.requires.readable, (reads, (c.tuples-tuples.ensures.before, c.requires.remembers))))
