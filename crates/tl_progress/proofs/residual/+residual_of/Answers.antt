use Rattle.std.proofs.Common.{◌≡◌, ◌<◌, ◌≤◌, ◌+◌, ℕ, List, true, false, map, drop, length, inl, inr, Option, Some, slice_get, refl, sym, ap}
use Rattle.std.proofs.Common.{◌∙◌, subst, arith}
use Rattle.std.proofs.lemmas.Option.{slice_get_within}
use Rattle.tl_eval.specs.BoundTuples.{ReadsBound}
use Rattle.tl_eval.specs.Frames.{assignment_in, AgreeElsewhere, AreKept}
use Rattle.tl_nodes.specs.Fits.{all_below}
use Rattle.tl_nodes.specs.Joins.{simplified_join}
use Rattle.tl_nodes.specs.NodeTrees.{tree_at, trees_at}
use Rattle.tl_nodes.specs.Numbers.{trees}
use Rattle.tl_syntax.specs.declared.value.Value.{Value}
use Rattle.tl_syntax.specs.Lists.{Each, Among}
use Rattle.tl_syntax.specs.Signature.{signature_of}
use Rattle.tl_syntax.specs.Trees.{FormulaTree}
use Rattle.tl_terms.specs.Definitions.{situation_of}
use Rattle.tl_terms.specs.ProblemMeaning.{plain_problem}
use Rattle.tl_eval.specs.Faults.{IsCausedBy}
use Rattle.tl_progress.specs.Answers.{looked_for_residual, residual}
use Rattle.tl_progress.specs.Parts.{parts, join_parts}
use Rattle.tl_progress.specs.Quantifiers.{bound_in, node_bound, node_vars, vars_in}
use Rattle.tl_progress.specs.Sentences.{FitsSomewhere}
use Rattle.tl_progress.proofs.Below.{part-lower, part-among}
use Rattle.tl_progress.proofs.Found.{handed-on, fits-below, residual-fault}
use Rattle.tl_progress.proofs.Instances.{quantifier-fits}
use Rattle.tl_progress.proofs.InstanceSteps.{has-come, none-left, still-others}
use Rattle.tl_progress.proofs.GatheredInstances.{gathered-all, instance-caused, instance-decides, instances-below, instance-gathered}
use Rattle.tl_progress.proofs.GatheredInstances.{same-node, stands-still, stepped-then}
use Rattle.tl_progress.proofs.QuantifierNodes.{stands-ForAll, stands-Exists}
use Rattle.tl_progress.proofs.Gathering.{Gathered, gather-begun, below-still, gather-on, gather-decided, gather-end}
use Rattle.tl_progress.proofs.KnownHere.{nothing-known, knows-still}
use Rattle.tl_progress.proofs.NextInstances.{next_after, next_of_all, instances-begun}
use Rattle.tl_progress.proofs.ResidualLayers.{state-True, state-False, state-Basic, is-and, is-or, next-Next, next-Not, next-Always}
use Rattle.tl_progress.proofs.ResidualLayers.{next-Eventually, next-Until, next-Until-now, next-Within, next-During, join-next, part-next}
use Rattle.tl_progress.proofs.ResidualLayers.{parts-done}
use Rattle.tl_progress.proofs.PutLayers.{stays, longer, less-Next}
use Rattle.tl_progress.proofs.TruthLayers.{less-ForAll, less-Exists}
use Rattle.tl_progress.proofs.residual.+residual_of.Goals as goal

-- ---- one number

pub residual_of-state_residual-requires-clause-state : goal.residual_of-state_residual-requires-clause-state
residual_of-state_residual-requires-clause-state t c = c.temporal.ensures.state.0 c.if-not-temporal.true

-- ---- one layer

pub layer_residual-state_residual-requires-clause-state : goal.layer_residual-state_residual-requires-clause-state
layer_residual-state_residual-requires-clause-state t c = state-True (trees c.args.nodes.now) c.args.at c.get.result.now c.get.ensures.tree
    c.in-True.is

pub layer_residual-state_residual-requires-in-False-clause-state : goal.layer_residual-state_residual-requires-in-False-clause-state
layer_residual-state_residual-requires-in-False-clause-state t c = state-False
    (trees c.args.nodes.now) c.args.at c.get.result.now c.get.ensures.tree c.in-False.is

pub layer_residual-state_residual-requires-in-Basic-clause-state : goal.layer_residual-state_residual-requires-in-Basic-clause-state
layer_residual-state_residual-requires-in-Basic-clause-state t c = state-Basic
    (trees c.args.nodes.now) c.args.at c.get.result.now c.get.ensures.tree c.get.ensures.parts c.in-Basic.field-0 c.in-Basic.is

pub layer_residual-residual_of-requires : goal.layer_residual-residual_of-requires
layer_residual-residual_of-requires t c =
    let low = part-lower false (trees c.args.nodes.now) c.args.at c.in-Not.part c.get.result.now c.get.ensures.tree c.get.ensures.parts
    (subst (λ n. Among c.in-Not.part (parts false n)) (sym c.in-Not.is) (inl refl)) in
    let less = low.less in (
      omega (arith, less, c.decreases),
      (
        omega (arith, less, c.requires.at),
        (
          fits-below false (trees c.args.nodes.now) (signature_of c.args.here.now.task.now.problem.domain) c.args.at c.in-Not.part low.below
              c.requires.fits,
          (c.requires.known, c.requires.remembers),
        ),
      ),
    )

pub layer_residual-returns-in_err-answer-in-Not-clause-cause : goal.layer_residual-returns-in_err-answer-in-Not-clause-cause
layer_residual-returns-in_err-answer-in-Not-clause-cause t c =
    let low = part-lower false (trees c.args.nodes.now) c.args.at c.in-Not.part c.get.result.now c.get.ensures.tree c.get.ensures.parts
    (subst (λ n. Among c.in-Not.part (parts false n)) (sym c.in-Not.is) (inl refl)) in
    handed-on _ _ _ c.from_residual.ensures.1 (residual-fault (plain_problem c.args.here.now.task.now.problem) c.args.here.now.world.now
    (assignment_in c.args.env.now) (trees c.args.nodes.now) c.args.at c.in-Not.part low.below c.in_err-answer-in-Not.field-0.0
    c.in_err-answer-in-Not.ensures.cause)

pub layer_residual-not-requires : goal.layer_residual-not-requires
layer_residual-not-requires t c = slice_get_within (trees c.residual_of.new.nodes) c.in_ok-answer-in-Not.answer _
    c.in_ok-answer-in-Not.ensures.number

pub layer_residual-returns-in_ok-number-in-Not-clause-kept : goal.layer_residual-returns-in_ok-number-in-Not-clause-kept
layer_residual-returns-in_ok-number-in-Not-clause-kept t c = λ i f h. c.in_ok-number-in-Not.ensures.kept i f
    (c.in_ok-answer-in-Not.ensures.kept i f h)

pub layer_residual-returns-in_ok-number-in-Not-clause-number : goal.layer_residual-returns-in_ok-number-in-Not-clause-number
layer_residual-returns-in_ok-number-in-Not-clause-number t c =
    c.in_ok-number-in-Not.ensures.number ∙ ap (λ (f : FormulaTree). Some f)
    (next-Not (plain_problem c.args.here.now.task.now.problem) c.args.here.now.world.now (assignment_in c.args.env.now)
    (trees c.args.nodes.now) c.args.at c.get.result.now c.get.ensures.tree c.requires.at
    (trees c.residual_of.new.nodes) c.in_ok-answer-in-Not.ensures.kept c.in-Not.part c.in_ok-answer-in-Not.answer c.in-Not.is
    c.in_ok-answer-in-Not.ensures.number)

pub layer_residual-join_residual-requires : goal.layer_residual-join_residual-requires
layer_residual-join_residual-requires t c = (
  omega (arith, c.decreases),
  (
    c.requires.at,
    (
      is-and (trees c.args.nodes.now) c.args.at c.get.result.now c.get.ensures.tree c.in-And.field-0 c.in-And.is,
      (c.requires.fits, (c.requires.known, c.requires.remembers)),
    ),
  ),
)

pub layer_residual-join_residual-requires-in-Or : goal.layer_residual-join_residual-requires-in-Or
layer_residual-join_residual-requires-in-Or t c = (
  omega (arith, c.decreases),
  (
    c.requires.at,
    (
      is-or (trees c.args.nodes.now) c.args.at c.get.result.now c.get.ensures.tree c.in-Or.field-0 c.in-Or.is,
      (c.requires.fits, (c.requires.known, c.requires.remembers)),
    ),
  ),
)

pub layer_residual-remaining-requires : goal.layer_residual-remaining-requires
layer_residual-remaining-requires t c = let less = less-Next (trees c.args.nodes.now) c.args.at c.get.result.now c.get.ensures.parts
    c.in-Next.part c.in-Next.is in let k = c.requires.at in omega arith

pub layer_residual-returns-in_ok-number-in-Next-clause-number : goal.layer_residual-returns-in_ok-number-in-Next-clause-number
layer_residual-returns-in_ok-number-in-Next-clause-number t c = c.in_ok-number-in-Next.ensures.number ∙
    ap (λ (f : FormulaTree). Some f) (next-Next (plain_problem c.args.here.now.task.now.problem) c.args.here.now.world.now
    (assignment_in c.args.env.now) (trees c.args.nodes.now) c.args.at c.get.result.now c.get.ensures.tree c.requires.at
    (trees c.args.nodes.now) (λ i f h. h) c.in-Next.part c.in-Next.is)

pub layer_residual-residual_of-requires-in-Always : goal.layer_residual-residual_of-requires-in-Always
layer_residual-residual_of-requires-in-Always t c =
    let low = part-lower false (trees c.args.nodes.now) c.args.at c.in-Always.part c.get.result.now c.get.ensures.tree c.get.ensures.parts
    (subst (λ n. Among c.in-Always.part (parts false n)) (sym c.in-Always.is) (inl refl)) in
    let less = low.less in (
      omega (arith, less, c.decreases),
      (
        omega (arith, less, c.requires.at),
        (
          fits-below false (trees c.args.nodes.now) (signature_of c.args.here.now.task.now.problem.domain) c.args.at c.in-Always.part
              low.below c.requires.fits,
          (c.requires.known, c.requires.remembers),
        ),
      ),
    )

pub layer_residual-returns-in_err-answer-in-Always-clause-cause : goal.layer_residual-returns-in_err-answer-in-Always-clause-cause
layer_residual-returns-in_err-answer-in-Always-clause-cause t c =
    let low = part-lower false (trees c.args.nodes.now) c.args.at c.in-Always.part c.get.result.now c.get.ensures.tree c.get.ensures.parts
    (subst (λ n. Among c.in-Always.part (parts false n)) (sym c.in-Always.is) (inl refl)) in
    handed-on _ _ _ c.from_residual-in_err-answer-in-Always.ensures.1 (residual-fault
    (plain_problem c.args.here.now.task.now.problem) c.args.here.now.world.now (assignment_in c.args.env.now)
    (trees c.args.nodes.now) c.args.at c.in-Always.part low.below c.in_err-answer-in-Always.field-0.0
    c.in_err-answer-in-Always.ensures.cause)

pub layer_residual-with_remaining-requires-clause-part : goal.layer_residual-with_remaining-requires-clause-part
layer_residual-with_remaining-requires-clause-part t c = slice_get_within
    (trees c.residual_of-in-Always.new.nodes) c.in_ok-answer-in-Always.answer _ c.in_ok-answer-in-Always.ensures.number

pub layer_residual-with_remaining-requires-clause-at : goal.layer_residual-with_remaining-requires-clause-at
layer_residual-with_remaining-requires-clause-at t c = longer (trees c.args.nodes.now)
    (trees c.residual_of-in-Always.new.nodes) c.in_ok-answer-in-Always.ensures.kept c.args.at c.requires.at

pub layer_residual-returns-in_ok-number-in-Always-clause-kept : goal.layer_residual-returns-in_ok-number-in-Always-clause-kept
layer_residual-returns-in_ok-number-in-Always-clause-kept t c = λ i f h.
    c.in_ok-number-in-Always.ensures.kept i f (c.in_ok-answer-in-Always.ensures.kept i f h)

pub layer_residual-returns-in_ok-number-in-Always-clause-number : goal.layer_residual-returns-in_ok-number-in-Always-clause-number
layer_residual-returns-in_ok-number-in-Always-clause-number t c =
    c.in_ok-number-in-Always.ensures.number ∙ ap (λ (f : FormulaTree). Some f)
    (next-Always (plain_problem c.args.here.now.task.now.problem) c.args.here.now.world.now (assignment_in c.args.env.now)
    (trees c.args.nodes.now) c.args.at c.get.result.now c.get.ensures.tree c.requires.at
    (trees c.residual_of-in-Always.new.nodes) c.in_ok-answer-in-Always.ensures.kept (assignment_in c.residual_of-in-Always.new.env)
    (ap assignment_in c.in_ok-answer-in-Always.ensures.stays.frame) c.in-Always.part c.in_ok-answer-in-Always.answer c.in-Always.is
    c.in_ok-answer-in-Always.ensures.number)

pub layer_residual-residual_of-requires-in-Eventually : goal.layer_residual-residual_of-requires-in-Eventually
layer_residual-residual_of-requires-in-Eventually t c =
    let low = part-lower false (trees c.args.nodes.now) c.args.at c.in-Eventually.part c.get.result.now c.get.ensures.tree
    c.get.ensures.parts (subst (λ n. Among c.in-Eventually.part (parts false n)) (sym c.in-Eventually.is) (inl refl)) in
    let less = low.less in (
      omega (arith, less, c.decreases),
      (
        omega (arith, less, c.requires.at),
        (
          fits-below false (trees c.args.nodes.now) (signature_of c.args.here.now.task.now.problem.domain) c.args.at c.in-Eventually.part
              low.below c.requires.fits,
          (c.requires.known, c.requires.remembers),
        ),
      ),
    )

pub layer_residual-returns-in_err-answer-in-Eventually-clause-cause : goal.layer_residual-returns-in_err-answer-in-Eventually-clause-cause
layer_residual-returns-in_err-answer-in-Eventually-clause-cause t c =
    let low = part-lower false (trees c.args.nodes.now) c.args.at c.in-Eventually.part c.get.result.now c.get.ensures.tree
    c.get.ensures.parts (subst (λ n. Among c.in-Eventually.part (parts false n)) (sym c.in-Eventually.is) (inl refl)) in
    handed-on _ _ _ c.from_residual-in_err-answer-in-Eventually.ensures.1
    (residual-fault (plain_problem c.args.here.now.task.now.problem) c.args.here.now.world.now (assignment_in c.args.env.now)
    (trees c.args.nodes.now) c.args.at c.in-Eventually.part low.below c.in_err-answer-in-Eventually.field-0.0
    c.in_err-answer-in-Eventually.ensures.cause)

pub layer_residual-with_remaining-requires-in-Eventually-clause-part : goal.layer_residual-with_remaining-requires-in-Eventually-clause-part
layer_residual-with_remaining-requires-in-Eventually-clause-part t c =
    slice_get_within (trees c.residual_of-in-Eventually.new.nodes) c.in_ok-answer-in-Eventually.answer _
    c.in_ok-answer-in-Eventually.ensures.number

pub layer_residual-with_remaining-requires-in-Eventually-clause-at : goal.layer_residual-with_remaining-requires-in-Eventually-clause-at
layer_residual-with_remaining-requires-in-Eventually-clause-at t c = longer (trees c.args.nodes.now)
    (trees c.residual_of-in-Eventually.new.nodes) c.in_ok-answer-in-Eventually.ensures.kept c.args.at c.requires.at

pub layer_residual-returns-in_ok-number-in-Eventually-clause-kept : goal.layer_residual-returns-in_ok-number-in-Eventually-clause-kept
layer_residual-returns-in_ok-number-in-Eventually-clause-kept t c = λ i f h.
    c.in_ok-number-in-Eventually.ensures.kept i f (c.in_ok-answer-in-Eventually.ensures.kept i f h)

pub layer_residual-returns-in_ok-number-in-Eventually-clause-number : goal.layer_residual-returns-in_ok-number-in-Eventually-clause-number
layer_residual-returns-in_ok-number-in-Eventually-clause-number t c =
    c.in_ok-number-in-Eventually.ensures.number ∙ ap (λ (f : FormulaTree). Some f)
    (next-Eventually (plain_problem c.args.here.now.task.now.problem) c.args.here.now.world.now (assignment_in c.args.env.now)
    (trees c.args.nodes.now) c.args.at c.get.result.now c.get.ensures.tree c.requires.at
    (trees c.residual_of-in-Eventually.new.nodes) c.in_ok-answer-in-Eventually.ensures.kept
    (assignment_in c.residual_of-in-Eventually.new.env) (ap assignment_in c.in_ok-answer-in-Eventually.ensures.stays.frame)
    c.in-Eventually.part c.in_ok-answer-in-Eventually.answer c.in-Eventually.is c.in_ok-answer-in-Eventually.ensures.number)

pub layer_residual-residual_of-requires-in-Until : goal.layer_residual-residual_of-requires-in-Until
layer_residual-residual_of-requires-in-Until t c =
    let low = part-lower false (trees c.args.nodes.now) c.args.at c.in-Until.second c.get.result.now c.get.ensures.tree c.get.ensures.parts
    (subst (λ n. Among c.in-Until.second (parts false n)) (sym c.in-Until.is) (inr (inl refl))) in
    let less = low.less in (
      omega (arith, less, c.decreases),
      (
        omega (arith, less, c.requires.at),
        (
          fits-below false (trees c.args.nodes.now) (signature_of c.args.here.now.task.now.problem.domain) c.args.at c.in-Until.second
              low.below c.requires.fits,
          (c.requires.known, c.requires.remembers),
        ),
      ),
    )

pub layer_residual-returns-in_err-after-in-Until-clause-cause : goal.layer_residual-returns-in_err-after-in-Until-clause-cause
layer_residual-returns-in_err-after-in-Until-clause-cause t c =
    let low = part-lower false (trees c.args.nodes.now) c.args.at c.in-Until.second c.get.result.now c.get.ensures.tree c.get.ensures.parts
    (subst (λ n. Among c.in-Until.second (parts false n)) (sym c.in-Until.is) (inr (inl refl))) in
    handed-on _ _ _ c.from_residual-in_err-after-in-Until.ensures.1 (residual-fault
    (plain_problem c.args.here.now.task.now.problem) c.args.here.now.world.now (assignment_in c.args.env.now)
    (trees c.args.nodes.now) c.args.at c.in-Until.second low.below c.in_err-after-in-Until.field-0.0
    c.in_err-after-in-Until.ensures.cause)

pub layer_residual-decides-requires : goal.layer_residual-decides-requires
layer_residual-decides-requires t c = slice_get_within (trees c.residual_of-in-Until.new.nodes) c.in_ok-after-in-Until.after _
    c.in_ok-after-in-Until.ensures.number

pub layer_residual-returns-then-decides-clause-number : goal.layer_residual-returns-then-decides-clause-number
layer_residual-returns-then-decides-clause-number t c = next-Until-now
    (plain_problem c.args.here.now.task.now.problem) c.args.here.now.world.now (assignment_in c.args.env.now)
    (trees c.args.nodes.now) c.args.at c.get.result.now c.get.ensures.tree c.requires.at
    (trees c.residual_of-in-Until.new.nodes) c.in_ok-after-in-Until.ensures.kept c.in-Until.first c.in-Until.second
    c.in_ok-after-in-Until.after c.in-Until.is c.in_ok-after-in-Until.ensures.number (c.decides.ensures c.if-decides.true)

pub layer_residual-residual_of-requires-in-Until-2 : goal.layer_residual-residual_of-requires-in-Until-2
layer_residual-residual_of-requires-in-Until-2 t c =
    let low = part-lower false (trees c.args.nodes.now) c.args.at c.in-Until.first c.get.result.now c.get.ensures.tree c.get.ensures.parts
    (subst (λ n. Among c.in-Until.first (parts false n)) (sym c.in-Until.is) (inl refl)) in
    let less = low.less in
    let first : c.in-Until.first < length (trees c.args.nodes.now) = omega (arith, less, c.requires.at) in (
      omega (arith, less, c.decreases),
      (
        longer (trees c.args.nodes.now)
            (trees c.residual_of-in-Until.new.nodes) c.in_ok-after-in-Until.ensures.kept c.in-Until.first first,
        (
          subst (FitsSomewhere (signature_of c.args.here.now.task.now.problem.domain))
              (sym (stays (trees c.args.nodes.now) (trees c.residual_of-in-Until.new.nodes) c.in_ok-after-in-Until.ensures.kept
              c.in-Until.first
              first)) (fits-below false (trees c.args.nodes.now) (signature_of c.args.here.now.task.now.problem.domain) c.args.at
              c.in-Until.first
              low.below c.requires.fits),
          (
            knows-still c.args.here.now c.args.nodes.now c.residual_of-in-Until.new.nodes
                c.in_ok-after-in-Until.ensures.kept c.requires.known,
            c.residual_of-in-Until.ensures.stays.remembers,
          ),
        ),
      ),
    )

pub layer_residual-returns-in_err-before-in-Until-clause-kept : goal.layer_residual-returns-in_err-before-in-Until-clause-kept
layer_residual-returns-in_err-before-in-Until-clause-kept t c = λ i f h.
    c.in_err-before-in-Until.ensures.kept i f (c.in_ok-after-in-Until.ensures.kept i f h)

pub layer_residual-returns-in_err-before-in-Until-clause-cause : goal.layer_residual-returns-in_err-before-in-Until-clause-cause
layer_residual-returns-in_err-before-in-Until-clause-cause t c =
    let low = part-lower false (trees c.args.nodes.now) c.args.at c.in-Until.first c.get.result.now c.get.ensures.tree c.get.ensures.parts
    (subst (λ n. Among c.in-Until.first (parts false n)) (sym c.in-Until.is) (inl refl)) in
    let less = low.less in
    let first : c.in-Until.first < length (trees c.args.nodes.now) = omega (arith, less, c.requires.at) in
    handed-on _ _ _ c.from_residual-in_err-before-in-Until.ensures.1 (residual-fault
    (plain_problem c.args.here.now.task.now.problem) c.args.here.now.world.now (assignment_in c.args.env.now)
    (trees c.args.nodes.now) c.args.at c.in-Until.first low.below c.in_err-before-in-Until.field-0.0
    (subst (λ (f : FormulaTree). IsCausedBy (looked_for_residual (plain_problem c.args.here.now.task.now.problem) c.args.here.now.world.now
    (assignment_in c.args.env.now) f) c.in_err-before-in-Until.field-0.0)
    (stays (trees c.args.nodes.now) (trees c.residual_of-in-Until.new.nodes) c.in_ok-after-in-Until.ensures.kept c.in-Until.first first)
    (subst (λ (v : List (Option Value)). IsCausedBy (looked_for_residual
    (plain_problem c.args.here.now.task.now.problem) c.args.here.now.world.now (assignment_in v)
    (tree_at (trees c.residual_of-in-Until.new.nodes) c.in-Until.first)) c.in_err-before-in-Until.field-0.0)
    c.in_ok-after-in-Until.ensures.stays.frame c.in_err-before-in-Until.ensures.cause)))

pub layer_residual-returns-in_err-before-in-Until-clause-stays : goal.layer_residual-returns-in_err-before-in-Until-clause-stays
layer_residual-returns-in_err-before-in-Until-clause-stays t c = record {
  frame = c.residual_of-in-Until-2.ensures.stays.frame ∙ c.in_ok-after-in-Until.ensures.stays.frame;
  remembers =
      c.residual_of-in-Until-2.ensures.stays.remembers;
}

pub layer_residual-residual_of-requires-in-Within : goal.layer_residual-residual_of-requires-in-Within
layer_residual-residual_of-requires-in-Within t c =
    let low = part-lower false (trees c.args.nodes.now) c.args.at c.in-Within.part c.get.result.now c.get.ensures.tree c.get.ensures.parts
    (subst (λ n. Among c.in-Within.part (parts false n)) (sym c.in-Within.is) (inl refl)) in
    let less = low.less in (
      omega (arith, less, c.decreases),
      (
        omega (arith, less, c.requires.at),
        (
          fits-below false (trees c.args.nodes.now) (signature_of c.args.here.now.task.now.problem.domain) c.args.at c.in-Within.part
              low.below c.requires.fits,
          (c.requires.known, c.requires.remembers),
        ),
      ),
    )

pub layer_residual-returns-in_err-answer-in-Within-clause-cause : goal.layer_residual-returns-in_err-answer-in-Within-clause-cause
layer_residual-returns-in_err-answer-in-Within-clause-cause t c =
    let low = part-lower false (trees c.args.nodes.now) c.args.at c.in-Within.part c.get.result.now c.get.ensures.tree c.get.ensures.parts
    (subst (λ n. Among c.in-Within.part (parts false n)) (sym c.in-Within.is) (inl refl)) in
    handed-on _ _ _ c.from_residual-in_err-answer-in-Within.ensures.1 (residual-fault
    (plain_problem c.args.here.now.task.now.problem) c.args.here.now.world.now (assignment_in c.args.env.now)
    (trees c.args.nodes.now) c.args.at c.in-Within.part low.below c.in_err-answer-in-Within.field-0.0
    c.in_err-answer-in-Within.ensures.cause)

pub layer_residual-residual_of-requires-in-During : goal.layer_residual-residual_of-requires-in-During
layer_residual-residual_of-requires-in-During t c =
    let low = part-lower false (trees c.args.nodes.now) c.args.at c.in-During.part c.get.result.now c.get.ensures.tree c.get.ensures.parts
    (subst (λ n. Among c.in-During.part (parts false n)) (sym c.in-During.is) (inl refl)) in
    let less = low.less in (
      omega (arith, less, c.decreases),
      (
        omega (arith, less, c.requires.at),
        (
          fits-below false (trees c.args.nodes.now) (signature_of c.args.here.now.task.now.problem.domain) c.args.at c.in-During.part
              low.below c.requires.fits,
          (c.requires.known, c.requires.remembers),
        ),
      ),
    )

pub layer_residual-returns-in_err-answer-in-During-clause-cause : goal.layer_residual-returns-in_err-answer-in-During-clause-cause
layer_residual-returns-in_err-answer-in-During-clause-cause t c =
    let low = part-lower false (trees c.args.nodes.now) c.args.at c.in-During.part c.get.result.now c.get.ensures.tree c.get.ensures.parts
    (subst (λ n. Among c.in-During.part (parts false n)) (sym c.in-During.is) (inl refl)) in
    handed-on _ _ _ c.from_residual-in_err-answer-in-During.ensures.1 (residual-fault
    (plain_problem c.args.here.now.task.now.problem) c.args.here.now.world.now (assignment_in c.args.env.now)
    (trees c.args.nodes.now) c.args.at c.in-During.part low.below c.in_err-answer-in-During.field-0.0
    c.in_err-answer-in-During.ensures.cause)

pub layer_residual-until_remaining-requires : goal.layer_residual-until_remaining-requires
layer_residual-until_remaining-requires t c = record {
  second = slice_get_within (trees c.residual_of-in-Until-2.new.nodes) c.in_ok-after-in-Until.after _
      (c.in_ok-before-in-Until.ensures.kept _ _ c.in_ok-after-in-Until.ensures.number);
  first = slice_get_within (trees c.residual_of-in-Until-2.new.nodes) c.in_ok-before-in-Until.before _
      c.in_ok-before-in-Until.ensures.number;
  at = longer (trees c.args.nodes.now) (trees c.residual_of-in-Until-2.new.nodes)
      (λ i f h. c.in_ok-before-in-Until.ensures.kept i f (c.in_ok-after-in-Until.ensures.kept i f h)) c.args.at c.requires.at;
}

pub layer_residual-returns-in_ok-number-in-Until-clause-kept : goal.layer_residual-returns-in_ok-number-in-Until-clause-kept
layer_residual-returns-in_ok-number-in-Until-clause-kept t c = λ i f h.
    c.in_ok-number-in-Until.ensures.kept i f (c.in_ok-before-in-Until.ensures.kept i f (c.in_ok-after-in-Until.ensures.kept i f h))

pub layer_residual-returns-in_err-number-in-Until-clause-kept : goal.layer_residual-returns-in_err-number-in-Until-clause-kept
layer_residual-returns-in_err-number-in-Until-clause-kept t c = λ i f h.
    c.in_err-number-in-Until.ensures.kept i f (c.in_ok-before-in-Until.ensures.kept i f (c.in_ok-after-in-Until.ensures.kept i f h))

pub layer_residual-returns-in_ok-number-in-Until-clause-number : goal.layer_residual-returns-in_ok-number-in-Until-clause-number
layer_residual-returns-in_ok-number-in-Until-clause-number t c =
    let low = part-lower false (trees c.args.nodes.now) c.args.at c.in-Until.first c.get.result.now c.get.ensures.tree c.get.ensures.parts
    (subst (λ n. Among c.in-Until.first (parts false n)) (sym c.in-Until.is) (inl refl)) in
    let less = low.less in
    let first : c.in-Until.first < length (trees c.args.nodes.now) = omega (arith, less, c.requires.at) in
    c.in_ok-number-in-Until.ensures.number ∙ ap (λ (f : FormulaTree). Some f)
    (next-Until (plain_problem c.args.here.now.task.now.problem) c.args.here.now.world.now (assignment_in c.args.env.now)
    (trees c.args.nodes.now) c.args.at c.get.result.now c.get.ensures.tree c.requires.at (trees c.residual_of-in-Until-2.new.nodes)
    (λ i f h. c.in_ok-before-in-Until.ensures.kept i f (c.in_ok-after-in-Until.ensures.kept i f h))
    (assignment_in c.residual_of-in-Until-2.new.env) (ap assignment_in
    (c.in_ok-before-in-Until.ensures.stays.frame ∙ c.in_ok-after-in-Until.ensures.stays.frame)) c.in-Until.first c.in-Until.second
    c.in_ok-before-in-Until.before c.in_ok-after-in-Until.after c.in-Until.is
    (subst (λ (f : FormulaTree). slice_get (trees c.residual_of-in-Until-2.new.nodes) c.in_ok-before-in-Until.before ≡
    Some (residual (plain_problem c.args.here.now.task.now.problem) c.args.here.now.world.now (assignment_in c.args.env.now) f))
    (stays (trees c.args.nodes.now) (trees c.residual_of-in-Until.new.nodes) c.in_ok-after-in-Until.ensures.kept c.in-Until.first first)
    (subst (λ (v : List (Option Value)). slice_get (trees c.residual_of-in-Until-2.new.nodes) c.in_ok-before-in-Until.before ≡
    Some (residual (plain_problem c.args.here.now.task.now.problem) c.args.here.now.world.now (assignment_in v)
    (tree_at (trees c.residual_of-in-Until.new.nodes) c.in-Until.first))) c.in_ok-after-in-Until.ensures.stays.frame
    c.in_ok-before-in-Until.ensures.number))
    (c.in_ok-before-in-Until.ensures.kept _ _ c.in_ok-after-in-Until.ensures.number))

pub layer_residual-with_fewer_steps-requires : goal.layer_residual-with_fewer_steps-requires
layer_residual-with_fewer_steps-requires t c =
    let low = part-lower false (trees c.args.nodes.now) c.args.at c.in-Within.part c.get.result.now c.get.ensures.tree c.get.ensures.parts
    (subst (λ n. Among c.in-Within.part (parts false n)) (sym c.in-Within.is) (inl refl)) in
    let less = low.less in
    let part : c.in-Within.part < length (trees c.args.nodes.now) = omega (arith, less, c.requires.at) in
    record {
      answer = slice_get_within (trees c.residual_of-in-Within.new.nodes) c.in_ok-answer-in-Within.answer _
          c.in_ok-answer-in-Within.ensures.number;
      part = longer (trees c.args.nodes.now) (trees c.residual_of-in-Within.new.nodes) c.in_ok-answer-in-Within.ensures.kept
          c.in-Within.part part;
    }

pub layer_residual-returns-in_ok-number-in-Within-clause-kept : goal.layer_residual-returns-in_ok-number-in-Within-clause-kept
layer_residual-returns-in_ok-number-in-Within-clause-kept t c = λ i f h.
    c.in_ok-number-in-Within.ensures.kept i f (c.in_ok-answer-in-Within.ensures.kept i f h)

pub layer_residual-returns-in_ok-number-in-Within-clause-number : goal.layer_residual-returns-in_ok-number-in-Within-clause-number
layer_residual-returns-in_ok-number-in-Within-clause-number t c =
    let low = part-lower false (trees c.args.nodes.now) c.args.at c.in-Within.part c.get.result.now c.get.ensures.tree c.get.ensures.parts
    (subst (λ n. Among c.in-Within.part (parts false n)) (sym c.in-Within.is) (inl refl)) in
    let less = low.less in
    let part : c.in-Within.part < length (trees c.args.nodes.now) = omega (arith, less, c.requires.at) in
    c.in_ok-number-in-Within.ensures.number ∙ ap (λ (f : FormulaTree). Some f)
    (next-Within (plain_problem c.args.here.now.task.now.problem) c.args.here.now.world.now (assignment_in c.args.env.now)
    (trees c.args.nodes.now) c.args.at c.get.result.now c.get.ensures.tree c.requires.at
    (trees c.residual_of-in-Within.new.nodes) c.in_ok-answer-in-Within.ensures.kept (assignment_in c.residual_of-in-Within.new.env)
    (ap assignment_in c.in_ok-answer-in-Within.ensures.stays.frame) c.in-Within.steps c.in-Within.part c.in_ok-answer-in-Within.answer
    part c.in-Within.is c.in_ok-answer-in-Within.ensures.number)

pub layer_residual-with_fewer_steps-requires-in-During : goal.layer_residual-with_fewer_steps-requires-in-During
layer_residual-with_fewer_steps-requires-in-During t c =
    let low = part-lower false (trees c.args.nodes.now) c.args.at c.in-During.part c.get.result.now c.get.ensures.tree c.get.ensures.parts
    (subst (λ n. Among c.in-During.part (parts false n)) (sym c.in-During.is) (inl refl)) in
    let less = low.less in
    let part : c.in-During.part < length (trees c.args.nodes.now) = omega (arith, less, c.requires.at) in
    record {
      answer = slice_get_within (trees c.residual_of-in-During.new.nodes) c.in_ok-answer-in-During.answer _
          c.in_ok-answer-in-During.ensures.number;
      part = longer (trees c.args.nodes.now) (trees c.residual_of-in-During.new.nodes) c.in_ok-answer-in-During.ensures.kept
          c.in-During.part part;
    }

pub layer_residual-returns-in_ok-number-in-During-clause-kept : goal.layer_residual-returns-in_ok-number-in-During-clause-kept
layer_residual-returns-in_ok-number-in-During-clause-kept t c = λ i f h.
    c.in_ok-number-in-During.ensures.kept i f (c.in_ok-answer-in-During.ensures.kept i f h)

pub layer_residual-returns-in_ok-number-in-During-clause-number : goal.layer_residual-returns-in_ok-number-in-During-clause-number
layer_residual-returns-in_ok-number-in-During-clause-number t c =
    let low = part-lower false (trees c.args.nodes.now) c.args.at c.in-During.part c.get.result.now c.get.ensures.tree c.get.ensures.parts
    (subst (λ n. Among c.in-During.part (parts false n)) (sym c.in-During.is) (inl refl)) in
    let less = low.less in
    let part : c.in-During.part < length (trees c.args.nodes.now) = omega (arith, less, c.requires.at) in
    c.in_ok-number-in-During.ensures.number ∙ ap (λ (f : FormulaTree). Some f)
    (next-During (plain_problem c.args.here.now.task.now.problem) c.args.here.now.world.now (assignment_in c.args.env.now)
    (trees c.args.nodes.now) c.args.at c.get.result.now c.get.ensures.tree c.requires.at
    (trees c.residual_of-in-During.new.nodes) c.in_ok-answer-in-During.ensures.kept (assignment_in c.residual_of-in-During.new.env)
    (ap assignment_in c.in_ok-answer-in-During.ensures.stays.frame) c.in-During.steps c.in-During.part c.in_ok-answer-in-During.answer
    part c.in-During.is c.in_ok-answer-in-During.ensures.number)

pub layer_residual-quantifier_residual-requires : goal.layer_residual-quantifier_residual-requires
layer_residual-quantifier_residual-requires t c =
    let less = less-ForAll (trees c.args.nodes.now) c.args.at c.get.result.now c.get.ensures.tree c.get.ensures.parts c.in-ForAll.field-0
    c.in-ForAll.field-1 c.in-ForAll.part c.in-ForAll.is in
    let stands = stands-ForAll (trees c.args.nodes.now) c.args.at c.get.result.now c.get.ensures.tree c.in-ForAll.field-0
    c.in-ForAll.field-1 c.in-ForAll.part c.in-ForAll.is in (
      omega (arith, less, c.decreases),
      (
        c.requires.at,
        (
          omega (arith, less, c.requires.at),
          (stands, (c.requires.fits, c.requires.remembers)),
        ),
      ),
    )

pub layer_residual-quantifier_residual-requires-in-Exists : goal.layer_residual-quantifier_residual-requires-in-Exists
layer_residual-quantifier_residual-requires-in-Exists t c =
    let less = less-Exists (trees c.args.nodes.now) c.args.at c.get.result.now c.get.ensures.tree c.get.ensures.parts c.in-Exists.field-0
    c.in-Exists.field-1 c.in-Exists.part c.in-Exists.is in
    let stands = stands-Exists (trees c.args.nodes.now) c.args.at c.get.result.now c.get.ensures.tree c.in-Exists.field-0
    c.in-Exists.field-1 c.in-Exists.part c.in-Exists.is in (
      omega (arith, less, c.decreases),
      (
        c.requires.at,
        (
          omega (arith, less, c.requires.at),
          (stands, (c.requires.fits, c.requires.remembers)),
        ),
      ),
    )

-- ---- the parts of a join

pub join_residual-loop-i-init : goal.join_residual-loop-i-init
join_residual-loop-i-init t c = record {
  remembers = c.requires.remembers;
  frame = refl;
  kept = λ i f h. h;
  passed =
      gather-begun c.args.whole.junction (trees c.args.nodes.now) _ (map
      (residual (plain_problem c.args.here.now.task.now.problem) c.args.here.now.world.now (assignment_in c.args.env.now))
      (join_parts (tree_at (trees c.args.nodes.now) c.args.whole.at))) c.new-answers.ensures;
}

pub join_residual-part_at-part-requires : goal.join_residual-part_at-part-requires
join_residual-part_at-part-requires t c = record {
  at = longer (trees c.args.nodes.now) (trees c.loop-i.nodes) c.loop-i.invariant.kept c.args.whole.at c.requires.at;
  i = subst (λ (f : FormulaTree). c.loop-i.i < length (join_parts f)) (sym
      (stays (trees c.args.nodes.now) (trees c.loop-i.nodes) c.loop-i.invariant.kept c.args.whole.at c.requires.at))
      (omega (arith, c.loop-i-test.true, c.part_count-i-end.ensures));
}

pub join_residual-residual_of-requires : goal.join_residual-residual_of-requires
join_residual-residual_of-requires t c =
    let less = c.part_at-part.ensures.smaller in
    let part : c.part_at-part.result < length (trees c.args.nodes.now) = omega (arith, less, c.requires.at) in
    let there = subst (λ (f : FormulaTree). slice_get (join_parts f) c.loop-i.i ≡
    Some (tree_at (trees c.loop-i.nodes) c.part_at-part.result)) (stays (trees c.args.nodes.now)
    (trees c.loop-i.nodes) c.loop-i.invariant.kept c.args.whole.at c.requires.at) c.part_at-part.ensures.tree ∙
    ap Some (stays (trees c.args.nodes.now) (trees c.loop-i.nodes) c.loop-i.invariant.kept c.part_at-part.result part) in
    let low = part-among false (trees c.args.nodes.now) c.args.whole.at c.args.whole.junction c.requires.join c.loop-i.i
    c.part_at-part.result less there in (
      omega (arith, less, c.decreases),
      (
        longer (trees c.args.nodes.now)
            (trees c.loop-i.nodes) c.loop-i.invariant.kept c.part_at-part.result part,
        (
          subst (FitsSomewhere (signature_of c.args.here.now.task.now.problem.domain))
              (sym (stays (trees c.args.nodes.now) (trees c.loop-i.nodes) c.loop-i.invariant.kept c.part_at-part.result part))
              (fits-below false (trees c.args.nodes.now) (signature_of c.args.here.now.task.now.problem.domain) c.args.whole.at
              c.part_at-part.result low c.requires.fits),
          (
            knows-still c.args.here.now c.args.nodes.now c.loop-i.nodes c.loop-i.invariant.kept
                c.requires.known,
            c.loop-i.invariant.remembers,
          ),
        ),
      ),
    )

pub join_residual-decides-requires : goal.join_residual-decides-requires
join_residual-decides-requires t c = slice_get_within (trees c.residual_of.new.nodes) c.in-Ok.answer _ c.in-Ok.ensures.number

pub join_residual-returns-then-decides-clause-kept : goal.join_residual-returns-then-decides-clause-kept
join_residual-returns-then-decides-clause-kept t c = λ i f h. c.in-Ok.ensures.kept i f (c.loop-i.invariant.kept i f h)

pub join_residual-returns-then-decides-clause-number : goal.join_residual-returns-then-decides-clause-number
join_residual-returns-then-decides-clause-number t c =
    let less = c.part_at-part.ensures.smaller in
    let part : c.part_at-part.result < length (trees c.args.nodes.now) = omega (arith, less, c.requires.at) in
    let there = subst (λ (f : FormulaTree). slice_get (join_parts f) c.loop-i.i ≡
    Some (tree_at (trees c.loop-i.nodes) c.part_at-part.result)) (stays (trees c.args.nodes.now)
    (trees c.loop-i.nodes) c.loop-i.invariant.kept c.args.whole.at c.requires.at) c.part_at-part.ensures.tree ∙
    ap Some (stays (trees c.args.nodes.now) (trees c.loop-i.nodes) c.loop-i.invariant.kept c.part_at-part.result part) in
    let low = part-among false (trees c.args.nodes.now) c.args.whole.at c.args.whole.junction c.requires.join c.loop-i.i
    c.part_at-part.result less there in
    gather-decided c.args.whole.junction (trees c.loop-i.nodes) (trees c.residual_of.new.nodes) c.in-Ok.ensures.kept c.loop-i.answers
    ((residual (plain_problem c.args.here.now.task.now.problem) c.args.here.now.world.now (assignment_in c.args.env.now))
    (tree_at (trees c.args.nodes.now) c.part_at-part.result)) (map
    (residual (plain_problem c.args.here.now.task.now.problem) c.args.here.now.world.now (assignment_in c.args.env.now))
    (drop (c.loop-i.i + 1) (join_parts (tree_at (trees c.args.nodes.now) c.args.whole.at))))
    (map (residual (plain_problem c.args.here.now.task.now.problem) c.args.here.now.world.now (assignment_in c.args.env.now))
    (join_parts (tree_at (trees c.args.nodes.now) c.args.whole.at)))
    (subst (λ (fs : List FormulaTree). Gathered c.args.whole.junction (trees c.loop-i.nodes) c.loop-i.answers fs
    (map (residual (plain_problem c.args.here.now.task.now.problem) c.args.here.now.world.now (assignment_in c.args.env.now))
    (join_parts (tree_at (trees c.args.nodes.now) c.args.whole.at))))
    (part-next (residual (plain_problem c.args.here.now.task.now.problem) c.args.here.now.world.now (assignment_in c.args.env.now))
    (join_parts (tree_at (trees c.args.nodes.now) c.args.whole.at)) c.loop-i.i
    (tree_at (trees c.args.nodes.now) c.part_at-part.result) there) c.loop-i.invariant.passed) c.in-Ok.answer
    (subst (λ (f : FormulaTree). slice_get (trees c.residual_of.new.nodes) c.in-Ok.answer ≡
    Some (residual (plain_problem c.args.here.now.task.now.problem) c.args.here.now.world.now (assignment_in c.args.env.now) f))
    (stays (trees c.args.nodes.now) (trees c.loop-i.nodes) c.loop-i.invariant.kept c.part_at-part.result part)
    (subst (λ (v : List (Option Value)). slice_get (trees c.residual_of.new.nodes) c.in-Ok.answer ≡
    Some (residual (plain_problem c.args.here.now.task.now.problem) c.args.here.now.world.now (assignment_in v)
    (tree_at (trees c.loop-i.nodes) c.part_at-part.result))) c.loop-i.invariant.frame c.in-Ok.ensures.number))
    (c.decides.ensures c.if-decides.true) ∙ ap (λ (f : FormulaTree). Some f)
    (join-next (plain_problem c.args.here.now.task.now.problem) c.args.here.now.world.now
    (assignment_in c.args.env.now) c.args.whole.junction (tree_at (trees c.args.nodes.now) c.args.whole.at) c.requires.join)

pub join_residual-returns-then-decides-clause-stays : goal.join_residual-returns-then-decides-clause-stays
join_residual-returns-then-decides-clause-stays t c = record {
  frame = c.residual_of.ensures.stays.frame ∙
      c.loop-i.invariant.frame;
  remembers = c.residual_of.ensures.stays.remembers;
}

pub join_residual-gather-requires : goal.join_residual-gather-requires
join_residual-gather-requires t c = record {
  parts =
      let less = c.part_at-part.ensures.smaller in
      let part : c.part_at-part.result < length (trees c.args.nodes.now) = omega (arith, less, c.requires.at) in
      let there = subst (λ (f : FormulaTree). slice_get (join_parts f) c.loop-i.i ≡
      Some (tree_at (trees c.loop-i.nodes) c.part_at-part.result))
      (stays (trees c.args.nodes.now) (trees c.loop-i.nodes) c.loop-i.invariant.kept c.args.whole.at c.requires.at)
      c.part_at-part.ensures.tree ∙ ap Some (stays (trees c.args.nodes.now)
      (trees c.loop-i.nodes) c.loop-i.invariant.kept c.part_at-part.result part) in
      let low = part-among false (trees c.args.nodes.now) c.args.whole.at c.args.whole.junction c.requires.join c.loop-i.i
      c.part_at-part.result less there in
      below-still c.args.whole.junction (trees c.loop-i.nodes) (trees c.residual_of.new.nodes) c.in-Ok.ensures.kept c.loop-i.answers
      ((residual (plain_problem c.args.here.now.task.now.problem) c.args.here.now.world.now (assignment_in c.args.env.now))
      (tree_at (trees c.args.nodes.now) c.part_at-part.result)) (map
      (residual (plain_problem c.args.here.now.task.now.problem) c.args.here.now.world.now (assignment_in c.args.env.now))
      (drop (c.loop-i.i + 1) (join_parts (tree_at (trees c.args.nodes.now) c.args.whole.at))))
      (map (residual (plain_problem c.args.here.now.task.now.problem) c.args.here.now.world.now (assignment_in c.args.env.now))
      (join_parts (tree_at (trees c.args.nodes.now) c.args.whole.at)))
      (subst (λ (fs : List FormulaTree). Gathered c.args.whole.junction (trees c.loop-i.nodes) c.loop-i.answers fs
      (map (residual (plain_problem c.args.here.now.task.now.problem) c.args.here.now.world.now (assignment_in c.args.env.now))
      (join_parts (tree_at (trees c.args.nodes.now) c.args.whole.at))))
      (part-next (residual (plain_problem c.args.here.now.task.now.problem) c.args.here.now.world.now (assignment_in c.args.env.now))
      (join_parts (tree_at (trees c.args.nodes.now) c.args.whole.at)) c.loop-i.i
      (tree_at (trees c.args.nodes.now) c.part_at-part.result) there) c.loop-i.invariant.passed) c.in-Ok.answer
      (subst (λ (f : FormulaTree). slice_get (trees c.residual_of.new.nodes) c.in-Ok.answer ≡
      Some (residual (plain_problem c.args.here.now.task.now.problem) c.args.here.now.world.now (assignment_in c.args.env.now) f))
      (stays (trees c.args.nodes.now) (trees c.loop-i.nodes) c.loop-i.invariant.kept c.part_at-part.result part)
      (subst (λ (v : List (Option Value)). slice_get (trees c.residual_of.new.nodes) c.in-Ok.answer ≡
      Some (residual (plain_problem c.args.here.now.task.now.problem) c.args.here.now.world.now (assignment_in v)
      (tree_at (trees c.loop-i.nodes) c.part_at-part.result))) c.loop-i.invariant.frame c.in-Ok.ensures.number));
  part = slice_get_within (trees c.residual_of.new.nodes) c.in-Ok.answer _ c.in-Ok.ensures.number;
}

pub join_residual-loop-i-preserved : goal.join_residual-loop-i-preserved
join_residual-loop-i-preserved t c =
    let less = c.part_at-part.ensures.smaller in
    let part : c.part_at-part.result < length (trees c.args.nodes.now) = omega (arith, less, c.requires.at) in
    let there = subst (λ (f : FormulaTree). slice_get (join_parts f) c.loop-i.i ≡
    Some (tree_at (trees c.loop-i.nodes) c.part_at-part.result)) (stays (trees c.args.nodes.now)
    (trees c.loop-i.nodes) c.loop-i.invariant.kept c.args.whole.at c.requires.at) c.part_at-part.ensures.tree ∙
    ap Some (stays (trees c.args.nodes.now) (trees c.loop-i.nodes) c.loop-i.invariant.kept c.part_at-part.result part) in
    let low = part-among false (trees c.args.nodes.now) c.args.whole.at c.args.whole.junction c.requires.join c.loop-i.i
    c.part_at-part.result less there in
    record {
      remembers = c.residual_of.ensures.stays.remembers;
      frame = c.residual_of.ensures.stays.frame ∙ c.loop-i.invariant.frame;
      kept = λ i f h. c.in-Ok.ensures.kept i f (c.loop-i.invariant.kept i f h);
      passed = gather-on c.args.whole.junction (trees c.loop-i.nodes) (trees c.residual_of.new.nodes) c.in-Ok.ensures.kept c.loop-i.answers
          ((residual (plain_problem c.args.here.now.task.now.problem) c.args.here.now.world.now (assignment_in c.args.env.now))
          (tree_at (trees c.args.nodes.now) c.part_at-part.result)) (map
          (residual (plain_problem c.args.here.now.task.now.problem) c.args.here.now.world.now (assignment_in c.args.env.now))
          (drop (c.loop-i.i + 1) (join_parts (tree_at (trees c.args.nodes.now) c.args.whole.at))))
          (map (residual (plain_problem c.args.here.now.task.now.problem) c.args.here.now.world.now (assignment_in c.args.env.now))
          (join_parts (tree_at (trees c.args.nodes.now) c.args.whole.at)))
          (subst (λ (fs : List FormulaTree). Gathered c.args.whole.junction (trees c.loop-i.nodes) c.loop-i.answers fs
          (map (residual (plain_problem c.args.here.now.task.now.problem) c.args.here.now.world.now (assignment_in c.args.env.now))
          (join_parts (tree_at (trees c.args.nodes.now) c.args.whole.at))))
          (part-next (residual (plain_problem c.args.here.now.task.now.problem) c.args.here.now.world.now (assignment_in c.args.env.now))
          (join_parts (tree_at (trees c.args.nodes.now) c.args.whole.at)) c.loop-i.i
          (tree_at (trees c.args.nodes.now) c.part_at-part.result) there) c.loop-i.invariant.passed) c.in-Ok.answer
          (subst (λ (f : FormulaTree). slice_get (trees c.residual_of.new.nodes) c.in-Ok.answer ≡
          Some (residual (plain_problem c.args.here.now.task.now.problem) c.args.here.now.world.now (assignment_in c.args.env.now) f))
          (stays (trees c.args.nodes.now) (trees c.loop-i.nodes) c.loop-i.invariant.kept c.part_at-part.result part)
          (subst (λ (v : List (Option Value)). slice_get (trees c.residual_of.new.nodes) c.in-Ok.answer ≡
          Some (residual (plain_problem c.args.here.now.task.now.problem) c.args.here.now.world.now (assignment_in v)
          (tree_at (trees c.loop-i.nodes) c.part_at-part.result))) c.loop-i.invariant.frame c.in-Ok.ensures.number)) c.gather.new.parts
          c.in_ok-gather-in-Ok.ensures.below c.in_ok-gather-in-Ok.ensures.same;
    }

pub join_residual-returns-in_err-gather-in-Ok-clause-kept : goal.join_residual-returns-in_err-gather-in-Ok-clause-kept
join_residual-returns-in_err-gather-in-Ok-clause-kept t c = λ i f h. c.in-Ok.ensures.kept i f (c.loop-i.invariant.kept i f h)

pub join_residual-returns-in_err-gather-in-Ok-clause-stays : goal.join_residual-returns-in_err-gather-in-Ok-clause-stays
join_residual-returns-in_err-gather-in-Ok-clause-stays t c = record {
  frame = c.residual_of.ensures.stays.frame ∙
      c.loop-i.invariant.frame;
  remembers = c.residual_of.ensures.stays.remembers;
}

pub join_residual-returns-in-Err-clause-kept : goal.join_residual-returns-in-Err-clause-kept
join_residual-returns-in-Err-clause-kept t c = λ i f h. c.in-Err.ensures.kept i f (c.loop-i.invariant.kept i f h)

pub join_residual-returns-in-Err-clause-cause : goal.join_residual-returns-in-Err-clause-cause
join_residual-returns-in-Err-clause-cause t c =
    let less = c.part_at-part.ensures.smaller in
    let part : c.part_at-part.result < length (trees c.args.nodes.now) = omega (arith, less, c.requires.at) in
    let there = subst (λ (f : FormulaTree). slice_get (join_parts f) c.loop-i.i ≡
    Some (tree_at (trees c.loop-i.nodes) c.part_at-part.result)) (stays (trees c.args.nodes.now)
    (trees c.loop-i.nodes) c.loop-i.invariant.kept c.args.whole.at c.requires.at) c.part_at-part.ensures.tree ∙
    ap Some (stays (trees c.args.nodes.now) (trees c.loop-i.nodes) c.loop-i.invariant.kept c.part_at-part.result part) in
    let low = part-among false (trees c.args.nodes.now) c.args.whole.at c.args.whole.junction c.requires.join c.loop-i.i
    c.part_at-part.result less there in
    residual-fault (plain_problem c.args.here.now.task.now.problem) c.args.here.now.world.now (assignment_in c.args.env.now)
    (trees c.args.nodes.now) c.args.whole.at c.part_at-part.result low c.in-Err.fault
    (subst (λ (f : FormulaTree). IsCausedBy (looked_for_residual (plain_problem c.args.here.now.task.now.problem) c.args.here.now.world.now
    (assignment_in c.args.env.now) f) c.in-Err.fault) (stays (trees c.args.nodes.now)
    (trees c.loop-i.nodes) c.loop-i.invariant.kept c.part_at-part.result part)
    (subst (λ (v : List (Option Value)). IsCausedBy (looked_for_residual
    (plain_problem c.args.here.now.task.now.problem) c.args.here.now.world.now (assignment_in v)
    (tree_at (trees c.loop-i.nodes) c.part_at-part.result)) c.in-Err.fault) c.loop-i.invariant.frame c.in-Err.ensures.cause))

pub join_residual-returns-in-Err-clause-stays : goal.join_residual-returns-in-Err-clause-stays
join_residual-returns-in-Err-clause-stays t c = record {
  frame = c.residual_of.ensures.stays.frame ∙ c.loop-i.invariant.frame;
  remembers =
      c.residual_of.ensures.stays.remembers;
}

pub join_residual-join-requires : goal.join_residual-join-requires
join_residual-join-requires t c = subst (λ (ids : List ℕ). all_below (length (trees c.loop-i.nodes)) ids ≡ true)
    (sym c.as_slice.ensures) c.loop-i.invariant.passed.below

pub join_residual-returns-clause-kept : goal.join_residual-returns-clause-kept
join_residual-returns-clause-kept t c = λ i f h. c.in_ok-number.ensures.kept i f (c.loop-i.invariant.kept i f h)

pub join_residual-returns-in_err-number-clause-kept : goal.join_residual-returns-in_err-number-clause-kept
join_residual-returns-in_err-number-clause-kept t c = λ i f h. c.in_err-number.ensures.kept i f (c.loop-i.invariant.kept i f h)

pub join_residual-returns-clause-number : goal.join_residual-returns-clause-number
join_residual-returns-clause-number t c =
    c.in_ok-number.ensures.number ∙ ap (λ (f : FormulaTree). Some f) (ap
    (λ (ids : List ℕ). simplified_join c.args.whole.junction (trees_at (trees c.loop-i.nodes) ids)) c.as_slice.ensures
    ∙ (gather-end c.args.whole.junction (trees c.loop-i.nodes) c.loop-i.answers
    (map (residual (plain_problem c.args.here.now.task.now.problem) c.args.here.now.world.now (assignment_in c.args.env.now))
    (drop c.loop-i.i (join_parts (tree_at (trees c.args.nodes.now) c.args.whole.at))))
    (map (residual (plain_problem c.args.here.now.task.now.problem) c.args.here.now.world.now (assignment_in c.args.env.now))
    (join_parts (tree_at (trees c.args.nodes.now) c.args.whole.at))) c.loop-i.invariant.passed
    (parts-done (residual (plain_problem c.args.here.now.task.now.problem) c.args.here.now.world.now (assignment_in c.args.env.now))
    (join_parts (tree_at (trees c.args.nodes.now) c.args.whole.at)) c.loop-i.i
    (omega (arith, c.loop-i-test.false, c.part_count-i-end.ensures)))
    ∙ join-next (plain_problem c.args.here.now.task.now.problem) c.args.here.now.world.now
    (assignment_in c.args.env.now) c.args.whole.junction (tree_at (trees c.args.nodes.now) c.args.whole.at) c.requires.join))

-- ---- the instances of a quantifier

pub instances_residual-tuples-init : goal.instances_residual-tuples-init
instances_residual-tuples-init t c =
    record {
      remembers = c.requires.remembers;
      kept = λ i f h. h;
      reads = c.requires.reads;
      others = λ u. refl;
      passed = subst (λ (o : Option (List Value)). Gathered c.args.quantifier.junction (trees c.args.nodes.now) c.new-answers.result
          (next_after (plain_problem c.args.here.now.task.now.problem) c.args.here.now.world.now (assignment_in c.args.env.now)
          (node_vars (trees c.args.nodes.now) c.args.quantifier) (node_bound (trees c.args.nodes.now) c.args.quantifier)
          (tree_at (trees c.args.nodes.now) c.args.quantifier.part) o)
          (next_of_all (plain_problem c.args.here.now.task.now.problem) c.args.here.now.world.now (assignment_in c.args.env.now)
          (node_vars (trees c.args.nodes.now) c.args.quantifier) (node_bound (trees c.args.nodes.now) c.args.quantifier)
          (tree_at (trees c.args.nodes.now) c.args.quantifier.part))) (sym c.requires.before)
          (instances-begun (plain_problem c.args.here.now.task.now.problem) c.args.here.now.world.now (assignment_in c.args.env.now)
          (node_vars (trees c.args.nodes.now) c.args.quantifier) (node_bound (trees c.args.nodes.now) c.args.quantifier)
          (tree_at (trees c.args.nodes.now) c.args.quantifier.part) c.args.quantifier.junction
          (trees c.args.nodes.now) c.new-answers.result c.new-answers.ensures);
    }

pub instances_residual-put_next-requires-clause-at : goal.instances_residual-put_next-requires-clause-at
instances_residual-put_next-requires-clause-at t c =
    longer (trees c.args.nodes.now) (trees c.tuples.nodes) c.tuples.invariant.kept c.args.quantifier.at c.requires.at

pub instances_residual-put_next-requires-clause-stands : goal.instances_residual-put_next-requires-clause-stands
instances_residual-put_next-requires-clause-stands t c =
    stands-still (trees c.args.nodes.now) (trees c.tuples.nodes) c.tuples.invariant.kept c.args.quantifier c.requires.at c.requires.part
    c.requires.stands

pub instances_residual-put_next-requires-clause-slots : goal.instances_residual-put_next-requires-clause-slots
instances_residual-put_next-requires-clause-slots t c =
    let fit = quantifier-fits c.args.here.now.task.now.problem c.args.quantifier.junction
    (node_vars (trees c.args.nodes.now) c.args.quantifier) (node_bound (trees c.args.nodes.now) c.args.quantifier)
    (tree_at (trees c.args.nodes.now) c.args.quantifier.part) (subst
    (FitsSomewhere (signature_of c.args.here.now.task.now.problem.domain)) c.requires.stands c.requires.fits) in
    subst (λ (f : FormulaTree). Each (λ s. s.slot < 32) (vars_in f)) (sym
    (same-node (trees c.args.nodes.now) (trees c.tuples.nodes) c.tuples.invariant.kept c.args.quantifier c.requires.at)) fit.in_frame

pub instances_residual-put_next-requires-clause-reads : goal.instances_residual-put_next-requires-clause-reads
instances_residual-put_next-requires-clause-reads t c = (
  situation_of (plain_problem c.args.here.now.task.now.problem) c.args.here.now.world.now,
  node_bound (trees c.tuples.nodes) c.args.quantifier,
  assignment_in c.args.env.now,
  subst (λ (f : FormulaTree). ReadsBound (situation_of (plain_problem c.args.here.now.task.now.problem) c.args.here.now.world.now)
      (vars_in f) (assignment_in c.args.env.now) (bound_in f) c.tuples.tuples)
      (sym (same-node (trees c.args.nodes.now) (trees c.tuples.nodes) c.tuples.invariant.kept c.args.quantifier c.requires.at))
      c.tuples.invariant.reads,
)

pub instances_residual-residual_of-requires : goal.instances_residual-residual_of-requires
instances_residual-residual_of-requires t c =
    let fit = quantifier-fits c.args.here.now.task.now.problem c.args.quantifier.junction
    (node_vars (trees c.args.nodes.now) c.args.quantifier) (node_bound (trees c.args.nodes.now) c.args.quantifier)
    (tree_at (trees c.args.nodes.now) c.args.quantifier.part) (subst
    (FitsSomewhere (signature_of c.args.here.now.task.now.problem.domain)) c.requires.stands c.requires.fits) in (
      omega (arith, c.decreases),
      (
        longer (trees c.args.nodes.now) (trees c.tuples.nodes) c.tuples.invariant.kept c.args.quantifier.part
            c.requires.part,
        (
          subst (FitsSomewhere (signature_of c.args.here.now.task.now.problem.domain))
              (sym (stays (trees c.args.nodes.now) (trees c.tuples.nodes) c.tuples.invariant.kept c.args.quantifier.part c.requires.part))
              fit.part,
          (
            knows-still c.args.here.now c.args.nodes.now c.tuples.nodes c.tuples.invariant.kept c.requires.known,
            c.tuples.invariant.remembers,
          ),
        ),
      ),
    )

pub instances_residual-returns-in-Err-clause-kept : goal.instances_residual-returns-in-Err-clause-kept
instances_residual-returns-in-Err-clause-kept t c =
    λ i f h. c.in-Err.ensures.kept i f (c.tuples.invariant.kept i f h)

pub instances_residual-returns-in-Err-clause-cause : goal.instances_residual-returns-in-Err-clause-cause
instances_residual-returns-in-Err-clause-cause t c =
    let fit = quantifier-fits c.args.here.now.task.now.problem c.args.quantifier.junction
    (node_vars (trees c.args.nodes.now) c.args.quantifier) (node_bound (trees c.args.nodes.now) c.args.quantifier)
    (tree_at (trees c.args.nodes.now) c.args.quantifier.part) (subst
    (FitsSomewhere (signature_of c.args.here.now.task.now.problem.domain)) c.requires.stands c.requires.fits) in
    let step = stepped-then (trees c.args.nodes.now) (trees c.tuples.nodes) c.tuples.invariant.kept c.args.quantifier c.requires.at
    (situation_of (plain_problem c.args.here.now.task.now.problem) c.args.here.now.world.now) c.tuples.tuples c.put_next.new.tuples
    c.tuples.env c.put_next.new.env c.put_next.result (c.put_next.ensures _ _) in
    let come = has-come (plain_problem c.args.here.now.task.now.problem) c.args.here.now.world.now (assignment_in c.args.env.now)
    (node_vars (trees c.args.nodes.now) c.args.quantifier) (node_bound (trees c.args.nodes.now) c.args.quantifier)
    (tree_at (trees c.args.nodes.now) c.args.quantifier.part) c.tuples.tuples c.put_next.new.tuples c.tuples.env c.put_next.new.env
    c.put_next.result step c.tuples.invariant.reads fit.differ fit.occur c.tuples.invariant.others c.tuples-test.true in
    subst (λ (f : FormulaTree). IsCausedBy (looked_for_residual (plain_problem c.args.here.now.task.now.problem) c.args.here.now.world.now
    (assignment_in c.args.env.now) f) c.in-Err.fault) (sym c.requires.stands)
    (instance-caused (plain_problem c.args.here.now.task.now.problem) c.args.here.now.world.now (assignment_in c.args.env.now)
    (node_vars (trees c.args.nodes.now) c.args.quantifier) (node_bound (trees c.args.nodes.now) c.args.quantifier)
    (tree_at (trees c.args.nodes.now) c.args.quantifier.part) c.args.quantifier.junction c.tuples.tuples.tuple
    c.put_next.new.tuples.tuple c.put_next.new.env come (tree_at (trees c.tuples.nodes) c.args.quantifier.part)
    (stays (trees c.args.nodes.now) (trees c.tuples.nodes) c.tuples.invariant.kept c.args.quantifier.part c.requires.part)
    c.in-Err.fault c.in-Err.ensures.cause)

pub instances_residual-returns-in-Err-clause-others : goal.instances_residual-returns-in-Err-clause-others
instances_residual-returns-in-Err-clause-others t c =
    let step = stepped-then (trees c.args.nodes.now) (trees c.tuples.nodes) c.tuples.invariant.kept c.args.quantifier c.requires.at
    (situation_of (plain_problem c.args.here.now.task.now.problem) c.args.here.now.world.now) c.tuples.tuples c.put_next.new.tuples
    c.tuples.env c.put_next.new.env c.put_next.result (c.put_next.ensures _ _) in
    still-others (plain_problem c.args.here.now.task.now.problem) c.args.here.now.world.now (assignment_in c.args.env.now)
    (node_vars (trees c.args.nodes.now) c.args.quantifier) (node_bound (trees c.args.nodes.now) c.args.quantifier)
    (tree_at (trees c.args.nodes.now) c.args.quantifier.part) c.tuples.tuples c.put_next.new.tuples c.tuples.env c.put_next.new.env
    c.put_next.result step c.tuples.invariant.reads c.tuples.invariant.others c.residual_of.new.env c.residual_of.ensures.stays.frame

pub instances_residual-decides-requires : goal.instances_residual-decides-requires
instances_residual-decides-requires t c =
    slice_get_within (trees c.residual_of.new.nodes) c.in-Ok.number _ c.in-Ok.ensures.number

pub instances_residual-returns-then-decides-clause-kept : goal.instances_residual-returns-then-decides-clause-kept
instances_residual-returns-then-decides-clause-kept t c =
    λ i f h. c.in-Ok.ensures.kept i f (c.tuples.invariant.kept i f h)

pub instances_residual-returns-then-decides-clause-number : goal.instances_residual-returns-then-decides-clause-number
instances_residual-returns-then-decides-clause-number t c =
    let fit = quantifier-fits c.args.here.now.task.now.problem c.args.quantifier.junction
    (node_vars (trees c.args.nodes.now) c.args.quantifier) (node_bound (trees c.args.nodes.now) c.args.quantifier)
    (tree_at (trees c.args.nodes.now) c.args.quantifier.part) (subst
    (FitsSomewhere (signature_of c.args.here.now.task.now.problem.domain)) c.requires.stands c.requires.fits) in
    let step = stepped-then (trees c.args.nodes.now) (trees c.tuples.nodes) c.tuples.invariant.kept c.args.quantifier c.requires.at
    (situation_of (plain_problem c.args.here.now.task.now.problem) c.args.here.now.world.now) c.tuples.tuples c.put_next.new.tuples
    c.tuples.env c.put_next.new.env c.put_next.result (c.put_next.ensures _ _) in
    let come = has-come (plain_problem c.args.here.now.task.now.problem) c.args.here.now.world.now (assignment_in c.args.env.now)
    (node_vars (trees c.args.nodes.now) c.args.quantifier) (node_bound (trees c.args.nodes.now) c.args.quantifier)
    (tree_at (trees c.args.nodes.now) c.args.quantifier.part) c.tuples.tuples c.put_next.new.tuples c.tuples.env c.put_next.new.env
    c.put_next.result step c.tuples.invariant.reads fit.differ fit.occur c.tuples.invariant.others c.tuples-test.true in
    instance-decides (plain_problem c.args.here.now.task.now.problem) c.args.here.now.world.now (assignment_in c.args.env.now)
    (node_vars (trees c.args.nodes.now) c.args.quantifier) (node_bound (trees c.args.nodes.now) c.args.quantifier)
    (tree_at (trees c.args.nodes.now) c.args.quantifier.part) c.args.quantifier.junction c.tuples.tuples.tuple
    c.put_next.new.tuples.tuple c.put_next.new.env come (tree_at (trees c.tuples.nodes) c.args.quantifier.part)
    (stays (trees c.args.nodes.now) (trees c.tuples.nodes) c.tuples.invariant.kept c.args.quantifier.part c.requires.part)
    (trees c.tuples.nodes) (trees c.residual_of.new.nodes) c.in-Ok.ensures.kept c.tuples.answers c.tuples.invariant.passed
    c.in-Ok.number c.in-Ok.ensures.number (c.decides.ensures c.if-decides.true) ∙
    ap (λ (f : FormulaTree). Some (residual (plain_problem c.args.here.now.task.now.problem) c.args.here.now.world.now
    (assignment_in c.args.env.now) f)) (sym c.requires.stands)

pub instances_residual-returns-then-decides-clause-others : goal.instances_residual-returns-then-decides-clause-others
instances_residual-returns-then-decides-clause-others t c =
    let step = stepped-then (trees c.args.nodes.now) (trees c.tuples.nodes) c.tuples.invariant.kept c.args.quantifier c.requires.at
    (situation_of (plain_problem c.args.here.now.task.now.problem) c.args.here.now.world.now) c.tuples.tuples c.put_next.new.tuples
    c.tuples.env c.put_next.new.env c.put_next.result (c.put_next.ensures _ _) in
    still-others (plain_problem c.args.here.now.task.now.problem) c.args.here.now.world.now (assignment_in c.args.env.now)
    (node_vars (trees c.args.nodes.now) c.args.quantifier) (node_bound (trees c.args.nodes.now) c.args.quantifier)
    (tree_at (trees c.args.nodes.now) c.args.quantifier.part) c.tuples.tuples c.put_next.new.tuples c.tuples.env c.put_next.new.env
    c.put_next.result step c.tuples.invariant.reads c.tuples.invariant.others c.residual_of.new.env c.residual_of.ensures.stays.frame

pub instances_residual-gather-requires : goal.instances_residual-gather-requires
instances_residual-gather-requires t c =
    let fit = quantifier-fits c.args.here.now.task.now.problem c.args.quantifier.junction
    (node_vars (trees c.args.nodes.now) c.args.quantifier) (node_bound (trees c.args.nodes.now) c.args.quantifier)
    (tree_at (trees c.args.nodes.now) c.args.quantifier.part) (subst
    (FitsSomewhere (signature_of c.args.here.now.task.now.problem.domain)) c.requires.stands c.requires.fits) in
    let step = stepped-then (trees c.args.nodes.now) (trees c.tuples.nodes) c.tuples.invariant.kept c.args.quantifier c.requires.at
    (situation_of (plain_problem c.args.here.now.task.now.problem) c.args.here.now.world.now) c.tuples.tuples c.put_next.new.tuples
    c.tuples.env c.put_next.new.env c.put_next.result (c.put_next.ensures _ _) in
    let come = has-come (plain_problem c.args.here.now.task.now.problem) c.args.here.now.world.now (assignment_in c.args.env.now)
    (node_vars (trees c.args.nodes.now) c.args.quantifier) (node_bound (trees c.args.nodes.now) c.args.quantifier)
    (tree_at (trees c.args.nodes.now) c.args.quantifier.part) c.tuples.tuples c.put_next.new.tuples c.tuples.env c.put_next.new.env
    c.put_next.result step c.tuples.invariant.reads fit.differ fit.occur c.tuples.invariant.others c.tuples-test.true in
    record {
      parts = instances-below (plain_problem c.args.here.now.task.now.problem) c.args.here.now.world.now
          (assignment_in c.args.env.now) (node_vars (trees c.args.nodes.now) c.args.quantifier)
          (node_bound (trees c.args.nodes.now) c.args.quantifier) (tree_at (trees c.args.nodes.now) c.args.quantifier.part)
          c.args.quantifier.junction c.tuples.tuples.tuple c.put_next.new.tuples.tuple c.put_next.new.env come
          (tree_at (trees c.tuples.nodes) c.args.quantifier.part) (stays (trees c.args.nodes.now)
          (trees c.tuples.nodes) c.tuples.invariant.kept c.args.quantifier.part c.requires.part) (trees c.tuples.nodes)
          (trees c.residual_of.new.nodes) c.in-Ok.ensures.kept c.tuples.answers c.tuples.invariant.passed c.in-Ok.number
          c.in-Ok.ensures.number;
      part = slice_get_within (trees c.residual_of.new.nodes) c.in-Ok.number _ c.in-Ok.ensures.number;
    }

pub instances_residual-returns-in_err-gather-in-Ok-clause-kept : goal.instances_residual-returns-in_err-gather-in-Ok-clause-kept
instances_residual-returns-in_err-gather-in-Ok-clause-kept t c =
    λ i f h. c.in-Ok.ensures.kept i f (c.tuples.invariant.kept i f h)

pub instances_residual-returns-in_err-gather-in-Ok-clause-others : goal.instances_residual-returns-in_err-gather-in-Ok-clause-others
instances_residual-returns-in_err-gather-in-Ok-clause-others t c =
    let step = stepped-then (trees c.args.nodes.now) (trees c.tuples.nodes) c.tuples.invariant.kept c.args.quantifier c.requires.at
    (situation_of (plain_problem c.args.here.now.task.now.problem) c.args.here.now.world.now) c.tuples.tuples c.put_next.new.tuples
    c.tuples.env c.put_next.new.env c.put_next.result (c.put_next.ensures _ _) in
    still-others (plain_problem c.args.here.now.task.now.problem) c.args.here.now.world.now (assignment_in c.args.env.now)
    (node_vars (trees c.args.nodes.now) c.args.quantifier) (node_bound (trees c.args.nodes.now) c.args.quantifier)
    (tree_at (trees c.args.nodes.now) c.args.quantifier.part) c.tuples.tuples c.put_next.new.tuples c.tuples.env c.put_next.new.env
    c.put_next.result step c.tuples.invariant.reads c.tuples.invariant.others c.residual_of.new.env c.residual_of.ensures.stays.frame

pub instances_residual-tuples-smaller : goal.instances_residual-tuples-smaller
instances_residual-tuples-smaller t c =
    let fit = quantifier-fits c.args.here.now.task.now.problem c.args.quantifier.junction
    (node_vars (trees c.args.nodes.now) c.args.quantifier) (node_bound (trees c.args.nodes.now) c.args.quantifier)
    (tree_at (trees c.args.nodes.now) c.args.quantifier.part) (subst
    (FitsSomewhere (signature_of c.args.here.now.task.now.problem.domain)) c.requires.stands c.requires.fits) in
    let step = stepped-then (trees c.args.nodes.now) (trees c.tuples.nodes) c.tuples.invariant.kept c.args.quantifier c.requires.at
    (situation_of (plain_problem c.args.here.now.task.now.problem) c.args.here.now.world.now) c.tuples.tuples c.put_next.new.tuples
    c.tuples.env c.put_next.new.env c.put_next.result (c.put_next.ensures _ _) in
    let come = has-come (plain_problem c.args.here.now.task.now.problem) c.args.here.now.world.now (assignment_in c.args.env.now)
    (node_vars (trees c.args.nodes.now) c.args.quantifier) (node_bound (trees c.args.nodes.now) c.args.quantifier)
    (tree_at (trees c.args.nodes.now) c.args.quantifier.part) c.tuples.tuples c.put_next.new.tuples c.tuples.env c.put_next.new.env
    c.put_next.result step c.tuples.invariant.reads fit.differ fit.occur c.tuples.invariant.others c.tuples-test.true in
    come.fewer

pub instances_residual-tuples-preserved : goal.instances_residual-tuples-preserved
instances_residual-tuples-preserved t c =
    let fit = quantifier-fits c.args.here.now.task.now.problem c.args.quantifier.junction
    (node_vars (trees c.args.nodes.now) c.args.quantifier) (node_bound (trees c.args.nodes.now) c.args.quantifier)
    (tree_at (trees c.args.nodes.now) c.args.quantifier.part) (subst
    (FitsSomewhere (signature_of c.args.here.now.task.now.problem.domain)) c.requires.stands c.requires.fits) in
    let step = stepped-then (trees c.args.nodes.now) (trees c.tuples.nodes) c.tuples.invariant.kept c.args.quantifier c.requires.at
    (situation_of (plain_problem c.args.here.now.task.now.problem) c.args.here.now.world.now) c.tuples.tuples c.put_next.new.tuples
    c.tuples.env c.put_next.new.env c.put_next.result (c.put_next.ensures _ _) in
    let come = has-come (plain_problem c.args.here.now.task.now.problem) c.args.here.now.world.now (assignment_in c.args.env.now)
    (node_vars (trees c.args.nodes.now) c.args.quantifier) (node_bound (trees c.args.nodes.now) c.args.quantifier)
    (tree_at (trees c.args.nodes.now) c.args.quantifier.part) c.tuples.tuples c.put_next.new.tuples c.tuples.env c.put_next.new.env
    c.put_next.result step c.tuples.invariant.reads fit.differ fit.occur c.tuples.invariant.others c.tuples-test.true in
    record {
      remembers = c.residual_of.ensures.stays.remembers;
      kept = λ i f h. c.in-Ok.ensures.kept i f (c.tuples.invariant.kept i f h);
      reads = step.reads (assignment_in c.args.env.now) c.tuples.invariant.reads;
      others = still-others (plain_problem c.args.here.now.task.now.problem) c.args.here.now.world.now (assignment_in c.args.env.now)
          (node_vars (trees c.args.nodes.now) c.args.quantifier) (node_bound (trees c.args.nodes.now) c.args.quantifier)
          (tree_at (trees c.args.nodes.now) c.args.quantifier.part) c.tuples.tuples c.put_next.new.tuples c.tuples.env c.put_next.new.env
          c.put_next.result step c.tuples.invariant.reads c.tuples.invariant.others c.residual_of.new.env c.residual_of.ensures.stays.frame;
      passed = instance-gathered (plain_problem c.args.here.now.task.now.problem) c.args.here.now.world.now (assignment_in c.args.env.now)
          (node_vars (trees c.args.nodes.now) c.args.quantifier) (node_bound (trees c.args.nodes.now) c.args.quantifier)
          (tree_at (trees c.args.nodes.now) c.args.quantifier.part) c.args.quantifier.junction c.tuples.tuples.tuple
          c.put_next.new.tuples.tuple c.put_next.new.env come (tree_at (trees c.tuples.nodes) c.args.quantifier.part)
          (stays (trees c.args.nodes.now) (trees c.tuples.nodes) c.tuples.invariant.kept c.args.quantifier.part c.requires.part)
          (trees c.tuples.nodes) (trees c.residual_of.new.nodes) c.in-Ok.ensures.kept c.tuples.answers c.tuples.invariant.passed
          c.in-Ok.number c.in-Ok.ensures.number c.gather.new.parts c.in_ok-gather-in-Ok.ensures.below c.in_ok-gather-in-Ok.ensures.same;
    }

pub instances_residual-join-requires : goal.instances_residual-join-requires
instances_residual-join-requires t c =
    subst (λ (ids : List ℕ). all_below (length (trees c.tuples.nodes)) ids ≡ true) (sym c.as_slice.ensures) c.tuples.invariant.passed.below

pub instances_residual-returns-clause-kept : goal.instances_residual-returns-clause-kept
instances_residual-returns-clause-kept t c =
    λ i f h. c.in_ok-number.ensures.kept i f (c.tuples.invariant.kept i f h)

pub instances_residual-returns-in_err-number-clause-kept : goal.instances_residual-returns-in_err-number-clause-kept
instances_residual-returns-in_err-number-clause-kept t c =
    λ i f h. c.in_err-number.ensures.kept i f (c.tuples.invariant.kept i f h)

pub instances_residual-returns-clause-number : goal.instances_residual-returns-clause-number
instances_residual-returns-clause-number t c =
    let fit = quantifier-fits c.args.here.now.task.now.problem c.args.quantifier.junction
    (node_vars (trees c.args.nodes.now) c.args.quantifier) (node_bound (trees c.args.nodes.now) c.args.quantifier)
    (tree_at (trees c.args.nodes.now) c.args.quantifier.part) (subst
    (FitsSomewhere (signature_of c.args.here.now.task.now.problem.domain)) c.requires.stands c.requires.fits) in
    let step = stepped-then (trees c.args.nodes.now) (trees c.tuples.nodes) c.tuples.invariant.kept c.args.quantifier c.requires.at
    (situation_of (plain_problem c.args.here.now.task.now.problem) c.args.here.now.world.now) c.tuples.tuples c.put_next.new.tuples
    c.tuples.env c.put_next.new.env c.put_next.result (c.put_next.ensures _ _) in
    c.in_ok-number.ensures.number ∙ ap (λ (f : FormulaTree). Some f) (ap
    (λ (ids : List ℕ). simplified_join c.args.quantifier.junction (trees_at (trees c.tuples.nodes) ids)) c.as_slice.ensures
    ∙ (gathered-all (plain_problem c.args.here.now.task.now.problem) c.args.here.now.world.now (assignment_in c.args.env.now)
    (node_vars (trees c.args.nodes.now) c.args.quantifier) (node_bound (trees c.args.nodes.now) c.args.quantifier)
    (tree_at (trees c.args.nodes.now) c.args.quantifier.part) c.args.quantifier.junction
    (trees c.tuples.nodes) c.tuples.answers c.tuples.tuples.tuple c.tuples.invariant.passed
    (none-left (plain_problem c.args.here.now.task.now.problem) c.args.here.now.world.now (assignment_in c.args.env.now)
    (node_vars (trees c.args.nodes.now) c.args.quantifier) (node_bound (trees c.args.nodes.now) c.args.quantifier)
    (tree_at (trees c.args.nodes.now) c.args.quantifier.part) c.tuples.tuples c.put_next.new.tuples c.tuples.env c.put_next.new.env
    c.put_next.result step c.tuples.invariant.reads fit.differ fit.occur c.tuples-test.false)
    ∙ ap (residual (plain_problem c.args.here.now.task.now.problem) c.args.here.now.world.now (assignment_in c.args.env.now))
    (sym c.requires.stands)))

pub instances_residual-returns-clause-others : goal.instances_residual-returns-clause-others
instances_residual-returns-clause-others t c =
    let step = stepped-then (trees c.args.nodes.now) (trees c.tuples.nodes) c.tuples.invariant.kept c.args.quantifier c.requires.at
    (situation_of (plain_problem c.args.here.now.task.now.problem) c.args.here.now.world.now) c.tuples.tuples c.put_next.new.tuples
    c.tuples.env c.put_next.new.env c.put_next.result (c.put_next.ensures _ _) in
    still-others (plain_problem c.args.here.now.task.now.problem) c.args.here.now.world.now (assignment_in c.args.env.now)
    (node_vars (trees c.args.nodes.now) c.args.quantifier) (node_bound (trees c.args.nodes.now) c.args.quantifier)
    (tree_at (trees c.args.nodes.now) c.args.quantifier.part) c.tuples.tuples c.put_next.new.tuples c.tuples.env c.put_next.new.env
    c.put_next.result step c.tuples.invariant.reads c.tuples.invariant.others c.put_next.new.env refl

pub instances_residual-returns-in_err-number-clause-others : goal.instances_residual-returns-in_err-number-clause-others
instances_residual-returns-in_err-number-clause-others t c =
    let step = stepped-then (trees c.args.nodes.now) (trees c.tuples.nodes) c.tuples.invariant.kept c.args.quantifier c.requires.at
    (situation_of (plain_problem c.args.here.now.task.now.problem) c.args.here.now.world.now) c.tuples.tuples c.put_next.new.tuples
    c.tuples.env c.put_next.new.env c.put_next.result (c.put_next.ensures _ _) in
    still-others (plain_problem c.args.here.now.task.now.problem) c.args.here.now.world.now (assignment_in c.args.env.now)
    (node_vars (trees c.args.nodes.now) c.args.quantifier) (node_bound (trees c.args.nodes.now) c.args.quantifier)
    (tree_at (trees c.args.nodes.now) c.args.quantifier.part) c.tuples.tuples c.put_next.new.tuples c.tuples.env c.put_next.new.env
    c.put_next.result step c.tuples.invariant.reads c.tuples.invariant.others c.put_next.new.env refl

-- ---- what the variables of a quantifier had

pub quantifier_residual-give_back-requires-clause-at : goal.quantifier_residual-give_back-requires-clause-at
quantifier_residual-give_back-requires-clause-at t c =
    longer (trees c.args.nodes.now) (trees c.instances_residual-answer.new.nodes) c.instances_residual-answer.ensures.kept
    c.args.quantifier.at c.requires.at

pub quantifier_residual-give_back-requires-clause-stands : goal.quantifier_residual-give_back-requires-clause-stands
quantifier_residual-give_back-requires-clause-stands t c =
    stands-still (trees c.args.nodes.now) (trees c.instances_residual-answer.new.nodes) c.instances_residual-answer.ensures.kept
    c.args.quantifier c.requires.at c.requires.part c.requires.stands

pub quantifier_residual-give_back-requires-clause-slots : goal.quantifier_residual-give_back-requires-clause-slots
quantifier_residual-give_back-requires-clause-slots t c =
    let fit = quantifier-fits c.args.here.now.task.now.problem c.args.quantifier.junction
    (node_vars (trees c.args.nodes.now) c.args.quantifier) (node_bound (trees c.args.nodes.now) c.args.quantifier)
    (tree_at (trees c.args.nodes.now) c.args.quantifier.part) (subst
    (FitsSomewhere (signature_of c.args.here.now.task.now.problem.domain)) c.requires.stands c.requires.fits) in
    subst (λ (f : FormulaTree). Each (λ s. s.slot < 32) (vars_in f)) (sym
    (same-node (trees c.args.nodes.now) (trees c.instances_residual-answer.new.nodes) c.instances_residual-answer.ensures.kept
    c.args.quantifier c.requires.at)) fit.in_frame

pub quantifier_residual-give_back-requires-clause-few : goal.quantifier_residual-give_back-requires-clause-few
quantifier_residual-give_back-requires-clause-few t c =
    let fit = quantifier-fits c.args.here.now.task.now.problem c.args.quantifier.junction
    (node_vars (trees c.args.nodes.now) c.args.quantifier) (node_bound (trees c.args.nodes.now) c.args.quantifier)
    (tree_at (trees c.args.nodes.now) c.args.quantifier.part) (subst
    (FitsSomewhere (signature_of c.args.here.now.task.now.problem.domain)) c.requires.stands c.requires.fits) in
    let few : length (node_vars (trees c.args.nodes.now) c.args.quantifier) ≤ 9 = omega (arith, fit.few) in
    subst (λ (f : FormulaTree). length (vars_in f) ≤ 9) (sym (same-node (trees c.args.nodes.now)
    (trees c.instances_residual-answer.new.nodes) c.instances_residual-answer.ensures.kept c.args.quantifier c.requires.at)) few

pub quantifier_residual-returns-clause-stays : goal.quantifier_residual-returns-clause-stays
quantifier_residual-returns-clause-stays t c =
    record {
      frame = c.give_back.ensures c.args.env.now (subst (λ (f : FormulaTree). AreKept (vars_in f) c.args.env.now c.keep.new.outer)
          (sym (same-node (trees c.args.nodes.now) (trees c.instances_residual-answer.new.nodes) c.instances_residual-answer.ensures.kept
          c.args.quantifier c.requires.at)) c.keep.ensures)
          (subst (λ (f : FormulaTree). AgreeElsewhere (vars_in f) (assignment_in c.instances_residual-answer.new.env)
          (assignment_in c.args.env.now)) (sym (same-node (trees c.args.nodes.now)
          (trees c.instances_residual-answer.new.nodes) c.instances_residual-answer.ensures.kept c.args.quantifier c.requires.at))
          c.instances_residual-answer.ensures.others);
      remembers = c.instances_residual-answer.ensures.remembers;
    }

pub quantifier_residual-instances_residual-answer-requires : goal.quantifier_residual-instances_residual-answer-requires
quantifier_residual-instances_residual-answer-requires t c = (
  omega (arith, c.decreases),
  (
    c.requires.at,
    (
      c.requires.part,
      (
        c.requires.stands,
        (
          c.requires.fits,
          (
            nothing-known _ _ refl,
            (
              c.tuples-tuples.ensures.reads c.args.env.now c.open.ensures.stands,
              (c.tuples-tuples.ensures.before, c.requires.remembers),
            ),
          ),
        ),
      ),
    ),
  ),
)

-- ---- what is known

pub residual_of-state_residual-requires-clause-known : goal.residual_of-state_residual-requires-clause-known
residual_of-state_residual-requires-clause-known t c = c.requires.known.truths

pub residual_of-returns-in-Some-clause-number : goal.residual_of-returns-in-Some-clause-number
residual_of-returns-in-Some-clause-number t c = (c.requires.known.residuals c.args.at c.in-Some.number (sym c.in-Some.ensures)).1
    (assignment_in c.args.env.now)
