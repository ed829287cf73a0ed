use Rattle.std.proofs.Common.{true, inl, refl, sym, subst, arith}
use Rattle.tl_eval.specs.Frames.{assignment_in}
use Rattle.tl_nodes.specs.Numbers.{trees}
use Rattle.tl_syntax.specs.Lists.{Among}
use Rattle.tl_terms.specs.ProblemMeaning.{plain_problem}
use Rattle.tl_progress.specs.Parts.{parts}
use Rattle.tl_progress.proofs.Below.{part-lower}
use Rattle.tl_progress.proofs.TruthLayers.{idle-Not}
use Rattle.tl_progress.proofs.quick.plain_truth.Goals as goal

pub plain_basic-requires : goal.plain_basic-requires
plain_basic-requires c =
    let low = part-lower true (trees c.args.formulas.now.nodes.now) c.args.at c.in-Not.part c.get.result.now c.get.ensures.tree
    c.get.ensures.parts (subst (λ n. Among c.in-Not.part (parts true n)) (sym c.in-Not.is) (inl refl)) in
    let less = low.less in
    omega (arith, less, c.requires)

pub returns-in-Some : goal.returns-in-Some
returns-in-Some c = idle-Not (trees c.args.formulas.now.nodes.now) c.args.at c.get.result.now c.get.ensures.tree
    (plain_problem c.args.formulas.now.here.now.task.now.problem) c.args.formulas.now.here.now.world.now
    (assignment_in c.args.env.now) c.in-Not.part c.in-Some.truth c.in-Not.is c.in-Some.ensures
