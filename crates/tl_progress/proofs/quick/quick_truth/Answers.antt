use Rattle.std.proofs.Common.{◌≡◌, IfSome, sym, subst}
use Rattle.tl_eval.specs.Frames.{assignment_in}
use Rattle.tl_nodes.specs.Numbers.{trees}
use Rattle.tl_syntax.specs.Trees.{FormulaTree}
use Rattle.tl_terms.specs.ProblemMeaning.{plain_problem}
use Rattle.tl_progress.specs.Answers.{idly_true}
use Rattle.tl_progress.proofs.PutLayers.{below-And, below-Or}
use Rattle.tl_progress.proofs.TruthLayers.{shown-And, shown-Or}
use Rattle.tl_progress.proofs.quick.quick_truth.Goals as goal

pub plain_join-requires-clause-below : goal.plain_join-requires-clause-below
plain_join-requires-clause-below c = below-And (trees c.args.formulas.now.nodes.now) c.args.at c.get.result.now c.get.ensures.parts
    c.in-And.parts c.in-And.is

pub returns-in-And : goal.returns-in-And
returns-in-And c =
    subst (λ (f : FormulaTree). IfSome c.plain_join.result (λ b. b ≡ idly_true
    (plain_problem c.args.formulas.now.here.now.task.now.problem) c.args.formulas.now.here.now.world.now
    (assignment_in c.args.env.now) f)) (sym (shown-And (trees c.args.formulas.now.nodes.now) c.args.at c.get.result.now
    c.get.ensures.tree c.in-And.parts c.in-And.is)) c.plain_join.ensures

pub plain_join-requires-in-Or-clause-below : goal.plain_join-requires-in-Or-clause-below
plain_join-requires-in-Or-clause-below c = below-Or (trees c.args.formulas.now.nodes.now) c.args.at c.get.result.now c.get.ensures.parts
    c.in-Or.parts c.in-Or.is

pub returns-in-Or : goal.returns-in-Or
returns-in-Or c =
    subst (λ (f : FormulaTree). IfSome c.plain_join-in-Or.result (λ b. b ≡
    idly_true (plain_problem c.args.formulas.now.here.now.task.now.problem) c.args.formulas.now.here.now.world.now
    (assignment_in c.args.env.now) f)) (sym (shown-Or (trees c.args.formulas.now.nodes.now) c.args.at c.get.result.now
    c.get.ensures.tree c.in-Or.parts c.in-Or.is)) c.plain_join-in-Or.ensures
