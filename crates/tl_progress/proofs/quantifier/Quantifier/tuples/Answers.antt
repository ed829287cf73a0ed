use Rattle.std.proofs.Common.{sym, subst}
use Rattle.tl_eval.specs.BoundTuples.{ReadsBound}
use Rattle.tl_eval.specs.Frames.{assignment_in}
use Rattle.tl_eval.specs.PatternOf.{IsPatternOf}
use Rattle.tl_nodes.specs.Numbers.{trees}
use Rattle.tl_syntax.specs.declared.bound.Bound.{Bound}
use Rattle.tl_terms.specs.Definitions.{situation_of}
use Rattle.tl_terms.specs.ProblemMeaning.{plain_problem}
use Rattle.tl_progress.specs.Quantifiers.{node_vars}
use Rattle.tl_progress.proofs.quantifier.Quantifier.tuples.Goals as goal

pub returns-clause-reads : goal.returns-clause-reads
returns-clause-reads c frame stands =
    let ss = node_vars (trees c.args.nodes.now) c.args.self in
    subst (λ (b : Bound). ReadsBound (situation_of (plain_problem c.args.task.now.problem) c.args.w.now) ss
    (assignment_in frame) b c.tuples.result) c.bound.ensures
    (c.tuples.ensures.reads ss (assignment_in frame) (subst (λ (b : Bound). IsPatternOf ss (assignment_in frame) b c.args.pattern.now)
    (sym c.bound.ensures) stands))
