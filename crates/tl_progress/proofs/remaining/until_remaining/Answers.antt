use Rattle.std.proofs.Common.{IfOk, subst, List}
use Rattle.tl_nodes.specs.Joins.{simplified_join}
use Rattle.tl_nodes.specs.Numbers.{trees, Denotes}
use Rattle.tl_syntax.specs.declared.junction.Junction.TheVariants.{Any}
use Rattle.tl_syntax.specs.Trees.{FormulaTree}
use Rattle.tl_progress.proofs.Gathering.{two-below, two-trees}
use Rattle.tl_progress.proofs.remaining.until_remaining.Goals as goal

pub join-requires : goal.join-requires
join-requires c = two-below (trees c.args.nodes.now) (trees c.with_remaining.new.nodes) c.in_ok-both.ensures.kept c.args.answers.second
    c.in_ok-both.both c.requires.second _ c.in_ok-both.ensures.number

pub returns-clause-kept : goal.returns-clause-kept
returns-clause-kept c = λ i f h. c.join.ensures.kept i f (c.in_ok-both.ensures.kept i f h)

pub returns-clause-number : goal.returns-clause-number
returns-clause-number c =
    subst (λ (fs : List FormulaTree). IfOk c.join.result (λ i. Denotes c.join.new.nodes i (simplified_join Any fs)))
    (two-trees (trees c.args.nodes.now) (trees c.with_remaining.new.nodes) c.in_ok-both.ensures.kept c.args.answers.second c.in_ok-both.both
    c.requires.second _ c.in_ok-both.ensures.number) c.join.ensures.number
