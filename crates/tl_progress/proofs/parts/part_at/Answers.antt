use Rattle.std.proofs.Common.{length, ◌<◌, List, subst, arith}
use Rattle.tl_nodes.specs.Numbers.{trees}
use Rattle.tl_syntax.specs.Trees.{FormulaTree}
use Rattle.tl_progress.proofs.JoinParts.{parts-And, parts-Or, no-parts, position-in, part-smaller, part-tree}
use Rattle.tl_progress.proofs.PutLayers.{below-And, below-Or}
use Rattle.tl_progress.proofs.parts.part_at.Goals as goal

pub part_of-requires : goal.part_of-requires
part_of-requires c = position-in (trees c.args.nodes.now) _ c.in-And.parts c.args.i
    (parts-And (trees c.args.nodes.now) c.args.at c.get.result.now c.get.ensures.tree c.in-And.parts c.in-And.is) c.requires.i

pub part_of-requires-in-Or : goal.part_of-requires-in-Or
part_of-requires-in-Or c = position-in (trees c.args.nodes.now) _ c.in-Or.parts c.args.i
    (parts-Or (trees c.args.nodes.now) c.args.at c.get.result.now c.get.ensures.tree c.in-Or.parts c.in-Or.is) c.requires.i

pub returns-in-And-clause-smaller : goal.returns-in-And-clause-smaller
returns-in-And-clause-smaller c = part-smaller c.args.at c.in-And.parts c.args.i c.part_of.result
    (below-And (trees c.args.nodes.now) c.args.at c.get.result.now c.get.ensures.parts c.in-And.parts c.in-And.is) c.part_of.ensures

pub returns-in-And-clause-tree : goal.returns-in-And-clause-tree
returns-in-And-clause-tree c = part-tree (trees c.args.nodes.now) _ c.in-And.parts c.args.i c.part_of.result
    (parts-And (trees c.args.nodes.now) c.args.at c.get.result.now c.get.ensures.tree c.in-And.parts c.in-And.is) c.part_of.ensures

pub returns-in-Or-clause-smaller : goal.returns-in-Or-clause-smaller
returns-in-Or-clause-smaller c = part-smaller c.args.at c.in-Or.parts c.args.i c.part_of-in-Or.result
    (below-Or (trees c.args.nodes.now) c.args.at c.get.result.now c.get.ensures.parts c.in-Or.parts c.in-Or.is) c.part_of-in-Or.ensures

pub returns-in-Or-clause-tree : goal.returns-in-Or-clause-tree
returns-in-Or-clause-tree c = part-tree (trees c.args.nodes.now) _ c.in-Or.parts c.args.i c.part_of-in-Or.result
    (parts-Or (trees c.args.nodes.now) c.args.at c.get.result.now c.get.ensures.tree c.in-Or.parts c.in-Or.is) c.part_of-in-Or.ensures

pub returns-in_default : goal.returns-in_default
returns-in_default c =
    let none = no-parts (trees c.args.nodes.now) c.args.at c.get.result.now c.get.ensures.tree c.get.ensures.parts c.in_default.not-And
    c.in_default.not-Or in
    let inside : c.args.i < 0 = subst (λ (fs : List FormulaTree). c.args.i < length fs) none c.requires.i in
    absurd (omega arith)
