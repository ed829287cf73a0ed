use Rattle.std.proofs.Common.{length, List, sym, ap, ◌∙◌}
use Rattle.tl_nodes.specs.Numbers.{trees}
use Rattle.tl_syntax.specs.Trees.{FormulaTree}
use Rattle.tl_progress.proofs.JoinParts.{parts-And, parts-Or, no-parts, length-trees}
use Rattle.tl_progress.proofs.parts.part_count.Goals as goal

pub returns-in-And : goal.returns-in-And
returns-in-And c = c.len.ensures ∙ sym (ap (λ (fs : List FormulaTree). length fs)
    (parts-And (trees c.args.nodes.now) c.args.at c.get.result.now c.get.ensures.tree c.in-And.parts c.in-And.is) ∙
    length-trees (trees c.args.nodes.now) c.in-And.parts)

pub returns-in-Or : goal.returns-in-Or
returns-in-Or c = c.len-in-Or.ensures ∙ sym (ap (λ (fs : List FormulaTree). length fs)
    (parts-Or (trees c.args.nodes.now) c.args.at c.get.result.now c.get.ensures.tree c.in-Or.parts c.in-Or.is) ∙
    length-trees (trees c.args.nodes.now) c.in-Or.parts)

pub returns-in_default : goal.returns-in_default
returns-in_default c = sym (ap (λ (fs : List FormulaTree). length fs) (no-parts
    (trees c.args.nodes.now) c.args.at c.get.result.now c.get.ensures.tree c.get.ensures.parts c.in_default.not-And c.in_default.not-Or))
