use Rattle.std.proofs.Common.{sym, subst, ap, ◌∙◌}
use Rattle.std.proofs.lemmas.Option.{slice_get_within}
use Rattle.tl_nodes.specs.NodeTrees.{tree_of_node}
use Rattle.tl_nodes.specs.Numbers.{trees}
use Rattle.tl_nodes.proofs.FormulaLayers.{fits-Always, fits-Not}
use Rattle.tl_nodes.proofs.TreesOfNodes.{at-is, at-there}
use Rattle.tl_syntax.specs.Named.{IsNamed}
use Rattle.tl_syntax.specs.Trees.{negation}
use Rattle.tl_task_cases.proofs.labels.not_always.Goals as goal

pub intern-requires : goal.intern-requires
intern-requires c = fits-Always (trees c.args.nodes.now) c.args.id _ (at-there (trees c.args.nodes.now) c.args.id c.requires)

pub intern-requires-2 : goal.intern-requires-2
intern-requires-2 c = fits-Not (trees c.intern.new.self) c.in_ok-always.always _ c.in_ok-always.ensures.number

pub returns-clause-number : goal.returns-clause-number
returns-clause-number c = slice_get_within (trees c.intern-2.new.self) c.in_ok-number.number _ c.in_ok-number.ensures.number

pub returns-clause-named : goal.returns-clause-named
unfolding tree_of_node IsNamed
returns-clause-named c = λ n h.
    subst (IsNamed n) (sym (at-is (trees c.intern-2.new.self) c.in_ok-number.number _ c.in_ok-number.ensures.number ∙
    ap negation (at-is (trees c.intern.new.self) c.in_ok-always.always _ c.in_ok-always.ensures.number))) h
