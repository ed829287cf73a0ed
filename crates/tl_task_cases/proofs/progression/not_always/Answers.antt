use Rattle.std.proofs.Common.{sym, subst, ap, ◌∙◌}
use Rattle.std.proofs.lemmas.Option.{slice_get_within}
use Rattle.tl_nodes.specs.NodeTrees.{tree_at, tree_of_node}
use Rattle.tl_nodes.specs.Numbers.{trees}
use Rattle.tl_nodes.proofs.FormulaLayers.{fits-Always, fits-Not}
use Rattle.tl_nodes.proofs.TreesOfNodes.{at-is, at-there}
use Rattle.tl_progress.specs.Sentences.{IsSentence}
use Rattle.tl_syntax.specs.Fits.{Fits}
use Rattle.tl_syntax.specs.FreeVariables.{free_slots}
use Rattle.tl_syntax.specs.Signature.{Signature}
use Rattle.tl_syntax.specs.Trees.{FormulaTree, negation, always}
use Rattle.tl_task_cases.proofs.progression.not_always.Goals as goal

around : (g : Signature) (f : FormulaTree) → IsSentence g f → IsSentence g (negation (always f))
unfolding Fits free_slots
around g f s = record { fits = s.fits; closed = s.closed }

pub intern-requires : goal.intern-requires
intern-requires c = fits-Always (trees c.args.nodes.now) c.args.id _ (at-there (trees c.args.nodes.now) c.args.id c.requires)

pub intern-requires-2 : goal.intern-requires-2
intern-requires-2 c = fits-Not (trees c.intern.new.self) c.in_ok-always.always _ c.in_ok-always.ensures.number

pub returns-clause-number : goal.returns-clause-number
returns-clause-number c = slice_get_within (trees c.intern-2.new.self) c.in_ok-number.number _ c.in_ok-number.ensures.number

pub returns-clause-sentence : goal.returns-clause-sentence
unfolding tree_of_node
returns-clause-sentence c = λ g s.
    subst (IsSentence g) (sym (at-is (trees c.intern-2.new.self) c.in_ok-number.number _ c.in_ok-number.ensures.number ∙
    ap negation (at-is (trees c.intern.new.self) c.in_ok-always.always _ c.in_ok-always.ensures.number)))
    (around g (tree_at (trees c.args.nodes.now) c.args.id) s)
