use Rattle.std.proofs.Common.{◌≡◌, map, drop}
use Rattle.tl_action.proofs.TermLists.{ValuesPassed}
use Rattle.tl_eval.specs.Frames.{assignment_in}
use Rattle.tl_syntax.specs.Signature.{signature_of}
use Rattle.tl_syntax.specs.TreeOfTerm.{tree_of_term, tree_of_terms, terms_of_list}
use Rattle.tl_action.proofs.values.values_of.Given as goal

abbrev pub invariant-loop-one : goal.invariant-loop-one
invariant-loop-one l = record {
  frame : l.env ≡ l.fn.env;
  passed : ValuesPassed (signature_of l.here.task.now.problem.domain) l.here.world.now (assignment_in l.fn.env) (tree_of_terms l.terms)
      (terms_of_list (map tree_of_term (drop l.one-index l.one-items))) l.values;
}
