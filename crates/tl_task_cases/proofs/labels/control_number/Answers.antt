use Rattle.std.proofs.Common.{sym, subst, length}
use Rattle.std.proofs.lemmas.Option.{slice_get_within}
use Rattle.tl_nodes.specs.Numbers.{trees}
use Rattle.tl_nodes.proofs.TreesOfNodes.{at-is}
use Rattle.tl_syntax.specs.Named.{IsNamed}
use Rattle.tl_task_cases.proofs.labels.control_number.Goals as goal

pub returns-clause-number : goal.returns-clause-number
returns-clause-number c = slice_get_within (trees c.of_tree.new.self) c.in_ok-number.number _ c.in_ok-number.ensures.number

pub returns-clause-named : goal.returns-clause-named
returns-clause-named c =
    subst (IsNamed (length c.args.problem.now.names)) (sym (at-is (trees c.of_tree.new.self) c.in_ok-number.number _
    c.in_ok-number.ensures.number)) c.args.problem.now.domain_keeps.control_named
