use Rattle.std.proofs.Common.{sym}
use Rattle.tl_rules.proofs.Composed.{count-trees}
use Rattle.tl_rules.specs.Calls.{call_tree}
use Rattle.tl_problem.proofs.CalledNames.{called-reads}
use Rattle.tl_problem.proofs.declarations.called.Goals as goal

pub returns : goal.returns
returns c =
    let call = c.args.call in
    called-reads c.args.names.now c.args.declared.now (call_tree call) _ _ c.position_with.result c.number_of-name.ensures
    (sym (count-trees call.rest.now)) c.position_with.ensures
