use Rattle.tl_explain.proofs.Beginning.{awaits-first}
use Rattle.tl_explain.proofs.explanation.Explanation.start.Goals as goal

pub returns : goal.returns
returns c = awaits-first c.args.task.now _ c.in_ok-world.ensures c.in_ok-label.ensures.number c.new-text.ensures
