use Rattle.tl_label.specs.Terms.{fact_text}
use Rattle.tl_label.proofs.Parentheses.{under_goal_not}
use Rattle.tl_label.proofs.bounds.put_goal_not.Goals as goal

pub returns : goal.returns
returns c = let w = under_goal_not c.args.line.now (fact_text c.args.problem.now.names c.args.problem.now.domain c.args.pred
    c.args.args.now) in rw (w, ← c.in_ok-put.ensures, ← c.in_ok-put_fact.ensures) c.put-2.ensures
