use Rattle.tl_label.specs.Terms.{variable_text}
use Rattle.tl_label.proofs.Parentheses.{nothing}
use Rattle.tl_label.proofs.bounds.put_variables.Goals as goal

pub returns-in-None : goal.returns-in-None
returns-in-None c = rw (nothing (variable_text c.args.names.now) c.args.vars.now c.in-None.ensures.cases) c.put-in-None.ensures
