use Rattle.std.proofs.Common.{◌∙◌, sym}
use Rattle.tl_label.specs.Terms.{variable_text}
use Rattle.tl_label.proofs.Parentheses.{one-more, none-left}
use Rattle.tl_label.proofs.bounds.put_names.Goals as goal

pub loop-var-preserved : goal.loop-var-preserved
loop-var-preserved c =
    c.loop-var.invariant ∙ one-more (variable_text c.args.names.now) c.args.vars.now c.loop-var.var-index _ c.loop-var.line c.put.new.self
    c.put_name.new.line c.loop-var-test.true c.in_ok-put.ensures c.in_ok-put_name.ensures

pub returns : goal.returns
returns c = sym (c.loop-var.invariant ∙ none-left (variable_text c.args.names.now) c.args.vars.now c.loop-var.var-index c.loop-var.line
    c.loop-var-test.false)
