use Rattle.std.proofs.Common.{◌∙◌, sym}
use Rattle.tl_label.specs.Terms.{arg_text}
use Rattle.tl_label.proofs.Parentheses.{one-more, none-left}
use Rattle.tl_label.proofs.bounds.put_args.Goals as goal

pub loop-arg-preserved : goal.loop-arg-preserved
loop-arg-preserved c =
    c.loop-arg.invariant ∙ one-more (arg_text c.args.names.now) c.args.args.now c.loop-arg.arg-index _ c.loop-arg.line c.put.new.self
    c.put_arg.new.line c.loop-arg-test.true c.in_ok-put.ensures c.in_ok-put_arg.ensures

pub returns : goal.returns
returns c = sym (c.loop-arg.invariant ∙ none-left (arg_text c.args.names.now) c.args.args.now c.loop-arg.arg-index c.loop-arg.line
    c.loop-arg-test.false)
