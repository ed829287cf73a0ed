use Rattle.std.proofs.Common.{false, refl}
use Rattle.tl_check.proofs.GatheredLaws.{span-added}
use Rattle.tl_check.specs.declared.line.Change.{Change}
use Rattle.tl_check.proofs.line.add_span.Goals as goal

pub returns : goal.returns
returns c =
    let end : Change = record { at = c.args.span.to; truth = false } in
    span-added c.args.span c.args.line.now.items c.begin.new.line.items c.push.new.self.items end c.requires refl refl c.in_ok-begin.ensures
    c.in_ok-push.ensures.items
