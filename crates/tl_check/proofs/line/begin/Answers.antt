use Rattle.std.proofs.Common.{true, refl, subst}
use Rattle.tl_check.proofs.GatheredLaws.{begun-anew, begun-on}
use Rattle.tl_check.specs.Gathered.{GoesOn}
use Rattle.tl_check.specs.declared.line.Change.{Change}
use Rattle.tl_check.proofs.line.begin.Goals as goal

pub returns-then-goes_on : goal.returns-then-goes_on
returns-then-goes_on c = begun-on c.args.at c.args.line.now.len c.args.line.now.items c.pop.new.self.items
    (subst (GoesOn c.args.at) c.as_slice.ensures.value (c.goes_on.ensures c.if-goes_on.true)) c.args.line.now.ok.0 c.pop.ensures.rest

pub returns : goal.returns
returns c =
    let new : Change = record { at = c.args.at; truth = true } in
    begun-anew c.args.at c.args.line.now.items c.push.new.self.items new refl refl c.in_ok-push.ensures.items
