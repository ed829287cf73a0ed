use Rattle.std.proofs.Common.{sym, ◌∙◌, subst}
use Rattle.std.proofs.lemmas.Iterator.Adapters.{YieldsList-from_vec}
use Rattle.std.proofs.lemmas.Iterator.Consumers.{YieldsList-end}
use Rattle.std.proofs.lemmas.List.{map-id}
use Rattle.tl_check.proofs.HistoryLaws.{each-added}
use Rattle.tl_check.proofs.TrailLaws.{each-front}
use Rattle.tl_check.specs.Histories.{IsFactHistory}
use Rattle.tl_check.specs.Trails.{IsTracked}
use Rattle.tl_syntax.specs.Lists.{Each}
use Rattle.tl_check.proofs.history.histories_of.Goals as goal

pub loop-tracked-preserved : goal.loop-tracked-preserved
loop-tracked-preserved c = λ ws h.
    let parts = each-front (IsTracked ws) c.loop-tracked.yielded c.in-Some.tracked h in
    each-added (IsFactHistory ws) c.loop-tracked.histories.items c.push.new.self.items c.in_ok-history.history c.in_ok-push.ensures.items
    (c.loop-tracked.invariant ws parts.0) (c.in_ok-history.ensures ws parts.1)

pub returns : goal.returns
returns c = λ ws h.
    let made = c.into_iter-tracked-iterator.ensures.into_iter_gives in
    let all = YieldsList-end (YieldsList-from_vec {s = c.into_iter-tracked-iterator.result} c.args.all.items made.0
    (made.1 ∙ c.args.all.ok.0)) c.loop-tracked.yielded c.loop-tracked.tracked-iterator c.loop-tracked.yielded_by c.next.result
    c.next.new.self c.in-None.is c.next.ensures.steps in
    c.loop-tracked.invariant ws (subst (Each (IsTracked ws)) (sym all.0 ∙ map-id c.loop-tracked.yielded) h)
