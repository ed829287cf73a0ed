use Rattle.tl_check.proofs.TrackLaws.{among-added, among-last}
use Rattle.tl_check.proofs.tracks.Tracks.take_line.Goals as goal

pub returns-in_ok-push-in-None-clause-seen : goal.returns-in_ok-push-in-None-clause-seen
returns-in_ok-push-in-None-clause-seen c = among-last c.args.fact.now c.in_ok-copy-in-None.copy c.args.self.now.seen.items
    c.push.new.self.items c.in_ok-push-in-None.ensures.items c.in_ok-copy-in-None.ensures.same

pub returns-in_ok-push-in-None-clause-stay : goal.returns-in_ok-push-in-None-clause-stay
returns-in_ok-push-in-None-clause-stay c = λ g m. among-added g c.in_ok-copy-in-None.copy c.args.self.now.seen.items c.push.new.self.items
    c.in_ok-push-in-None.ensures.items m
