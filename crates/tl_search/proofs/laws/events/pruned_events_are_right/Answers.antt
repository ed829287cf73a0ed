use Rattle.std.proofs.Common.{[]}
use Rattle.tl_search.proofs.EventLaws.{events-prune-rightly}
use Rattle.tl_search.proofs.laws.events.pruned_events_are_right.Goals as goal

pub returns : goal.returns
returns c = λ p events kept t. events-prune-rightly p [] events kept t
