use Rattle.tl_search.proofs.EventLaws.{kept-by-event}
use Rattle.tl_search.proofs.laws.events.kept_pairs_have_events.Goals as goal

pub returns : goal.returns
returns c = kept-by-event
