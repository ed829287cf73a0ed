use Rattle.tl_search.proofs.HistoryLaws.{events-begin}
use Rattle.tl_search.proofs.laws.events.events_begin_at_the_root.Goals as goal

pub returns : goal.returns
returns c = events-begin
