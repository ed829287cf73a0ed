use Rattle.std.proofs.Common.{rules}
use Rattle.tl_text.proofs.traces.seen_from.Goals as goal

pub returns : goal.returns
returns c = search rules
