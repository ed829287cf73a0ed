use Rattle.tl_search.proofs.PathLaws.{prefix-open, prefix-of-accepted}
use Rattle.tl_search.proofs.laws.paths.prefixes_are_open.Goals as goal

pub returns : goal.returns
returns c = record { of_open = prefix-open; of_accepted = prefix-of-accepted }
