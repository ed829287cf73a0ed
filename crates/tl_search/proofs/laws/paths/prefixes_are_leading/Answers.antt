use Rattle.tl_search.proofs.PathLaws.{prefix-leading}
use Rattle.tl_search.proofs.laws.paths.prefixes_are_leading.Goals as goal

pub returns : goal.returns
returns c = prefix-leading
