use Rattle.tl_domain.proofs.NamesInOrder.{names-are-texts}
use Rattle.tl_domain.proofs.laws.names_are_texts.Goals as goal

pub returns : goal.returns
returns c = names-are-texts
