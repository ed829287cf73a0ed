use Rattle.tl_terms.proofs.RunLaws.{progression-along}
use Rattle.tl_terms.proofs.laws.progression.progression_lemma_along_a_sequence.Goals as goal

pub returns : goal.returns
returns c = progression-along
