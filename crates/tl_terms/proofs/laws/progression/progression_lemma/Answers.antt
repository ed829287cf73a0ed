use Rattle.tl_terms.proofs.RunLaws.{progression-Satisfies}
use Rattle.tl_terms.proofs.laws.progression.progression_lemma.Goals as goal

pub returns : goal.returns
returns c = progression-Satisfies
