use Rattle.tl_terms.proofs.IdleLaws.{idle-words}
use Rattle.tl_terms.proofs.laws.idling.idle_words_mean_their_formula.Goals as goal

pub returns : goal.returns
returns c = idle-words
