use Rattle.tl_terms.proofs.QuietLaws.{looks-at-nothing}
use Rattle.tl_terms.proofs.laws.calm.no_arithmetic_looks_at_nothing.Goals as goal

pub returns : goal.returns
returns c = looks-at-nothing
