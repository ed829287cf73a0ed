use Rattle.tl_gen.specs.Samples.{domain_text}
use Rattle.std.proofs.Common.{rules}
use Rattle.tl_gen.proofs.domain.domain_text.Goals as goal

pub returns-clause-text : goal.returns-clause-text
unfolding domain_text
returns-clause-text c = search rules
