use Rattle.tl_domain.proofs.KeepsFiles.{domain-is-kept}
use Rattle.tl_domain.proofs.laws.domain_is_kept.Goals as goal

pub returns : goal.returns
returns c = domain-is-kept
