use Rattle.tl_domain.proofs.MeanItems.{domain-file-mean}
use Rattle.tl_domain.proofs.laws.domain_files_mean.Goals as goal

pub returns : goal.returns
returns c = domain-file-mean
