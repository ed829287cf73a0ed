use Rattle.tl_cert.proofs.MeanProofs.{proof-mean}
use Rattle.tl_cert.proofs.laws.proofs_mean.Goals as goal

pub returns : goal.returns
returns c = proof-mean
