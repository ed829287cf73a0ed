use Rattle.tl_cert.proofs.ProofReadBack.{proof-read-back}
use Rattle.tl_cert.proofs.laws.proofs_are_read_back.Goals as goal

pub returns : goal.returns
returns c = proof-read-back
