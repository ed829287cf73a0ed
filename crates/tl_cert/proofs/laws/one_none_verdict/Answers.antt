use Rattle.tl_cert.proofs.OneVerdict.{one-verdict}
use Rattle.tl_cert.proofs.laws.one_none_verdict.Goals as goal

pub returns : goal.returns
returns c = λ p proof. one-verdict p proof
