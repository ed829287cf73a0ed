use Rattle.tl_cert.proofs.Covered.{covered-has-none}
use Rattle.tl_cert.proofs.laws.covered_has_none.Goals as goal

pub returns : goal.returns
returns c = covered-has-none
