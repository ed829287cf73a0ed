use Rattle.tl_domain.proofs.WritableNames.{lawful-names-writable}
use Rattle.tl_domain.proofs.laws.lawful_names_are_writable.Goals as goal

pub returns : goal.returns
returns c = lawful-names-writable
