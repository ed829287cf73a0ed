use Rattle.tl_terms.proofs.DefinedLaws.{defined-body}
use Rattle.tl_terms.proofs.laws.definitions.defined_atom_is_its_body.Goals as goal

pub returns : goal.returns
returns c = defined-body
