use Rattle.tl_terms.proofs.DefinedLaws.{defined-once}
use Rattle.tl_terms.proofs.laws.definitions.plainly_defined_atom_is_its_body.Goals as goal

pub returns : goal.returns
returns c = defined-once
