-- What the first words of atoms name.
use Rattle.std.specs.Prelude.{ℕ, List, Option, Some, None, unwrap_or}
use Rattle.tl_formulas.specs.declared.atoms.AtomName.{AtomName}
use Rattle.tl_formulas.specs.declared.atoms.AtomName.TheVariants.{Predicate, Definition}
use Rattle.tl_formulas.specs.declared.signature.NameSignature.{NameSignature}
use Rattle.tl_formulas.specs.Signatures.{place_of}

-- a declared predicate at a place, or else a defined one
abbrev pub atom_name_at : Option ℕ → Option ℕ → AtomName
atom_name_at (Some p) definition = Predicate p
atom_name_at None definition = Definition (unwrap_or definition 0)

-- what an atom of this name names
abbrev pub atom_name : NameSignature → List ℕ → AtomName
atom_name g text = atom_name_at (place_of g.predicates text) (place_of g.definitions text)
