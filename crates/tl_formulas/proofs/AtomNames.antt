-- Atoms by what their names stand for.
use Rattle.std.proofs.Common.{◌≡◌, ℕ, List, [], ◌∷◌, Option, Some, None, unwrap_or, refl}
use Rattle.tl_syntax.specs.Trees.{TermTrees, FormulaTree, atom, defined}
use Rattle.tl_rules.specs.declared.rule.FormFault.{FormFault}
use Rattle.tl_rules.specs.declared.rule.FormFault.TheVariants.{Breaks, NoMemory}
use Rattle.tl_rules.specs.Rules.{Break}
use Rattle.tl_rules.specs.Reads.{IsFirst}
use Rattle.tl_formulas.specs.declared.atoms.AtomName.{AtomName}
use Rattle.tl_formulas.specs.declared.atoms.AtomName.TheVariants.{Predicate, Definition}
use Rattle.tl_formulas.specs.declared.signature.NameSignature.{NameSignature}
use Rattle.tl_formulas.specs.Atoms.{atom_name, atom_name_at}
use Rattle.tl_formulas.specs.MeaningOfFormulas.{atom_at, atom_meant}
use Rattle.tl_formulas.specs.Signatures.{place_of}

-- the atom of what is named
pub predicate-named : (g : NameSignature) (text : List ℕ) (ts : TermTrees) (p : ℕ) → Predicate p ≡ atom_name g text → atom p ts ≡
    atom_meant g text ts
predicate-named g text ts p = by_places (place_of g.predicates text) (place_of g.definitions text)
  where
    by_places : (predicate definition : Option ℕ) → Predicate p ≡ atom_name_at predicate definition → atom p ts ≡
        atom_at predicate definition ts
    by_places (Some q) definition e = cc
    by_places None definition e = cc

pub definition-named : (g : NameSignature) (text : List ℕ) (ts : TermTrees) (d : ℕ) → Definition d ≡ atom_name g text → defined d ts ≡
    atom_meant g text ts
definition-named g text ts d = by_places (place_of g.predicates text) (place_of g.definitions text)
  where
    by_places : (predicate definition : Option ℕ) → Definition d ≡ atom_name_at predicate definition → defined d ts ≡
        atom_at predicate definition ts
    by_places (Some q) definition e = cc
    by_places None definition e = cc

-- where nothing is broken, only memory can be wanting
pub none-first : (bs cs : List Break) (e : FormFault) → bs ≡ [] → IsFirst bs e → IsFirst cs e
none-first [] cs (Breaks broken at) none first = cc
none-first (b ∷ bs) cs (Breaks broken at) none first = cc
none-first bs cs NoMemory none first = tt

pub ruleset atom_names = (predicate-named, definition-named, none-first)
