-- What lawful literals keep of what a problem keeps.
use Rattle.std.specs.Prelude.{◌≡◌, ℕ, map, true, false}
use Rattle.tl_syntax.specs.Kept.{FactKeeps, PlaceKeeps}
use Rattle.tl_syntax.specs.Keys.{fact_key, place_entry, no_clash, share_key}
use Rattle.tl_syntax.specs.Lists.{Each}
use Rattle.tl_syntax.specs.Signature.{Signature}
use Rattle.tl_problem.specs.Literals.{Literals}
use Rattle.tl_problem.specs.Sections.{Sections}

-- with n names: facts and places take their values, no place has two values, and no fact is also
-- negated
pub record LiteralsKeep (g : Signature) (n : ℕ) (l : Literals) : Type 0 where
  pub facts : Each (FactKeeps g n) l.facts
  pub values : Each (PlaceKeeps g n) l.values
  pub nots : Each (FactKeeps g n) l.nots
  pub agrees : no_clash (map place_entry l.values) ≡ true
  pub consistent : share_key (map fact_key l.facts) (map fact_key l.nots) ≡ false

-- and so in both sections
pub record SectionsKeep (g : Signature) (n : ℕ) (s : Sections) : Type 0 where
  pub init : LiteralsKeep g n s.init
  pub goal : LiteralsKeep g n s.goal
