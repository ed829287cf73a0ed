-- The forms that the bytes of a file spell.
use Rattle.std.specs.Prelude.{ℕ, ◌≤◌, List, length}
use Rattle.tl_sexpr.specs.Tree.{FormTrees}
use Rattle.tl_sexpr.specs.Spelling.{Spells}

-- the bytes are not too many, and they spell these forms
pub record SpellShortly (bytes : List ℕ) (forms : FormTrees) : Type 0 where
  pub short : length bytes ≤ 4194304
  pub spelled : Spells bytes forms
