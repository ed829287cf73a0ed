-- Terms that have the same value in every world.
use Rattle.std.specs.Prelude.{◌≡◌, List, Option, Some}
use Rattle.tl_eval.specs.Frames.{assignment_in}
use Rattle.tl_syntax.specs.declared.term.Term.{Term}
use Rattle.tl_syntax.specs.declared.term.Terms.{Terms}
use Rattle.tl_syntax.specs.declared.value.Value.{Value}
use Rattle.tl_syntax.specs.Assignment.{Assignment}
use Rattle.tl_syntax.specs.TreeOfTerm.{tree_of_term, tree_of_terms}
use Rattle.tl_syntax.specs.Trees.{TermTree}
use Rattle.tl_terms.specs.Terms.{term_value, term_values}
use Rattle.tl_terms.specs.World.{World}

-- the term has this value in every world, under the frame's values
abbrev pub HasFixedValue : List (Option Value) → Term → Value → Type 0
HasFixedValue frame t v = (w : World) → term_value w (assignment_in frame) (tree_of_term t) ≡ Some v

-- the terms have these values in every world
abbrev pub HaveFixedValues : List (Option Value) → Terms → List Value → Type 0
HaveFixedValues frame ts vs = (w : World) → term_values w (assignment_in frame) (tree_of_terms ts) ≡ Some vs

-- the term has the same value in every world, or none in any
abbrev pub IsFixed : TermTree → Type 0
IsFixed t = (e : Assignment) (v w : World) → term_value v e t ≡ term_value w e t
