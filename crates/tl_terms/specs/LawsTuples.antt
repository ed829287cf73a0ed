-- The tuples of a bound.
use Rattle.std.specs.Prelude.{◌≡◌, ◌↔◌, List, length, IsTrue}
use Rattle.std.specs.Cmp.Lexicographic.{slice_cmp}
use Rattle.tl_syntax.specs.declared.value.Value.{Value}
use Rattle.tl_syntax.specs.declared.variable.Var.{Var}
use Rattle.tl_syntax.specs.declared.bound.Bound.{Bound}
use Rattle.tl_syntax.specs.Lists.{Among, Rises}
use Rattle.tl_syntax.specs.Keys.{value_cmp}
use Rattle.tl_terms.specs.Situation.{Situation}
use Rattle.tl_syntax.specs.Assignment.{Assignment, bind}
use Rattle.tl_terms.specs.Bounds.{bound_true, tuples}
use Rattle.tl_syntax.specs.BoundVariables.{OccurIn, DifferInSlot}

-- the tuples of a bound in which the variables stand are those that make it true, of any values
abbrev pub TuplesAreThoseOfTheBound : Type 0
TuplesAreThoseOfTheBound = (s : Situation) (e : Assignment) (ss : List Var) (b : Bound) → DifferInSlot ss → OccurIn ss b →
    (t : List Value) → Among t (tuples s e ss b) ↔ ((length t ≡ length ss) × IsTrue (bound_true s (bind ss t e) b))

-- they rise in lexicographic value order, so each comes once
abbrev pub TuplesRise : Type 0
TuplesRise = (s : Situation) (e : Assignment) (ss : List Var) (b : Bound) → Rises (slice_cmp value_cmp) (tuples s e ss b)
