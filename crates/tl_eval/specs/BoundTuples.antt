-- The tuples of a bound in a world, as whoever goes over them sees them.
use Rattle.std.specs.Prelude.{◌≡◌, List, length, Option, IfSome}
use Rattle.tl_syntax.specs.declared.bound.Bound.{Bound}
use Rattle.tl_syntax.specs.declared.value.Value.{Value}
use Rattle.tl_syntax.specs.declared.variable.Var.{Var}
use Rattle.tl_syntax.specs.Assignment.{Assignment}
use Rattle.tl_eval.specs.Binders.{IsNextTuple}
use Rattle.tl_eval.specs.PatternOf.{IsPatternOf, world_read}
use Rattle.tl_terms.specs.Situation.{Situation}
use Rattle.tl_match.specs.declared.pattern.Pattern.{Pattern}
use Rattle.tl_world.specs.MatchReading.{Reading}

-- they are the tuples that make the bound true in the situation, where all other variables have
-- their values in e
pub record ReadsBound (s : Situation) (ss : List Var) (e : Assignment) (b : Bound) (r : Reading) : Type 0 where
  pub stands : IsPatternOf ss e b r.pattern
  pub world : r.world ≡ world_read s b
  pub size : IfSome r.tuple (λ t. length t ≡ length ss)

-- of whatever variables and values the pattern is that of the bound, they are the tuples
abbrev pub ReadsWhatStands : Situation → Bound → Option Pattern → Reading → Type 0
ReadsWhatStands s b p r = (ss : List Var) (e : Assignment) → IsPatternOf ss e b p → ReadsBound s ss e b r

-- the new reading has come to the tuple after that of the old
abbrev pub ComesToNext : Reading → Reading → Type 0
ComesToNext old new = (s : Situation) (b : Bound) (ss : List Var) (e : Assignment) → ReadsBound s ss e b old →
    IsNextTuple s ss e b old.tuple new.tuple

-- the new reading is of what the old one is of
abbrev pub ReadsSameBound : Reading → Reading → Type 0
ReadsSameBound old new = (s : Situation) (b : Bound) (ss : List Var) (e : Assignment) → ReadsBound s ss e b old → ReadsBound s ss e b new

-- of whatever variables the tuples are, there are as many as of these values
abbrev pub HasOneForEach : Reading → List Value → Type 0
HasOneForEach r values = (s : Situation) (ss : List Var) (e : Assignment) (b : Bound) → ReadsBound s ss e b r → length values ≡ length ss
