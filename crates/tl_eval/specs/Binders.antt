-- The next tuple of variables and their bound, in a world of a task and under the values of a
-- frame.
use Rattle.std.specs.Option.{option_map}
use Rattle.std.specs.Prelude.{List, Option, length}
use Rattle.tl_eval.specs.Frames.{assignment_in}
use Rattle.tl_eval.specs.Reading.{situation_in}
use Rattle.tl_syntax.specs.declared.bound.Bound.{Bound}
use Rattle.tl_syntax.specs.declared.value.Value.{Value}
use Rattle.tl_syntax.specs.declared.variable.Var.{Var}
use Rattle.tl_syntax.specs.Assignment.{Assignment, bind}
use Rattle.tl_terms.specs.Bounds.{bound_true}
use Rattle.tl_terms.specs.Situation.{Situation}
use Rattle.tl_terms.specs.World.{World}
use Rattle.tl_match.specs.declared.pattern.Match.{Match}
use Rattle.tl_match.specs.Next.{IsNext}
use Rattle.tl_match.specs.Patterns.{tuple_of}
use Rattle.tl_world.specs.declared.task.Task.{Task}

-- of the tuples that make the bound true, it is the least one that comes after the first, where
-- that is given
abbrev pub IsNextTuple : Situation → List Var → Assignment → Bound → Option (List Value) → Option (List Value) → Type 0
IsNextTuple s ss e b after next = IsNext (length ss) (λ t. bound_true s (bind ss t e) b) after next

-- the same of matches
abbrev pub IsNextMatch : Situation → List Var → Assignment → Bound → Option Match → Option Match → Type 0
IsNextMatch s ss e b after next = IsNextTuple s ss e b (option_map tuple_of after) (option_map tuple_of next)

-- of the tuples for the variables that make the bound true, it is the least one that comes after
-- the first, where that is given
abbrev pub IsNextIn : Task → World → List (Option Value) → List Var → Bound → Option Match → Option Match → Type 0
IsNextIn task w frame vars b after next = IsNextMatch (situation_in task w) vars (assignment_in frame) b after next
