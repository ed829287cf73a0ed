-- The pattern of a bound: its known values put in, and its quantified variables by their positions.
use Rattle.std.specs.Prelude.{◌≡◌, ◌==◌, ℕ, List, [], ◌∷◌, ◌++◌, map, take, length, Bool, true, false, Option, Some, None}
use Rattle.std.specs.List.{position}
use Rattle.tl_eval.specs.Frames.{assignment_in}
use Rattle.tl_eval.specs.InPlace.{in_place}
use Rattle.tl_syntax.specs.declared.bound.Bound.{Bound}
use Rattle.tl_syntax.specs.declared.bound.Bound.TheVariants as bound
use Rattle.tl_syntax.specs.declared.value.Value.{Value}
use Rattle.tl_syntax.specs.declared.variable.Arg.{Arg}
use Rattle.tl_syntax.specs.declared.variable.Arg.TheVariants as arg
use Rattle.tl_syntax.specs.declared.variable.Var.{Var}
use Rattle.tl_syntax.specs.Assignment.{Assignment, bind}
use Rattle.tl_syntax.specs.Lists.{Among}
use Rattle.tl_terms.specs.Bounds.{bound_true}
use Rattle.tl_terms.specs.Situation.{Situation}
use Rattle.tl_terms.specs.World.{World}
use Rattle.tl_match.specs.declared.pattern.Part.{Part}
use Rattle.tl_match.specs.declared.pattern.Part.TheVariants.{Fixed, Free}
use Rattle.tl_match.specs.declared.pattern.Pattern.{Pattern}
use Rattle.tl_match.specs.Patterns.{IsLawful, makes_true, parts_of}

-- the variable at the position, where there is one, and else the known value, where there is one
abbrev pub free_or_fixed : Option ℕ → Option Value → Option Part
free_or_fixed (Some n) o = Some (Free n)
free_or_fixed None (Some v) = Some (Fixed v)
free_or_fixed None None = None

-- the part for an argument: a value, a variable of the list by its position, or the known value of
-- another variable
abbrev pub part_for : List Var → Assignment → Arg → Option Part
part_for ss e (arg.Var s) = free_or_fixed (position (λ u. s.slot == u.slot) ss) (e s.slot)
part_for ss e (arg.Val v) = Some (Fixed v)

-- the leading parts are those of the arguments, or some argument has none
abbrev pub AreParts : List Var → Assignment → List Arg → Option (List Part) → Type 0
AreParts ss e xs None = Among None (map (part_for ss e) xs)
AreParts ss e xs (Some ps) = (length ps ≡ 9) × (map (λ p. Some p) (take (length xs) ps) ≡ map (part_for ss e) xs)

-- the pattern has these parts and as many variables as the list
pub record HasParts (ss : List Var) (e : Assignment) (place : Bool) (name : ℕ) (xs : List Arg) (p : Pattern) : Type 0 where
  pub kind : p.place ≡ place
  pub named : p.name ≡ name
  pub count : p.len ≡ length xs
  pub free : p.free ≡ length ss
  pub parts : map (λ q. Some q) (parts_of p) ≡ map (part_for ss e) xs

-- the pattern is that of the arguments, or some argument has no part
abbrev pub IsPatternOfArgs : List Var → Assignment → Bool → ℕ → List Arg → Option Pattern → Type 0
IsPatternOfArgs ss e place name xs None = Among None (map (part_for ss e) xs)
IsPatternOfArgs ss e place name xs (Some p) = HasParts ss e place name xs p

-- the pattern in place, which keeps its name, is that of the fact of the arguments, where it
-- counts, or some argument has no part
abbrev pub PutsFact : List Var → List (Option Value) → List Arg → Bool → Pattern → Pattern → Type 0
PutsFact ss frame xs counts old new = IsPatternOfArgs ss (assignment_in frame) false old.name xs (in_place counts new)

-- so it is of the place of the arguments with its value
abbrev pub PutsPlace : List Var → List (Option Value) → List Arg → Arg → Bool → Pattern → Pattern → Type 0
PutsPlace ss frame xs x counts old new = IsPatternOfArgs ss (assignment_in frame) true old.name (xs ++ x ∷ []) (in_place counts new)

-- the world that a bound speaks of
abbrev pub world_read : Situation → Bound → World
world_read s (bound.Fact p xs) = s.world
world_read s (bound.Place f xs x) = s.world
world_read s (bound.GoalFact p xs) = s.goal
world_read s (bound.GoalPlace f xs x) = s.goal
world_read s (bound.GoalNot p xs) = s.avoid

-- the pattern is lawful and has as many variables, and the tuples that make it true are those that
-- make the bound true
pub record StandsForBound (ss : List Var) (e : Assignment) (b : Bound) (p : Pattern) : Type 0 where
  pub lawful : IsLawful p
  pub free : p.free ≡ length ss
  pub same : (s : Situation) (t : List Value) → length t ≡ length ss → makes_true (world_read s b) p t ≡ bound_true s (bind ss t e) b

-- the pattern stands for the bound, or no tuple makes the bound true
abbrev pub IsPatternOf : List Var → Assignment → Bound → Option Pattern → Type 0
IsPatternOf ss e b None = (s : Situation) (t : List Value) → length t ≡ length ss → bound_true s (bind ss t e) b ≡ false
IsPatternOf ss e b (Some p) = StandsForBound ss e b p
