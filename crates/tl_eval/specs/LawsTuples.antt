-- Going over the tuples of a bound, each got from the one before.
use Rattle.std.specs.Prelude.{◌≡◌, ◌↔◌, List, [], ◌∷◌, ◌++◌, length, Option, Some, None}
use Rattle.tl_syntax.specs.declared.bound.Bound.{Bound}
use Rattle.tl_syntax.specs.declared.value.Value.{Value}
use Rattle.tl_syntax.specs.declared.variable.Var.{Var}
use Rattle.tl_syntax.specs.Assignment.{Assignment, bind}
use Rattle.tl_syntax.specs.BoundVariables.{OccurIn, DifferInSlot}
use Rattle.tl_terms.specs.Bounds.{bound_true, tuples}
use Rattle.tl_terms.specs.Situation.{Situation}
use Rattle.tl_match.specs.Next.{IsNext, IsChain}

-- the last of the list, or none where the list is empty
abbrev pub IsLast : List (List Value) → Option (List Value) → Type 0
IsLast done None = done ≡ []
IsLast done (Some a) = (before : List (List Value)) × (done ≡ before ++ a ∷ [])

-- the first of the list, or none where the list is empty
abbrev pub IsFirstTuple : List (List Value) → Option (List Value) → Type 0
IsFirstTuple rest None = rest ≡ []
IsFirstTuple rest (Some t) = (more : List (List Value)) × (rest ≡ t ∷ more)

-- the tuples of a bound in which the variables stand are a chain of next tuples, and the only one:
-- from the first on, each got from the one before, and with an end
abbrev pub TuplesAreTheChain : Type 0
TuplesAreTheChain = (s : Situation) (e : Assignment) (ss : List Var) (b : Bound) → DifferInSlot ss → OccurIn ss b →
    (ts : List (List Value)) → IsChain (length ss) (λ t. bound_true s (bind ss t e) b) None ts ↔ (ts ≡ tuples s e ss b)

-- the next tuple after those that are done is the first of the rest, and there is none where there
-- is no rest
abbrev pub NextIsFirstOfTheRest : Type 0
NextIsFirstOfTheRest = (s : Situation) (e : Assignment) (ss : List Var) (b : Bound) → DifferInSlot ss → OccurIn ss b →
    (done rest : List (List Value)) (after next : Option (List Value)) → tuples s e ss b ≡ done ++ rest → IsLast done after
    → IsNext (length ss) (λ t. bound_true s (bind ss t e) b) after next → IsFirstTuple rest next
