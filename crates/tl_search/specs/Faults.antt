-- A search's faults, as they come of those of its space.
use Rattle.std.specs.Prelude.{◌≡◌, List, [], ◌∷◌, ◌++◌}
use Rattle.tl_syntax.specs.declared.action.Action.{Action}
use Rattle.tl_eval.specs.declared.range.RangeNote.{RangeNote}
use Rattle.tl_search.specs.declared.fault.SearchFault.{SearchFault}
use Rattle.tl_search.specs.declared.fault.SearchFault.TheVariants as fault
use Rattle.tl_search.specs.declared.fault.SpaceFault.{SpaceFault}
use Rattle.tl_search.specs.declared.fault.SpaceFault.TheVariants as space

-- the fault is that of an operation that this note tells of, at the end of this path; or want of
-- memory
abbrev pub IsFaultAfter : List Action → RangeNote → SearchFault → Type 0
IsFaultAfter path note (fault.Range other o) = (other ≡ path) × (o ≡ note)
IsFaultAfter path note fault.NoMemory = Unit {0}

-- it is want of memory
abbrev pub IsWantOfMemory : SearchFault → Type 0
IsWantOfMemory (fault.Range path note) = ⊥
IsWantOfMemory fault.NoMemory = Unit {0}

-- the space's fault is not one in the world after an action
abbrev pub IsOfPair : SpaceFault → Type 0
IsOfPair (space.RangeHere note) = Unit {0}
IsOfPair (space.RangeAfter note) = ⊥
IsOfPair space.NoMemory = Unit {0}

-- the search's fault is that of the space at the pair with this path
abbrev pub TellsPair : List Action → SpaceFault → SearchFault → Type 0
TellsPair path (space.RangeHere note) f = IsFaultAfter path note f
TellsPair path (space.RangeAfter note) f = ⊥
TellsPair path space.NoMemory f = IsWantOfMemory f

-- the search's fault is that of the space at an action of the pair with this path
abbrev pub TellsChild : List Action → Action → SpaceFault → SearchFault → Type 0
TellsChild path a (space.RangeHere note) f = IsFaultAfter path note f
TellsChild path a (space.RangeAfter note) f = IsFaultAfter (path ++ a ∷ []) note f
TellsChild path a space.NoMemory f = IsWantOfMemory f
