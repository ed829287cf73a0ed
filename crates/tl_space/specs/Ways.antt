-- How pairs were met first, by the numbers of their actions.
use Rattle.std.specs.Prelude.{◌<◌, ℕ, List, [], map, length, slice_index_or}
use Rattle.tl_space.specs.declared.numbers.Met.{Met}
use Rattle.tl_space.specs.declared.numbers.Met.TheVariants as met
use Rattle.tl_space.specs.declared.way.Way.{Way}
use Rattle.tl_space.specs.declared.way.Way.TheVariants as way
use Rattle.tl_syntax.specs.declared.action.Action.{Action}

-- the action of a number that is below the length; it is named only under this condition
abbrev pub action_at : List Action → ℕ → Action
action_at actions k = slice_index_or actions k (record { op = 0; args = [] })

-- how the pair was met
abbrev pub met_by : List Action → Way → Met
met_by actions way.First = met.First
met_by actions (way.After j k) = met.After j (action_at actions k)

-- how the pairs were met
abbrev pub mets_of : List Action → List Way → List Met
mets_of actions ways = map (met_by actions) ways

-- the number of the action is given
abbrev pub IsWay : List Action → Way → Type 0
IsWay actions way.First = Unit {0}
IsWay actions (way.After j k) = k < length actions
