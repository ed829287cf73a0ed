-- The world that changes make.
use Rattle.std.specs.Prelude.{◌≡◌, ℕ, map, Option, Some, None}
use Rattle.tl_action.specs.declared.changes.Changes.{Changes}
use Rattle.tl_action.specs.Actions.{StaysNamed}
use Rattle.tl_syntax.specs.declared.action.Action.{Action}
use Rattle.tl_syntax.specs.Keys.{fact_key, place_entry}
use Rattle.tl_terms.specs.Problem.{PlainProblem}
use Rattle.tl_terms.specs.Step.{step, with_all, without_all, overwritten}
use Rattle.tl_terms.specs.World.{World}

-- the world without the deleted facts, with the added ones, and with the values of the places that
-- are set
unfoldable pub world_after : World → Changes → World
world_after w c = record {
  facts = with_all (without_all w.facts (map fact_key c.dels)) (map fact_key c.adds);
  places = overwritten w.places (map place_entry c.sets);
}

-- the world is the one after the action
abbrev pub IsWorldAfter : PlainProblem → World → Action → World → Type 0
IsWorldAfter p w a next = Some next ≡ step p w a

-- the changes make the world after the action
abbrev pub MakeWorldAfter : PlainProblem → World → Action → Changes → Type 0
MakeWorldAfter p w a c = Some (world_after w c) ≡ step p w a

-- so they do; none exactly where the action has no step
abbrev pub AreChangesOf : PlainProblem → World → Action → Option Changes → Type 0
AreChangesOf p w a (Some c) = MakeWorldAfter p w a c
AreChangesOf p w a None = step p w a ≡ None

-- where a world and the arguments of an action are named, so is the world that the changes make
abbrev pub LeaveNamed : ℕ → World → Action → Changes → Type 0
LeaveNamed n w a c = StaysNamed n w a (world_after w c)
