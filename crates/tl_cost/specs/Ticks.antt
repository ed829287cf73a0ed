-- The steps that a search for a cheapest plan counts.
use Rattle.std.specs.Prelude.{◌≡◌, ℕ, ◌+◌, false, List, [], ◌∷◌, length, slice_get, Some}
use Rattle.tl_syntax.specs.declared.action.Action.{Action}
use Rattle.tl_syntax.specs.Lists.{Among, Rises}
use Rattle.tl_terms.specs.Orders.{action_cmp}
use Rattle.tl_terms.specs.Problem.{PlainProblem}
use Rattle.tl_search.specs.Calls.{IsExecutableAt}
use Rattle.tl_search.specs.KeptPairs.{KeptPair}
use Rattle.tl_cost.specs.Ways.{entry_of, is_listed}
use Rattle.tl_cost.specs.declared.ways.Found.{Found}
use Rattle.tl_cost.specs.declared.ways.Way.{Way}

-- a kept pair by its number, and actions of it
pub record Turn : Type 0 where
  pub number : ℕ
  pub actions : List Action

-- different executable actions of a kept pair
pub record IsTurn (p : PlainProblem) (kept : List KeptPair) (t : Turn) : Type 0 where
  pub pair : KeptPair
  pub is_pair : slice_get kept t.number ≡ Some pair
  pub rises : Rises action_cmp t.actions
  pub executable : (a : Action) → Among a t.actions → IsExecutableAt p kept t.number a

-- how many actions the turns have together
abbrev pub total : List Turn → ℕ
total [] = 0
total (t ∷ ts) = length t.actions + total ts

-- turns of different kept pairs
pub record AreTurns (p : PlainProblem) (kept : List KeptPair) (turns : List Turn) : Type 0 where
  pub differ : (i j : ℕ) (s t : Turn) → slice_get turns i ≡ Some s → slice_get turns j ≡ Some t → s.number ≡ t.number → i ≡ j
  pub right : (i : ℕ) (t : Turn) → slice_get turns i ≡ Some t → IsTurn p kept t

-- the steps are at most as many as the kept pairs have executable actions in all: one for each
-- action in some turns, at most one of each pair
pub record IsTickedByTurns (p : PlainProblem) (from : ℕ) (kept : List KeptPair) (steps : ℕ) : Type 0 where
  pub turns : List Turn
  pub are : AreTurns p kept turns
  pub ticks : steps ≡ from + total turns

-- the steps of one turn
pub record TicksTurn (p : PlainProblem) (kept : List KeptPair) (at steps more : ℕ) : Type 0 where
  pub actions : List Action
  pub turn : IsTurn p kept (record { number = at; actions = actions })
  pub ticks : more ≡ steps + length actions

-- the pair of the number is settled
pub record IsPairSettled (found : Found) (k : ℕ) : Type 0 where
  pub way : Way
  pub its_way : slice_get found.ways.items k ≡ Some way
  pub settled : is_listed found.open_list (entry_of way k) ≡ false

-- the steps so far, all of turns of settled pairs
pub record IsCounted (p : PlainProblem) (from : ℕ) (kept : List KeptPair) (found : Found) (steps : ℕ) : Type 0 where
  pub turns : List Turn
  pub are : AreTurns p kept turns
  pub ticks : steps ≡ from + total turns
  pub settled : (i : ℕ) (t : Turn) → slice_get turns i ≡ Some t → IsPairSettled found t.number

-- the kept pairs stay, under their numbers
abbrev pub Extends : List KeptPair → List KeptPair → Type 0
Extends old new = (i : ℕ) (x : KeptPair) → slice_get old i ≡ Some x → slice_get new i ≡ Some x

-- settled pairs stay so
abbrev pub StaySettled : Found → Found → Type 0
StaySettled old new = (k : ℕ) → IsPairSettled old k → IsPairSettled new k

-- where the steps so far are counted, so are those of the whole search
abbrev pub TicksRest : PlainProblem → List KeptPair → List KeptPair → Found → ℕ → ℕ → Type 0
TicksRest p old new found steps more = (from : ℕ) → IsCounted p from old found steps → IsTickedByTurns p from new more
