-- Searches that meet no operation past range.
use Rattle.std.specs.Prelude.{◌≡◌, ◌≤◌, ◌<◌, ◌⊎◌, ℕ, List, [], ◌∷◌, ◌++◌, length, Some, IsSome}
use Rattle.tl_syntax.specs.declared.action.Action.{Action}
use Rattle.tl_syntax.specs.Lists.{Each}
use Rattle.tl_terms.specs.Problem.{PlainProblem}
use Rattle.tl_terms.specs.World.{World}
use Rattle.tl_terms.specs.Acceptance.{states, last_of, all_but_last}
use Rattle.tl_terms.specs.Pairs.{residual, IsOpen}
use Rattle.tl_terms.specs.Operations.{Operation, IsPastRange}
use Rattle.tl_terms.specs.Looked.{looked_by_progressing, looked_by_idling, looked_by_action}

-- none of the operations is past range
abbrev pub NonePastRange : List Operation → Type 0
NonePastRange os = Each (λ o. IsPastRange o → ⊥) os

-- a path of at most n actions that is empty, or open without its last action
pub record IsReached (p : PlainProblem) (n : ℕ) (path : List Action) : Type 0 where
  pub executes : IsSome (states p path)
  pub short : length path ≤ n
  pub begins : (path ≡ []) ⊎ ((front : List Action) × (a : Action) × (path ≡ front ++ a ∷ []) × IsOpen p front)

-- nothing past range is looked at after a path with these states: by progressing what comes in,
-- and, where the path is open, by the idling check of its residual and, where it is shorter than n,
-- by an action
pub record IsCalmAfter (p : PlainProblem) (n : ℕ) (path : List Action) (from : World) (after : List World) : Type 0 where
  pub progressing : NonePastRange (looked_by_progressing p (last_of from after) (residual p (all_but_last from after) p.control))
  pub idling : IsOpen p path → NonePastRange (looked_by_idling p (last_of from after) (residual p (from ∷ after) p.control))
  pub acting : IsOpen p path → length path < n → (a : Action) → NonePastRange (looked_by_action p (last_of from after) a)

-- nothing past range is looked at after any reached path
abbrev pub IsCalm : PlainProblem → ℕ → Type 0
IsCalm p n = (path : List Action) (from : World) (after : List World) → IsReached p n path → states p path ≡ Some (from ∷ after) →
    IsCalmAfter p n path from after
