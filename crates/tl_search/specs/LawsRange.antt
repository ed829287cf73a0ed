-- What a search looks at after paths.
use Rattle.std.specs.Prelude.{◌≡◌, ◌≤◌, ◌<◌, ℕ, List, [], ◌∷◌, ◌++◌, length, Some}
use Rattle.tl_syntax.specs.declared.action.Action.{Action}
use Rattle.tl_syntax.specs.Lists.{Among}
use Rattle.tl_terms.specs.Problem.{PlainProblem}
use Rattle.tl_terms.specs.World.{World}
use Rattle.tl_terms.specs.Calm.{IsCalm}
use Rattle.tl_terms.specs.Operations.{Operation, IsPastRange}
use Rattle.tl_terms.specs.Looked.{looked_by_progressing, looked_by_idling, looked_by_action}
use Rattle.tl_terms.specs.Pairs.{Pair, pair_of, IsOpen}
use Rattle.tl_terms.specs.Step.{step}
use Rattle.tl_search.specs.RangeCauses.{IsRangeCause}

-- what progressing at the root, the idling check after an open path, an action there, or
-- progressing after that action looks at, is the cause of a fault
pub record LooksAreCauses (p : PlainProblem) (n : ℕ) (o : Operation) : Type 0 where
  pub at_root : Among o (looked_by_progressing p p.first p.control) → IsRangeCause p n [] o
  pub by_idling : (path : List Action) (x : Pair) → pair_of p path ≡ Some x → IsOpen p path → length path ≤ n →
      Among o (looked_by_idling p x.world x.formula) → IsRangeCause p n path o
  pub by_action : (path : List Action) (x : Pair) → pair_of p path ≡ Some x → IsOpen p path → length path < n → (a : Action) →
      Among o (looked_by_action p x.world a) → IsRangeCause p n path o
  pub after_action : (path : List Action) (x : Pair) → pair_of p path ≡ Some x → IsOpen p path → length path < n →
      (a : Action) (w : World) → step p x.world a ≡ Some w → Among o (looked_by_progressing p w x.formula) →
      IsRangeCause p n (path ++ a ∷ []) o

-- an operation past range that a search looks at is the cause of a fault
abbrev pub LookedIsCause : Type 0
LookedIsCause = (p : PlainProblem) (n : ℕ) (o : Operation) → IsPastRange o → LooksAreCauses p n o

-- a calm search meets no cause of a fault past range
abbrev pub CalmHasNoCause : Type 0
CalmHasNoCause = (p : PlainProblem) (n : ℕ) (path : List Action) (o : Operation) → IsCalm p n → IsRangeCause p n path o → ⊥

-- a search that is calm with a bound is calm with every smaller one
abbrev pub CalmWithFewerActions : Type 0
CalmWithFewerActions = (p : PlainProblem) (m n : ℕ) → m ≤ n → IsCalm p n → IsCalm p m
