-- Branches that are pruned rightly.
use Rattle.std.specs.Prelude.{◌≡◌, ℕ, List, [], ◌∷◌, ◌++◌, slice_get, Some}
use Rattle.tl_syntax.specs.declared.action.Action.{Action}
use Rattle.tl_syntax.specs.Lists.{Among}
use Rattle.tl_syntax.specs.Trees.{falsum}
use Rattle.tl_terms.specs.Problem.{PlainProblem}
use Rattle.tl_terms.specs.World.{World}
use Rattle.tl_terms.specs.Acceptance.{states}
use Rattle.tl_terms.specs.Pairs.{pair_of, residual}
use Rattle.tl_terms.specs.Run.{Worlds, Begins, SatisfiesAlong}
use Rattle.tl_search.specs.KeptPairs.{KeptPair}
use Rattle.tl_search.specs.declared.event.Event.{Event}
use Rattle.tl_search.specs.declared.event.Event.TheVariants as event

-- the path executes, its residual is FALSE, and its worlds begin no infinite sequence of worlds on
-- which the control formula holds
pub record IsPrunedRightly (p : PlainProblem) (path : List Action) : Type 0 where
  pub worlds : List World
  pub executes : states p path ≡ Some worlds
  pub false_residual : residual p worlds p.control ≡ falsum
  pub begins_none : (s : Worlds) → Begins s 0 worlds → SatisfiesAlong p s 0 p.control → ⊥

-- each branch that an event tells to be pruned is so rightly: any path with the pair of that
-- number, followed by the action
abbrev pub ArePrunedRightly : PlainProblem → List KeptPair → List Event → Type 0
ArePrunedRightly p kept es = (j : ℕ) (a : Action) (x : KeptPair) (path : List Action) → Among (event.Pruned j a) es → slice_get kept j ≡
    Some x → pair_of p path ≡ Some x.node → IsPrunedRightly p (path ++ a ∷ [])
