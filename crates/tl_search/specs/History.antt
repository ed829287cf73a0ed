-- What a search reports from its start on.
use Rattle.std.specs.Prelude.{◌≡◌, ◌≢◌, ◌<◌, List, [], ◌∷◌, length, Bool, true, false, Some}
use Rattle.tl_syntax.specs.Trees.{falsum}
use Rattle.tl_terms.specs.Pairs.{Pair, pair_of}
use Rattle.tl_terms.specs.Problem.{PlainProblem}
use Rattle.tl_search.specs.KeptPairs.{KeptPair}
use Rattle.tl_search.specs.TrueEvents.{AreTrueEvents}
use Rattle.tl_search.specs.declared.event.Event.{Event}
use Rattle.tl_search.specs.declared.event.Event.TheVariants as event

-- where events are watched, there are some, which are true and tell of all kept pairs; elsewhere
-- there are none
pub record IsHistory (p : PlainProblem) (watch : Bool) (kept : List KeptPair) (events : List Event) : Type 0 where
  pub told : watch ≡ true → AreTrueEvents p [] events kept
  pub some : watch ≡ true → 0 < length events
  pub silent : watch ≡ false → events ≡ []

-- the first event is RootKept where the residual of the empty path is not FALSE, and RootPruned
-- elsewhere
pub record BeginsAtRoot (p : PlainProblem) (events : List Event) : Type 0 where
  pub root : Pair
  pub is_root : pair_of p [] ≡ Some root
  pub first : Event
  pub rest : List Event
  pub begins : events ≡ first ∷ rest
  pub kept : root.formula ≢ falsum → first ≡ event.RootKept
  pub pruned : root.formula ≡ falsum → first ≡ event.RootPruned
