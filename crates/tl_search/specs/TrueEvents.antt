-- What an event says.
use Rattle.std.specs.Prelude.{◌≡◌, ◌≢◌, ℕ, List, [], ◌∷◌, ◌++◌, length, slice_get, Some}
use Rattle.tl_syntax.specs.Trees.{falsum}
use Rattle.tl_terms.specs.Problem.{PlainProblem}
use Rattle.tl_terms.specs.Pairs.{Pair, pair_of}
use Rattle.tl_search.specs.PairGraph.{next_pair}
use Rattle.tl_search.specs.KeptPairs.{KeptPair}
use Rattle.tl_search.specs.declared.event.Event.{Event}
use Rattle.tl_search.specs.declared.event.Event.TheVariants as event

-- with these pairs kept before it, the event is true, and those pairs are kept after it
abbrev pub IsTrueEvent : PlainProblem → List KeptPair → Event → List KeptPair → Type 0
IsTrueEvent p old event.RootKept new = (x : Pair) × (pair_of p [] ≡ Some x) × (x.formula ≢ falsum) × (old ≡ []) ×
    (new ≡ record { node = x; path = [] } ∷ [])
IsTrueEvent p old event.RootPruned new = (x : Pair) × (pair_of p [] ≡ Some x) × (x.formula ≡ falsum) × (old ≡ []) × (new ≡ [])
IsTrueEvent p old (event.Kept j a k) new = (x : KeptPair) × (y : Pair) × (slice_get old j ≡ Some x) × (next_pair p x.node a ≡ Some y) ×
    (y.formula ≢ falsum) × ((i : ℕ) (z : KeptPair) → slice_get old i ≡ Some z → z.node ≢ y) × (k ≡ length old) ×
    (new ≡ old ++ record { node = y; path = x.path ++ a ∷ [] } ∷ [])
IsTrueEvent p old (event.Seen j a k) new = (x : KeptPair) × (y : KeptPair) × (slice_get old j ≡ Some x) ×
    (next_pair p x.node a ≡ Some y.node) × (slice_get old k ≡ Some y) × (new ≡ old)
IsTrueEvent p old (event.Pruned j a) new = (x : KeptPair) × (y : Pair) × (slice_get old j ≡ Some x) × (next_pair p x.node a ≡ Some y) ×
    (y.formula ≡ falsum) × (new ≡ old)

-- the events are true one after another, and tell of all pairs that are kept in the end
abbrev pub AreTrueEvents : PlainProblem → List KeptPair → List Event → List KeptPair → Type 0
AreTrueEvents p old [] new = old ≡ new
AreTrueEvents p old (e ∷ es) new = (mid : List KeptPair) × IsTrueEvent p old e mid × AreTrueEvents p mid es new
