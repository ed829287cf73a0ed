-- The states of a plan with what is known of the facts in them.
use Rattle.std.specs.Prelude.{◌≡◌, ◌≤◌, ◌<◌, ◌^◌, ◌⊎◌, ℕ, List, [], ◌∷◌, length, true, false}
use Rattle.tl_check.specs.Ahead.{Ahead, in_first}
use Rattle.tl_check.specs.Histories.{IsFactHistory}
use Rattle.tl_check.specs.StatesAlong.{states_along}
use Rattle.tl_check.specs.declared.along.Along.{Along}
use Rattle.tl_check.specs.declared.span.Span.{Span}
use Rattle.tl_syntax.specs.declared.bound.Bound.{Bound}
use Rattle.tl_syntax.specs.declared.bound.Bound.TheVariants as bound
use Rattle.tl_syntax.specs.Assignment.{Assignment}
use Rattle.tl_syntax.specs.Keys.{Key}
use Rattle.tl_syntax.specs.Lists.{Each, Among}
use Rattle.tl_terms.specs.Bounds.{bound_true}
use Rattle.tl_terms.specs.Definitions.{situation_of}
use Rattle.tl_terms.specs.Problem.{PlainProblem}
use Rattle.tl_terms.specs.World.{World, has_fact}

-- the states are as many as is said and at most as many as a plan has, one of them comes after the
-- last one, they are those that are kept where as many are, and the histories are theirs
pub record IsAlong (along : Along) : Type 0 where
  pub few : length (states_along along) ≤ 2 ^ 32
  pub count : along.count ≡ length (states_along along)
  pub again : along.again < along.count
  pub kept : length along.kept.now ≡ along.count → along.kept.now ≡ states_along along
  pub histories : Each (IsFactHistory (states_along along)) along.histories.now

-- the positions are those from this one on, and all of those that come again
pub record IsAheadOf (along : Along) (from : ℕ) (span : Span) : Type 0 where
  pub here : span.from ≤ from
  pub again : span.from ≤ along.again
  pub one : (span.from ≡ from) ⊎ (span.from ≡ along.again)
  pub to : span.to ≡ along.count

-- the fact is in the first world, where there is one
abbrev pub fact_ahead : Key → Ahead
fact_ahead k [] = false
fact_ahead k (w ∷ ws) = has_fact w k

-- the bound is true in the first world, where there is one
abbrev pub bound_ahead : PlainProblem → Assignment → Bound → Ahead
bound_ahead p e b = in_first p (λ s. bound_true s e b)

-- the bound speaks of the goal list
abbrev pub IsOverGoal : Bound → Type 0
IsOverGoal (bound.Fact q xs) = ⊥
IsOverGoal (bound.Place f xs x) = ⊥
IsOverGoal (bound.GoalFact q xs) = Unit {0}
IsOverGoal (bound.GoalPlace f xs x) = Unit {0}
IsOverGoal (bound.GoalNot q xs) = Unit {0}

-- what makes the bound true in one of the worlds makes it true in this one
abbrev pub Guides : PlainProblem → List World → Bound → World → Type 0
Guides p ws b guide = (e : Assignment) (w : World) → Among w ws → bound_true (situation_of p w) e b ≡ true →
    bound_true (situation_of p guide) e b ≡ true
