-- What a depth-first search has still to tell between its steps.
use Rattle.std.specs.Prelude.{◌≡◌, ◌≤◌, ◌<◌, ◌-◌, ℕ, List, [], ◌∷◌, ◌++◌, length, drop, reverse, slice_get, Bool, Some}
use Rattle.tl_syntax.specs.Lists.{Among}
use Rattle.tl_terms.specs.Problem.{PlainProblem}
use Rattle.tl_terms.specs.Pairs.{Pair}
use Rattle.tl_search.specs.declared.event.Event.{Event}
use Rattle.tl_depth.specs.Entering.{Meeting, AreTried, Meets, AreInDepth}
use Rattle.tl_depth.specs.Levels.{stepped}
use Rattle.tl_depth.specs.declared.level.Level.{Level}

-- the numbers of the table are the greatest of the meetings
pub record AreGreatest (most : List ℕ) (met : List Meeting) : Type 0 where
  pub reached : (k m : ℕ) → slice_get most k ≡ Some m → Among (k, m) met
  pub greatest : (k m l : ℕ) → slice_get most k ≡ Some m → Among (k, l) met → l ≤ m
  pub known : (k l : ℕ) → Among (k, l) met → k < length most

-- the rest of a level's actions are tried
abbrev pub TriesRest : PlainProblem → List Pair → Bool → Level → List Meeting → List Event → List Meeting → List Event → Type 0
TriesRest p kept cut c = AreTried cut (Meets p kept cut (c.left - 1)) c.at (drop c.tried c.actions)

-- the levels below the top one, the lowest last, go on after their actions that are under way, and
-- then nothing is told
unfoldable pub GoOn : PlainProblem → List Pair → Bool → List Level → List Meeting → List Event → Type 0
GoOn p kept cut [] met events = events ≡ []
GoOn p kept cut (h ∷ below) met events = (mid : List Meeting) × (next : List Event) × TriesRest p kept cut (stepped h) met events mid next ×
    GoOn p kept cut below mid next

-- all levels go on, the top one first
unfoldable pub AllGoOn : PlainProblem → List Pair → Bool → List Level → List Meeting → List Event → Type 0
AllGoOn p kept cut [] met events = events ≡ []
AllGoOn p kept cut (c ∷ below) met events = (mid : List Meeting) × (next : List Event) × TriesRest p kept cut c met events mid next ×
    GoOn p kept cut below mid next

-- the pairs have their numbers still
abbrev pub StayPairs : List Pair → List Pair → Type 0
StayPairs old new = (k : ℕ) (x : Pair) → slice_get old k ≡ Some x → slice_get new k ≡ Some x

-- with whatever the levels go on to tell, the events are those of a depth-first search
pub record IsFollowed (p : PlainProblem) (n : ℕ) (kept : List Pair) (most : List ℕ) (levels : List Level)
    (events : List Event) : Type 0 where
  pub met : List Meeting
  pub table : AreGreatest most met
  pub goes_on : (all : List Pair) → StayPairs kept all → (cut : Bool) (rest : List Event) → AllGoOn p all cut (reverse levels) met rest →
      AreInDepth p n all cut (events ++ rest)
