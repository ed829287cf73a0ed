-- The tuples of a bound along some states, and where each makes it true.
use Rattle.std.specs.Prelude.{◌≡◌, ◌↔◌, ◌≤◌, ◌<◌, ◌+◌, ◌⊎◌, ℕ, List, [], ◌∷◌, ◌++◌, length, Option, Some, Result, IfOk, IfSome, true, false}
use Rattle.std.specs.Prelude.{slice_get}
use Rattle.tl_check.specs.Lines.{truth_from, AreBefore}
use Rattle.tl_check.specs.StatesAlong.{states_along}
use Rattle.tl_check.specs.Tracks.{Lines, line_in, fact_with, HaveSeenAll}
use Rattle.tl_check.specs.declared.along.Along.{Along}
use Rattle.tl_check.specs.declared.binder.Binder.{Binder}
use Rattle.tl_check.specs.declared.gathered.Alike.{Alike}
use Rattle.tl_check.specs.declared.line.Change.{Change}
use Rattle.tl_check.specs.declared.span.Span.{Span}
use Rattle.tl_check.specs.declared.tracks.Tracks.{Tracks}
use Rattle.tl_eval.specs.Frames.{assignment_in}
use Rattle.tl_syntax.specs.declared.bound.Bound.{Bound}
use Rattle.tl_syntax.specs.declared.fact.Fact.{Fact}
use Rattle.tl_syntax.specs.declared.value.Value.{Value}
use Rattle.tl_syntax.specs.declared.variable.Var.{Var}
use Rattle.tl_syntax.specs.Assignment.{Assignment}
use Rattle.tl_syntax.specs.Lists.{Each, Among}
use Rattle.tl_terms.specs.Bounds.{bound_true, tuples}
use Rattle.tl_terms.specs.Definitions.{situation_of}
use Rattle.tl_terms.specs.Problem.{PlainProblem}
use Rattle.tl_terms.specs.ProblemMeaning.{plain_problem}
use Rattle.tl_terms.specs.World.{World, value_at}

-- the last change is at the position, and the fact holds after the one before it
pub record GoesOn (at : ℕ) (cs : List Change) : Type 0 where
  pub front : List Change
  pub before : Change
  pub last : Change
  pub whole : cs ≡ (front ++ before ∷ []) ++ last ∷ []
  pub place : last.at ≡ at
  pub holds : before.truth ≡ true

-- by the second changes the fact holds from the position on, and before it where it holds by the
-- first
pub record HoldsFrom (at : ℕ) (old new : List Change) : Type 0 where
  pub earlier : (k : ℕ) → k < at → truth_from false new k ≡ truth_from false old k
  pub there : (k : ℕ) → at ≤ k → truth_from false new k ≡ true
  pub bounded : AreBefore (at + 1) new

-- so it is where none of the first changes comes after the position
abbrev pub BeginsAt : ℕ → List Change → List Change → Type 0
BeginsAt at old new = AreBefore (at + 1) old → HoldsFrom at old new

-- by the second changes the fact holds in the span and not after it, and before it where it holds
-- by the first
pub record HoldsThere (span : Span) (old new : List Change) : Type 0 where
  pub earlier : (k : ℕ) → k < span.from → truth_from false new k ≡ truth_from false old k
  pub there : (k : ℕ) → span.from ≤ k → k < span.to → truth_from false new k ≡ true
  pub ended : (k : ℕ) → span.to ≤ k → truth_from false new k ≡ false
  pub bounded : AreBefore (span.to + 1) new

-- so it is where none of the first changes comes after the span's first position
abbrev pub HoldsIn : Span → List Change → List Change → Type 0
HoldsIn span old new = AreBefore (span.from + 1) old → HoldsThere span old new

-- so it is by the fact's changes
abbrev pub FactHoldsIn : Span → Fact → Lines → Lines → Type 0
FactHoldsIn span fact old new = HoldsIn span (line_in old fact) (line_in new fact)

-- the tuple is not among these and its changes stay, or it is and is told to hold in the span
abbrev pub IsNoted : List (List Value) → Span → List Value → List Change → List Change → Type 0
IsNoted all here a old new = ((Among a all → ⊥) × (new ≡ old)) ⊎ (Among a all × HoldsIn here old new)

-- the tuples of the bound in the first of these states are told to hold in all of them, and no
-- others
abbrev pub NoteTuples : Along → List (Option Value) → Alike → Tracks → Tracks → Type 0
NoteTuples along frame alike old new = (a : List Value)
    → IsNoted (tuples (situation_of (plain_problem along.task.now.problem) alike.first.now)
    (assignment_in frame) alike.binder.vars.now alike.binder.bound.now) alike.span a (line_in old.lines (fact_with 0 a))
    (line_in new.lines (fact_with 0 a))

-- the fact is that of a tuple with so many values
abbrev pub IsTuple : ℕ → Fact → Type 0
IsTuple n f = (f ≡ fact_with 0 f.args) × (length f.args ≡ n)

-- each is that of a tuple with a value for each variable
abbrev pub HaveCounts : Binder → List Fact → Type 0
HaveCounts b fs = Each (IsTuple (length b.vars.now)) fs

-- so each that was seen stays
abbrev pub KeepCounts : Binder → Tracks → Tracks → Type 0
KeepCounts b old new = HaveCounts b old.seen.items → HaveCounts b new.seen.items

-- at each position of the span the tuples that are told to hold are those of the bound
abbrev pub TellWhere : PlainProblem → List World → Assignment → List Var → Bound → Span → Lines → Type 0
TellWhere p ws e ss b span lines = (a : List Value) (k : ℕ) (w : World) → span.from ≤ k → k < span.to → slice_get ws k ≡ Some w
    → (truth_from false (line_in lines (fact_with 0 a)) k ≡ true) ↔ Among a (tuples (situation_of p w) e ss b)

-- so they are told, and each that holds at some position was seen
pub record TellTuples (p : PlainProblem) (ws : List World) (e : Assignment) (ss : List Var) (b : Bound) (span : Span)
    (t : Tracks) : Type 0 where
  pub tell : TellWhere p ws e ss b span t.lines
  pub covered : HaveSeenAll t
  pub counts : Each (IsTuple (length ss)) t.seen.items

-- so it is along the states of a plan
abbrev pub AreGathered : Along → List (Option Value) → Binder → Span → Tracks → Type 0
AreGathered along frame b span t = TellTuples (plain_problem along.task.now.problem) (states_along along)
    (assignment_in frame) b.vars.now b.bound.now span t

-- where there are some, they are those
abbrev pub GivesGathered : {E : Type 0} → Along → List (Option Value) → Binder → Span → Result (Option Tracks) E → Type 0
GivesGathered along frame b span r = IfOk r (λ found. IfSome found (AreGathered along frame b span))

-- the places of the function have the same values in both worlds
abbrev pub HaveSamePlaces : ℕ → World → World → Type 0
HaveSamePlaces f v w = (a : List Value) → value_at v (f, a) ≡ value_at w (f, a)

-- the bound is true in both worlds or in none of them
abbrev pub ReadSame : Bound → World → World → Type 0
ReadSame b v w = (p : PlainProblem) (e : Assignment) → bound_true (situation_of p v) e b ≡ bound_true (situation_of p w) e b

-- so it is in the world at the first position and in each up to another one
abbrev pub ReadSameUpTo : Bound → List World → ℕ → ℕ → Type 0
ReadSameUpTo b ws from i = (k : ℕ) (v w : World) → from ≤ k → k < i → slice_get ws from ≡ Some v → slice_get ws k ≡ Some w → ReadSame b v w
