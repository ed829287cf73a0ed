-- The tuples by which a quantifier is labelled.
use Rattle.std.specs.Prelude.{◌≡◌, ◌≤◌, ◌<◌, ℕ, List, Bool, length, map, Option, Some, Result, IfOk, IfSome, slice_get}
use Rattle.tl_check.specs.AlongStates.{GivesBoundLabels}
use Rattle.tl_check.specs.Gathered.{IsTuple, TellWhere}
use Rattle.tl_check.specs.StatesAlong.{states_along}
use Rattle.tl_check.specs.Tracks.{fact_with}
use Rattle.tl_check.specs.declared.along.Along.{Along}
use Rattle.tl_check.specs.declared.binder.Binder.{Binder}
use Rattle.tl_check.specs.declared.span.Span.{Span}
use Rattle.tl_check.specs.declared.tuples.Tuples.{Tuples}
use Rattle.tl_eval.specs.Frames.{assignment_in}
use Rattle.tl_syntax.specs.declared.bound.Bound.{Bound}
use Rattle.tl_syntax.specs.declared.fact.Fact.{Fact}
use Rattle.tl_syntax.specs.declared.value.Value.{Value}
use Rattle.tl_syntax.specs.declared.variable.Var.{Var}
use Rattle.tl_syntax.specs.Assignment.{Assignment, bind}
use Rattle.tl_syntax.specs.BoundVariables.{DifferInSlot, OccurIn}
use Rattle.tl_syntax.specs.Lists.{Each, Among}
use Rattle.tl_terms.specs.Bounds.{tuples}
use Rattle.tl_terms.specs.Definitions.{situation_of}
use Rattle.tl_terms.specs.Problem.{PlainProblem}
use Rattle.tl_terms.specs.ProblemMeaning.{plain_problem}
use Rattle.tl_terms.specs.World.{World}

-- these are the facts of the quantifier's tuples in the world
abbrev pub AreTuplesIn : Along → List (Option Value) → Binder → World → List Fact → Type 0
AreTuplesIn along frame b w fs = fs ≡ map (fact_with 0) (tuples (situation_of (plain_problem along.task.now.problem) w)
    (assignment_in frame) b.vars.now b.bound.now)

-- each tuple that makes the bound true at a position of the span is among them, and each of them
-- has a value for each variable
pub record HaveTuples (p : PlainProblem) (ws : List World) (e : Assignment) (ss : List Var) (b : Bound) (span : Span)
    (fs : List Fact) : Type 0 where
  pub covered : (a : List Value) (k : ℕ) (w : World) → span.from ≤ k → k < span.to → slice_get ws k ≡ Some w →
      Among a (tuples (situation_of p w) e ss b) → Among (fact_with 0 a) fs
  pub counts : Each (IsTuple (length ss)) fs

-- so it is of these under some values, and where they come with lines, these tell where each tuple
-- makes the bound true
pub record AreTuples (along : Along) (e : Assignment) (b : Binder) (span : Span) (t : Tuples) : Type 0 where
  pub bound : t.bound.now ≡ b.bound.now
  pub have : HaveTuples (plain_problem along.task.now.problem) (states_along along) e b.vars.now b.bound.now span t.facts.items
  pub lines : IfSome t.lines (TellWhere (plain_problem along.task.now.problem) (states_along along) e b.vars.now b.bound.now span)

-- where there are some, they are such tuples
abbrev pub GivesTuples : {E : Type 0} → Along → List (Option Value) → Binder → Span → Result (Option Tuples) E → Type 0
GivesTuples along frame b span r = IfOk r (λ found. IfSome found (AreTuples along (assignment_in frame) b span))

-- where the frame has the values of one of them, the labels are those of its bound
abbrev pub TellsThere : {E : Type 0} → Along → Span → List (Option Value) → Tuples → Fact → Result (Option (List Bool)) E → Type 0
TellsThere along span frame t f r = (e : Assignment) (b : Binder) → AreTuples along e b span t → DifferInSlot b.vars.now →
    OccurIn b.vars.now b.bound.now → IsTuple (length b.vars.now) f → assignment_in frame ≡ bind b.vars.now f.args e
    → GivesBoundLabels along span frame b.bound.now r
