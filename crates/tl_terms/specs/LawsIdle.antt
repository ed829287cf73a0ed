-- What formulas mean where one world is repeated for ever.
use Rattle.std.specs.Prelude.{◌↔◌, ℕ, IsTrue}
use Rattle.tl_syntax.specs.Trees.{FormulaTree, next, always, eventually, until, within, during}
use Rattle.tl_terms.specs.World.{World}
use Rattle.tl_terms.specs.Problem.{PlainProblem}
use Rattle.tl_syntax.specs.Assignment.{no_values}
use Rattle.tl_terms.specs.Definitions.{situation_of}
use Rattle.tl_terms.specs.Run.{Satisfies, idle_run}
use Rattle.tl_terms.specs.Idle.{idle_true}

-- each temporal word of one formula means that formula, and `until` means its second part
pub record IdleWords (p : PlainProblem) (w : World) (i n : ℕ) (f g : FormulaTree) : Type 0 where
  pub of_next : Satisfies p (idle_run w) i (next f) ↔ Satisfies p (idle_run w) i f
  pub of_always : Satisfies p (idle_run w) i (always f) ↔ Satisfies p (idle_run w) i f
  pub of_eventually : Satisfies p (idle_run w) i (eventually f) ↔ Satisfies p (idle_run w) i f
  pub of_within : Satisfies p (idle_run w) i (within n f) ↔ Satisfies p (idle_run w) i f
  pub of_during : Satisfies p (idle_run w) i (during n f) ↔ Satisfies p (idle_run w) i f
  pub of_until : Satisfies p (idle_run w) i (until f g) ↔ Satisfies p (idle_run w) i g

-- the temporal words where one world is repeated for ever
abbrev pub IdleWordsLaw : Type 0
IdleWordsLaw = (p : PlainProblem) (w : World) (i n : ℕ) (f g : FormulaTree) → IdleWords p w i n f g

-- the idling check is truth where one world is repeated for ever
abbrev pub IdlingCheckIsTruth : Type 0
IdlingCheckIsTruth = (p : PlainProblem) (w : World) (i : ℕ) (f : FormulaTree) → Satisfies p (idle_run w) i f ↔
    IsTrue (idle_true (situation_of p w) no_values f)
