-- Problems without arithmetic terms.
use Rattle.std.specs.Prelude.{◌≡◌, ℕ, List, []}
use Rattle.tl_syntax.specs.declared.action.Action.{Action}
use Rattle.tl_terms.specs.Arithmetic.{ProblemHasNoArithmetic}
use Rattle.tl_terms.specs.Calm.{IsCalm}
use Rattle.tl_terms.specs.Looked.{looked_by_action, looked_along}
use Rattle.tl_terms.specs.Problem.{PlainProblem}
use Rattle.tl_terms.specs.World.{World}

-- no action looks at an operation, nor does the control formula along any states, and a search of
-- any length meets none past range
pub record LooksAtNothing (p : PlainProblem) : Type 0 where
  pub acting : (w : World) (a : Action) → looked_by_action p w a ≡ []
  pub along : (ws : List World) (k : ℕ) → looked_along p ws k p.control ≡ []
  pub searching : (n : ℕ) → IsCalm p n

-- where no arithmetic term stands, nothing is looked at
abbrev pub NoArithmeticLooksAtNothing : Type 0
NoArithmeticLooksAtNothing = (p : PlainProblem) → ProblemHasNoArithmetic p → LooksAtNothing p
