-- Where the values of actions come from.
use Rattle.std.specs.Prelude.{◌≡◌, List, Bool, Some, IsTrue, ℤ}
use Rattle.tl_syntax.specs.declared.action.Action.{Action}
use Rattle.tl_syntax.specs.declared.problem.Problem.{Problem}
use Rattle.tl_syntax.specs.declared.value.Value.{Value}
use Rattle.tl_syntax.specs.declared.value.Value.TheVariants.{Int}
use Rattle.tl_syntax.specs.Lists.{Each}
use Rattle.tl_syntax.specs.ValueTests.{ProblemPasses, ValuesPass}
use Rattle.tl_terms.specs.Acceptance.{states}
use Rattle.tl_terms.specs.ProblemMeaning.{plain_problem}
use Rattle.tl_terms.specs.World.{World}

-- where all integers and all values that the problem writes down pass a test, the arguments of a
-- plan that executes pass it
abbrev pub ExecutedArgumentsPass : Type 0
ExecutedArgumentsPass =
    (p : Problem) (test : Value → Bool) (plan : List Action) (ws : List World) →
    ((z : ℤ) → IsTrue (test (Int z))) → ProblemPasses test p → states (plain_problem p) plan ≡ Some ws →
    Each (λ a. ValuesPass test a.args) plan
