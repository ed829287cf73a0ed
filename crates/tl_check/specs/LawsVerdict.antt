-- Each plan has one verdict.
use Rattle.std.specs.Prelude.{◌≡◌, List}
use Rattle.tl_check.specs.Verdicts.{IsVerdict}
use Rattle.tl_check.specs.declared.verdict.Verdict.{Verdict}
use Rattle.tl_syntax.specs.declared.action.Action.{Action}
use Rattle.tl_terms.specs.Problem.{PlainProblem}

-- two verdicts that are right of one plan are the same, so each is answered exactly where it is
-- right
abbrev pub OneVerdict : Type 0
OneVerdict = (p : PlainProblem) (plan : List Action) (v u : Verdict) → IsVerdict p plan v → IsVerdict p plan u → v ≡ u
