-- Each plan with a repeated part has one verdict.
use Rattle.std.specs.Prelude.{◌≡◌, List}
use Rattle.tl_lasso.specs.Verdicts.{IsLoopVerdict}
use Rattle.tl_lasso.specs.declared.verdict.LoopVerdict.{LoopVerdict}
use Rattle.tl_syntax.specs.declared.action.Action.{Action}
use Rattle.tl_terms.specs.Problem.{PlainProblem}

-- two verdicts that are right of one plan are the same, so each is answered exactly where it is
-- right
abbrev pub OneLoopVerdict : Type 0
OneLoopVerdict = (p : PlainProblem) (stem cycle : List Action) (v u : LoopVerdict) → IsLoopVerdict p stem cycle v →
    IsLoopVerdict p stem cycle u → v ≡ u
