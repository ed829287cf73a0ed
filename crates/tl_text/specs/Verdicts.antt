-- The text of the verdict on a plan.
use Rattle.std.specs.Prelude.{ℕ, List, codes}
use Rattle.tl_line.specs.AnswerLines.{not_executable_text}
use Rattle.tl_check.specs.declared.verdict.Verdict.{Verdict}
use Rattle.tl_check.specs.declared.verdict.Verdict.TheVariants.{Valid, NotExecutable, GoalUnmet, Disobeys}

-- the line of a verdict
abbrev pub verdict_text : Verdict → List ℕ
verdict_text Valid = codes "; valid\n"
verdict_text (NotExecutable number) = not_executable_text number
verdict_text GoalUnmet = codes "; goal unmet\n"
verdict_text Disobeys = codes "; disobeys\n"
