-- The text of the verdict on a plan with a repeated part.
use Rattle.std.specs.Prelude.{ℕ, List, codes}
use Rattle.tl_line.specs.AnswerLines.{not_executable_text}
use Rattle.tl_lasso.specs.declared.verdict.LoopVerdict.{LoopVerdict}
use Rattle.tl_lasso.specs.declared.verdict.LoopVerdict.TheVariants.{Valid, NotExecutable, NotClosed, GoalUnmet, Disobeys}

-- the line of a verdict
abbrev pub loop_text : LoopVerdict → List ℕ
loop_text Valid = codes "; valid for ever\n"
loop_text (NotExecutable number) = not_executable_text number
loop_text NotClosed = codes "; not closed\n"
loop_text GoalUnmet = codes "; goal unmet\n"
loop_text Disobeys = codes "; disobeys\n"
