-- The status with which `check-loop` ends.
use Rattle.tl_lasso.specs.declared.verdict.LoopVerdict.{LoopVerdict}
use Rattle.tl_lasso.specs.declared.verdict.LoopVerdict.TheVariants.{Valid, NotExecutable, NotClosed, GoalUnmet, Disobeys}
use Rattle.tl_run.specs.declared.status.Status.{Status}
use Rattle.tl_run.specs.declared.status.Status.TheVariants.{Yes, No}

-- the status with a verdict on a plan with a repeated part
abbrev pub loop_status : LoopVerdict → Status
loop_status Valid = Yes
loop_status (NotExecutable number) = No
loop_status NotClosed = No
loop_status GoalUnmet = No
loop_status Disobeys = No
