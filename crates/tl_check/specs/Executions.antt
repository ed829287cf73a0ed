-- The fault of an action that comes after others.
use Rattle.std.specs.Prelude.{ℕ}
use Rattle.tl_eval.specs.declared.fault.EvalFault.{EvalFault}
use Rattle.tl_eval.specs.declared.fault.EvalFault.TheVariants as act
use Rattle.tl_action.specs.declared.check_fault.CheckFault.{CheckFault}
use Rattle.tl_action.specs.declared.check_fault.CheckFault.TheVariants as fault

-- the fault of an action that comes after so many others
abbrev pub told_after : ℕ → EvalFault → CheckFault
told_after k (act.Range note) = fault.Range k note
told_after k act.NoMemory = fault.NoMemory
