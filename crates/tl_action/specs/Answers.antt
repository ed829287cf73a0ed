-- What a call answers, or why it gives no answer.
use Rattle.std.specs.Prelude.{◌≡◌, List, Result, Ok, Err}
use Rattle.tl_eval.specs.declared.fault.EvalFault.{EvalFault}
use Rattle.tl_eval.specs.Faults.{IsCausedBy}
use Rattle.tl_terms.specs.Operations.{Operation}

-- the value, or a fault with its cause
abbrev pub Answers : {A : Type 0} → A → List Operation → Result A EvalFault → Type 0
Answers meant looked (Ok found) = found ≡ meant
Answers meant looked (Err fault) = IsCausedBy looked fault
