-- What causes a fault.
use Rattle.std.specs.Prelude.{List}
use Rattle.tl_eval.specs.declared.fault.EvalFault.{EvalFault}
use Rattle.tl_eval.specs.declared.fault.EvalFault.TheVariants as fault
use Rattle.tl_eval.specs.Notes.{Tells}
use Rattle.tl_terms.specs.Operations.{Operation}

-- the note is of one of the operations, which is past range; want of memory has no cause
abbrev pub IsCausedBy : List Operation → EvalFault → Type 0
IsCausedBy looked (fault.Range note) = Tells looked note
IsCausedBy looked fault.NoMemory = Unit {0}
