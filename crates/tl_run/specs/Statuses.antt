-- The exit statuses of the program, and what it says on standard error.
use Rattle.std.specs.Prelude.{ℕ, List, Option, Some, None, codes}
use Rattle.tl_run.specs.declared.status.Status.{Status}
use Rattle.tl_run.specs.declared.status.Status.TheVariants.{Yes, No, Spent, Refused, Range, ReadFault, WriteFault, NoMemory, Usage}

abbrev pub status_number : Status → ℕ
status_number Yes = 0
status_number No = 1
status_number Spent = 2
status_number Refused = 3
status_number Range = 4
status_number ReadFault = 5
status_number WriteFault = 6
status_number NoMemory = 7
status_number Usage = 8

-- the line for a status without a whole answer
abbrev pub complaint_of : Status → Option (List ℕ)
complaint_of ReadFault = Some (codes "tlplan: read fault")
complaint_of WriteFault = Some (codes "tlplan: write fault")
complaint_of NoMemory = Some (codes "tlplan: no memory")
complaint_of Usage = Some (codes "tlplan: usage")
complaint_of _ = None
