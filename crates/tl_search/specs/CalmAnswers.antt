-- What a search answers where it is calm.
use Rattle.std.specs.Prelude.{◌≡◌, ◌≢◌, Result, Ok, Err}
use Rattle.tl_search.specs.declared.outcome.Outcome.TheVariants as outcome
use Rattle.tl_search.specs.declared.outcome.Report.{Report}
use Rattle.tl_search.specs.declared.fault.SearchFault.{SearchFault}
use Rattle.tl_search.specs.declared.fault.SearchFault.TheVariants as fault

-- a plan, or none, or want of memory
abbrev pub IsPlanOrNone : Result Report SearchFault → Type 0
IsPlanOrNone (Ok report) = report.outcome ≢ outcome.Spent
IsPlanOrNone (Err e) = e ≡ fault.NoMemory
