use Rattle.std.proofs.Common.{◌≡◌}
use Rattle.std.specs.Option.{IfSome}
use Rattle.tl_data_cases.proofs.matches.have_values.Given as goal

abbrev pub invariant-loop-form : goal.invariant-loop-form
invariant-loop-form g l = IfSome l.last (λ m. m.len ≡ l.pattern.free)
