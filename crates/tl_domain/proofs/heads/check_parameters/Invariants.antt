use Rattle.std.proofs.Common.{◌≡◌, ◌≤◌, [], length, drop}
use Rattle.tl_domain.specs.Operators.{parameters_breaks}
use Rattle.tl_domain.specs.Readers.{occurs_within}
use Rattle.tl_rules.specs.Reads.{trees_in}
use Rattle.tl_domain.proofs.heads.check_parameters.Given as goal

-- the parameters that are left stand after those so far
abbrev pub invariant-loop-form : goal.invariant-loop-form
invariant-loop-form l =
    let occurs = occurs_within l.within in
    record {
      breaks : parameters_breaks occurs [] (trees_in l.variables) ≡ parameters_breaks occurs l.earlier
          (trees_in (drop l.form-index l.variables));
      few : length l.earlier ≤ l.form-index;
    }
