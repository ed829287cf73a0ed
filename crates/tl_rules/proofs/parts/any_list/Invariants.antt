use Rattle.std.proofs.Common.{◌≡◌, drop}
use Rattle.tl_rules.specs.Parts.{any_list}
use Rattle.tl_rules.specs.Reads.{trees_in}
use Rattle.tl_rules.proofs.parts.any_list.Given as goal

-- a list among all forms is one among those that are left
abbrev pub invariant-loop-form : goal.invariant-loop-form
invariant-loop-form l = any_list (trees_in l.forms) ≡ any_list (trees_in (drop l.form-index l.forms))
