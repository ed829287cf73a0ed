-- Laws of the breaks of domain files.
use Rattle.std.specs.Prelude.{◌≡◌, Some}
use Rattle.tl_sexpr.specs.Offsets.{AreAsRead}
use Rattle.tl_sexpr.specs.Tree.{FormTrees}
use Rattle.tl_rules.specs.Rules.{Break, first_break, IsLeastBreak}
use Rattle.tl_domain.specs.DomainFiles.{domain_file_breaks}

-- of the breaks of a domain file as it is read, the first in reading order has the least offset,
-- and there the least rule
abbrev pub FirstBreakIsLeast : Type 0
FirstBreakIsLeast =
    (forms : FormTrees) (b : Break) → AreAsRead forms → first_break (domain_file_breaks forms) ≡ Some b
    → IsLeastBreak (domain_file_breaks forms) b
