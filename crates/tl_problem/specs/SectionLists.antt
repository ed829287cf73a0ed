-- What the lists of the sections say.
use Rattle.tl_problem.specs.declared.section_lists.Lists.{Lists}
use Rattle.tl_problem.specs.declared.section_lists.SectionLists.{SectionLists}
use Rattle.tl_problem.specs.Literals.{Literals}
use Rattle.tl_problem.specs.Sections.{Sections}

-- what the lists of a section say
abbrev pub literals_of : Lists → Literals
literals_of l = record { facts = l.facts; values = l.values; nots = l.nots }

-- and those of both sections
abbrev pub sections_of_lists : SectionLists → Sections
sections_of_lists l = record { init = literals_of l.init; goal = literals_of l.goal }
