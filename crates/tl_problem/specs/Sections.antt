-- What the two sections of a problem file say.
use Rattle.std.specs.Prelude.{[]}
use Rattle.tl_syntax.specs.declared.problem.Problem.{Problem}
use Rattle.tl_problem.specs.Literals.{Literals, no_literal}

-- what is true at first, and what is wanted
pub record Sections : Type 0 where
  pub init : Literals
  pub goal : Literals

-- nothing is said in either section
abbrev pub no_sections : Sections
no_sections = record { init = no_literal; goal = no_literal }

-- what a problem says, in two sections as a file does; at first nothing is negated
abbrev pub sections_of : Problem → Sections
sections_of p = record {
  init = record { facts = p.init_facts; values = p.init_values; nots = [] };
  goal = record { facts = p.goal_facts; values = p.goal_values; nots = p.goal_nots };
}
