-- Problem files: the rules that the forms of a file break in reading order, and what they say.
use Rattle.std.specs.Prelude.{List, ℕ, [], ◌∷◌, ◌++◌, Bool, false, ◌&&◌, nat_lt, codes, if◌then◌else◌}
use Rattle.tl_sexpr.specs.Tree.{FormTree, FormTrees, symbol, integer, list, no_form, more_forms}
use Rattle.tl_syntax.specs.declared.domain.Domain.{Domain}
use Rattle.tl_rules.specs.declared.rule.Rule.TheVariants.{Shape, Limit}
use Rattle.tl_rules.specs.OneForm.{second_form_breaks}
use Rattle.tl_rules.specs.Rules.{Break, breaks_if}
use Rattle.tl_rules.specs.Parts.{offset_of, count, is_name, is_word, rest_of}
use Rattle.tl_problem.specs.declared.elements.Section.{Section}
use Rattle.tl_problem.specs.declared.elements.Section.TheVariants as section
use Rattle.tl_rules.specs.Parts.{begins_with}
use Rattle.tl_problem.specs.Elements.{elements_breaks, with_elements}
use Rattle.tl_problem.specs.Literals.{Literals, no_literal}
use Rattle.tl_problem.specs.Sections.{Sections, no_sections}

-- the elements of the problem form are the word `problem`, a name, a list that begins with `init`
-- and one that begins with `goal`
abbrev pub has_problem_shape : FormTrees → Bool
has_problem_shape (more_forms word (more_forms name (more_forms init (more_forms goal no_form)))) =
    is_word (codes "problem") word && is_name name && begins_with (codes "init") init && begins_with (codes "goal") goal
has_problem_shape _ = false

-- what an `init` or a `goal` form breaks, with its elements, of which there may be 4,096
abbrev pub section_breaks : List (List ℕ) → Domain → Section → FormTree → List Break
section_breaks names d s f =
    breaks_if (nat_lt 4096 (count (rest_of f))) Limit (offset_of f) ++ elements_breaks names d s no_literal (rest_of f)

-- what the `init` and the `goal` form of a problem form break, by all its elements
abbrev pub sections_breaks : List (List ℕ) → Domain → FormTrees → List Break
sections_breaks names d (more_forms word (more_forms name (more_forms init (more_forms goal no_form)))) =
    section_breaks names d section.Init init ++ section_breaks names d section.Goal goal
sections_breaks names d _ = []

-- what the problem form breaks, with its parts
abbrev pub problem_form_breaks : List (List ℕ) → Domain → FormTree → List Break
problem_form_breaks names d (list fs at) = if has_problem_shape fs then sections_breaks names d fs else (Shape, at) ∷ []
problem_form_breaks names d (symbol text at) = (Shape, at) ∷ []
problem_form_breaks names d (integer z at) = (Shape, at) ∷ []

-- what the forms of a problem file break; where there is none, the break is at 0
abbrev pub problem_file_breaks : List (List ℕ) → Domain → FormTrees → List Break
problem_file_breaks names d no_form = (Shape, 0) ∷ []
problem_file_breaks names d (more_forms f fs) = problem_form_breaks names d f ++ second_form_breaks fs

-- what an `init` or a `goal` form says
abbrev pub section_meant : List (List ℕ) → Domain → Section → FormTree → Literals
section_meant names d s f = with_elements names d s no_literal (rest_of f)

-- what the problem form says, by its elements
abbrev pub sections_meant : List (List ℕ) → Domain → FormTrees → Sections
sections_meant names d (more_forms word (more_forms name (more_forms init (more_forms goal no_form)))) =
    record { init = section_meant names d section.Init init; goal = section_meant names d section.Goal goal }
sections_meant names d _ = no_sections

-- what the problem form says
abbrev pub problem_form_meant : List (List ℕ) → Domain → FormTree → Sections
problem_form_meant names d (list fs at) = sections_meant names d fs
problem_form_meant names d (symbol text at) = no_sections
problem_form_meant names d (integer z at) = no_sections

-- what the forms of a problem file say
abbrev pub problem_file_meant : List (List ℕ) → Domain → FormTrees → Sections
problem_file_meant names d no_form = no_sections
problem_file_meant names d (more_forms f fs) = problem_form_meant names d f
