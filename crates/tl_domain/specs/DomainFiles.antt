-- Domain files: the breaks of a file, and the forms as they are read.
--
-- The breaks of a file are listed in the order of its forms, and the rules of one form by their
-- numbers, so that the first break is the one that is answered: offsets rise in reading order.
use Rattle.std.specs.Prelude.{List, [], ◌∷◌, ◌++◌, Bool, false, ◌&&◌, not, codes}
use Rattle.tl_sexpr.specs.Tree.{FormTree, FormTrees, symbol, integer, list, no_form, more_forms}
use Rattle.tl_rules.specs.declared.rule.Rule.TheVariants.{Shape}
use Rattle.tl_rules.specs.OneForm.{second_form_breaks}
use Rattle.tl_rules.specs.Rules.{Break, breaks_if}
use Rattle.tl_rules.specs.Parts.{is_name, is_word}
use Rattle.tl_domain.specs.Declarations.{nothing_declared}
use Rattle.tl_domain.specs.Items.{items_breaks}

-- the elements of the domain form begin with the word `domain` and a name
abbrev pub has_domain_shape : FormTrees → Bool
has_domain_shape (more_forms word (more_forms name items)) = is_word (codes "domain") word && is_name name
has_domain_shape _ = false

-- what the items of the domain form break, by all its elements
abbrev pub domain_items_breaks : FormTrees → List Break
domain_items_breaks (more_forms word (more_forms name items)) = items_breaks nothing_declared items
domain_items_breaks _ = []

-- what the domain form breaks, with its items
abbrev pub domain_form_breaks : FormTree → List Break
domain_form_breaks (list fs at) = breaks_if (not (has_domain_shape fs)) Shape at ++ domain_items_breaks fs
domain_form_breaks (symbol text at) = (Shape, at) ∷ []
domain_form_breaks (integer z at) = (Shape, at) ∷ []

-- what the forms of a domain file break; where there is none, the break is at 0
abbrev pub domain_file_breaks : FormTrees → List Break
domain_file_breaks no_form = (Shape, 0) ∷ []
domain_file_breaks (more_forms f fs) = domain_form_breaks f ++ second_form_breaks fs
