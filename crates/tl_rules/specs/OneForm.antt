-- Files of one form.
use Rattle.std.specs.Prelude.{List, [], ◌∷◌}
use Rattle.tl_sexpr.specs.Tree.{FormTrees, no_form, more_forms}
use Rattle.tl_rules.specs.declared.rule.Rule.TheVariants.{Shape}
use Rattle.tl_rules.specs.Parts.{offset_of}
use Rattle.tl_rules.specs.Rules.{Break}

-- a second form of the file is one too many
abbrev pub second_form_breaks : FormTrees → List Break
second_form_breaks no_form = []
second_form_breaks (more_forms f fs) = (Shape, offset_of f) ∷ []
