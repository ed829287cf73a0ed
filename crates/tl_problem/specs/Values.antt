-- Ground values: the rules that forms break in the role of a value of a problem.
use Rattle.std.specs.Prelude.{List, [], ◌∷◌, ◌++◌}
use Rattle.tl_sexpr.specs.Tree.{FormTree, FormTrees, symbol, integer, list, no_form, more_forms}
use Rattle.tl_rules.specs.declared.rule.Rule.TheVariants.{NotGround}
use Rattle.tl_rules.specs.Rules.{Break, breaks_if}
use Rattle.tl_rules.specs.Parts.{is_variable}

-- a variable and a list are no values
abbrev pub value_breaks : FormTree → List Break
value_breaks (symbol text at) = breaks_if (is_variable text) NotGround at
value_breaks (integer z at) = []
value_breaks (list fs at) = (NotGround, at) ∷ []

-- what values break
abbrev pub values_breaks : FormTrees → List Break
values_breaks no_form = []
values_breaks (more_forms f fs) = value_breaks f ++ values_breaks fs
