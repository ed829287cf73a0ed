use Rattle.std.proofs.Common.{◌≡◌, ◌≤◌, List, [], ◌∷◌, length, refl, ◌∙◌, arith}
use Rattle.tl_sexpr.specs.declared.form.Form.{Form}
use Rattle.tl_sexpr.specs.Tree.{list}
use Rattle.tl_rules.specs.Parts.{are_variables, is_variable_list}
use Rattle.tl_rules.specs.Reads.{trees_in}
use Rattle.tl_formulas.proofs.variables.is_variable_list.Goals as goal

some : (forms : List Form) → 1 ≤ length forms → are_variables (trees_in forms) ≡ is_variable_list (list (trees_in forms) 0)
some [] h = absurd (omega arith)
some (form ∷ forms) h = refl

pub returns-in_default : goal.returns-in_default
returns-in_default c = c.are_variables.ensures ∙ some c.args.forms.now (omega (arith, c.in_default.len_at_least))
