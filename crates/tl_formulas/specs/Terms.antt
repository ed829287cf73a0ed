-- Terms: the rules that a form breaks in the role of a term.
use Rattle.std.specs.Prelude.{ℕ, List, [], ◌∷◌, ◌++◌, ◌==◌, not, Option, Some, None}
use Rattle.tl_sexpr.specs.Tree.{FormTree, FormTrees, symbol, integer, list, no_form, more_forms}
use Rattle.tl_syntax.specs.declared.value.Op.{Op}
use Rattle.tl_rules.specs.declared.rule.Rule.TheVariants.{Shape}
use Rattle.tl_rules.specs.Rules.{Break, breaks_if}
use Rattle.tl_formulas.specs.Words.{operation_named}
use Rattle.tl_rules.specs.Parts.{count}
use Rattle.tl_formulas.specs.Signatures.{Table, Scope, call_breaks, unbound_breaks}

-- what the list of a term breaks itself: an operation has two operands, and any other word is a
-- function's name
abbrev pub term_call_breaks : Table → Option Op → List ℕ → FormTrees → ℕ → List Break
term_call_breaks functions (Some op) text rest at = breaks_if (not (count rest == 2)) Shape at
term_call_breaks functions None text rest at = call_breaks functions text (count rest) at

unfoldable mutual
  -- what a term breaks, with its parts
  pub term_breaks : Table → Scope → FormTree → List Break
  term_breaks functions scope (symbol text at) = unbound_breaks scope (symbol text at)
  term_breaks functions scope (integer z at) = []
  term_breaks functions scope (list fs at) = term_list_breaks functions scope fs at

  -- what the list of a term breaks, by its elements and its offset
  pub term_list_breaks : Table → Scope → FormTrees → ℕ → List Break
  term_list_breaks functions scope no_form at = (Shape, at) ∷ []
  term_list_breaks functions scope (more_forms (symbol text _) rest) at =
      term_call_breaks functions (operation_named text) text rest at ++ terms_breaks functions scope rest
  term_list_breaks functions scope (more_forms (integer z _) rest) at = (Shape, at) ∷ []
  term_list_breaks functions scope (more_forms (list fs _) rest) at = (Shape, at) ∷ []

  -- what terms break
  pub terms_breaks : Table → Scope → FormTrees → List Break
  terms_breaks functions scope no_form = []
  terms_breaks functions scope (more_forms f fs) = term_breaks functions scope f ++ terms_breaks functions scope fs
