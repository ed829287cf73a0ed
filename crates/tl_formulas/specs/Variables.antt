-- Variable lists of quantifiers and of `each`.
use Rattle.std.specs.Prelude.{ℕ, ◌+◌, List, [], ◌∷◌, ◌++◌, Bool, not, nat_lt, is_some, length}
use Rattle.tl_sexpr.specs.Tree.{FormTree, FormTrees, symbol, integer, list, no_form, more_forms}
use Rattle.tl_rules.specs.declared.rule.Rule.TheVariants.{Twice, Shadow, NotInBound}
use Rattle.tl_rules.specs.Rules.{Break, breaks_if}
use Rattle.tl_rules.specs.Parts.{count, elements_of, texts_of, occurs_in}
use Rattle.tl_formulas.specs.Signatures.{Scope, slot_of}

-- what a variable breaks that stands after these variables of its list: it is one of them, is in
-- scope, or stands nowhere in the bound
abbrev pub variable_breaks : Scope → Scope → FormTree → List ℕ → ℕ → List Break
variable_breaks earlier scope bound text at =
    breaks_if (is_some (slot_of earlier text)) Twice at
    ++ (breaks_if (is_some (slot_of scope text)) Shadow at
    ++ breaks_if (not (occurs_in text bound)) NotInBound at)

-- what the variables of a list break, of which these stand before
abbrev pub variables_breaks : Scope → Scope → FormTree → FormTrees → List Break
variables_breaks earlier scope bound no_form = []
variables_breaks earlier scope bound (more_forms (symbol text at) fs) =
    variable_breaks earlier scope bound text at ++ variables_breaks (earlier ++ text ∷ []) scope bound fs
variables_breaks earlier scope bound (more_forms (integer z at) fs) = variables_breaks earlier scope bound fs
variables_breaks earlier scope bound (more_forms (list gs at) fs) = variables_breaks earlier scope bound fs

-- what is in scope with the variables of a list
abbrev pub with_variables : Scope → FormTree → Scope
with_variables scope vs = scope ++ texts_of (elements_of vs)

-- with the variables of a list more than 32 are in scope
abbrev pub is_crowded : Scope → FormTree → Bool
is_crowded scope vs = nat_lt 32 (length scope + count (elements_of vs))
