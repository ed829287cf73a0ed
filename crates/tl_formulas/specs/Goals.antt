-- The argument of `goal`, in a formula or in a bound.
use Rattle.std.specs.Prelude.{ℕ, List, [], ◌∷◌, ◌++◌, Bool, false, ◌&&◌, not, Option, Some, None, if◌then◌else◌, codes}
use Rattle.tl_sexpr.specs.Tree.{FormTree, FormTrees, symbol, list, no_form, more_forms}
use Rattle.tl_rules.specs.declared.rule.Rule.TheVariants.{Arity, GoalArg}
use Rattle.tl_formulas.specs.declared.signature.NameSignature.{NameSignature}
use Rattle.tl_rules.specs.Rules.{Break, breaks_if}
use Rattle.tl_rules.specs.Parts.{offset_of, count, is_list, any_list, is_word, elements_of, rest_of}
use Rattle.tl_formulas.specs.Signatures.{Table, Scope, place_of, has_arity, is_in, unbound_breaks}

-- variables among these forms that are not in scope
abbrev pub arguments_breaks : Scope → FormTrees → List Break
arguments_breaks scope no_form = []
arguments_breaks scope (more_forms f fs) = unbound_breaks scope f ++ arguments_breaks scope fs

-- the form is a list that begins with a name of the table and has no list among the rest
abbrev pub is_flat : Table → FormTree → Bool
is_flat table (list (more_forms (symbol text _) rest) at) = is_in table text && not (any_list rest)
is_flat table _ = false

-- what stands at this place of the table has another number of arguments
abbrev pub is_miscounted_at : Table → Option ℕ → ℕ → Bool
is_miscounted_at table None n = false
is_miscounted_at table (Some i) n = not (has_arity table i n)

-- a list that begins with a name of the table, and has not so many arguments
abbrev pub miscounted_breaks : Table → FormTree → List Break
miscounted_breaks table (list (more_forms (symbol text _) rest) at) =
    breaks_if (is_miscounted_at table (place_of table text) (count rest)) Arity at
miscounted_breaks table _ = []

-- what an argument of `goal` breaks that is no fact, by its elements and its offset: it should be
-- `(= (f a*) a)` or `(not (p a*))`
abbrev pub other_goal_breaks : NameSignature → Scope → FormTrees → ℕ → List Break
other_goal_breaks g scope (more_forms word (more_forms place (more_forms value no_form))) at =
    if is_word (codes "=") word && is_flat g.functions place && not (is_list value)
    then miscounted_breaks g.functions place ++ (arguments_breaks scope (rest_of place) ++ unbound_breaks scope value)
    else (GoalArg, at) ∷ []
other_goal_breaks g scope (more_forms word (more_forms fact no_form)) at =
    if is_word (codes "not") word && is_flat g.predicates fact
    then miscounted_breaks g.predicates fact ++ arguments_breaks scope (rest_of fact)
    else (GoalArg, at) ∷ []
other_goal_breaks g scope _ at = (GoalArg, at) ∷ []

-- what an argument of `goal` breaks, with its parts
unfoldable pub goal_breaks : NameSignature → Scope → FormTree → List Break
goal_breaks g scope f =
    miscounted_breaks g.predicates f
    ++ (if is_flat g.predicates f then arguments_breaks scope (rest_of f)
    else other_goal_breaks g scope (elements_of f) (offset_of f))
