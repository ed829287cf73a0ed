-- The costs that forms mean, where they mean some.
use Rattle.std.specs.Prelude.{ℕ, List, ◌||◌, not, Option, Some, None, is_some, option_and_then, if◌then◌else◌, map, unwrap_or}
use Rattle.std.specs.List.{slice_index_or, slice_set}
use Rattle.std.specs.Option.{option_map}
use Rattle.tl_sexpr.specs.Tree.{FormTree, FormTrees, symbol, integer, list, no_form, more_forms}
use Rattle.tl_syntax.specs.declared.operator.Operator.{Operator}
use Rattle.tl_rules.specs.Parts.{is_within, natural}
use Rattle.tl_line.specs.Actions.{operator_at}
use Rattle.tl_cost.specs.CostFiles.{none_given}

-- the costs with that of one more form `(NAME C)`: an operator that had none gets one of at most 1000000
abbrev pub entry_meaning : List (List ℕ) → List Operator → List (Option ℕ) → FormTree → Option (List (Option ℕ))
entry_meaning names operators given (list (more_forms (symbol text _) (more_forms (integer z _) no_form)) at) =
    option_and_then (λ op. if is_some (slice_index_or given op None) || not (is_within 0 1000000 z) then None
    else Some (slice_set given op (Some (natural z)))) (operator_at names operators text)
entry_meaning names operators given _ = None

-- the costs with those of forms
abbrev pub entries_meaning : List (List ℕ) → List Operator → List (Option ℕ) → FormTrees → Option (List (Option ℕ))
entries_meaning names operators given no_form = Some given
entries_meaning names operators given (more_forms f fs) =
    option_and_then (λ more. entries_meaning names operators more fs) (entry_meaning names operators given f)

-- the cost of each operator: the one that a form of the file gives, or else 1
abbrev pub costs_meaning : List (List ℕ) → List Operator → FormTrees → Option (List ℕ)
costs_meaning names operators fs = option_map (map (λ c. unwrap_or c 1)) (entries_meaning names operators (none_given operators) fs)
