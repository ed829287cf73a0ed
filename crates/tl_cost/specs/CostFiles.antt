-- Costs files: the rules that their forms break, and the costs that they stand for. Every form of a
-- costs file is a list `(NAME C)`: the operator of this name costs C. An operator that is not named
-- costs 1.
use Rattle.std.specs.Prelude.{ℕ, ℤ, List, [], ◌∷◌, ◌++◌, Bool, false, not, Option, Some, None, is_some, length, map, replicate, unwrap_or}
use Rattle.std.specs.List.{slice_index_or, slice_set}
use Rattle.tl_sexpr.specs.Tree.{FormTree, FormTrees, symbol, integer, list, no_form, more_forms}
use Rattle.tl_syntax.specs.declared.operator.Operator.{Operator}
use Rattle.tl_rules.specs.declared.rule.Rule.TheVariants.{Shape, Twice, Limit, NoOperator}
use Rattle.tl_rules.specs.Parts.{offset_of, is_within, natural, symbol_text}
use Rattle.tl_rules.specs.Rules.{Break, breaks_if}
use Rattle.tl_line.specs.Actions.{operator_at}

-- the integer of a form, where it is one
abbrev pub integer_of : FormTree → Option ℤ
integer_of (symbol text s) = None
integer_of (integer z i) = Some z
integer_of (list fs at) = None

-- both values, where there are two
abbrev pub both_of : {A B : Type 0} → Option A → Option B → Option (A × B)
both_of (Some x) (Some y) = Some (x, y)
both_of (Some x) None = None
both_of None o = None

-- the text and the integer, where the two forms are a symbol and an integer
abbrev pub entry_of_two : FormTree → FormTree → Option (List ℕ × ℤ)
entry_of_two f g = both_of (symbol_text f) (integer_of g)

-- the name and the integer of a list of these two
abbrev pub entry_of_form : FormTree → Option (List ℕ × ℤ)
entry_of_form (list (more_forms f (more_forms g no_form)) at) = entry_of_two f g
entry_of_form _ = None

-- the costs that forms give, by the positions of the operators: none at first
abbrev pub none_given : List Operator → List (Option ℕ)
none_given operators = replicate (length operators) None

-- an operator was given a cost by a form before
abbrev pub is_given : List (Option ℕ) → Option ℕ → Bool
is_given given None = false
is_given given (Some op) = is_some (slice_index_or given op None)

-- what a cost breaks that is given to the operator at this position, if there is one: a cost is at
-- most 1000000
abbrev pub cost_breaks : List (Option ℕ) → Option ℕ → ℤ → ℕ → List Break
cost_breaks given op z at = breaks_if (is_given given op) Twice at ++ (breaks_if (not (is_within 0 1000000 z)) Limit at ++
    breaks_if (not (is_some op)) NoOperator at)

-- what a form breaks that has these parts
abbrev pub parts_breaks : List (List ℕ) → List Operator → List (Option ℕ) → Option (List ℕ × ℤ) → ℕ → List Break
parts_breaks names operators given None at = (Shape, at) ∷ []
parts_breaks names operators given (Some parts) at = cost_breaks given (operator_at names operators parts.0) parts.1 at

-- what a form breaks where forms before it gave these costs
abbrev pub entry_breaks : List (List ℕ) → List Operator → List (Option ℕ) → FormTree → List Break
entry_breaks names operators given f = parts_breaks names operators given (entry_of_form f) (offset_of f)

-- the position of the operator, and its cost; where a rule is broken, what is said here does not
-- matter
abbrev pub cost_meant : Option ℕ → ℤ → ℕ × ℕ
cost_meant op z = (unwrap_or op 0, natural z)

-- those of parts of a form
abbrev pub parts_meant : List (List ℕ) → List Operator → Option (List ℕ × ℤ) → ℕ × ℕ
parts_meant names operators None = (0, 0)
parts_meant names operators (Some parts) = cost_meant (operator_at names operators parts.0) parts.1

-- those of a form
abbrev pub entry_meant : List (List ℕ) → List Operator → FormTree → ℕ × ℕ
entry_meant names operators f = parts_meant names operators (entry_of_form f)

-- the costs with that of one more form
abbrev pub with_entry : List (List ℕ) → List Operator → List (Option ℕ) → FormTree → List (Option ℕ)
with_entry names operators given f = slice_set given (entry_meant names operators f).0 (Some (entry_meant names operators f).1)

-- what forms break after forms that gave these costs
abbrev pub entries_breaks : List (List ℕ) → List Operator → List (Option ℕ) → FormTrees → List Break
entries_breaks names operators given no_form = []
entries_breaks names operators given (more_forms f fs) = entry_breaks names operators given f ++
    entries_breaks names operators (with_entry names operators given f) fs

-- the costs that forms give after forms that gave these costs
abbrev pub given_after : List (List ℕ) → List Operator → List (Option ℕ) → FormTrees → List (Option ℕ)
given_after names operators given no_form = given
given_after names operators given (more_forms f fs) = given_after names operators (with_entry names operators given f) fs

-- what the forms of a costs file break
abbrev pub costs_breaks : List (List ℕ) → List Operator → FormTrees → List Break
costs_breaks names operators fs = entries_breaks names operators (none_given operators) fs

-- the cost of each operator: the one that is given, or else 1
abbrev pub costs_meant : List (List ℕ) → List Operator → FormTrees → List ℕ
costs_meant names operators fs = map (λ (c : Option ℕ). unwrap_or c 1) (given_after names operators (none_given operators) fs)
