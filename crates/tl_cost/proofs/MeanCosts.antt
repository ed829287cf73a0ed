-- Costs files mean something exactly where they break no rule.
use Rattle.std.proofs.Common.{◌≡◌, ℕ, ℤ, List, [], ◌∷◌, ◌++◌, refl, ap, ◌∙◌}
use Rattle.std.specs.Prelude.{Bool, true, false, ◌||◌, not, Option, Some, None, is_some, option_and_then, if◌then◌else◌, map, unwrap_or}
use Rattle.std.specs.List.{slice_index_or, slice_set}
use Rattle.std.specs.Option.{option_map}
use Rattle.tl_sexpr.specs.Tree.{FormTree, FormTrees, symbol, integer, list, no_form, more_forms}
use Rattle.tl_syntax.specs.declared.operator.Operator.{Operator}
use Rattle.tl_rules.specs.declared.rule.Rule.TheVariants.{Twice, Limit, NoOperator}
use Rattle.tl_rules.specs.Parts.{is_within, natural}
use Rattle.tl_rules.specs.Rules.{breaks_if}
use Rattle.tl_rules.specs.Unbroken.{where_unbroken}
use Rattle.tl_rules.proofs.Unbroken.{map-unbroken, next-unbroken}
use Rattle.tl_line.specs.Actions.{operator_at}
use Rattle.tl_cost.specs.CostFiles.{none_given, cost_breaks, entry_breaks, with_entry, entries_breaks, given_after, costs_breaks}
use Rattle.tl_cost.specs.CostFiles.{costs_meant}
use Rattle.tl_cost.specs.PartialCosts.{entry_meaning, entries_meaning, costs_meaning}

cost-mean : (given : List (Option ℕ)) (found : Option ℕ) (z : ℤ) (at : ℕ) →
    option_and_then (λ op. if is_some (slice_index_or given op None) || not (is_within 0 1000000 z) then None else Some
    (slice_set given op (Some (natural z)))) found ≡ where_unbroken (cost_breaks given found z at)
    (slice_set given (unwrap_or found 0) (Some (natural z)))
cost-mean given None z at = cases (is_within 0 1000000 z)
  where
    cases : (w : Bool) → None ≡ where_unbroken (breaks_if (not w) Limit at ++ (NoOperator, at) ∷ []) (slice_set given 0 (Some (natural z)))
    cases true = refl
    cases false = refl
cost-mean given (Some op) z at = cases (is_some (slice_index_or given op None)) (is_within 0 1000000 z)
  where
    x : List (Option ℕ)
    x = slice_set given op (Some (natural z))

    cases : (g w : Bool) → (if g || not w then None else Some x) ≡ where_unbroken
        (breaks_if g Twice at ++ (breaks_if (not w) Limit at ++ [])) x
    cases true w = refl
    cases false true = refl
    cases false false = refl

entry-mean : (names : List (List ℕ)) (operators : List Operator) (given : List (Option ℕ)) (f : FormTree) →
    entry_meaning names operators given f ≡ where_unbroken (entry_breaks names operators given f) (with_entry names operators given f)
entry-mean names operators given (list (more_forms (symbol text _) (more_forms (integer z _) no_form)) at) =
    cost-mean given (operator_at names operators text) z at
entry-mean names operators given (symbol text at) = refl
entry-mean names operators given (integer z at) = refl
entry-mean names operators given (list no_form at) = refl
entry-mean names operators given (list (more_forms (integer z _) no_form) at) = refl
entry-mean names operators given (list (more_forms (integer z _) (more_forms g no_form)) at) = refl
entry-mean names operators given (list (more_forms (integer z _) (more_forms g (more_forms h fs))) at) = refl
entry-mean names operators given (list (more_forms (list gs _) no_form) at) = refl
entry-mean names operators given (list (more_forms (list gs _) (more_forms g no_form)) at) = refl
entry-mean names operators given (list (more_forms (list gs _) (more_forms g (more_forms h fs))) at) = refl
entry-mean names operators given (list (more_forms (symbol text _) no_form) at) = refl
entry-mean names operators given (list (more_forms (symbol text _) (more_forms (symbol other _) no_form)) at) = refl
entry-mean names operators given (list (more_forms (symbol text _) (more_forms (symbol other _) (more_forms h fs))) at) = refl
entry-mean names operators given (list (more_forms (symbol text _) (more_forms (list gs _) no_form)) at) = refl
entry-mean names operators given (list (more_forms (symbol text _) (more_forms (list gs _) (more_forms h fs))) at) = refl
entry-mean names operators given (list (more_forms (symbol text _) (more_forms (integer z _) (more_forms h fs))) at) = refl

entries-mean : (names : List (List ℕ)) (operators : List Operator) (given : List (Option ℕ)) (fs : FormTrees) →
    entries_meaning names operators given fs ≡ where_unbroken (entries_breaks names operators given fs)
    (given_after names operators given fs)
entries-mean names operators given no_form = refl
entries-mean names operators given (more_forms f fs) =
    let more = with_entry names operators given f in
    ap (λ (o : Option (List (Option ℕ))). option_and_then (λ gs. entries_meaning names operators gs fs) o)
    (entry-mean names operators given f)
    ∙ next-unbroken (λ gs. entries_meaning names operators gs fs) (entry_breaks names operators given f)
    (entries_breaks names operators more fs) more _
    (entries-mean names operators more fs)

pub costs-mean : (names : List (List ℕ)) (operators : List Operator) (fs : FormTrees) → costs_meaning names operators fs ≡
    where_unbroken (costs_breaks names operators fs) (costs_meant names operators fs)
costs-mean names operators fs =
    ap (λ (o : Option (List (Option ℕ))). option_map (map (λ (c : Option ℕ). unwrap_or c 1)) o)
    (entries-mean names operators (none_given operators) fs)
    ∙ map-unbroken (map (λ (c : Option ℕ). unwrap_or c 1)) (costs_breaks names operators fs) _
