-- The order of what the forms of a costs file break, and how many costs they stand for.
use Rattle.std.proofs.Common.{◌≡◌, ◌≤◌, ℕ, ◌+◌, ◌*◌, List, length, Option, Some, None, refl, ap, ◌∙◌, arith}
use Rattle.std.specs.Prelude.{ℤ, not, is_some, unwrap_or, Result, Ok, Err, IfErr, IfOk}
use Rattle.std.proofs.lemmas.List.{length-map, length-replicate, length-set}
use Rattle.tl_sexpr.specs.Tree.{FormTrees, no_form, more_forms}
use Rattle.tl_sexpr.specs.Offsets.{RiseFrom, AreAsRead}
use Rattle.tl_syntax.specs.declared.operator.Operator.{Operator}
use Rattle.tl_rules.specs.declared.rule.Rule.TheVariants.{Shape, Twice, Limit, NoOperator}
use Rattle.tl_rules.specs.Parts.{offset_of, is_within}
use Rattle.tl_rules.specs.declared.rule.FormFault.{FormFault}
use Rattle.tl_rules.specs.declared.rule.FormFault.TheVariants.{Breaks, NoMemory}
use Rattle.tl_rules.specs.Reads.{Reads, IsLeastFault}
use Rattle.tl_rules.proofs.Offsets.{form-within}
use Rattle.tl_rules.proofs.Order.{first-least, IsInOrder, both, none, one, tested}
use Rattle.tl_line.specs.Actions.{operator_at}
use Rattle.tl_cost.specs.CostFiles.{cost_breaks, costs_breaks, costs_meant, entries_breaks, entry_meant, entry_of_form, given_after}
use Rattle.tl_cost.specs.CostFiles.{is_given, none_given, parts_breaks, with_entry}

cost-order : (given : List (Option ℕ)) (op : Option ℕ) (z : ℤ) (at low high : ℕ) → low ≤ 64 * at + 12 → 64 * at + 30 ≤ high →
    IsInOrder low (cost_breaks given op z at) high
cost-order given op z at low high before after = both low (64 * at + 12) high _ _
    (tested (is_given given op) Twice at low (64 * at + 12) (omega arith) (omega arith))
    (both (64 * at + 12) (64 * at + 19) high _ _ (tested (not (is_within 0 1000000 z)) Limit at (64 * at + 12) (64 * at + 19) (omega arith)
    (omega arith)) (tested (not (is_some op)) NoOperator at (64 * at + 19) high (omega arith) (omega arith)))

parts-order : (names : List (List ℕ)) (operators : List Operator) (given : List (Option ℕ)) (parts : Option (List ℕ × ℤ))
    (at low high : ℕ) → low ≤ 64 * at → 64 * at + 30 ≤ high → IsInOrder low (parts_breaks names operators given parts at) high
parts-order names operators given None at low high before after = one Shape at low high (omega arith) (omega arith)
parts-order names operators given (Some parts) at low high before after =
    cost-order given (operator_at names operators parts.0) parts.1 at low high (omega arith) after

entries-order : (names : List (List ℕ)) (operators : List Operator) (given : List (Option ℕ)) (fs : FormTrees) (low next : ℕ) →
    RiseFrom low fs next → IsInOrder (64 * low) (entries_breaks names operators given fs) (64 * next)
entries-order names operators given no_form low next h = none (64 * low) (64 * next) (omega arith)
entries-order names operators given (more_forms f fs) low next h =
    let within = form-within f low h.0 h.1 in
    both (64 * low) (64 * h.0) (64 * next) _ _ (parts-order names operators given (entry_of_form f) (offset_of f) (64 * low) (64 * h.0)
    (omega (arith, within.0)) (omega (arith, within.1))) (entries-order names operators
    (with_entry names operators given f) fs h.0 next h.2)

-- the first break of a costs file is the least one
pub least-fault : (names : List (List ℕ)) (operators : List Operator) (fs : FormTrees) (r : Result (List ℕ) FormFault) →
    Reads (λ (xs : List ℕ). xs) r (costs_breaks names operators fs) (costs_meant names operators fs) → AreAsRead fs →
    IfErr r (IsLeastFault (costs_breaks names operators fs))
least-fault names operators fs (Ok costs) h rise = tt
least-fault names operators fs (Err (Breaks broken at)) h rise = first-least 0 (64 * 4194304) (costs_breaks names operators fs) (broken, at)
    (entries-order names operators (none_given operators) fs 0 4194304 rise) h
least-fault names operators fs (Err NoMemory) h rise = tt

length-given : (names : List (List ℕ)) (operators : List Operator) (given : List (Option ℕ)) (fs : FormTrees) →
    length (given_after names operators given fs) ≡ length given
length-given names operators given no_form = refl
length-given names operators given (more_forms f fs) = length-given names operators (with_entry names operators given f) fs ∙
    length-set given (entry_meant names operators f).0 (Some (entry_meant names operators f).1)

-- there is a cost for each operator
pub one-each : (names : List (List ℕ)) (operators : List Operator) (fs : FormTrees) (r : Result (List ℕ) FormFault) →
    Reads (λ (xs : List ℕ). xs) r (costs_breaks names operators fs) (costs_meant names operators fs) →
    IfOk r (λ costs. length costs ≡ length operators)
one-each names operators fs (Ok costs) h = ap length h.1 ∙ (length-map {A = Option ℕ}
    (given_after names operators (none_given operators) fs) (λ (c : Option ℕ). unwrap_or c 1) ∙
    (length-given names operators (none_given operators) fs ∙ length-replicate (length operators) (let o : Option ℕ = None in o)))
one-each names operators fs (Err fault) h = tt

pub ruleset of_files = (least-fault, one-each)
