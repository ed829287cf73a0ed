-- The order of what operators, items and domain files break.
use Rattle.std.proofs.Common.{◌≡◌, ℕ, ◌+◌, ◌*◌, ◌≤◌, List, [], ◌∷◌, ◌++◌, Bool, true, false, arith, Some}
use Rattle.std.specs.Prelude.{Option, None, ◌||◌, not, nat_lt, is_some, codes, if◌then◌else◌}
use Rattle.std.specs.List.{list_any}
use Rattle.std.specs.Str.{bytes_eq}
use Rattle.tl_sexpr.specs.Tree.{FormTree, FormTrees, symbol, integer, list, no_form, more_forms}
use Rattle.tl_formulas.specs.declared.roles.FormulaRole.TheVariants as role
use Rattle.tl_rules.specs.declared.rule.Rule.TheVariants.{Shape, Twice, NotInBound, Limit}
use Rattle.tl_formulas.specs.declared.signature.NameSignature.{NameSignature}
use Rattle.tl_domain.specs.Words as item
use Rattle.tl_rules.specs.Rules.{Break, first_break, IsLeastBreak}
use Rattle.tl_domain.specs.Words.{ItemWord, item_word}
use Rattle.tl_rules.specs.Parts.{offset_of, is_within, natural, rest_of}
use Rattle.tl_formulas.specs.Signatures.{Scope, slot_of, is_taken}
use Rattle.tl_rules.specs.Parts.{begins_with}
use Rattle.tl_domain.specs.Operators.{has_head_shape, has_more, parameters_breaks, head_name_breaks, head_parts_breaks, head_list_breaks}
use Rattle.tl_domain.specs.Operators.{head_breaks, parameters_of, leading, after_leading, bounds_clause, pre_clause, effects_clause}
use Rattle.tl_domain.specs.Operators.{occurs_in_bounds, pre_breaks, bounds_clause_breaks, pre_clause_breaks, effects_clause_breaks}
use Rattle.tl_domain.specs.Operators.{clauses_breaks, operator_breaks}
use Rattle.tl_domain.specs.Declarations.{Declarations, nothing_declared}
use Rattle.tl_domain.specs.Items.{has_item_shape, is_second_control, is_full, arity_breaks, declaration_breaks, levels_breaks, with_head}
use Rattle.tl_domain.specs.Items.{item_list_breaks, item_parts_breaks, item_breaks, declared_after, items_breaks}
use Rattle.tl_domain.specs.DomainFiles.{has_domain_shape, domain_items_breaks, domain_form_breaks, domain_file_breaks}
use Rattle.tl_sexpr.specs.Offsets.{RisesFrom, RiseFrom, AreAsRead}
use Rattle.tl_rules.proofs.Order.{IsInOrder, from, up_to, both, none, one, tested, first-least}
use Rattle.tl_rules.proofs.Offsets.{form-within, forms-within, rest-rises}
use Rattle.tl_rules.proofs.OneForm.{second_form-order}
use Rattle.tl_formulas.proofs.FormOrder.{bounds-order}
use Rattle.tl_formulas.proofs.FormulaOrder.{formula-order, effects-order}

parameters-order : (occurs : List ℕ → Bool) (earlier : Scope) (fs : FormTrees) (low next : ℕ) → RiseFrom low fs next →
    IsInOrder (64 * low) (parameters_breaks occurs earlier fs) (64 * next)
parameters-order occurs earlier no_form low next h = none (64 * low) (64 * next) (omega arith)
parameters-order occurs earlier (more_forms (symbol text at) fs) low next h =
    let first = h.1 in
    both (64 * low) (64 * at + 12) (64 * next) _ _
    (tested (is_some (slot_of earlier text)) Twice at (64 * low) (64 * at + 12) (omega (arith, first.0)) (omega arith))
    (both (64 * at + 12) (64 * h.0) (64 * next) _ _
    (tested (not (occurs text)) NotInBound at (64 * at + 12) (64 * h.0) (omega arith) (omega (arith, first.1)))
    (parameters-order occurs (earlier ++ text ∷ []) fs h.0 next h.2))
parameters-order occurs earlier (more_forms (integer z at) fs) low next h =
    let first = h.1 in
    from (64 * low) (64 * h.0) (64 * next) _ (omega (arith, first.0, first.1)) (parameters-order occurs earlier fs h.0 next h.2)
parameters-order occurs earlier (more_forms (list gs at) fs) low next h =
    let first = form-within (list gs at) low h.0 h.1 in
    from (64 * low) (64 * h.0) (64 * next) _ (omega (arith, first.0, first.1)) (parameters-order occurs earlier fs h.0 next h.2)

head_name-order : (is_old : List ℕ → Bool) (f : FormTree) (low next : ℕ) → RisesFrom low f next →
    IsInOrder (64 * low) (head_name_breaks is_old f) (64 * next)
head_name-order is_old (symbol text at) low next h = tested (is_old text) Twice at (64 * low) (64 * next) (omega (arith, h.0))
    (omega (arith, h.1))
head_name-order is_old (integer z at) low next h = none (64 * low) (64 * next) (omega (arith, h.0, h.1))
head_name-order is_old (list fs at) low next h = let parts = forms-within fs (at + 1) next h.1 in
    none (64 * low) (64 * next) (omega (arith, h.0, parts))

head_parts-order : (is_old occurs : List ℕ → Bool) (fs : FormTrees) (low next : ℕ) → RiseFrom low fs next →
    IsInOrder (64 * low) (head_parts_breaks is_old occurs fs) (64 * next)
head_parts-order is_old occurs no_form low next h = none (64 * low) (64 * next) (omega arith)
head_parts-order is_old occurs (more_forms name variables) low next h =
    both (64 * low) (64 * h.0) (64 * next) _ _ (head_name-order is_old name low h.0 h.1) (parameters-order occurs [] variables h.0 next h.2)

head_list-order : (most : ℕ) (fs : FormTrees) (at : ℕ) → IsInOrder (64 * at) (head_list_breaks most (list fs at)) (64 * (at + 1))
head_list-order most fs at =
    both (64 * at) (64 * at + 10) (64 * (at + 1)) _ _
    (tested (not (has_head_shape fs)) Shape at (64 * at) (64 * at + 10) (omega arith) (omega arith))
    (tested (has_more most fs) Limit at (64 * at + 10) (64 * (at + 1)) (omega arith) (omega arith))

head-order : (most : ℕ) (is_old occurs : List ℕ → Bool) (f : FormTree) (low next : ℕ) → RisesFrom low f next →
    IsInOrder (64 * low) (head_breaks most is_old occurs f) (64 * next)
head-order most is_old occurs (symbol text at) low next h = none (64 * low) (64 * next) (omega (arith, h.0, h.1))
head-order most is_old occurs (integer z at) low next h = none (64 * low) (64 * next) (omega (arith, h.0, h.1))
head-order most is_old occurs (list fs at) low next h =
    from (64 * low) (64 * at) (64 * next) _ (omega (arith, h.0))
    (both (64 * at) (64 * (at + 1)) (64 * next) _ _ (head_list-order most fs at) (head_parts-order is_old occurs fs (at + 1) next h.1))

pre-order : (g : NameSignature) (scope : Scope) (fs : FormTrees) (at low next : ℕ) → at + 1 ≤ low → RiseFrom low fs next →
    IsInOrder (64 * at) (pre_breaks g scope fs at) (64 * next)
pre-order g scope no_form at low next le h = one Shape at (64 * at) (64 * next) (omega arith) (omega arith)
pre-order g scope (more_forms f no_form) at low next le h =
    from (64 * at) (64 * low) (64 * next) _ (omega arith) (up_to (64 * low) (64 * h.0) (64 * next) _ (omega (arith, h.2))
    (formula-order role.State g scope f low h.0 h.1))
pre-order g scope (more_forms f (more_forms i fs)) at low next le h = let parts =
    forms-within (more_forms f (more_forms i fs)) low next h in one Shape at (64 * at) (64 * next) (omega arith) (omega arith)

-- a clause, where there is one, lies between these numbers
abbrev LiesWithin : ℕ → Option FormTree → ℕ → Type 0
LiesWithin low None next = low ≤ next
LiesWithin low (Some f) next = RisesFrom low f next

-- a leading clause lies before the forms after it
leading-rises : (word : List ℕ) (fs : FormTrees) (low next : ℕ) → RiseFrom low fs next → (middle : ℕ) ×
    LiesWithin low (leading word fs) middle × RiseFrom middle (after_leading word fs) next
leading-rises word no_form low next h = (low, omega arith, h)
leading-rises word (more_forms f fs) low next h = taken (begins_with word f)
  where
    taken : (test : Bool) → (middle : ℕ) × LiesWithin low (if test then Some f else None) middle ×
        RiseFrom middle (if test then fs else more_forms f fs) next
    taken true = (h.0, h.1, h.2)
    taken false = (low, omega arith, h)

bounds_clause-order : (g : NameSignature) (scope : Scope) (clause : Option FormTree) (low next : ℕ) → LiesWithin low clause next →
    IsInOrder (64 * low) (bounds_clause_breaks g scope clause) (64 * next)
bounds_clause-order g scope None low next h = none (64 * low) (64 * next) (omega arith)
bounds_clause-order g scope (Some f) low next h =
    let within = form-within f low next h in
    from (64 * low) (64 * (offset_of f + 1)) (64 * next) _ (omega (arith, within.0))
    (bounds-order g scope (rest_of f) (offset_of f + 1) next (rest-rises f low next h))

pre_clause-order : (g : NameSignature) (scope : Scope) (clause : Option FormTree) (low next : ℕ) → LiesWithin low clause next →
    IsInOrder (64 * low) (pre_clause_breaks g scope clause) (64 * next)
pre_clause-order g scope None low next h = none (64 * low) (64 * next) (omega arith)
pre_clause-order g scope (Some f) low next h =
    let within = form-within f low next h in
    from (64 * low) (64 * offset_of f) (64 * next) _ (omega (arith, within.0))
    (pre-order g scope (rest_of f) (offset_of f) (offset_of f + 1) next (omega arith) (rest-rises f low next h))

effects_clause-order : (g : NameSignature) (scope : Scope) (clause : Option FormTree) (low next : ℕ) → LiesWithin low clause next →
    IsInOrder (64 * low) (effects_clause_breaks g scope clause) (64 * next)
effects_clause-order g scope None low next h = none (64 * low) (64 * next) (omega arith)
effects_clause-order g scope (Some f) low next h =
    let within = form-within f low next h in
    from (64 * low) (64 * (offset_of f + 1)) (64 * next) _ (omega (arith, within.0))
    (effects-order g scope (rest_of f) (offset_of f + 1) next (rest-rises f low next h))

clauses-order : (g : NameSignature) (scope : Scope) (fs : FormTrees) (low next : ℕ) → RiseFrom low fs next →
    IsInOrder (64 * low) (clauses_breaks g scope fs) (64 * next)
clauses-order g scope fs low next h =
    let after_bounds = after_leading (codes "bounds") fs in
    let after_pre = after_leading (codes "pre") after_bounds in
    let first = leading-rises (codes "bounds") fs low next h in
    let second = leading-rises (codes "pre") after_bounds first.0 next first.2 in
    let third = leading-rises (codes "effects") after_pre second.0 next second.2 in
    let later = forms-within (after_leading (codes "effects") after_pre) third.0 next third.2 in
    both (64 * low) (64 * first.0) (64 * next) _ _
    (bounds_clause-order g scope (bounds_clause fs) low first.0 first.1)
    (both (64 * first.0) (64 * second.0) (64 * next) _ _
    (pre_clause-order g scope (pre_clause fs) first.0 second.0 second.1)
    (up_to (64 * second.0) (64 * third.0) (64 * next) _ (omega (arith, later))
    (effects_clause-order g scope (effects_clause fs) second.0 third.0 third.1)))

operator-order : (g : NameSignature) (operators : List (List ℕ)) (fs : FormTrees) (low next : ℕ) → RiseFrom low fs next →
    IsInOrder (64 * low) (operator_breaks g operators fs) (64 * next)
operator-order g operators no_form low next h = none (64 * low) (64 * next) (omega arith)
operator-order g operators (more_forms head clauses) low next h =
    both (64 * low) (64 * h.0) (64 * next) _ _
    (head-order 16 (λ text. list_any (bytes_eq text) operators) (occurs_in_bounds clauses) head low h.0 h.1)
    (clauses-order g (parameters_of head) clauses h.0 next h.2)

arity-order : (f : FormTree) (low next : ℕ) → RisesFrom low f next → IsInOrder (64 * low) (arity_breaks f) (64 * next)
arity-order (integer z at) low next h = tested (not (is_within 0 8 z)) Limit at (64 * low) (64 * next) (omega (arith, h.0))
    (omega (arith, h.1))
arity-order f low next h = let within = form-within f low next h in none (64 * low) (64 * next) (omega (arith, within.0, within.1))

levels-order : (before : ℕ) (f : FormTree) (low next : ℕ) → RisesFrom low f next → IsInOrder (64 * low) (levels_breaks before f) (64 * next)
levels-order before (integer z at) low next h = tested (not (is_within 1 64 z) || nat_lt 64 (before + natural z)) Limit at (64 * low)
    (64 * next) (omega (arith, h.0)) (omega (arith, h.1))
levels-order before f low next h = let within = form-within f low next h in none (64 * low) (64 * next) (omega (arith, within.0, within.1))

declaration-order : (g : NameSignature) (fs : FormTrees) (low next : ℕ) → RiseFrom low fs next →
    IsInOrder (64 * low) (declaration_breaks g fs) (64 * next)
declaration-order g (more_forms name (more_forms arity no_form)) low next h =
    let later = h.2 in
    both (64 * low) (64 * h.0) (64 * next) _ _
    (head_name-order (is_taken g) name low h.0 h.1)
    (up_to (64 * h.0) (64 * later.0) (64 * next) _ (omega (arith, later.2)) (arity-order arity h.0 later.0 later.1))
declaration-order g fs low next h = let parts = forms-within fs low next h in none (64 * low) (64 * next) (omega arith)

item_parts-order : (k : Declarations) (w : ItemWord) (fs : FormTrees) (low next : ℕ) → RiseFrom low fs next →
    IsInOrder (64 * low) (item_parts_breaks k w fs) (64 * next)
item_parts-order k item.Predicate rest low next h = declaration-order k.signature rest low next h
item_parts-order k item.Function rest low next h = declaration-order k.signature rest low next h
item_parts-order k item.Define (more_forms head (more_forms f no_form)) low next h =
    let later = h.2 in
    both (64 * low) (64 * h.0) (64 * next) _ _
    (head-order 8 (is_taken k.signature) (λ text. true) head low h.0 h.1)
    (up_to (64 * h.0) (64 * later.0) (64 * next) _ (omega (arith, later.2))
    (formula-order role.Body k.signature (parameters_of head) f h.0 later.0 later.1))
item_parts-order k item.Defined (more_forms n (more_forms head (more_forms f no_form))) low next h =
    let later = h.2 in
    let last = later.2 in
    both (64 * low) (64 * h.0) (64 * next) _ _
    (levels-order k.levels n low h.0 h.1)
    (both (64 * h.0) (64 * later.0) (64 * next) _ _
    (head-order 8 (is_taken k.signature) (λ text. true) head h.0 later.0 later.1)
    (up_to (64 * later.0) (64 * last.0) (64 * next) _ (omega (arith, last.2))
    (formula-order role.Body (with_head k.signature head) (parameters_of head) f later.0 last.0 last.1)))
item_parts-order k item.Operator rest low next h = operator-order k.signature k.operators rest low next h
item_parts-order k item.Control (more_forms f no_form) low next h =
    up_to (64 * low) (64 * h.0) (64 * next) _ (omega (arith, h.2)) (formula-order role.Control k.signature [] f low h.0 h.1)
item_parts-order k _ fs low next h = let parts = forms-within fs low next h in none (64 * low) (64 * next) (omega arith)

item_list-order : (k : Declarations) (w : ItemWord) (rest : FormTrees) (at : ℕ) →
    IsInOrder (64 * at) (item_list_breaks k w rest at) (64 * (at + 1))
item_list-order k w rest at =
    both (64 * at) (64 * at + 10) (64 * (at + 1)) _ _
    (tested (not (has_item_shape w rest)) Shape at (64 * at) (64 * at + 10) (omega arith) (omega arith))
    (both (64 * at + 10) (64 * at + 12) (64 * (at + 1)) _ _
    (tested (is_second_control k w) Twice at (64 * at + 10) (64 * at + 12) (omega arith) (omega arith))
    (tested (is_full k w) Limit at (64 * at + 12) (64 * (at + 1)) (omega arith) (omega arith)))

item-order : (k : Declarations) (f : FormTree) (low next : ℕ) → RisesFrom low f next → IsInOrder (64 * low) (item_breaks k f) (64 * next)
item-order k (list (more_forms (symbol text s) rest) at) low next h =
    let elements = h.1 in
    let begin = elements.1 in
    from (64 * low) (64 * at) (64 * next) _ (omega (arith, h.0))
    (both (64 * at) (64 * (at + 1)) (64 * next) _ _ (item_list-order k (item_word text) rest at)
    (from (64 * (at + 1)) (64 * elements.0) (64 * next) _ (omega (arith, begin.0, begin.1))
    (item_parts-order k (item_word text) rest elements.0 next elements.2)))
item-order k f low next h = let within = form-within f low next h in one Shape (offset_of f) (64 * low) (64 * next)
    (omega (arith, within.0)) (omega (arith, within.1))

items-order : (k : Declarations) (fs : FormTrees) (low next : ℕ) → RiseFrom low fs next →
    IsInOrder (64 * low) (items_breaks k fs) (64 * next)
items-order k no_form low next h = none (64 * low) (64 * next) (omega arith)
items-order k (more_forms f fs) low next h =
    both (64 * low) (64 * h.0) (64 * next) _ _ (item-order k f low h.0 h.1) (items-order (declared_after k f) fs h.0 next h.2)

domain_items-order : (fs : FormTrees) (low next : ℕ) → RiseFrom low fs next → IsInOrder (64 * low) (domain_items_breaks fs) (64 * next)
domain_items-order no_form low next h = none (64 * low) (64 * next) (omega arith)
domain_items-order (more_forms a no_form) low next h = let parts = forms-within (more_forms a no_form) low next h in
    none (64 * low) (64 * next) (omega arith)
domain_items-order (more_forms a (more_forms name items)) low next h =
    let later = h.2 in
    let first = form-within a low h.0 h.1 in
    let second = form-within name h.0 later.0 later.1 in
    from (64 * low) (64 * later.0) (64 * next) _ (omega (arith, first.0, first.1, second.0, second.1))
    (items-order nothing_declared items later.0 next later.2)

domain_form-order : (f : FormTree) (low next : ℕ) → RisesFrom low f next → IsInOrder (64 * low) (domain_form_breaks f) (64 * next)
domain_form-order (symbol text at) low next h = one Shape at (64 * low) (64 * next) (omega (arith, h.0)) (omega (arith, h.1))
domain_form-order (integer z at) low next h = one Shape at (64 * low) (64 * next) (omega (arith, h.0)) (omega (arith, h.1))
domain_form-order (list fs at) low next h =
    both (64 * low) (64 * (at + 1)) (64 * next) _ _
    (tested (not (has_domain_shape fs)) Shape at (64 * low) (64 * (at + 1)) (omega (arith, h.0)) (omega arith))
    (domain_items-order fs (at + 1) next h.1)

file-order : (fs : FormTrees) (next : ℕ) → 1 ≤ next → RiseFrom 0 fs next → IsInOrder (64 * 0) (domain_file_breaks fs) (64 * next)
file-order no_form next le h = one Shape 0 (64 * 0) (64 * next) (omega arith) (omega arith)
file-order (more_forms f fs) next le h =
    both (64 * 0) (64 * h.0) (64 * next) _ _ (domain_form-order f 0 h.0 h.1) (second_form-order fs h.0 next h.2)

pub first-break-least : (fs : FormTrees) (b : Break) → AreAsRead fs → first_break (domain_file_breaks fs) ≡ Some b →
    IsLeastBreak (domain_file_breaks fs) b
first-break-least fs b h is = first-least (64 * 0) (64 * 4194304) (domain_file_breaks fs) b (file-order fs 4194304 (omega arith) h) is
