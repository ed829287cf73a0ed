-- The order of what terms, arguments of `goal`, bounds and variables break.
use Rattle.std.proofs.Common.{ℕ, ◌+◌, ◌*◌, ◌<◌, ◌≤◌, List, [], ◌∷◌, ◌++◌, arith, Some, None}
use Rattle.std.specs.Prelude.{Option, ◌==◌, ◌&&◌, not, is_some, codes}
use Rattle.tl_sexpr.specs.Tree.{FormTree, FormTrees, symbol, integer, list, no_form, more_forms}
use Rattle.tl_syntax.specs.declared.value.Op.{Op}
use Rattle.tl_syntax.specs.declared.value.Cmp.TheVariants as cmp
use Rattle.tl_rules.specs.declared.rule.Rule.TheVariants.{Shape, Unknown, Twice, Arity, Unbound, Shadow, NotInBound, GoalArg}
use Rattle.tl_formulas.specs.declared.signature.NameSignature.{NameSignature}
use Rattle.tl_formulas.specs.declared.words.FormulaWord.{FormulaWord}
use Rattle.tl_formulas.specs.declared.words.FormulaWord.TheVariants as word
use Rattle.tl_formulas.specs.Words.{operation_named, formula_word}
use Rattle.tl_rules.specs.Parts.{is_variable, offset_of, count, is_list, any_list, is_word, occurs_in, elements_of, rest_of}
use Rattle.tl_formulas.specs.Signatures.{Table, Scope, place_of, has_arity, slot_of, call_breaks_at, call_breaks, unbound_breaks}
use Rattle.tl_formulas.specs.Terms.{term_call_breaks, term_breaks, term_list_breaks, terms_breaks}
use Rattle.tl_formulas.specs.Goals.{arguments_breaks, is_flat, is_miscounted_at, miscounted_breaks, other_goal_breaks, goal_breaks}
use Rattle.tl_formulas.specs.Bounds.{flat_breaks, equality_breaks, goal_bound_breaks, bound_call_breaks, bound_breaks, bounds_breaks}
use Rattle.tl_formulas.specs.Variables.{variable_breaks, variables_breaks}
use Rattle.tl_sexpr.specs.Offsets.{RisesFrom, RiseFrom}
use Rattle.tl_rules.proofs.Offsets.{form-within, forms-within, rest-rises}
use Rattle.tl_rules.proofs.Order.{IsInOrder, from, up_to, both, none, one, tested, either}

pub call-order : (table : Table) (text : List ℕ) (n at low high : ℕ) → low ≤ 64 * at + 11 → 64 * at + 13 ≤ high →
    IsInOrder low (call_breaks table text n at) high
call-order table text n at low high before after = called (place_of table text)
  where
    called : (found : Option ℕ) → IsInOrder low (call_breaks_at table found n at) high
    called None = one Unknown at low high (omega arith) (omega arith)
    called (Some i) = tested (not (has_arity table i n)) Arity at low high (omega arith) (omega arith)

pub unbound-order : (scope : Scope) (f : FormTree) (low next : ℕ) → RisesFrom low f next →
    IsInOrder (64 * low) (unbound_breaks scope f) (64 * next)
unbound-order scope (symbol text at) low next h = tested (is_variable text && not (is_some (slot_of scope text))) Unbound at (64 * low)
    (64 * next) (omega (arith, h.0)) (omega (arith, h.1))
unbound-order scope (integer z at) low next h = none (64 * low) (64 * next) (omega (arith, h.0, h.1))
unbound-order scope (list fs at) low next h = let parts = forms-within fs (at + 1) next h.1 in
    none (64 * low) (64 * next) (omega (arith, h.0, parts))

-- what the list of a term breaks itself
term_call-order : (functions : Table) (op : Option Op) (text : List ℕ) (rest : FormTrees) (at : ℕ) →
    IsInOrder (64 * at) (term_call_breaks functions op text rest at) (64 * at + 64)
term_call-order functions (Some op) text rest at = tested (not (count rest == 2)) Shape at (64 * at) (64 * at + 64) (omega arith)
    (omega arith)
term_call-order functions None text rest at = call-order functions text (count rest) at (64 * at) (64 * at + 64) (omega arith) (omega arith)

mutual
  unfolding term_breaks

  pub term-order : (functions : Table) (scope : Scope) (f : FormTree) (low next : ℕ) → RisesFrom low f next →
      IsInOrder (64 * low) (term_breaks functions scope f) (64 * next)
  term-order functions scope (symbol text at) low next h = unbound-order scope (symbol text at) low next h
  term-order functions scope (integer z at) low next h = none (64 * low) (64 * next) (omega (arith, h.0, h.1))
  term-order functions scope (list fs at) low next h = from (64 * low) (64 * at) (64 * next) _ (omega (arith, h.0))
      (term_list-order functions scope fs at next h.1)

  pub term_list-order : (functions : Table) (scope : Scope) (fs : FormTrees) (at next : ℕ) → RiseFrom (at + 1) fs next →
      IsInOrder (64 * at) (term_list_breaks functions scope fs at) (64 * next)
  term_list-order functions scope no_form at next h = one Shape at (64 * at) (64 * next) (omega arith) (omega arith)
  term_list-order functions scope (more_forms (symbol text s) rest) at next h =
      let first = form-within (symbol text s) (at + 1) h.0 h.1 in
      both (64 * at) (64 * at + 64) (64 * next) _ _
      (term_call-order functions (operation_named text) text rest at)
      (from (64 * at + 64) (64 * h.0) (64 * next) _ (omega (arith, first.0, first.1)) (terms-order functions scope rest h.0 next h.2))
  term_list-order functions scope (more_forms (integer z s) rest) at next h =
      let parts = forms-within (more_forms (integer z s) rest) (at + 1) next h in
      one Shape at (64 * at) (64 * next) (omega arith) (omega arith)
  term_list-order functions scope (more_forms (list fs s) rest) at next h =
      let parts = forms-within (more_forms (list fs s) rest) (at + 1) next h in
      one Shape at (64 * at) (64 * next) (omega arith) (omega arith)

  pub terms-order : (functions : Table) (scope : Scope) (fs : FormTrees) (low next : ℕ) → RiseFrom low fs next →
      IsInOrder (64 * low) (terms_breaks functions scope fs) (64 * next)
  terms-order functions scope no_form low next h = none (64 * low) (64 * next) (omega arith)
  terms-order functions scope (more_forms f fs) low next h =
      both (64 * low) (64 * h.0) (64 * next) _ _ (term-order functions scope f low h.0 h.1) (terms-order functions scope fs h.0 next h.2)

pub arguments-order : (scope : Scope) (fs : FormTrees) (low next : ℕ) → RiseFrom low fs next →
    IsInOrder (64 * low) (arguments_breaks scope fs) (64 * next)
arguments-order scope no_form low next h = none (64 * low) (64 * next) (omega arith)
arguments-order scope (more_forms f fs) low next h =
    both (64 * low) (64 * h.0) (64 * next) _ _ (unbound-order scope f low h.0 h.1) (arguments-order scope fs h.0 next h.2)

-- the elements of a list, and those after its first, stand after it
pub elements-rise : (f : FormTree) (low next : ℕ) → RisesFrom low f next → RiseFrom (offset_of f + 1) (elements_of f) next
elements-rise (symbol text at) low next h = omega (arith, h.1)
elements-rise (integer z at) low next h = omega (arith, h.1)
elements-rise (list fs at) low next h = h.1

miscounted-order : (table : Table) (f : FormTree) → IsInOrder (64 * offset_of f) (miscounted_breaks table f) (64 * offset_of f + 13)
miscounted-order table (symbol text at) = none (64 * at) (64 * at + 13) (omega arith)
miscounted-order table (integer z at) = none (64 * at) (64 * at + 13) (omega arith)
miscounted-order table (list no_form at) = none (64 * at) (64 * at + 13) (omega arith)
miscounted-order table (list (more_forms (symbol text s) rest) at) = tested
    (is_miscounted_at table (place_of table text) (count rest)) Arity at (64 * at) (64 * at + 13) (omega arith) (omega arith)
miscounted-order table (list (more_forms (integer z s) rest) at) = none (64 * at) (64 * at + 13) (omega arith)
miscounted-order table (list (more_forms (list fs s) rest) at) = none (64 * at) (64 * at + 13) (omega arith)

-- a list that should name something of the table, before its arguments
counted-order : (table : Table) (f : FormTree) (low next : ℕ) → low ≤ 64 * offset_of f →
    IsInOrder low (miscounted_breaks table f) (64 * (offset_of f + 1))
counted-order table f low next le =
    from low (64 * offset_of f) (64 * (offset_of f + 1)) _ le (up_to (64 * offset_of f) (64 * offset_of f + 13) (64 * (offset_of f + 1)) _
    (omega arith) (miscounted-order table f))

-- the arguments of a list
rest-order : (scope : Scope) (f : FormTree) (low next : ℕ) → RisesFrom low f next →
    IsInOrder (64 * (offset_of f + 1)) (arguments_breaks scope (rest_of f)) (64 * next)
rest-order scope f low next h = arguments-order scope (rest_of f) (offset_of f + 1) next (rest-rises f low next h)

other_goal-order : (g : NameSignature) (scope : Scope) (fs : FormTrees) (at next : ℕ) → RiseFrom (at + 1) fs next →
    IsInOrder (64 * at + 13) (other_goal_breaks g scope fs at) (64 * next)
other_goal-order g scope no_form at next h = one GoalArg at (64 * at + 13) (64 * next) (omega arith) (omega arith)
other_goal-order g scope (more_forms a no_form) at next h =
    let parts = forms-within (more_forms a no_form) (at + 1) next h in one GoalArg at (64 * at + 13) (64 * next) (omega arith) (omega arith)
other_goal-order g scope (more_forms a (more_forms fact no_form)) at next h =
    let parts = forms-within (more_forms a (more_forms fact no_form)) (at + 1) next h in
    let begin = form-within a (at + 1) h.0 h.1 in
    let later = h.2 in
    let middle = form-within fact h.0 later.0 later.1 in
    either (is_word (codes "not") a && is_flat g.predicates fact) (64 * at + 13) (64 * next) _ _
    (both (64 * at + 13) (64 * (offset_of fact + 1)) (64 * next) _ _
    (counted-order g.predicates fact (64 * at + 13) next (omega (arith, begin.0, begin.1, middle.0)))
    (up_to (64 * (offset_of fact + 1)) (64 * later.0) (64 * next) _ (omega (arith, later.2)) (rest-order scope fact h.0 later.0 later.1)))
    (one GoalArg at (64 * at + 13) (64 * next) (omega arith) (omega arith))
other_goal-order g scope (more_forms a (more_forms place (more_forms value no_form))) at next h =
    let parts = forms-within (more_forms a (more_forms place (more_forms value no_form))) (at + 1) next h in
    let begin = form-within a (at + 1) h.0 h.1 in
    let later = h.2 in
    let last = later.2 in
    let middle = form-within place h.0 later.0 later.1 in
    either (is_word (codes "=") a && is_flat g.functions place && not (is_list value)) (64 * at + 13) (64 * next) _ _
    (both (64 * at + 13) (64 * (offset_of place + 1)) (64 * next) _ _
    (counted-order g.functions place (64 * at + 13) next (omega (arith, begin.0, begin.1, middle.0)))
    (both (64 * (offset_of place + 1)) (64 * later.0) (64 * next) _ _
    (rest-order scope place h.0 later.0 later.1)
    (up_to (64 * later.0) (64 * last.0) (64 * next) _ (omega (arith, last.2)) (unbound-order scope value later.0 last.0 last.1))))
    (one GoalArg at (64 * at + 13) (64 * next) (omega arith) (omega arith))
other_goal-order g scope (more_forms a (more_forms b (more_forms c (more_forms d fs)))) at next h =
    let parts = forms-within (more_forms a (more_forms b (more_forms c (more_forms d fs)))) (at + 1) next h in
    one GoalArg at (64 * at + 13) (64 * next) (omega arith) (omega arith)

pub goal-order : (g : NameSignature) (scope : Scope) (f : FormTree) (low next : ℕ) → RisesFrom low f next →
    IsInOrder (64 * low) (goal_breaks g scope f) (64 * next)
unfolding goal_breaks
goal-order g scope f low next h =
    let within = form-within f low next h in
    both (64 * low) (64 * offset_of f + 13) (64 * next) _ _
    (from (64 * low) (64 * offset_of f) (64 * offset_of f + 13) _ (omega (arith, within.0)) (miscounted-order g.predicates f))
    (either (is_flat g.predicates f) (64 * offset_of f + 13) (64 * next) _ _
    (from (64 * offset_of f + 13) (64 * (offset_of f + 1)) (64 * next) _ (omega arith) (rest-order scope f low next h))
    (other_goal-order g scope (elements_of f) (offset_of f) next (elements-rise f low next h)))

flat-order : (table : Table) (scope : Scope) (text : List ℕ) (rest : FormTrees) (at low next : ℕ) → at + 1 ≤ low → RiseFrom low rest next →
    IsInOrder (64 * at) (flat_breaks table scope text rest at) (64 * next)
flat-order table scope text rest at low next le h =
    both (64 * at) (64 * at + 10) (64 * next) _ _
    (tested (any_list rest) Shape at (64 * at) (64 * at + 10) (omega arith) (omega arith))
    (both (64 * at + 10) (64 * at + 64) (64 * next) _ _
    (call-order table text (count rest) at (64 * at + 10) (64 * at + 64) (omega arith) (omega arith))
    (from (64 * at + 64) (64 * low) (64 * next) _ (omega arith) (arguments-order scope rest low next h)))

equality-order : (g : NameSignature) (scope : Scope) (fs : FormTrees) (at low next : ℕ) → at + 1 ≤ low → RiseFrom low fs next →
    IsInOrder (64 * at) (equality_breaks g scope fs at) (64 * next)
equality-order g scope (more_forms (list (more_forms (symbol text s) rest) place) (more_forms value no_form)) at low next le h =
    let parts = forms-within (more_forms (list (more_forms (symbol text s) rest) place) (more_forms value no_form)) low next h in
    let called = h.1 in
    let elements = called.1 in
    let begin = elements.1 in
    let later = h.2 in
    both (64 * at) (64 * at + 10) (64 * next) _ _
    (tested (is_list value) Shape at (64 * at) (64 * at + 10) (omega arith) (omega arith))
    (both (64 * at + 10) (64 * h.0) (64 * next) _ _
    (from (64 * at + 10) (64 * place) (64 * h.0) _ (omega (arith, called.0))
    (flat-order g.functions scope text rest place elements.0 h.0 (omega (arith, begin.0, begin.1)) elements.2))
    (up_to (64 * h.0) (64 * later.0) (64 * next) _ (omega (arith, later.2)) (unbound-order scope value h.0 later.0 later.1)))
equality-order g scope fs at low next le h = let parts = forms-within fs low next h in
    one Shape at (64 * at) (64 * next) (omega arith) (omega arith)

goal_bound-order : (g : NameSignature) (scope : Scope) (fs : FormTrees) (at low next : ℕ) → at + 1 ≤ low → RiseFrom low fs next →
    IsInOrder (64 * at) (goal_bound_breaks g scope fs at) (64 * next)
goal_bound-order g scope (more_forms f no_form) at low next le h =
    from (64 * at) (64 * low) (64 * next) _ (omega arith) (up_to (64 * low) (64 * h.0) (64 * next) _ (omega (arith, h.2))
    (goal-order g scope f low h.0 h.1))
goal_bound-order g scope fs at low next le h = let parts = forms-within fs low next h in
    one Shape at (64 * at) (64 * next) (omega arith) (omega arith)

bound_call-order : (g : NameSignature) (scope : Scope) (w : FormulaWord) (text : List ℕ) (rest : FormTrees) (at low next : ℕ) →
    at + 1 ≤ low → RiseFrom low rest next → IsInOrder (64 * at) (bound_call_breaks g scope w text rest at) (64 * next)
bound_call-order g scope (word.Compare cmp.Eq) text rest at low next le h = equality-order g scope rest at low next le h
bound_call-order g scope word.Goal text rest at low next le h = goal_bound-order g scope rest at low next le h
bound_call-order g scope _ text rest at low next le h = flat-order g.predicates scope text rest at low next le h

pub bound-order : (g : NameSignature) (scope : Scope) (f : FormTree) (low next : ℕ) → RisesFrom low f next →
    IsInOrder (64 * low) (bound_breaks g scope f) (64 * next)
unfolding bound_breaks
bound-order g scope (list (more_forms (symbol text s) rest) at) low next h =
    let elements = h.1 in
    let begin = elements.1 in
    from (64 * low) (64 * at) (64 * next) _ (omega (arith, h.0)) (bound_call-order g scope (formula_word text) text rest at elements.0 next
    (omega (arith, begin.0, begin.1)) elements.2)
bound-order g scope f low next h = let within = form-within f low next h in
    one Shape (offset_of f) (64 * low) (64 * next) (omega (arith, within.0)) (omega (arith, within.1))

pub bounds-order : (g : NameSignature) (scope : Scope) (fs : FormTrees) (low next : ℕ) → RiseFrom low fs next →
    IsInOrder (64 * low) (bounds_breaks g scope fs) (64 * next)
bounds-order g scope no_form low next h = none (64 * low) (64 * next) (omega arith)
bounds-order g scope (more_forms f fs) low next h =
    both (64 * low) (64 * h.0) (64 * next) _ _ (bound-order g scope f low h.0 h.1) (bounds-order g scope fs h.0 next h.2)

variable-order : (earlier scope : Scope) (bound : FormTree) (text : List ℕ) (at low next : ℕ) → low ≤ at → at < next →
    IsInOrder (64 * low) (variable_breaks earlier scope bound text at) (64 * next)
variable-order earlier scope bound text at low next before after =
    both (64 * low) (64 * at + 12) (64 * next) _ _
    (tested (is_some (slot_of earlier text)) Twice at (64 * low) (64 * at + 12) (omega arith) (omega arith))
    (both (64 * at + 12) (64 * at + 15) (64 * next) _ _
    (tested (is_some (slot_of scope text)) Shadow at (64 * at + 12) (64 * at + 15) (omega arith) (omega arith))
    (tested (not (occurs_in text bound)) NotInBound at (64 * at + 15) (64 * next) (omega arith) (omega arith)))

variables-order : (earlier scope : Scope) (bound : FormTree) (fs : FormTrees) (low next : ℕ) → RiseFrom low fs next →
    IsInOrder (64 * low) (variables_breaks earlier scope bound fs) (64 * next)
variables-order earlier scope bound no_form low next h = none (64 * low) (64 * next) (omega arith)
variables-order earlier scope bound (more_forms (symbol text at) fs) low next h =
    let first = h.1 in
    both (64 * low) (64 * h.0) (64 * next) _ _ (variable-order earlier scope bound text at low h.0 first.0 first.1)
    (variables-order (earlier ++ text ∷ []) scope bound fs h.0 next h.2)
variables-order earlier scope bound (more_forms (integer z at) fs) low next h =
    let first = h.1 in
    from (64 * low) (64 * h.0) (64 * next) _ (omega (arith, first.0, first.1)) (variables-order earlier scope bound fs h.0 next h.2)
variables-order earlier scope bound (more_forms (list gs at) fs) low next h =
    let first = form-within (list gs at) low h.0 h.1 in
    from (64 * low) (64 * h.0) (64 * next) _ (omega (arith, first.0, first.1)) (variables-order earlier scope bound fs h.0 next h.2)

pub variable_list-order : (scope : Scope) (bound f : FormTree) (low next : ℕ) → RisesFrom low f next →
    IsInOrder (64 * low) (variables_breaks [] scope bound (elements_of f)) (64 * next)
variable_list-order scope bound f low next h =
    let within = form-within f low next h in
    from (64 * low) (64 * (offset_of f + 1)) (64 * next) _ (omega (arith, within.0))
    (variables-order [] scope bound (elements_of f) (offset_of f + 1) next (elements-rise f low next h))
