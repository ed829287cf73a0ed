-- Worked examples of the definitions.
use Rattle.std.proofs.Common.{◌≡◌, ◌≢◌, ◌^◌, ◌-◌, ◌+◌, ◌%◌, slice_index_or, ℕ, suc, List, [], ◌∷◌, true, false, cond, Some, None}
use Rattle.std.proofs.Common.{true≢false, Less, refl, sym, ap, ◌∙◌}
use Rattle.std.specs.Prelude.{pos}
use Rattle.std.specs.List.{list_any}
use Rattle.std.proofs.Common.{arith as numbers}
use borrow.Author.Tests.{le-ltb}
use Rattle.std.specs.FinSet as set
use Rattle.std.specs.FinMap as dict
use Rattle.std.specs.Ordering.{eq_by_cmp}
use Rattle.tl_syntax.specs.Assignment.{Assignment, no_values}
use Rattle.tl_terms.specs.Bounds.{same_value}
use Rattle.tl_terms.specs.Definitions.{true_at_level, tests_of, situation_of}
use Rattle.tl_syntax.specs.Effects.{EffectTree, add, del, assign, EffectTrees, no_effect, more_effects}
use Rattle.tl_terms.specs.Idle.{idle_true}
use Rattle.tl_terms.specs.Looked.{looked_in_term, LookedTable, looked_in_state, looked_in_basics, looked_by_progressing, looked_by_idling}
use Rattle.tl_terms.specs.Operations.{Operation, IsPastRange}
use Rattle.tl_terms.specs.Orders.{plan_cmp}
use Rattle.tl_terms.specs.Problem.{PlainProblem}
use Rattle.tl_terms.specs.Progression.{progressed}
use Rattle.tl_terms.specs.Run.{Holds, Run, state_at, Satisfies, SatisfiesAlong}
use Rattle.tl_syntax.proofs.Same.{formula_discrete}
use Rattle.tl_terms.specs.Simplification.{is_yes, same_formula, and_parts, or_parts, without_repeats, simplified_and, simplified_or}
use Rattle.tl_terms.specs.Simplification.{simplified_not}
use Rattle.tl_terms.specs.Situation.{Situation}
use Rattle.tl_terms.specs.Step.{adds, dels, sets, effect_instances, changed, applied, step}
use Rattle.tl_syntax.specs.Substitution.{substituted_term, substituted}
use Rattle.tl_terms.specs.Terms.{term_value}
use Rattle.tl_syntax.proofs.TotalOrders.{key_total}
use Rattle.tl_syntax.specs.Trees.{TermTree, value, place, no_term, more_terms, FormulaTree, verum, falsum, atom, defined, compare, negation}
use Rattle.tl_syntax.specs.Trees.{conjunction, disjunction, next, always, eventually, until, within, during, no_formula, formulas_of_list}
use Rattle.tl_syntax.specs.Trees.{arith}
use Rattle.tl_terms.specs.Truth.{state_true}
use Rattle.tl_syntax.specs.Keys.{Key, value_cmp, key_cmp}
use Rattle.tl_terms.specs.World.{World, has_fact, value_at}
use Rattle.tl_syntax.specs.declared.value.Value.{Value}
use Rattle.tl_syntax.specs.declared.action.Action.{Action}
use Rattle.tl_syntax.specs.declared.value.Value.TheVariants.{Int, Sym}
use Rattle.tl_syntax.specs.declared.value.Op.TheVariants.{Plus}
use Rattle.tl_syntax.specs.declared.value.Cmp.TheVariants as cmp

-- ---- what the examples stand on

-- a world with these facts and these places
abbrev pub world : List Key → List (Key × Value) → World
world facts places = record { facts = set.from_list facts; places = dict.from_entries places }

-- the world without facts and places
abbrev pub nothing : World
nothing = world [] []

-- a world under an empty goal list, with no definition
abbrev pub alone : World → Situation
alone w = record { world = w; goal = nothing; avoid = nothing; table = λ n vs. false }

-- a symbol as a term
abbrev pub symbol : ℕ → TermTree
symbol n = value (Sym n)

-- an integer as a term
abbrev pub integer : ℕ → TermTree
integer n = value (Int (pos n))

-- predicate p of no argument
abbrev pub fact : ℕ → FormulaTree
fact p = atom p no_term

-- what stands in a world
pub has_fact-world : (facts : List Key) (places : List (Key × Value)) (k : Key) → has_fact (world facts places) k ≡
    list_any (eq_by_cmp key_cmp k) facts
has_fact-world facts places k = set.contains-from_list key_total facts k

-- a place has there the first value that is listed for it
pub value_at-world : (facts : List Key) (places : List (Key × Value)) (k : Key) → value_at (world facts places) k ≡
    dict.find key_cmp k places
value_at-world facts places k = dict.get-from_entries key_total places k

-- ---- terms and comparisons

-- an operation on a symbol, as `(+ a 1)`, is undefined
plus_of_a_symbol : (w : World) (e : Assignment) → term_value w e (arith Plus (symbol 0) (integer 1) 0) ≡ None
unfolding term_value
plus_of_a_symbol w e = refl

-- `(+ 2 3)` is 5
plus_of_integers : (w : World) (e : Assignment) → term_value w e (arith Plus (integer 2) (integer 3) 0) ≡ Some (Int (pos 5))
unfolding term_value
plus_of_integers w e = refl

-- a place without a value is not equal to itself
undefined_is_not_itself : (e : Assignment) → state_true (alone nothing) e (compare cmp.Eq (place 0 no_term) (place 0 no_term)) ≡ false
unfolding state_true term_value
undefined_is_not_itself e = ap (λ o. same_value o o) (value_at-world [] [] (0, []))

-- a symbol is no integer
symbol_is_no_integer : (s : Situation) (e : Assignment) → state_true s e (compare cmp.Eq (symbol 0) (integer 1)) ≡ false
unfolding state_true term_value
symbol_is_no_integer s e = refl

-- symbols are in no order
symbols_are_in_no_order : (s : Situation) (e : Assignment) → state_true s e (compare cmp.Less (symbol 0) (symbol 1)) ≡ false
unfolding state_true term_value
symbols_are_in_no_order s e = refl

-- ---- simplification

-- a formula is the same as itself
pub same-itself : (f : FormulaTree) → same_formula f f ≡ true
unfolding same_formula
same-itself f = (elim (formula_discrete f f) as (λ d. is_yes d ≡ true) [ yes e ↦ refl | no n ↦ absurd (n refl) ])

-- and as no other
pub same-other : (f g : FormulaTree) → f ≢ g → same_formula f g ≡ false
unfolding same_formula
same-other f g n = (elim (formula_discrete f g) as (λ d. is_yes d ≡ false) [ yes e ↦ absurd (n e) | no m ↦ refl ])

-- two atoms of different predicates differ
different : fact 0 ≢ fact 1
different e = cc

-- the conjunction of `(and f g)`, `true` and `f` is `(and f g)`
conjunction_of_parts : simplified_and (conjunction (formulas_of_list (fact 0 ∷ fact 1 ∷ [])) ∷ verum ∷ fact 0 ∷ []) ≡
    conjunction (formulas_of_list (fact 0 ∷ fact 1 ∷ []))
unfolding simplified_and and_parts without_repeats
conjunction_of_parts = rw (
  same-other (fact 0) (fact 1) different,
  same-other (fact 1) (fact 0) (λ e. different (sym e)),
  same-itself (fact 0),
) refl

-- the disjunction of `f` and `true` is `true`
disjunction_with_true : simplified_or (fact 0 ∷ verum ∷ []) ≡ verum
unfolding simplified_or or_parts
disjunction_with_true = refl

-- the negation of `(not f)` is `f`
negation_of_a_negation : (f : FormulaTree) → simplified_not (negation f) ≡ f
unfolding simplified_not
negation_of_a_negation f = refl

-- ---- progression

-- `(next (and))` progresses to `(and)` as it is written, and not to the constant
next_of_no_part : (s : Situation) → progressed s no_values (next (conjunction no_formula)) ≡ conjunction no_formula
unfolding progressed substituted
next_of_no_part s = refl

-- `(next (or))` progresses to `(or)`, which is not FALSE; one state later it is
next_of_no_choice : (s : Situation) → progressed s no_values (next (disjunction no_formula)) ≡ disjunction no_formula
unfolding progressed substituted
next_of_no_choice s = refl

-- `(or)` progresses to FALSE
no_choice_is_false_later : (s : Situation) → progressed s no_values (disjunction no_formula) ≡ falsum
unfolding progressed simplified_or without_repeats
no_choice_is_false_later s = refl

-- the idling check of `(and)` is true
idling_of_no_part : (s : Situation) → idle_true s no_values (conjunction no_formula) ≡ true
unfolding idle_true
idling_of_no_part s = refl

-- `on` of a symbol
abbrev pub on : ℕ → FormulaTree
on n = atom 0 (more_terms (symbol n) no_term)

-- the world in which `on` is true of one symbol alone
abbrev pub only_on : ℕ → World
only_on n = world ((0, Sym n ∷ []) ∷ []) []

-- `(until (not (on a)) (on b))` in an empty world progresses to itself
until_waits : progressed (alone nothing) no_values (until (negation (on 0)) (on 1)) ≡ until (negation (on 0)) (on 1)
unfolding progressed state_true term_value simplified_or simplified_and simplified_not and_parts or_parts without_repeats substituted
    substituted_term
until_waits = rw (has_fact-world [] [] (0, Sym 0 ∷ []), has_fact-world [] [] (0, Sym 1 ∷ [])) refl

-- the same where `a` is on and `b` is not progresses to FALSE
until_fails : progressed (alone (only_on 0)) no_values (until (negation (on 0)) (on 1)) ≡ falsum
unfolding progressed state_true term_value simplified_or simplified_and simplified_not and_parts or_parts without_repeats substituted
    substituted_term
until_fails = rw (has_fact-world ((0, Sym 0 ∷ []) ∷ []) [] (0, Sym 0 ∷ []), has_fact-world ((0, Sym 0 ∷ []) ∷ []) [] (0, Sym 1 ∷ [])) refl

-- `within` one step what is not yet so has to come now
within_counts_down : progressed (alone nothing) no_values (within 1 (on 0)) ≡ within 0 (on 0)
unfolding progressed state_true term_value simplified_or or_parts without_repeats substituted substituted_term
within_counts_down = rw (has_fact-world [] [] (0, Sym 0 ∷ [])) refl

-- and where it does not come now, it is too late
within_ends : progressed (alone nothing) no_values (within 0 (on 0)) ≡ falsum
unfolding progressed state_true term_value
within_ends = rw (has_fact-world [] [] (0, Sym 0 ∷ [])) refl

-- `for` two steps what is so has to stay so for one more
for_counts_down : progressed (alone (only_on 0)) no_values (during 2 (on 0)) ≡ during 1 (on 0)
unfolding progressed state_true term_value simplified_and and_parts without_repeats substituted substituted_term
for_counts_down = rw (has_fact-world ((0, Sym 0 ∷ []) ∷ []) [] (0, Sym 0 ∷ [])) refl

-- ---- steps

-- a problem with one operator of these effects
abbrev problem_with : EffectTrees → PlainProblem
problem_with es = record {
  first = nothing;
  goal = nothing;
  avoid = nothing;
  definitions = [];
  operators = (record { params = []; bounds = []; pre = verum; effects = es }) ∷ [];
  control = verum;
}

-- the action of that operator
abbrev act : Action
act = record { op = 0; args = [] }

-- two effects
abbrev two_effects : EffectTree → EffectTree → EffectTrees
two_effects x y = more_effects x (more_effects y no_effect)

-- a step that deletes and adds one fact is lawful
deletes_and_adds : (w : World) → step (problem_with (two_effects (del 0 no_term) (add 0 no_term))) w act ≡
    Some (changed w (dels 0 (Some []) ∷ adds 0 (Some []) ∷ []))
unfolding step applied effect_instances term_value state_true
deletes_and_adds w = refl

-- and the fact is there after it
added_stays : (w : World) → has_fact (changed w (dels 0 (Some []) ∷ adds 0 (Some []) ∷ [])) (0, []) ≡ true
unfolding changed
added_stays w = set.contains-insert key_total (set.remove w.facts (0, [])) (0, []) (0, [])

-- two values for one place clash
clashes : (w : World) → step (problem_with (two_effects (assign 0 no_term (integer 1)) (assign 0 no_term (integer 2)))) w act ≡ None
unfolding step applied effect_instances term_value state_true
clashes w = refl

-- one value for one place, twice, does not
sets_twice : (w : World) → step (problem_with (two_effects (assign 0 no_term (integer 1)) (assign 0 no_term (integer 1)))) w act ≡
    Some (changed w (sets 0 (Some []) (Some (Int (pos 1))) ∷ sets 0 (Some []) (Some (Int (pos 1))) ∷ []))
unfolding step applied effect_instances term_value state_true
sets_twice w = refl

-- a place that is set to an undefined value makes the action impossible
sets_undefined : step (problem_with (more_effects (assign 0 no_term (place 1 no_term)) no_effect)) nothing act ≡ None
unfolding step applied effect_instances term_value state_true situation_of
sets_undefined = rw (value_at-world [] [] (1, [])) refl

-- ---- definitions

-- a problem with one definition of no variable, whose body is the negation of its own name
abbrev problem_of_levels : ℕ → PlainProblem
problem_of_levels n = record {
  first = nothing;
  goal = nothing;
  avoid = nothing;
  definitions = (record { params = []; body = negation (defined 0 no_term); levels = n }) ∷ [];
  operators = [];
  control = verum;
}

-- at level 1 its own name is false, so the body is true
true_at_one_level : (w : World) → state_true (situation_of (problem_of_levels 1) w) no_values (defined 0 no_term) ≡ true
unfolding situation_of tests_of true_at_level state_true term_value
true_at_one_level w = refl

-- at level 2 its own name is true, so the body is false
false_at_two_levels : (w : World) → state_true (situation_of (problem_of_levels 2) w) no_values (defined 0 no_term) ≡ false
unfolding situation_of tests_of true_at_level state_true term_value
false_at_two_levels w = refl

-- ---- runs

-- the run on which `on` of no argument is true in every second world, from the first on
abbrev blinking : Run
blinking = record { stem = []; first = world ((0, []) ∷ []) []; rest = nothing ∷ [] }

-- the world at a position is by its remainder
blinking-at : (i : ℕ) → state_at blinking i ≡ slice_index_or (world ((0, []) ∷ []) [] ∷ nothing ∷ []) ((i - 0) % 2)
    (world ((0, []) ∷ []) [])
unfolding state_at
blinking-at i = ap (λ b. cond b (world ((0, []) ∷ []) []) (slice_index_or (world ((0, []) ∷ []) [] ∷ nothing ∷ []) ((i - 0) % 2)
    (world ((0, []) ∷ []) []))) (le-ltb i 0 (omega numbers))

-- what `on` is at a position
blinking-on : (p : PlainProblem) (i n : ℕ) → (i - 0) % 2 ≡ n → state_true (situation_of p (state_at blinking i)) no_values (fact 0) ≡
    has_fact (slice_index_or (world ((0, []) ∷ []) [] ∷ nothing ∷ []) n (world ((0, []) ∷ []) [])) (0, [])
unfolding situation_of state_true term_value
blinking-on p i n e = ap (λ w. has_fact w (0, [])) (blinking-at i ∙ ap
    (λ k. slice_index_or (world ((0, []) ∷ []) [] ∷ nothing ∷ []) k (world ((0, []) ∷ []) [])) e)

-- there it is always so that it is eventually on
always_eventually : (p : PlainProblem) → Satisfies p blinking 0 (always (eventually (fact 0)))
unfolding SatisfiesAlong Holds
always_eventually p = λ j _. (j + j, omega numbers, blinking-on p (j + j) 0 (omega numbers) ∙ has_fact-world ((0, []) ∷ []) [] (0, []))

-- and it is not so that it is eventually always on
not_eventually_always : (p : PlainProblem) → Satisfies p blinking 0 (eventually (always (fact 0))) → ⊥
unfolding SatisfiesAlong Holds
not_eventually_always p h = true≢false (sym (h.2 (suc (h.0 + h.0)) (omega numbers)) ∙
    (blinking-on p (suc (h.0 + h.0)) 1 (omega numbers) ∙ has_fact-world [] [] (0, [])))

-- ---- orders and ranges

-- a plan comes before one that goes on after it, and an operator before a later one
prefix_first : plan_cmp (act ∷ []) (act ∷ act ∷ []) ≡ Less
prefix_first = refl

-- integers come before symbols
integers_first : value_cmp (Int (pos 9)) (Sym 0) ≡ Less
integers_first = refl

-- one more than the greatest number of 64 bits is past range
one_too_many : IsPastRange (record { at = 0; op = Plus; left = pos (2 ^ 63 - 1); right = pos 1 })
one_too_many = record { left = refl; right = refl; past = λ h. true≢false (sym h) }

-- ---- looked at

-- `(< (+ 2 3) 9)`
abbrev small_sum : FormulaTree
small_sum = compare cmp.Less (arith Plus (integer 2) (integer 3) 7) (integer 9)

-- its operation
abbrev the_sum : Operation
the_sum = record { at = 7; op = Plus; left = pos 2; right = pos 3 }

-- behind a false part nothing is looked at
stops_at_false : (d : LookedTable) (s : Situation) (e : Assignment) → looked_in_state d s e
    (conjunction (formulas_of_list (falsum ∷ small_sum ∷ []))) ≡ []
unfolding looked_in_state state_true
stops_at_false d s e = refl

-- behind a true part the next one is looked at
goes_on_after_true : (d : LookedTable) (s : Situation) (e : Assignment) →
    looked_in_state d s e (conjunction (formulas_of_list (verum ∷ small_sum ∷ []))) ≡ the_sum ∷ []
unfolding looked_in_state state_true looked_in_term term_value
goes_on_after_true d s e = refl

-- progressing does not look below a `next`
progressing_leaves_next : (p : PlainProblem) (w : World) → looked_by_progressing p w (next small_sum) ≡ []
unfolding looked_by_progressing looked_in_basics
progressing_leaves_next p w = refl

-- the idling check does
idling_reads_next : (p : PlainProblem) (w : World) → looked_by_idling p w (next small_sum) ≡ the_sum ∷ []
unfolding looked_by_idling looked_in_basics looked_in_state looked_in_term term_value
idling_reads_next p w = refl
