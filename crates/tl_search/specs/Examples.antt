-- Worked examples of a distance, a leading path and a calm search.
use Rattle.std.proofs.Common.{◌≡◌, ◌≢◌, ◌≤◌, ◌^◌, ◌-◌, ℕ, suc, List, [], ◌∷◌, ◌++◌, ◌==◌, ◌⊎◌, inl, inr, length, Bool, true, false, cond}
use Rattle.std.proofs.Common.{true≢false, Some, IsSome, is_some, Ordering, Less, Equal, Greater, refl, sym, ap, ap₂, ◌∙◌, subst}
use Rattle.std.proofs.Common.{arith as numbers}
use Rattle.std.specs.Prelude.{pos}
use Rattle.std.specs.FinSet as set
use Rattle.std.specs.Cmp.Lexicographic.{slice_cmp}
use borrow.Author.Tests.{le-ltb}
use Rattle.std.specs.Ordering.{nat_cmp, ordering_then}
use Rattle.tl_syntax.specs.declared.action.Action.{Action}
use Rattle.tl_syntax.specs.declared.value.Value.{Value}
use Rattle.tl_syntax.specs.declared.value.Value.TheVariants.{Int}
use Rattle.tl_syntax.specs.declared.value.Op.TheVariants.{Plus}
use Rattle.tl_syntax.specs.declared.value.Cmp.TheVariants as cmp
use Rattle.tl_syntax.specs.Assignment.{no_values}
use Rattle.tl_syntax.specs.Effects.{add, no_effect, more_effects}
use Rattle.tl_syntax.specs.Keys.{value_cmp}
use Rattle.tl_syntax.proofs.TotalOrders.{key_total}
use Rattle.tl_syntax.specs.Trees.{FormulaTree, verum, compare, arith, value, no_term}
use Rattle.tl_terms.specs.Acceptance.{states_from, states, last_of, IsAccepted}
use Rattle.tl_terms.specs.Calm.{NonePastRange, IsCalm, IsCalmAfter}
use Rattle.tl_terms.specs.Definitions.{situation_of}
use Rattle.tl_terms.specs.Examples.{world, nothing, integer, has_fact-world}
use Rattle.tl_terms.specs.Looked.{looked_in_term, looked_in_state, looked_in_basics, looked_by_progressing, looked_by_idling}
use Rattle.tl_terms.specs.Looked.{looked_by_action}
use Rattle.tl_terms.specs.Orders.{plan_cmp}
use Rattle.tl_terms.specs.Pairs.{residual, Pair, pair_of, IsOpen}
use Rattle.tl_terms.specs.Paths.{IsDistance, IsSimple, IsLeading}
use Rattle.tl_terms.specs.Problem.{PlainProblem}
use Rattle.tl_terms.specs.Progression.{progressed}
use Rattle.tl_terms.specs.Step.{adds, effect_instances, changed, applied, step}
use Rattle.tl_terms.specs.Terms.{term_value}
use Rattle.tl_terms.specs.Truth.{state_true}
use Rattle.tl_terms.specs.World.{World, has_fact}
use Rattle.tl_terms.proofs.GoalLaws.{goal-by-membership}
use Rattle.tl_terms.proofs.PathLaws.{open-by-residual}

-- ---- what the examples stand on

-- the fact of predicate 0, of no argument, is to become true; the only operator adds it
abbrev pub button : PlainProblem
button = record {
  first = nothing;
  goal = world ((0, []) ∷ []) [];
  avoid = nothing;
  definitions = [];
  operators = (record { params = []; bounds = []; pre = verum; effects = more_effects (add 0 no_term) no_effect }) ∷ [];
  control = verum;
}

-- its only action
abbrev pub press : Action
press = record { op = 0; args = [] }

-- the world after it
abbrev pub lit : World
lit = changed nothing (adds 0 (Some []) ∷ [])

-- it can be done in each world
steps : (w : World) → step button w press ≡ Some (changed w (adds 0 (Some []) ∷ []))
unfolding step applied effect_instances term_value state_true
steps w = refl

-- the pair before it, and the pair after it
abbrev pub unlit_pair : Pair
unlit_pair = record { world = nothing; formula = verum }

abbrev pub lit_pair : Pair
lit_pair = record { world = lit; formula = verum }

-- the pair of the empty path
at_first : pair_of button [] ≡ Some unlit_pair
unfolding states_from residual progressed
at_first = refl

-- the pair after the action
after_press : pair_of button (press ∷ []) ≡ Some lit_pair
unfolding states_from residual progressed step applied effect_instances term_value state_true
after_press = refl

-- the two worlds differ
different : nothing ≢ lit
unfolding changed
different e = true≢false (sym (set.contains-insert key_total (set.from_list []) (0, []) (0, [])) ∙
    (ap (λ w. has_fact w (0, [])) (sym e) ∙ has_fact-world [] [] (0, [])))

-- so the two pairs do
pairs_differ : pair_of button [] ≡ pair_of button (press ∷ []) → ⊥
pairs_differ e =
    let q : Some unlit_pair ≡ Some lit_pair = sym at_first ∙ (e ∙ after_press) in
    let d : unlit_pair ≡ lit_pair = cc in
    different (ap (λ (x : Pair). x.world) d)

-- ---- a distance

press_is_open : IsOpen button (press ∷ [])
press_is_open = (open-by-residual button (press ∷ [])).1 (lit_pair, after_press, λ e. cc)

-- the pair after the action has the distance 1
distance_of_one_action : IsDistance button lit_pair 1
distance_of_one_action = record {
  path = press ∷ [];
  open_path = press_is_open;
  its_pair = after_press;
  its_length = refl;
  least = longer;
}
  where
    longer : (other : List Action) → IsOpen button other → pair_of button other ≡ Some lit_pair → 1 ≤ length other
    longer [] o e = absurd (pairs_differ (e ∙ sym after_press))
    longer (a ∷ other) o e = omega numbers

-- ---- a leading path

-- a path of one action has two prefixes
prefixes : (front rest : List Action) → front ++ rest ≡ press ∷ [] → (front ≡ []) ⊎ (front ≡ press ∷ [])
prefixes [] rest e = inl refl
prefixes (a ∷ []) rest e = inr (let d : a ≡ press = cc in ap (λ (b : Action). b ∷ []) d)
prefixes (a ∷ b ∷ front) rest e = let d : b ∷ (front ++ rest) ≡ [] = cc in let q : ⊥ = cc in absurd q

press_is_simple : IsSimple button (press ∷ [])
press_is_simple = record {
  executes = ap is_some after_press;
  differ = λ f r o l e q d. elim (prefixes f r e) [
    | inl x ↦ elim (prefixes o l q) [
      | inl y ↦ x ∙ sym y
      | inr y ↦ absurd
          (pairs_differ (ap (pair_of button) (sym x) ∙ (d ∙ ap (pair_of button) y)))
    ]
    | inr x ↦ elim (prefixes o l q) [
      | inl y ↦ absurd (pairs_differ (ap (pair_of button) (sym y) ∙ (sym d ∙ ap (pair_of button) x)))
      | inr
          y ↦ x ∙ sym y
    ]
  ];
}

-- no number is below zero
not_below_zero : (n : ℕ) → nat_cmp n 0 ≡ Less → ⊥
not_below_zero n e = by_test (n == 0) (sym (ap (λ b. cond b Less (cond (n == 0) Equal Greater)) (le-ltb n 0 (omega numbers))) ∙ e)
  where
    by_test : (b : Bool) → cond b Equal Greater ≡ Less → ⊥
    by_test true q = cc
    by_test false q = cc

-- of other plans only the empty one comes before
not_before : (a : Action) (other : List Action) → plan_cmp (a ∷ other) (press ∷ []) ≡ Less → ⊥
not_before a other e = by_op (nat_cmp a.op 0) refl e
  where
    by_rest : (us : List Action) → plan_cmp us [] ≡ Less → ⊥
    by_rest [] q = cc
    by_rest (u ∷ us) q = cc

    by_args : (vs : List Value) → ordering_then (slice_cmp value_cmp vs []) (plan_cmp other []) ≡ Less → ⊥
    by_args [] q = by_rest other q
    by_args (v ∷ vs) q = cc

    by_op : (r : Ordering) → nat_cmp a.op 0 ≡ r → ordering_then (ordering_then r (slice_cmp value_cmp a.args [])) (plan_cmp other []) ≡
        Less → ⊥
    by_op Less f q = not_below_zero a.op f
    by_op Equal f q = by_args a.args q
    by_op Greater f q = cc

-- the goal is not met at first
not_at_first : IsAccepted button [] → ⊥
unfolding states_from
not_at_first h =
    let q : Some (nothing ∷ []) ≡ Some (h.from ∷ h.after) = h.executes in
    let w : nothing ≡ h.from = cc in
    let n : [] ≡ h.after = cc in
    let m = (goal-by-membership (last_of h.from h.after) (world ((0, []) ∷ []) []) nothing).0 h.reaches in
    let there : has_fact (last_of h.from h.after) (0, []) ≡ true = m.facts (0, []) (has_fact-world ((0, []) ∷ []) [] (0, [])) in
    true≢false (sym there ∙ (ap₂ (λ v us. has_fact (last_of v us) (0, [])) (sym w) (sym n) ∙ has_fact-world [] [] (0, [])))

-- the path of one action is leading, whatever the bound
one_action_leads : (n : ℕ) → IsLeading button (suc n) (press ∷ [])
one_action_leads n = record { short = omega numbers; simple = press_is_simple; first = λ other s i a. first other a }
  where
    first : (other : List Action) → IsAccepted button other → plan_cmp other (press ∷ []) ≢ Less
    first [] h = absurd (not_at_first h)
    first (a ∷ other) h = not_before a other

-- ---- calm searches

-- a problem without operators, whose control formula compares with 9
abbrev still : FormulaTree → PlainProblem
still f = record {
  first = nothing;
  goal = nothing;
  avoid = nothing;
  definitions = [];
  operators = [];
  control = f;
}

-- only the empty path executes
only_empty : (f : FormulaTree) (path : List Action) → IsSome (states (still f) path) → path ≡ []
unfolding states_from step
only_empty f [] h = refl
only_empty f (a ∷ path) h = absurd (true≢false (sym h))

-- where nothing past range is looked at in the first world, the search is calm
calm_by_first : (f : FormulaTree) → NonePastRange (looked_by_progressing (still f) nothing f) →
    NonePastRange (looked_by_idling (still f) nothing (progressed (situation_of (still f) nothing) no_values f)) → (n : ℕ) →
    IsCalm (still f) n
unfolding states_from residual looked_by_action
calm_by_first f g i n path from after r e =
    let empty : path ≡ [] = only_empty f path r.executes in
    let q : Some (nothing ∷ []) ≡ Some (from ∷ after) = ap (states (still f)) (sym empty) ∙ e in
    let w : nothing ≡ from = cc in
    let s : [] ≡ after = cc in
    let there : IsCalmAfter (still f) n path nothing [] = record { progressing = g; idling = λ o. i; acting = λ o l a. tt } in
    let second : IsCalmAfter (still f) n path nothing after = subst (IsCalmAfter (still f) n path nothing) s there in
    subst (λ v. IsCalmAfter (still f) n path v after) w second

-- `(< (+ 2 3) 9)`
abbrev pub small_sum : FormulaTree
small_sum = compare cmp.Less (arith Plus (integer 2) (integer 3) 7) (integer 9)

-- it looks at one operation, whose result fits
sum_is_calm : (n : ℕ) → IsCalm (still small_sum) n
unfolding looked_by_progressing looked_by_idling looked_in_basics looked_in_state looked_in_term term_value progressed state_true
sum_is_calm = calm_by_first small_sum (λ h. h.past refl, tt) tt

-- `(< (+ 9223372036854775807 1) 9)`
abbrev great_sum : FormulaTree
great_sum = compare cmp.Less (arith Plus (value (Int (pos (2 ^ 63 - 1)))) (integer 1) 7) (integer 9)

-- it looks at one operation, whose result does not fit, so with it no search is calm
great_sum_is_not_calm : (n : ℕ) → IsCalm (still great_sum) n → ⊥
unfolding states_from residual looked_by_progressing looked_in_basics looked_in_state looked_in_term term_value
great_sum_is_not_calm n calm =
    let c = calm [] nothing [] (record { executes = refl; short = omega numbers; begins = inl refl }) refl in
    c.progressing.0 (record { left = refl; right = refl; past = λ h. true≢false (sym h) })
