-- An argument of `goal` that breaks nothing is a bound that fits what is declared, has the slots of its scope, and is named.
use Rattle.std.proofs.Common.{◌≡◌, ◌<◌, ◌≤◌, ℕ, List, [], ◌∷◌, ◌++◌, Bool, true, false, cond, length, Some, None, refl}
use Rattle.std.specs.Prelude.{Option, ◌&&◌, not, is_some, unwrap_or, codes}
use Rattle.std.proofs.lemmas.Bool.{and_parts, not-false}
use Rattle.tl_sexpr.specs.Tree.{FormTree, FormTrees, symbol, integer, list, no_form, more_forms}
use Rattle.tl_syntax.specs.declared.bound.Bound.{Bound}
use Rattle.tl_syntax.specs.declared.bound.Bound.TheVariants as bound
use Rattle.tl_syntax.specs.Fits.{BoundFits}
use Rattle.tl_syntax.specs.FreeVariables.{bound_slots}
use Rattle.tl_syntax.specs.Lists.{Each}
use Rattle.tl_syntax.specs.Named.{BoundIsNamed}
use Rattle.tl_syntax.specs.Signature as domain
use Rattle.tl_syntax.specs.Signature.{Takes}
use Rattle.tl_rules.specs.declared.rule.Rule.TheVariants.{Arity, GoalArg}
use Rattle.tl_rules.specs.Named.{HasNames, HaveNames}
use Rattle.tl_rules.specs.Parts.{offset_of, count, is_list, any_list, is_word, elements_of, rest_of}
use Rattle.tl_rules.specs.Rules.{Break}
use Rattle.tl_formulas.specs.declared.signature.NameSignature.{NameSignature}
use Rattle.tl_formulas.specs.Signatures.{Table, Scope, place_of, has_arity, is_in, unbound_breaks}
use Rattle.tl_formulas.specs.Goals.{arguments_breaks, is_flat, is_miscounted_at, miscounted_breaks, other_goal_breaks, goal_breaks}
use Rattle.tl_formulas.specs.MeaningOfTerms.{argument_meant, arguments_meant}
use Rattle.tl_formulas.specs.MeaningOfBounds.{call_place, other_goal_meant, goal_meant}
use Rattle.tl_formulas.proofs.KeepsLists.{none-parts, test-fails}
use Rattle.tl_formulas.proofs.KeepsCalls.{arities, seen, arity-takes, argument-keeps, arguments-keep, arguments-fit, args-named, args-below}

-- a bound fits, its slots are of the first k, and its names of the first n
pub record BoundKeeps (g : domain.Signature) (n k : ℕ) (b : Bound) : Type 0 where
  pub fits : BoundFits g b
  pub below : Each (λ q. q < k) (bound_slots b)
  pub named : BoundIsNamed n b

-- of a test, what holds where it passes and what where it fails
pub tested-none : {A : Type 0} (test : Bool) (xs ys : List A) → cond test xs ys ≡ [] → (ys ≡ [] → ⊥) → (test ≡ true) × (xs ≡ [])
tested-none true xs ys h never = (refl, h)
tested-none false xs ys h never = absurd (never h)

pub rest-has : (names : List (List ℕ)) (f : FormTree) → HasNames names f → HaveNames names (rest_of f)
rest-has names (symbol text at) h = tt
rest-has names (integer z at) h = tt
rest-has names (list no_form at) h = tt
rest-has names (list (more_forms f fs) at) h = h.1

pub elements-have : (names : List (List ℕ)) (f : FormTree) → HasNames names f → HaveNames names (elements_of f)
elements-have names (symbol text at) h = tt
elements-have names (integer z at) h = tt
elements-have names (list fs at) h = h

-- a flat list takes as many arguments as it has, where it is not miscounted
pub flat-takes : (table : Table) (f : FormTree) → is_flat table f ≡ true → miscounted_breaks table f ≡ [] →
    Takes (arities table) (call_place table f) (count (rest_of f))
flat-takes table (symbol text at) flat none = cc
flat-takes table (integer z at) flat none = cc
flat-takes table (list no_form at) flat none = cc
flat-takes table (list (more_forms (symbol text s) rest) at) flat none =
    by_place (place_of table text) (and_parts (is_in table text) (not (any_list rest)) flat).0
    (test-fails (is_miscounted_at table (place_of table text) (count rest)) Arity at none)
  where
    by_place : (found : Option ℕ) → is_some found ≡ true → is_miscounted_at table found (count rest) ≡ false →
        Takes (arities table) (unwrap_or found 0) (count rest)
    by_place None is right = cc
    by_place (Some i) is right = arity-takes table i (count rest) (not-false (has_arity table i (count rest)) right)
flat-takes table (list (more_forms (integer z s) rest) at) flat none = cc
flat-takes table (list (more_forms (list fs s) rest) at) flat none = cc

-- a place with a value under `goal`, and a fact that should not be there
place-keeps : (names : List (List ℕ)) (g : NameSignature) (scope : Scope) (place value : FormTree) → length scope ≤ 32 →
    HasNames names place → HasNames names value → is_flat g.functions place ≡ true → miscounted_breaks g.functions place ++
    (arguments_breaks scope (rest_of place) ++ unbound_breaks scope value) ≡ [] →
    BoundKeeps (seen g) (length names) (length scope) (bound.GoalPlace (call_place g.functions place)
    (arguments_meant names scope (rest_of place)) (argument_meant names scope value))
place-keeps names g scope place value few has_place has_value flat none =
    let parts = none-parts (miscounted_breaks g.functions place) (arguments_breaks scope (rest_of place) ++ unbound_breaks scope value) none
    in
    let later = none-parts (arguments_breaks scope (rest_of place)) (unbound_breaks scope value) parts.1 in
    let args = arguments-keep names scope (rest_of place) few (rest-has names place has_place) later.0 in
    let last = argument-keeps names scope value few has_value later.1 in
    record {
      fits = (
        arguments-fit names scope (rest_of place) (arities g.functions) (call_place g.functions place)
            (flat-takes g.functions place flat parts.0) args,
        last.fits,
      );
      below = args-below _ _ (argument_meant names scope value ∷ arguments_meant names scope (rest_of place)) (last, args);
      named = args-named _ _ (argument_meant names scope value ∷ arguments_meant names scope (rest_of place)) (last, args);
    }

fact-keeps : (names : List (List ℕ)) (g : NameSignature) (scope : Scope) (fact : FormTree) → length scope ≤ 32 → HasNames names fact →
    is_flat g.predicates fact ≡ true → miscounted_breaks g.predicates fact ++ arguments_breaks scope (rest_of fact) ≡ [] →
    BoundKeeps (seen g) (length names) (length scope) (bound.GoalNot (call_place g.predicates fact)
    (arguments_meant names scope (rest_of fact)))
fact-keeps names g scope fact few has flat none =
    let parts = none-parts (miscounted_breaks g.predicates fact) (arguments_breaks scope (rest_of fact)) none in
    let args = arguments-keep names scope (rest_of fact) few (rest-has names fact has) parts.1 in
    record {
      fits = arguments-fit names scope (rest_of fact) (arities g.predicates) (call_place g.predicates fact)
          (flat-takes g.predicates fact flat parts.0) args;
      below = args-below _ _ (arguments_meant names scope (rest_of fact)) args;
      named = args-named _ _ (arguments_meant names scope (rest_of fact)) args;
    }

pub never-empty : (at : ℕ) → ◌≡◌ {A = List Break} ((GoalArg, at) ∷ []) [] → ⊥
never-empty at h = cc

other-keeps : (names : List (List ℕ)) (g : NameSignature) (scope : Scope) (fs : FormTrees) (at : ℕ) → length scope ≤ 32 →
    HaveNames names fs → other_goal_breaks g scope fs at ≡ [] → BoundKeeps (seen g) (length names) (length scope)
    (other_goal_meant names g scope fs)
other-keeps names g scope no_form at few has none = cc
other-keeps names g scope (more_forms word no_form) at few has none = cc
other-keeps names g scope (more_forms word (more_forms fact no_form)) at few has none =
    let tested = tested-none (is_word (codes "not") word && is_flat g.predicates fact) _ _ none (never-empty at) in
    fact-keeps names g scope fact few has.1.0 (and_parts (is_word (codes "not") word) (is_flat g.predicates fact) tested.0).1 tested.1
other-keeps names g scope (more_forms word (more_forms place (more_forms value no_form))) at few has none =
    let tested = tested-none (is_word (codes "=") word && is_flat g.functions place && not (is_list value)) _ _ none (never-empty at) in
    let both = and_parts (is_word (codes "=") word && is_flat g.functions place) (not (is_list value)) tested.0 in
    place-keeps names g scope place value few has.1.0 has.1.1.0 (and_parts (is_word (codes "=") word) (is_flat g.functions place) both.0).1
    tested.1
other-keeps names g scope (more_forms word (more_forms place (more_forms value (more_forms f fs)))) at few has none = cc

pub goal-keeps : (names : List (List ℕ)) (g : NameSignature) (scope : Scope) (f : FormTree) → length scope ≤ 32 → HasNames names f →
    goal_breaks g scope f ≡ [] → BoundKeeps (seen g) (length names) (length scope) (goal_meant names g scope f)
unfolding goal_breaks goal_meant
goal-keeps names g scope f few has none =
    let parts = none-parts (miscounted_breaks g.predicates f) (cond (is_flat g.predicates f) (arguments_breaks scope (rest_of f))
    (other_goal_breaks g scope (elements_of f) (offset_of f))) none in
    by_test parts.0 (is_flat g.predicates f) refl parts.1
  where
    by_test : miscounted_breaks g.predicates f ≡ [] → (test : Bool) → is_flat g.predicates f ≡ test →
        cond test (arguments_breaks scope (rest_of f)) (other_goal_breaks g scope (elements_of f) (offset_of f)) ≡ [] →
        BoundKeeps (seen g) (length names) (length scope) (cond test (bound.GoalFact (call_place g.predicates f)
        (arguments_meant names scope (rest_of f))) (other_goal_meant names g scope (elements_of f)))
    by_test right true is later =
        let args = arguments-keep names scope (rest_of f) few (rest-has names f has) later in
        record {
          fits = arguments-fit names scope (rest_of f) (arities g.predicates) (call_place g.predicates f)
              (flat-takes g.predicates f is right) args;
          below = args-below _ _ (arguments_meant names scope (rest_of f)) args;
          named = args-named _ _ (arguments_meant names scope (rest_of f)) args;
        }
    by_test right false is later = other-keeps names g scope (elements_of f) (offset_of f) few (elements-have names f has) later
