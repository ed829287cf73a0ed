-- Bounds mean something exactly where they break no rule.
use Rattle.std.proofs.Common.{◌≡◌, ℕ, List, [], ◌∷◌, ◌++◌, refl, sym, ap, ◌∙◌}
use Rattle.std.specs.Prelude.{Bool, true, false, ◌&&◌, not, Option, Some, None, option_and_then, if◌then◌else◌, is_some, unwrap_or, codes}
use Rattle.tl_sexpr.specs.Tree.{FormTree, FormTrees, symbol, integer, list, no_form, more_forms}
use Rattle.tl_syntax.specs.declared.value.Cmp.TheVariants as cmp
use Rattle.tl_syntax.specs.declared.variable.Arg.{Arg}
use Rattle.tl_syntax.specs.declared.bound.Bound.{Bound}
use Rattle.tl_syntax.specs.declared.bound.Bound.TheVariants as bound
use Rattle.tl_rules.specs.declared.rule.Rule.TheVariants.{Shape, Arity, GoalArg}
use Rattle.tl_rules.specs.Both.{option_both}
use Rattle.tl_rules.specs.Parts.{count, is_word, is_list, any_list, elements_of, rest_of, offset_of}
use Rattle.tl_rules.specs.Rules.{Break, breaks_if}
use Rattle.tl_rules.specs.Unbroken.{where_unbroken}
use Rattle.tl_rules.proofs.Unbroken.{both-unbroken, swap-unbroken, group-unbroken}
use Rattle.tl_formulas.specs.declared.signature.NameSignature.{NameSignature}
use Rattle.tl_formulas.specs.declared.words.FormulaWord.{FormulaWord}
use Rattle.tl_formulas.specs.declared.words.FormulaWord.TheVariants as word
use Rattle.tl_formulas.specs.Bounds.{flat_breaks, bound_call_breaks, bound_breaks, bounds_breaks}
use Rattle.tl_formulas.specs.Goals.{is_flat, is_miscounted_at, arguments_breaks, miscounted_breaks, other_goal_breaks, goal_breaks}
use Rattle.tl_formulas.specs.MeaningOfBounds.{call_place, other_goal_meant, equality_meant, goal_meant, bound_call_meant, bound_meant}
use Rattle.tl_formulas.specs.MeaningOfBounds.{bounds_meant}
use Rattle.tl_formulas.specs.MeaningOfTerms.{argument_meant, arguments_meant}
use Rattle.tl_formulas.specs.PartialBounds.{flat_meaning, called_meaning, is_miscounted, other_goal_meaning, goal_meaning}
use Rattle.tl_formulas.specs.PartialBounds.{bound_call_meaning, bound_meaning, bounds_meaning}
use Rattle.tl_formulas.specs.PartialTerms.{place_for}
use Rattle.tl_formulas.specs.Signatures.{Table, Scope, place_of, has_arity, call_breaks, unbound_breaks}
use Rattle.tl_formulas.specs.Words.{formula_word}
use Rattle.tl_formulas.proofs.Counts.{equality_count}
use Rattle.tl_formulas.proofs.MeanTerms.{more-two, argument-mean, arguments-mean, place-mean}

flat-mean : {A : Type 0} (make : ℕ → List Arg → A) (names : List (List ℕ)) (table : Table) (scope : Scope) (text : List ℕ)
    (rest : FormTrees) (at : ℕ) → flat_meaning make names table scope text rest ≡
    where_unbroken (flat_breaks table scope text rest at) (make (unwrap_or (place_of table text) 0) (arguments_meant names scope rest))
flat-mean make names table scope text rest at =
    let calls = call_breaks table text (count rest) at in
    let lists = breaks_if (any_list rest) Shape at in
    (λ i. option_both make (place-mean table text (count rest) at i) (arguments-mean names scope rest at i))
    ∙ both-unbroken make calls (lists ++ arguments_breaks scope rest) _ _
    ∙ swap-unbroken calls lists (arguments_breaks scope rest) _

-- what is named, where the form is flat
called-mean : {A : Type 0} (make : ℕ → List Arg → A) (names : List (List ℕ)) (table : Table) (scope : Scope) (f : FormTree) →
    called_meaning make names table scope f ≡ (if is_flat table f then where_unbroken
    (miscounted_breaks table f ++ arguments_breaks scope (rest_of f)) (make (call_place table f) (arguments_meant names scope (rest_of f)))
    else None)
called-mean make names table scope (symbol text at) = refl
called-mean make names table scope (integer z at) = refl
called-mean make names table scope (list no_form at) = refl
called-mean make names table scope (list (more_forms (integer z _) rest) at) = refl
called-mean make names table scope (list (more_forms (list fs _) rest) at) = refl
called-mean make names table scope (list (more_forms (symbol text _) rest) at) =
    ap (λ m. option_both make (place_for table text (count rest)) m) (arguments-mean names scope rest at)
    ∙ cases (place_of table text)
  where
    xs : List Arg
    xs = arguments_meant names scope rest

    tested : (i : ℕ) (h l : Bool) (ab : List Break) → option_both make (if h then Some i else None)
        (where_unbroken (breaks_if l Shape at ++ ab) xs) ≡ (if not l then where_unbroken (breaks_if (not h) Arity at ++ ab)
        (make i xs) else None)
    tested i true true ab = refl
    tested i true false [] = refl
    tested i true false (b ∷ ab) = refl
    tested i false true ab = refl
    tested i false false ab = refl

    cases : (found : Option ℕ) → option_both make (option_and_then (λ i. if has_arity table i (count rest) then Some i else None) found)
        (where_unbroken (breaks_if (any_list rest) Shape at ++ arguments_breaks scope rest) xs) ≡
        (if is_some found && not (any_list rest) then where_unbroken (breaks_if (is_miscounted_at table found (count rest)) Arity at ++
        arguments_breaks scope rest) (make (unwrap_or found 0) xs) else None)
    cases None = refl
    cases (Some i) = tested i (has_arity table i (count rest)) (any_list rest) (arguments_breaks scope rest)

other-goal-mean : (names : List (List ℕ)) (g : NameSignature) (scope : Scope) (fs : FormTrees) (at : ℕ) →
    other_goal_meaning names g scope fs ≡ where_unbroken (other_goal_breaks g scope fs at) (other_goal_meant names g scope fs)
other-goal-mean names g scope no_form at = refl
other-goal-mean names g scope (more_forms w no_form) at = refl
other-goal-mean names g scope (more_forms w (more_forms fact no_form)) at =
    ap (λ m. if is_word (codes "not") w then m else None) (called-mean bound.GoalNot names g.predicates scope fact)
    ∙ cases (is_word (codes "not") w) (is_flat g.predicates fact)
  where
    x : Bound
    x = bound.GoalNot (call_place g.predicates fact) (arguments_meant names scope (rest_of fact))

    xs : List Break
    xs = miscounted_breaks g.predicates fact ++ arguments_breaks scope (rest_of fact)

    cases : (w fl : Bool) → (if w then (if fl then where_unbroken xs x else None) else None) ≡
        where_unbroken (if w && fl then xs else (GoalArg, at) ∷ []) x
    cases true true = refl
    cases true false = refl
    cases false fl = refl
other-goal-mean names g scope (more_forms w (more_forms place (more_forms value no_form))) at =
    (λ i. if is_word (codes "=") w then option_both (λ (k : Arg → Bound) y. k y)
    (called-mean (λ i ys y. bound.GoalPlace i ys y) names g.functions scope place i) (argument-mean names scope value at i) else None)
    ∙ cases (is_word (codes "=") w) (is_flat g.functions place) (is_list value)
  where
    k : Arg → Bound
    k = λ y. bound.GoalPlace (call_place g.functions place) (arguments_meant names scope (rest_of place)) y

    x : Arg
    x = argument_meant names scope value

    ms : List Break
    ms = miscounted_breaks g.functions place

    ys : List Break
    ys = arguments_breaks scope (rest_of place)

    us : List Break
    us = unbound_breaks scope value

    cases : (w fl l : Bool) → (if w then option_both (λ (j : Arg → Bound) y. j y) (if fl then where_unbroken (ms ++ ys) k else None)
        (where_unbroken (breaks_if l Shape at ++ us) x) else None) ≡ where_unbroken
        (if w && fl && not l then ms ++ (ys ++ us) else (GoalArg, at) ∷ []) (k x)
    cases true true true = lost (ms ++ ys)
      where
        lost : (xs : List Break) → option_both (λ (j : Arg → Bound) y. j y) (where_unbroken xs k) None ≡ None
        lost [] = refl
        lost (b ∷ bs) = refl
    cases true true false = both-unbroken (λ (j : Arg → Bound) y. j y) (ms ++ ys) us k x ∙ group-unbroken ms ys us (k x)
    cases true false l = refl
    cases false fl l = refl
other-goal-mean names g scope (more_forms w (more_forms place (more_forms value (more_forms f fs)))) at = refl

miscounted-are : (table : Table) (f : FormTree) → miscounted_breaks table f ≡ breaks_if (is_miscounted table f) Arity (offset_of f)
miscounted-are table (symbol text at) = refl
miscounted-are table (integer z at) = refl
miscounted-are table (list no_form at) = refl
miscounted-are table (list (more_forms (symbol text _) rest) at) = refl
miscounted-are table (list (more_forms (integer z _) rest) at) = refl
miscounted-are table (list (more_forms (list fs _) rest) at) = refl

pub goal-mean : (names : List (List ℕ)) (g : NameSignature) (scope : Scope) (f : FormTree) → goal_meaning names g scope f ≡
    where_unbroken (goal_breaks g scope f) (goal_meant names g scope f)
unfolding goal_meaning goal_breaks goal_meant
goal-mean names g scope f =
    (λ i. if is_flat g.predicates f then called-mean bound.GoalFact names g.predicates scope f i else
    (if is_miscounted g.predicates f then None else other-goal-mean names g scope (elements_of f) (offset_of f) i))
    ∙ ap (λ ms. if is_flat g.predicates f then (if is_flat g.predicates f then where_unbroken
    (ms ++ arguments_breaks scope (rest_of f)) x else None) else (if is_miscounted g.predicates f then None else where_unbroken os y))
    (miscounted-are g.predicates f)
    ∙ cases (is_flat g.predicates f) (is_miscounted g.predicates f)
    ∙ ap (λ ms. where_unbroken (ms ++ (if is_flat g.predicates f then arguments_breaks scope (rest_of f) else os))
    (if is_flat g.predicates f then x else y)) (sym (miscounted-are g.predicates f))
  where
    x : Bound
    x = bound.GoalFact (call_place g.predicates f) (arguments_meant names scope (rest_of f))

    y : Bound
    y = other_goal_meant names g scope (elements_of f)

    os : List Break
    os = other_goal_breaks g scope (elements_of f) (offset_of f)

    cases : (fl m : Bool) → (if fl then (if fl then where_unbroken (breaks_if m Arity (offset_of f) ++ arguments_breaks scope (rest_of f)) x
        else None) else (if m then None else where_unbroken os y)) ≡ where_unbroken
        (breaks_if m Arity (offset_of f) ++ (if fl then arguments_breaks scope (rest_of f) else os)) (if fl then x else y)
    cases true m = refl
    cases false true = refl
    cases false false = refl

bound-call-mean : (names : List (List ℕ)) (g : NameSignature) (scope : Scope) (w : FormulaWord) (text : List ℕ) (rest : FormTrees)
    (at : ℕ) → bound_call_meaning names g scope w text rest ≡ where_unbroken (bound_call_breaks g scope w text rest at)
    (bound_call_meant names g scope w text rest)
bound-call-mean names g scope (word.Compare cmp.Eq) text no_form at = refl
bound-call-mean names g scope (word.Compare cmp.Eq) text (more_forms f no_form) at =
    ap (λ bs. where_unbroken bs (equality_meant names g scope (more_forms f no_form)))
    (sym (equality_count g scope (more_forms f no_form) at refl))
bound-call-mean names g scope (word.Compare cmp.Eq) text (more_forms (symbol n _) (more_forms value no_form)) at = refl
bound-call-mean names g scope (word.Compare cmp.Eq) text (more_forms (integer z _) (more_forms value no_form)) at = refl
bound-call-mean names g scope (word.Compare cmp.Eq) text (more_forms (list no_form _) (more_forms value no_form)) at = refl
bound-call-mean names g scope (word.Compare cmp.Eq) text (more_forms (list (more_forms (integer z _) rest) _) (more_forms value no_form))
    at = refl
bound-call-mean names g scope (word.Compare cmp.Eq) text (more_forms (list (more_forms (list fs _) rest) _) (more_forms value no_form)) at =
    refl
bound-call-mean names g scope (word.Compare cmp.Eq) text (more_forms (list (more_forms (symbol n _) rest) place) (more_forms value no_form))
    at =
    let flats = flat_breaks g.functions scope n rest place in
    let lists = breaks_if (is_list value) Shape at in
    (λ i. option_both (λ (k : Arg → Bound) y. k y) (flat-mean (λ i xs x. bound.Place i xs x) names g.functions scope n rest place i)
    (argument-mean names scope value at i))
    ∙ both-unbroken (λ (k : Arg → Bound) y. k y) flats (lists ++ unbound_breaks scope value) _ _
    ∙ swap-unbroken flats lists (unbound_breaks scope value) _
bound-call-mean names g scope (word.Compare cmp.Eq) text (more_forms f (more_forms h (more_forms i fs))) at =
    ap (λ bs. where_unbroken bs (equality_meant names g scope (more_forms f (more_forms h (more_forms i fs)))))
    (sym (equality_count g scope (more_forms f (more_forms h (more_forms i fs))) at (more-two (count fs))))
bound-call-mean names g scope word.Goal text no_form at = refl
bound-call-mean names g scope word.Goal text (more_forms f no_form) at = goal-mean names g scope f
bound-call-mean names g scope word.Goal text (more_forms f (more_forms h fs)) at = refl
bound-call-mean names g scope _ text rest at = flat-mean bound.Fact names g.predicates scope text rest at

pub bound-mean : (names : List (List ℕ)) (g : NameSignature) (scope : Scope) (f : FormTree) → bound_meaning names g scope f ≡
    where_unbroken (bound_breaks g scope f) (bound_meant names g scope f)
unfolding bound_meaning bound_breaks bound_meant
bound-mean names g scope (symbol text at) = refl
bound-mean names g scope (integer z at) = refl
bound-mean names g scope (list no_form at) = refl
bound-mean names g scope (list (more_forms (symbol text _) rest) at) = bound-call-mean names g scope (formula_word text) text rest at
bound-mean names g scope (list (more_forms (integer z _) rest) at) = refl
bound-mean names g scope (list (more_forms (list fs _) rest) at) = refl

pub bounds-mean : (names : List (List ℕ)) (g : NameSignature) (scope : Scope) (fs : FormTrees) → bounds_meaning names g scope fs ≡
    where_unbroken (bounds_breaks g scope fs) (bounds_meant names g scope fs)
bounds-mean names g scope no_form = refl
bounds-mean names g scope (more_forms f fs) =
    (λ i. option_both (λ x xs. x ∷ xs) (bound-mean names g scope f i) (bounds-mean names g scope fs i))
    ∙ both-unbroken (λ x xs. x ∷ xs) (bound_breaks g scope f) (bounds_breaks g scope fs) _ _
