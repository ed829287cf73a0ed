-- A bound that breaks nothing fits what is declared, has the slots of its scope, and is named.
use Rattle.std.proofs.Common.{◌≡◌, ◌≤◌, ℕ, List, [], ◌∷◌, ◌++◌, length}
use Rattle.std.specs.Prelude.{unwrap_or}
use Rattle.tl_sexpr.specs.Tree.{FormTree, FormTrees, symbol, integer, list, no_form, more_forms}
use Rattle.tl_syntax.specs.declared.bound.Bound.TheVariants as bound
use Rattle.tl_syntax.specs.declared.value.Cmp.TheVariants as cmp
use Rattle.tl_syntax.specs.Lists.{Each}
use Rattle.tl_rules.specs.declared.rule.Rule.TheVariants.{Shape}
use Rattle.tl_rules.specs.Named.{HasNames, HaveNames}
use Rattle.tl_rules.specs.Parts.{count, is_list, any_list}
use Rattle.tl_rules.specs.Rules.{breaks_if}
use Rattle.tl_formulas.specs.declared.signature.NameSignature.{NameSignature}
use Rattle.tl_formulas.specs.declared.words.FormulaWord.{FormulaWord}
use Rattle.tl_formulas.specs.declared.words.FormulaWord.TheVariants as word
use Rattle.tl_formulas.specs.Words.{formula_word}
use Rattle.tl_formulas.specs.Signatures.{Table, Scope, place_of, call_breaks, unbound_breaks}
use Rattle.tl_formulas.specs.Goals.{arguments_breaks}
use Rattle.tl_formulas.specs.Bounds.{flat_breaks, equality_breaks, goal_bound_breaks, bound_call_breaks, bound_breaks, bounds_breaks}
use Rattle.tl_formulas.specs.MeaningOfTerms.{argument_meant, arguments_meant}
use Rattle.tl_formulas.specs.MeaningOfBounds.{equality_meant, goal_bound_meant, bound_call_meant, bound_meant, bounds_meant}
use Rattle.tl_formulas.proofs.KeepsLists.{none-parts}
use Rattle.tl_formulas.proofs.KeepsCalls.{arities, seen, called-takes, argument-keeps, arguments-keep, arguments-fit, args-named}
use Rattle.tl_formulas.proofs.KeepsCalls.{args-below}
use Rattle.tl_formulas.proofs.KeepsGoals.{BoundKeeps, goal-keeps}

-- the parts of what a flat list breaks
pub record FlatBreaksNothing (table : Table) (scope : Scope) (text : List ℕ) (rest : FormTrees) (at : ℕ) : Type 0 where
  pub flat : breaks_if (any_list rest) Shape at ≡ []
  pub called : call_breaks table text (count rest) at ≡ []
  pub arguments : arguments_breaks scope rest ≡ []

pub flat-parts : (table : Table) (scope : Scope) (text : List ℕ) (rest : FormTrees) (at : ℕ) → flat_breaks table scope text rest at ≡ [] →
    FlatBreaksNothing table scope text rest at
flat-parts table scope text rest at none =
    let parts = none-parts (breaks_if (any_list rest) Shape at) (call_breaks table text (count rest) at ++ arguments_breaks scope rest) none
    in
    let later = none-parts (call_breaks table text (count rest) at) (arguments_breaks scope rest) parts.1 in
    record { flat = parts.0; called = later.0; arguments = later.1 }

-- the parts of what an equality breaks
pub record EqualityBreaksNothing (g : NameSignature) (scope : Scope) (text : List ℕ) (rest : FormTrees) (place : ℕ) (value : FormTree)
    (at : ℕ) : Type 0 where
  pub flat : breaks_if (is_list value) Shape at ≡ []
  pub called : FlatBreaksNothing g.functions scope text rest place
  pub last : unbound_breaks scope value ≡ []

pub equality-parts : (g : NameSignature) (scope : Scope) (text : List ℕ) (rest : FormTrees) (place : ℕ) (value : FormTree) (at : ℕ) →
    breaks_if (is_list value) Shape at ++ (flat_breaks g.functions scope text rest place ++ unbound_breaks scope value) ≡ [] →
    EqualityBreaksNothing g scope text rest place value at
equality-parts g scope text rest place value at none =
    let parts = none-parts (breaks_if (is_list value) Shape at) (flat_breaks g.functions scope text rest place ++
    unbound_breaks scope value) none in
    let later = none-parts (flat_breaks g.functions scope text rest place) (unbound_breaks scope value) parts.1 in
    record { flat = parts.0; called = flat-parts g.functions scope text rest place later.0; last = later.1 }

fact-keeps : (names : List (List ℕ)) (g : NameSignature) (scope : Scope) (text : List ℕ) (rest : FormTrees) (at : ℕ) → length scope ≤ 32 →
    HaveNames names rest → flat_breaks g.predicates scope text rest at ≡ [] →
    BoundKeeps (seen g) (length names) (length scope) (bound.Fact (unwrap_or (place_of g.predicates text) 0)
    (arguments_meant names scope rest))
fact-keeps names g scope text rest at few has none =
    let parts = flat-parts g.predicates scope text rest at none in
    let args = arguments-keep names scope rest few has parts.arguments in
    record {
      fits = arguments-fit names scope rest (arities g.predicates) _ (called-takes g.predicates text (count rest) at parts.called) args;
      below = args-below _ _ (arguments_meant names scope rest) args;
      named = args-named _ _ (arguments_meant names scope rest) args;
    }

place-keeps : (names : List (List ℕ)) (g : NameSignature) (scope : Scope) (text : List ℕ) (rest : FormTrees) (place : ℕ) (value : FormTree)
    (at : ℕ) → length scope ≤ 32 → HaveNames names rest → HasNames names value → EqualityBreaksNothing g scope text rest place value at →
    BoundKeeps (seen g) (length names) (length scope) (bound.Place (unwrap_or (place_of g.functions text) 0)
    (arguments_meant names scope rest) (argument_meant names scope value))
place-keeps names g scope text rest place value at few has_rest has_value parts =
    let args = arguments-keep names scope rest few has_rest parts.called.arguments in
    let last = argument-keeps names scope value few has_value parts.last in
    record {
      fits = (
        arguments-fit names scope rest (arities g.functions) _ (called-takes g.functions text (count rest) place parts.called.called)
            args,
        last.fits,
      );
      below = args-below _ _ (argument_meant names scope value ∷ arguments_meant names scope rest) (last, args);
      named = args-named _ _ (argument_meant names scope value ∷ arguments_meant names scope rest) (last, args);
    }

equality-keeps : (names : List (List ℕ)) (g : NameSignature) (scope : Scope) (fs : FormTrees) (at : ℕ) → length scope ≤ 32 →
    HaveNames names fs → equality_breaks g scope fs at ≡ [] → BoundKeeps (seen g) (length names) (length scope)
    (equality_meant names g scope fs)
equality-keeps names g scope no_form at few has none = cc
equality-keeps names g scope (more_forms (symbol text s) fs) at few has none = cc
equality-keeps names g scope (more_forms (integer z s) fs) at few has none = cc
equality-keeps names g scope (more_forms (list no_form s) fs) at few has none = cc
equality-keeps names g scope (more_forms (list (more_forms (integer z t) rest) s) fs) at few has none = cc
equality-keeps names g scope (more_forms (list (more_forms (list hs t) rest) s) fs) at few has none = cc
equality-keeps names g scope (more_forms (list (more_forms (symbol text t) rest) s) no_form) at few has none = cc
equality-keeps names g scope (more_forms (list (more_forms (symbol text t) rest) s) (more_forms value no_form)) at few has none =
    place-keeps names g scope text rest s value at few has.0.1 has.1.0 (equality-parts g scope text rest s value at none)
equality-keeps names g scope (more_forms (list (more_forms (symbol text t) rest) s) (more_forms value (more_forms f fs))) at few has none =
    cc

goal_bound-keeps : (names : List (List ℕ)) (g : NameSignature) (scope : Scope) (fs : FormTrees) (at : ℕ) → length scope ≤ 32 →
    HaveNames names fs → goal_bound_breaks g scope fs at ≡ [] → BoundKeeps (seen g) (length names) (length scope)
    (goal_bound_meant names g scope fs)
goal_bound-keeps names g scope no_form at few has none = cc
goal_bound-keeps names g scope (more_forms f no_form) at few has none = goal-keeps names g scope f few has.0 none
goal_bound-keeps names g scope (more_forms f (more_forms h fs)) at few has none = cc

bound_call-keeps : (names : List (List ℕ)) (g : NameSignature) (scope : Scope) (w : FormulaWord) (text : List ℕ) (rest : FormTrees)
    (at : ℕ) → length scope ≤ 32 → HaveNames names rest → bound_call_breaks g scope w text rest at ≡ [] →
    BoundKeeps (seen g) (length names) (length scope) (bound_call_meant names g scope w text rest)
bound_call-keeps names g scope (word.Compare cmp.Eq) text rest at few has none = equality-keeps names g scope rest at few has none
bound_call-keeps names g scope word.Goal text rest at few has none = goal_bound-keeps names g scope rest at few has none
bound_call-keeps names g scope _ text rest at few has none = fact-keeps names g scope text rest at few has none

pub bound-keeps : (names : List (List ℕ)) (g : NameSignature) (scope : Scope) (f : FormTree) → length scope ≤ 32 → HasNames names f →
    bound_breaks g scope f ≡ [] → BoundKeeps (seen g) (length names) (length scope) (bound_meant names g scope f)
unfolding bound_breaks bound_meant
bound-keeps names g scope (symbol text at) few has none = cc
bound-keeps names g scope (integer z at) few has none = cc
bound-keeps names g scope (list no_form at) few has none = cc
bound-keeps names g scope (list (more_forms (symbol text s) rest) at) few has none =
    bound_call-keeps names g scope (formula_word text) text rest at few has.1 none
bound-keeps names g scope (list (more_forms (integer z s) rest) at) few has none = cc
bound-keeps names g scope (list (more_forms (list fs s) rest) at) few has none = cc

pub bounds-keep : (names : List (List ℕ)) (g : NameSignature) (scope : Scope) (fs : FormTrees) → length scope ≤ 32 → HaveNames names fs →
    bounds_breaks g scope fs ≡ [] → Each (BoundKeeps (seen g) (length names) (length scope)) (bounds_meant names g scope fs)
bounds-keep names g scope no_form few has none = tt
bounds-keep names g scope (more_forms f fs) few has none =
    let parts = none-parts (bound_breaks g scope f) (bounds_breaks g scope fs) none in
    (bound-keeps names g scope f few has.0 parts.0, bounds-keep names g scope fs few has.1 parts.1)
