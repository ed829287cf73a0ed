-- Variables in the slots after those of a scope, and a variable list that breaks nothing.
use Rattle.std.proofs.Common.{◌≡◌, ◌<◌, ◌≤◌, ◌+◌, ℕ, List, [], ◌∷◌, ◌++◌, Bool, true, false, cond, not, length, Some, None, refl, sym, ap}
use Rattle.std.proofs.Common.{◌∙◌, subst, arith, ◌==◌, inl, inr, suc, append_assoc, length-append, add-zero}
use Rattle.std.specs.Prelude.{Option, nat_lt, is_some}
use Rattle.std.specs.List.{list_any, position_or_len}
use Rattle.std.specs.Str.{bytes_eq}
use Rattle.std.proofs.lemmas.Bool.{and_parts, or_parts, eq-eqb, cases_eq, or_left, or_right, or_from, lt-ltb}
use Rattle.std.proofs.lemmas.Slice.Eq.{bytes_eq-Decides}
use Rattle.tl_sexpr.specs.Tree.{FormTree, FormTrees, symbol, integer, list, no_form, more_forms}
use Rattle.tl_syntax.specs.declared.variable.Var.{Var}
use Rattle.tl_syntax.specs.BoundVariables.{OccurIn, DifferInSlot}
use Rattle.tl_syntax.specs.Fits.{VariablesFit}
use Rattle.tl_syntax.specs.FreeVariables.{is_slot_in, slots_of}
use Rattle.tl_syntax.specs.Lists.{Each}
use Rattle.tl_syntax.specs.Named.{VariableIsNamed}
use Rattle.tl_syntax.proofs.ListLaws.{Each-over}
use Rattle.tl_syntax.proofs.Texts.{list_any-from_no_number}
use Rattle.tl_rules.specs.Symbols.{number_in}
use Rattle.tl_rules.specs.declared.rule.Rule.TheVariants.{Twice, Shadow, NotInBound}
use Rattle.tl_rules.specs.Named.{HaveNames}
use Rattle.tl_rules.specs.Parts.{is_variable, count, texts_of, occurs_in, are_variables}
use Rattle.tl_rules.specs.Rules.{breaks_if}
use Rattle.tl_rules.proofs.NamesHave.{number-below}
use Rattle.tl_formulas.specs.declared.signature.NameSignature.{NameSignature}
use Rattle.tl_formulas.specs.Signatures.{Scope, slot_of}
use Rattle.tl_formulas.specs.Bounds.{bound_breaks}
use Rattle.tl_formulas.specs.Variables.{variable_breaks, variables_breaks}
use Rattle.tl_formulas.specs.MeaningOfBounds.{bound_meant}
use Rattle.tl_formulas.specs.MeaningOfFormulas.{variables_from}
use Rattle.tl_formulas.proofs.KeepsLists.{none-parts, test-fails, test-passes, not-among, Each-implies, Each-both}
use Rattle.tl_formulas.proofs.KeepsCalls.{NamesOnly, seen}
use Rattle.tl_formulas.proofs.KeepsGoals.{BoundKeeps}
use Rattle.tl_formulas.proofs.KeepsStands.{bound-stands}

-- the slots of variables from a slot on are at least this one
from-slot : (names texts : List (List ℕ)) (low k : ℕ) → low ≤ k → Each (λ v. low ≤ v.slot) (variables_from names k texts)
from-slot names [] low k le = tt
from-slot names (text ∷ texts) low k le = (le, from-slot names texts low (k + 1) (omega arith))

-- and below the slot after the last
pub slots-below : (names texts : List (List ℕ)) (k high : ℕ) → k + length texts ≤ high →
    Each (λ v. v.slot < high) (variables_from names k texts)
slots-below names [] k high le = tt
slots-below names (text ∷ texts) k high le = (omega arith, slots-below names texts (k + 1) high (omega arith))

pub slots-differ : (names texts : List (List ℕ)) (k : ℕ) → DifferInSlot (variables_from names k texts)
slots-differ names [] k = tt
slots-differ names (text ∷ texts) k = (
  Each-implies (λ v. k + 1 ≤ v.slot) (λ v. v.slot ≡ k → ⊥) (λ v le e. absurd (omega arith)) _
      (from-slot names texts (k + 1) (k + 1) (omega arith)),
  slots-differ names texts (k + 1),
)

-- each slot from the first to the last is one of theirs
pub slots-cover : (names texts : List (List ℕ)) (k q : ℕ) → k ≤ q → q < k + length texts →
    is_slot_in (slots_of (variables_from names k texts)) q ≡ true
slots-cover names [] k q low high = absurd (omega arith)
slots-cover names (text ∷ texts) k q low high = elim (cases_eq q k) [
  | inl e ↦ or_left (q == k) _ (eq-eqb q k e)
  | inr differ ↦ or_right (q == k) _ (slots-cover names texts (k + 1) q (omega arith) (omega arith))
]

slots-fresh : (around : List ℕ) (k : ℕ) → Each (λ q. q < k) around → (vs : List Var) → Each (λ v. k ≤ v.slot) vs →
    Each (λ v. is_slot_in around v.slot ≡ false) vs
slots-fresh around k inside vs h = Each-implies (λ v. k ≤ v.slot) (λ v. is_slot_in around v.slot ≡ false)
    (λ v le. not-among around k v.slot le inside) vs h

pub length-variables : (names texts : List (List ℕ)) (k : ℕ) → length (variables_from names k texts) ≡ length texts
length-variables names [] k = refl
length-variables names (text ∷ texts) k = ap (λ (n : ℕ). suc n) (length-variables names texts (k + 1))

-- names among some names give named variables
pub variables-named : (names texts : List (List ℕ)) (k : ℕ) → Each (λ text. list_any (bytes_eq text) names ≡ true) texts →
    Each (VariableIsNamed (length names)) (variables_from names k texts)
variables-named names [] k h = tt
variables-named names (text ∷ texts) k h = (number-below names text h.0, variables-named names texts (k + 1) h.1)

pub texts-have : (names : List (List ℕ)) (fs : FormTrees) → HaveNames names fs →
    Each (λ text. list_any (bytes_eq text) names ≡ true) (texts_of fs)
texts-have names no_form h = tt
texts-have names (more_forms (symbol text at) fs) h = (h.0, texts-have names fs h.1)
texts-have names (more_forms (integer z at) fs) h = texts-have names fs h.1
texts-have names (more_forms (list gs at) fs) h = texts-have names fs h.1

pub texts-count : (fs : FormTrees) → are_variables fs ≡ true → length (texts_of fs) ≡ count fs
texts-count no_form h = refl
texts-count (more_forms (symbol text at) fs) h = omega (arith, texts-count fs (and_parts (is_variable text) (are_variables fs) h).1)
texts-count (more_forms (integer z at) fs) h = cc
texts-count (more_forms (list gs at) fs) h = cc

-- the first text that passes, after some that do not
first-after : (p : List ℕ → Bool) (xs ys : List (List ℕ)) (y : List ℕ) → list_any p xs ≡ false → p y ≡ true →
    position_or_len p (xs ++ y ∷ ys) ≡ length xs
first-after p [] ys y none h = (elim (p y) as (λ b. b ≡ true → cond (not b) (1 + position_or_len p ys) 0 ≡ 0) [
  | true ↦ λ e.
      refl
  | false ↦ λ e. cc
]) h
first-after p (x ∷ xs) ys y none h =
    let parts = or_parts (p x) (list_any p xs) none in
    (elim (p x) as (λ b. b ≡ false → cond (not b) (1 + position_or_len p (xs ++ y ∷ ys)) 0 ≡ suc (length xs)) [
      | true ↦ λ e.
          cc
      | false ↦ λ e. omega (arith, first-after p xs ys y parts.1 h)
    ]) parts.0

within-after : (xs ys : List (List ℕ)) (y : List ℕ) → length xs < length (xs ++ y ∷ ys)
within-after xs ys y = omega (arith, length-append xs (y ∷ ys))

-- a text that is new after some has the slot after them
pub slot-after : (xs ys : Scope) (text : List ℕ) → list_any (bytes_eq text) xs ≡ false → slot_of (xs ++ text ∷ ys) text ≡ Some (length xs)
slot-after xs ys text none = by_place _ (first-after (bytes_eq text) xs ys text none ((bytes_eq-Decides text text).1 refl))
  where
    by_place : (n : ℕ) → n ≡ length xs → cond (nat_lt n (length (xs ++ text ∷ ys))) (Some n) None ≡ Some (length xs)
    by_place n is = rw (lt-ltb n (length (xs ++ text ∷ ys)) (omega (arith, within-after xs ys text))) (ap (λ (k : ℕ). Some k) is)

-- a text that has no slot is none of the scope
pub not-in-scope : (scope : Scope) (text : List ℕ) → is_some (slot_of scope text) ≡ false → list_any (bytes_eq text) scope ≡ false
not-in-scope scope text h = list_any-from_no_number scope text (by_answer (slot_of scope text) h)
  where
    by_answer : (found : Option ℕ) → is_some found ≡ false → found ≡ None
    by_answer None e = refl
    by_answer (Some k) e = cc

neither : (p : List ℕ → Bool) (xs ys : List (List ℕ)) → list_any p xs ≡ false → list_any p ys ≡ false → list_any p (xs ++ ys) ≡ false
neither p [] ys h i = i
neither p (x ∷ xs) ys h i = let parts = or_parts (p x) (list_any p xs) h in or_from (p x) _ parts.0 (neither p xs ys parts.1 i)

-- each of the variables of a list that breaks nothing stands in the bound
variables-occur : (names : List (List ℕ)) (g : NameSignature) (scope earlier : Scope) (bound : FormTree) (fs : FormTrees) (all : Scope) →
    all ≡ scope ++ (earlier ++ texts_of fs) → NamesOnly g → are_variables fs ≡ true → variables_breaks earlier scope bound fs ≡ [] →
    bound_breaks g all bound ≡ [] → OccurIn (variables_from names (length scope + length earlier) (texts_of fs))
    (bound_meant names g all bound)
variables-occur names g scope earlier bound no_form all is only are none right = tt
variables-occur names g scope earlier bound (more_forms (symbol text at) fs) all is only are none right =
    let variables = and_parts (is_variable text) (are_variables fs) are in
    let parts = none-parts (variable_breaks earlier scope bound text at) (variables_breaks (earlier ++ text ∷ []) scope bound fs) none in
    let own = none-parts (breaks_if (is_some (slot_of earlier text)) Twice at) _ parts.0 in
    let later = none-parts (breaks_if (is_some (slot_of scope text)) Shadow at) _ own.1 in
    let fresh = neither (bytes_eq text) scope earlier (not-in-scope scope text
    (test-fails (is_some (slot_of scope text)) Shadow at later.0))
    (not-in-scope earlier text (test-fails (is_some (slot_of earlier text)) Twice at own.0)) in
    let slot : slot_of all text ≡ Some (length scope + length earlier) =
    rw is (ap (λ (s : Scope). slot_of s text) (sym (append_assoc scope earlier (text ∷ texts_of fs))) ∙
    slot-after (scope ++ earlier) (texts_of fs) text fresh ∙ ap (λ (n : ℕ). Some n) (length-append scope earlier)) in
    let next : length scope + length (earlier ++ text ∷ []) ≡ length scope + length earlier + 1 =
    omega (arith, length-append earlier (text ∷ [])) in (
      bound-stands names all text (record { slot = length scope + length earlier; name = number_in names text })
          (record { variable = variables.0; slot = slot }) g only bound right (test-passes (occurs_in text bound) NotInBound at later.1),
      subst (λ (n : ℕ). OccurIn (variables_from names n (texts_of fs)) (bound_meant names g all bound)) next
          (variables-occur names g scope (earlier ++ text ∷ []) bound fs all
          (is ∙ ap (λ (s : Scope). scope ++ s) (sym (append_assoc earlier (text ∷ []) (texts_of fs)))) only variables.1 parts.1 right),
    )
variables-occur names g scope earlier bound (more_forms (integer z at) fs) all is only are none right = cc
variables-occur names g scope earlier bound (more_forms (list gs at) fs) all is only are none right = cc

-- the variables of a list that breaks nothing, in the slots after those of the scope, fit with the bound
pub variables-fit : (names : List (List ℕ)) (g : NameSignature) (around : List ℕ) (scope : Scope) (bound : FormTree) (fs : FormTrees)
    → length scope + count fs ≤ 32 → Each (λ q. q < length scope) around → NamesOnly g → are_variables fs ≡ true →
    variables_breaks [] scope bound fs ≡ [] → bound_breaks g (scope ++ texts_of fs) bound ≡ []
    → BoundKeeps (seen g) (length names) (length (scope ++ texts_of fs)) (bound_meant names g (scope ++ texts_of fs) bound)
    → VariablesFit (seen g) around (variables_from names (length scope) (texts_of fs)) (bound_meant names g (scope ++ texts_of fs) bound)
variables-fit names g around scope bound fs few inside only are none right keeps = record {
  frame = slots-below names (texts_of fs) (length scope) 32 (omega (arith, texts-count fs are));
  fresh = slots-fresh around (length scope) inside _ (from-slot names (texts_of fs) (length scope) (length scope) (omega arith));
  differ = slots-differ names (texts_of fs) (length scope);
  occur = subst (λ (n : ℕ). OccurIn (variables_from names n (texts_of fs)) (bound_meant names g (scope ++ texts_of fs) bound))
      (add-zero (length scope)) (variables-occur names g scope [] bound fs (scope ++ texts_of fs) refl only are none right);
  bound = keeps.fits;
}

-- the slots around what stands below the variables
pub around-below : (names : List (List ℕ)) (around : List ℕ) (scope : Scope) (texts : List (List ℕ)) → Each (λ q. q < length scope) around →
    Each (λ q. q < length (scope ++ texts)) (slots_of (variables_from names (length scope) texts) ++ around)
around-below names around scope texts inside =
    Each-both (λ q. q < length (scope ++ texts)) (slots_of (variables_from names (length scope) texts)) around
    ((Each-over (λ q. q < length (scope ++ texts)) (λ v. v.slot) _).1 (slots-below names texts (length scope) (length (scope ++ texts))
    (omega (arith, length-append scope texts))))
    (Each-implies (λ q. q < length scope) (λ q. q < length (scope ++ texts))
    (λ q lt. omega (arith, length-append scope texts)) around inside)
