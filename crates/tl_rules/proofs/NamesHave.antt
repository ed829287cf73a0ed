-- The names with each symbol of forms have the symbols of these forms, and names that grow keep those that they have.
use Rattle.std.proofs.Common.{◌≡◌, ◌<◌, ℕ, List, [], ◌∷◌, ◌++◌, Bool, true, false, length, Some, None, refl, sym, ◌∙◌, cond, inl, inr}
use Rattle.std.specs.Prelude.{Option, unwrap_or}
use Rattle.std.specs.List.{list_any}
use Rattle.std.specs.Str.{bytes_eq}
use Rattle.std.proofs.lemmas.Bool.{true≢false, or_cases, or_left, or_right}
use Rattle.std.proofs.lemmas.List.Quantifiers.{position-Some}
use Rattle.std.proofs.lemmas.Slice.Eq.{bytes_eq-Decides}
use Rattle.tl_sexpr.specs.Tree.{FormTree, FormTrees, symbol, integer, list, no_form, more_forms}
use Rattle.tl_syntax.specs.Texts.{with_text, number_of}
use Rattle.tl_syntax.proofs.Texts.{list_any-from_no_number}
use Rattle.tl_rules.specs.Symbols.{names_with, names_with_all, number_in}
use Rattle.tl_rules.specs.Named.{HasNames, HaveNames}

-- each name of the first list is one of the second
pub record Grow (old new : List (List ℕ)) : Type 0 where
  pub has : (text : List ℕ) → list_any (bytes_eq text) old ≡ true → list_any (bytes_eq text) new ≡ true

any-before : (p : List ℕ → Bool) (xs ys : List (List ℕ)) → list_any p xs ≡ true → list_any p (xs ++ ys) ≡ true
any-before p [] ys h = cc
any-before p (x ∷ xs) ys h = elim (or_cases (p x) (list_any p xs) h) [
  | inl here ↦ or_left (p x) (list_any p (xs ++ ys)) here
  | inr later ↦ or_right (p x) (list_any p (xs ++ ys)) (any-before p xs ys later)
]

any-last : (p : List ℕ → Bool) (xs : List (List ℕ)) (y : List ℕ) → p y ≡ true → list_any p (xs ++ y ∷ []) ≡ true
any-last p [] y h = or_left (p y) false h
any-last p (x ∷ xs) y h = or_right (p x) (list_any p (xs ++ y ∷ [])) (any-last p xs y h)

text-grows : (names : List (List ℕ)) (text : List ℕ) → Grow names (with_text names text)
text-grows names text = record { has = λ other h. by_test (list_any (bytes_eq text) names) other h }
  where
    by_test : (known : Bool) (other : List ℕ) → list_any (bytes_eq other) names ≡ true →
        list_any (bytes_eq other) (cond known names (names ++ text ∷ [])) ≡ true
    by_test true other h = h
    by_test false other h = any-before (bytes_eq other) names (text ∷ []) h

text-has : (names : List (List ℕ)) (text : List ℕ) → list_any (bytes_eq text) (with_text names text) ≡ true
text-has names text = by_test (list_any (bytes_eq text) names) refl
  where
    by_test : (known : Bool) → list_any (bytes_eq text) names ≡ known → list_any (bytes_eq text) (cond known names (names ++ text ∷ [])) ≡
        true
    by_test true is = is
    by_test false is = any-last (bytes_eq text) names text ((bytes_eq-Decides text text).1 refl)

mutual
  form-grows : (names : List (List ℕ)) (f : FormTree) → Grow names (names_with names f)
  form-grows names (symbol text at) = text-grows names text
  form-grows names (integer z at) = record { has = λ text h. h }
  form-grows names (list fs at) = forms-grow names fs

  -- names with the symbols of forms have all that they had
  pub forms-grow : (names : List (List ℕ)) (fs : FormTrees) → Grow names (names_with_all names fs)
  forms-grow names no_form = record { has = λ text h. h }
  forms-grow names (more_forms f fs) = record {
    has = λ text h. (forms-grow (names_with names f) fs).has text
        ((form-grows names f).has text h);
  }

mutual
  form-keeps : (old new : List (List ℕ)) (f : FormTree) → Grow old new → HasNames old f → HasNames new f
  form-keeps old new (symbol text at) grown h = grown.has text h
  form-keeps old new (integer z at) grown h = tt
  form-keeps old new (list fs at) grown h = forms-keep old new fs grown h

  -- forms whose symbols are among some names have them among more names
  pub forms-keep : (old new : List (List ℕ)) (fs : FormTrees) → Grow old new → HaveNames old fs → HaveNames new fs
  forms-keep old new no_form grown h = tt
  forms-keep old new (more_forms f fs) grown h = (form-keeps old new f grown h.0, forms-keep old new fs grown h.1)

mutual
  form-has : (names : List (List ℕ)) (f : FormTree) → HasNames (names_with names f) f
  form-has names (symbol text at) = text-has names text
  form-has names (integer z at) = tt
  form-has names (list fs at) = forms-have names fs

  -- names with the symbols of forms have these symbols
  pub forms-have : (names : List (List ℕ)) (fs : FormTrees) → HaveNames (names_with_all names fs) fs
  forms-have names no_form = tt
  forms-have names (more_forms f fs) = (
    form-keeps _ _ f (forms-grow (names_with names f) fs) (form-has names f),
    forms-have (names_with names f) fs,
  )

-- a name has a number below their count
pub number-below : (names : List (List ℕ)) (text : List ℕ) → list_any (bytes_eq text) names ≡ true → number_in names text < length names
number-below names text has = by_answer (number_of names text) refl
  where
    by_answer : (answer : Option ℕ) → number_of names text ≡ answer → unwrap_or answer (length names) < length names
    by_answer None absent = absurd (true≢false (sym has ∙ list_any-from_no_number names text absent))
    by_answer (Some n) found = (position-Some (bytes_eq text) names n [] found).0
