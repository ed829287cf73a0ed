-- A text is among the names with the symbols of forms just where it was there before, or is that of a symbol.
use Rattle.std.proofs.Common.{◌≡◌, ℕ, List, [], ◌∷◌, ◌++◌, Bool, true, false, sym, subst, cond, inl, inr}
use Rattle.std.specs.Prelude.{◌⊎◌}
use Rattle.std.specs.List.{list_any}
use Rattle.std.specs.Str.{bytes_eq}
use Rattle.std.proofs.lemmas.Bool.{or_cases, or_left, or_right}
use Rattle.std.proofs.lemmas.Slice.Eq.{bytes_eq-Decides}
use Rattle.tl_sexpr.specs.Tree.{FormTree, FormTrees, symbol, integer, list, no_form, more_forms}
use Rattle.tl_syntax.specs.Lists.{Among}
use Rattle.tl_syntax.specs.Texts.{with_text}
use Rattle.tl_rules.specs.Symbols.{names_with, names_with_all}
use Rattle.tl_rules.specs.Named.{HasNames, HaveNames, HasSymbol, HaveSymbol}

-- the test of a text among names
pub among-any : (text : List ℕ) (names : List (List ℕ)) → Among text names → list_any (bytes_eq text) names ≡ true
among-any text [] h = absurd h
among-any text (x ∷ xs) h = elim h [
  | inl here ↦ or_left (bytes_eq text x) (list_any (bytes_eq text) xs) ((bytes_eq-Decides text x).1 (sym here))
  | inr later ↦ or_right (bytes_eq text x) (list_any (bytes_eq text) xs) (among-any text xs later)
]

pub any-among : (text : List ℕ) (names : List (List ℕ)) → list_any (bytes_eq text) names ≡ true → Among text names
any-among text [] h = cc
any-among text (x ∷ xs) h = elim (or_cases (bytes_eq text x) (list_any (bytes_eq text) xs) h) [
  | inl here ↦ inl (sym ((bytes_eq-Decides text x).0 here))
  | inr later ↦ inr (any-among text xs later)
]

before-or-last : (p : List ℕ → Bool) (xs : List (List ℕ)) (y : List ℕ) → list_any p (xs ++ y ∷ []) ≡ true → (list_any p xs ≡ true) ⊎
    (p y ≡ true)
before-or-last p [] y h = elim (or_cases (p y) false h) [ inl last ↦ inr last | inr none ↦ inl none ]
before-or-last p (x ∷ xs) y h = elim (or_cases (p x) (list_any p (xs ++ y ∷ [])) h) [
  | inl here ↦ inl (or_left (p x) (list_any p xs) here)
  | inr later ↦ elim (before-or-last p xs y later) [ inl there ↦ inl (or_right (p x) (list_any p xs) there) | inr last ↦ inr last ]
]

text-joins : (names : List (List ℕ)) (new text : List ℕ) → list_any (bytes_eq text) (with_text names new) ≡ true →
    (list_any (bytes_eq text) names ≡ true) ⊎ (new ≡ text)
text-joins names new text h = by_test (list_any (bytes_eq new) names) h
  where
    by_test : (known : Bool) → list_any (bytes_eq text) (cond known names (names ++ new ∷ [])) ≡ true →
        (list_any (bytes_eq text) names ≡ true) ⊎ (new ≡ text)
    by_test true there = inl there
    by_test false there = elim (before-or-last (bytes_eq text) names new there) [
      | inl before ↦ inl before
      | inr last ↦ inr
          (sym ((bytes_eq-Decides text new).0 last))
    ]

mutual
  symbol-joins : (names : List (List ℕ)) (f : FormTree) (text : List ℕ) → list_any (bytes_eq text) (names_with names f) ≡ true →
      (list_any (bytes_eq text) names ≡ true) ⊎ HasSymbol f text
  symbol-joins names (symbol new at) text h = text-joins names new text h
  symbol-joins names (integer z at) text h = inl h
  symbol-joins names (list fs at) text h = symbols-join names fs text h

  -- no other text joins than those of symbols
  pub symbols-join : (names : List (List ℕ)) (fs : FormTrees) (text : List ℕ) → list_any (bytes_eq text) (names_with_all names fs) ≡ true →
      (list_any (bytes_eq text) names ≡ true) ⊎ HaveSymbol fs text
  symbols-join names no_form text h = inl h
  symbols-join names (more_forms f fs) text h = elim (symbols-join (names_with names f) fs text h) [
    | inr later ↦ inr (inr later)
    | inl there ↦ elim (symbol-joins names f text there) [ inl before ↦ inl before | inr first ↦ inr (inl first) ]
  ]

mutual
  symbol-named : (names : List (List ℕ)) (f : FormTree) (text : List ℕ) → HasNames names f → HasSymbol f text →
      list_any (bytes_eq text) names ≡ true
  symbol-named names (symbol other at) text has is = subst (λ (t : List ℕ). list_any (bytes_eq t) names ≡ true) is has
  symbol-named names (integer z at) text has is = absurd is
  symbol-named names (list fs at) text has is = symbols-named names fs text has is

  -- where names have all symbols of forms, each text of a symbol is among them
  pub symbols-named : (names : List (List ℕ)) (fs : FormTrees) (text : List ℕ) → HaveNames names fs → HaveSymbol fs text →
      list_any (bytes_eq text) names ≡ true
  symbols-named names no_form text has is = absurd is
  symbols-named names (more_forms f fs) text has is = elim is [
    | inl first ↦ symbol-named names f text has.0 first
    | inr later ↦ symbols-named names fs text has.1 later
  ]
