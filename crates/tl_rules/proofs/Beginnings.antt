-- Names that begin with other names.
use Rattle.std.proofs.Common.{◌≡◌, ℕ, List, [], ◌∷◌, ◌++◌, Bool, true, false, cond, refl, sym, ap, ◌∙◌, append_assoc, append-nil}
use Rattle.std.specs.List.{list_any}
use Rattle.std.specs.Str.{bytes_eq}
use Rattle.tl_sexpr.specs.Tree.{FormTree, FormTrees, symbol, integer, list, no_form, more_forms}
use Rattle.tl_syntax.specs.Texts.{with_text}
use Rattle.tl_rules.specs.Symbols.{names_with, names_with_all, BeginsWith}

pub begins-same : (names old : List (List ℕ)) → names ≡ old → BeginsWith names old
begins-same names old e = ([], e ∙ sym (append-nil old))

pub begins-chain : (new names old : List (List ℕ)) → BeginsWith new names → BeginsWith names old → BeginsWith new old
begins-chain new names old p q = (q.0 ++ p.0, p.1 ∙ (ap (λ xs. xs ++ p.0) q.1 ∙ append_assoc old q.0 p.0))

pub begins-text : (names old : List (List ℕ)) (text : List ℕ) → names ≡ with_text old text → BeginsWith names old
begins-text names old text e = begins-chain names (with_text old text) old (begins-same names (with_text old text) e)
    (known (list_any (bytes_eq text) old))
  where
    known : (test : Bool) → BeginsWith (cond test old (old ++ text ∷ [])) old
    known true = begins-same old old refl
    known false = (text ∷ [], refl)

-- the texts with a symbol begin with those before
pub text-begins : (names : List (List ℕ)) (text : List ℕ) → BeginsWith (with_text names text) names
text-begins names text = begins-text (with_text names text) names text refl

mutual
  pub form-begins : (names : List (List ℕ)) (form : FormTree) → BeginsWith (names_with names form) names
  form-begins names (symbol text at) = text-begins names text
  form-begins names (integer z at) = begins-same names names refl
  form-begins names (list fs at) = forms-begin names fs

  pub forms-begin : (names : List (List ℕ)) (forms : FormTrees) → BeginsWith (names_with_all names forms) names
  forms-begin names no_form = begins-same names names refl
  forms-begin names (more_forms f fs) = begins-chain _ _ names (forms-begin (names_with names f) fs) (form-begins names f)

pub ruleset beginnings = (begins-same, begins-chain, begins-text, text-begins)
