-- Heads, element by element.
use Rattle.std.proofs.Common.{◌≡◌, ℕ, List, [], ◌∷◌, ◌++◌, Bool, refl, Some, None}
use Rattle.std.specs.Prelude.{not, is_some}
use Rattle.tl_sexpr.specs.Tree.{FormTree, FormTrees, symbol, integer, list, no_form, more_forms}
use Rattle.tl_rules.specs.declared.rule.Rule.TheVariants.{Twice, NotInBound}
use Rattle.tl_rules.specs.Rules.{breaks_if}
use Rattle.tl_rules.specs.Parts.{offset_of, symbol_text, elements_of, rest_of}
use Rattle.tl_formulas.specs.Signatures.{Scope, slot_of}
use Rattle.tl_domain.specs.Operators.{parameters_breaks, name_in_head}

-- the name and the variables of a head with these elements
pub head-name : (f : FormTree) (text : List ℕ) (at : ℕ) (fs : FormTrees) → more_forms (symbol text at) fs ≡ elements_of f → name_in_head f ≡
    text
head-name (symbol t a) text at fs is = cc
head-name (integer z a) text at fs is = cc
head-name (list no_form a) text at fs is = cc
head-name (list (more_forms (symbol t b) gs) a) text at fs is = cc
head-name (list (more_forms (integer z b) gs) a) text at fs is = cc
head-name (list (more_forms (list hs b) gs) a) text at fs is = cc

pub head-variables : (f : FormTree) (text : List ℕ) (at : ℕ) (fs : FormTrees) → more_forms (symbol text at) fs ≡ elements_of f → rest_of f ≡
    fs
head-variables (symbol t a) text at fs is = cc
head-variables (integer z a) text at fs is = cc
head-variables (list no_form a) text at fs is = cc
head-variables (list (more_forms g gs) a) text at fs is = cc

-- the breaks of a parameter and of those after it
pub parameters-next : (occurs : List ℕ → Bool) (earlier : Scope) (f : FormTree) (fs : FormTrees) (text : List ℕ) → symbol_text f ≡
    Some text → parameters_breaks occurs earlier (more_forms f fs) ≡ breaks_if (is_some (slot_of earlier text)) Twice (offset_of f) ++
    (breaks_if (not (occurs text)) NotInBound (offset_of f) ++ parameters_breaks occurs (earlier ++ text ∷ []) fs)
parameters-next occurs earlier (symbol t at) fs text is = cc
parameters-next occurs earlier (integer z at) fs text is = cc
parameters-next occurs earlier (list gs at) fs text is = cc

-- a form that is no symbol is passed over
pub parameters-skip : (occurs : List ℕ → Bool) (earlier : Scope) (f : FormTree) (fs : FormTrees) → symbol_text f ≡ None →
    parameters_breaks occurs earlier (more_forms f fs) ≡ parameters_breaks occurs earlier fs
parameters-skip occurs earlier (symbol t at) fs is = cc
parameters-skip occurs earlier (integer z at) fs is = refl
parameters-skip occurs earlier (list gs at) fs is = refl
