-- Heads, declarations and definitions mean something exactly where they break no rule.
use Rattle.std.proofs.Common.{◌≡◌, ◌+◌, ℕ, List, [], ◌∷◌, ◌++◌, refl, ap, ◌∙◌}
use Rattle.std.specs.Prelude.{Bool, true, false, ◌&&◌, ◌||◌, not, nat_lt, Option, Some, None, if◌then◌else◌, is_some}
use Rattle.std.specs.Option.{option_map}
use Rattle.tl_sexpr.specs.Tree.{FormTree, FormTrees, symbol, integer, list, no_form, more_forms}
use Rattle.tl_syntax.specs.declared.declared.Declared.{Declared}
use Rattle.tl_rules.specs.declared.rule.Rule.TheVariants.{Shape, Twice, NotInBound, Limit}
use Rattle.tl_rules.specs.Parts.{count, is_variable, are_variables, is_list, is_within, natural, texts_of}
use Rattle.tl_rules.specs.Rules.{Break, breaks_if}
use Rattle.tl_rules.specs.Symbols.{number_in}
use Rattle.tl_rules.specs.Unbroken.{where_unbroken}
use Rattle.tl_rules.proofs.Unbroken.{map-unbroken}
use Rattle.tl_formulas.specs.declared.roles.FormulaRole.TheVariants as role
use Rattle.tl_formulas.specs.declared.signature.NameSignature.{NameSignature}
use Rattle.tl_formulas.specs.Formulas.{formula_breaks}
use Rattle.tl_formulas.specs.MeaningOfFormulas.{formula_meant}
use Rattle.tl_formulas.specs.PartialFormulas.{are_new}
use Rattle.tl_formulas.specs.Signatures.{Scope, slot_of, is_taken}
use Rattle.tl_formulas.proofs.MeanFormulas.{formula-mean}
use Rattle.tl_domain.specs.Items.{has_declaration_shape, declaration_breaks, declaration_of, definition_breaks}
use Rattle.tl_domain.specs.MeaningOfItems.{definition_meant}
use Rattle.tl_domain.specs.Operators.{parameters_breaks, head_breaks, parameters_of}
use Rattle.tl_domain.specs.PartialItems.{declaration_meaning, is_head, defined_as, definition_meaning}

-- a list whose second part is of a wrong kind
pub nameless : {A : Type 0} (b : Bool) (at : ℕ) (xs : List Break) (a : A) → None ≡
    where_unbroken (breaks_if (not (b && false)) Shape at ++ xs) a
nameless true at xs a = refl
nameless false at xs a = refl

pub declaration-mean : (names : List (List ℕ)) (g : NameSignature) (fs : FormTrees) (at : ℕ) → declaration_meaning names g fs ≡
    where_unbroken (breaks_if (not (has_declaration_shape fs)) Shape at ++ declaration_breaks g fs)
    (record { name = number_in names (declaration_of fs).0; arity = (declaration_of fs).1 })
declaration-mean names g no_form at = refl
declaration-mean names g (more_forms (integer y a) no_form) at = refl
declaration-mean names g (more_forms (integer y a) (more_forms h no_form)) at = refl
declaration-mean names g (more_forms (integer y a) (more_forms h (more_forms i fs))) at = refl
declaration-mean names g (more_forms (list gs a) no_form) at = refl
declaration-mean names g (more_forms (list gs a) (more_forms h no_form)) at = refl
declaration-mean names g (more_forms (list gs a) (more_forms h (more_forms i fs))) at = refl
declaration-mean names g (more_forms (symbol text a) no_form) at = refl
declaration-mean names g (more_forms (symbol text a) (more_forms (symbol n b) (more_forms i fs))) at = refl
declaration-mean names g (more_forms (symbol text a) (more_forms (integer z b) (more_forms i fs))) at = refl
declaration-mean names g (more_forms (symbol text a) (more_forms (list gs b) (more_forms i fs))) at = refl
declaration-mean names g (more_forms (symbol text a) (more_forms (integer z b) no_form)) at =
    cases (is_variable text) (is_taken g text) (is_within 0 8 z)
  where
    d : Declared
    d = record { name = number_in names text; arity = natural z }

    cases : (v t w : Bool) → (if not (v || t) && w then Some d else None) ≡
        where_unbroken (breaks_if (not (not v && true)) Shape at ++ (breaks_if t Twice a ++ breaks_if (not w) Limit b)) d
    cases true t w = refl
    cases false true w = refl
    cases false false true = refl
    cases false false false = refl
declaration-mean names g (more_forms (symbol text a) (more_forms (symbol n b) no_form)) at = nameless (not (is_variable text)) at _ _
declaration-mean names g (more_forms (symbol text a) (more_forms (list gs b) no_form)) at = nameless (not (is_variable text)) at _ _

parameters-mean : {A : Type 0} (occurs : List ℕ → Bool) (earlier : Scope) (fs : FormTrees) (xs : List Break) (m : Option A) (a : A) → m ≡
    where_unbroken xs a → (if are_new occurs earlier (texts_of fs) then m else None) ≡
    where_unbroken (parameters_breaks occurs earlier fs ++ xs) a
parameters-mean occurs earlier no_form xs m a h = h
parameters-mean occurs earlier (more_forms (symbol text at) fs) xs m a h =
    cases (is_some (slot_of earlier text)) (occurs text) (are_new occurs (earlier ++ text ∷ []) (texts_of fs))
    (parameters_breaks occurs (earlier ++ text ∷ []) fs) (parameters-mean occurs (earlier ++ text ∷ []) fs xs m a h)
  where
    cases : (e o n : Bool) (vs : List Break) → (if n then m else None) ≡ where_unbroken (vs ++ xs) a →
        (if not e && o && n then m else None) ≡ where_unbroken ((breaks_if e Twice at ++ (breaks_if (not o) NotInBound at ++ vs)) ++ xs) a
    cases true o n vs k = refl
    cases false false n vs k = refl
    cases false true n vs k = k
parameters-mean occurs earlier (more_forms (integer z at) fs) xs m a h = parameters-mean occurs earlier fs xs m a h
parameters-mean occurs earlier (more_forms (list gs at) fs) xs m a h = parameters-mean occurs earlier fs xs m a h

-- what begins with a head, which is a list
pub head-mean : {A : Type 0} (most : ℕ) (is_old occurs : List ℕ → Bool) (head : FormTree) (at : ℕ) (xs : List Break) (m : Option A)
    (a : A) → m ≡ where_unbroken xs a → (if is_head most is_old occurs head then m else None) ≡
    where_unbroken (breaks_if (not (is_list head)) Shape at ++ (head_breaks most is_old occurs head ++ xs)) a
head-mean most is_old occurs (symbol text _) at xs m a h = refl
head-mean most is_old occurs (integer z _) at xs m a h = refl
head-mean most is_old occurs (list no_form _) at xs m a h = refl
head-mean most is_old occurs (list (more_forms (integer z _) vs) _) at xs m a h = refl
head-mean most is_old occurs (list (more_forms (list gs _) vs) _) at xs m a h = refl
head-mean most is_old occurs (list (more_forms (symbol text b) vs) c) at xs m a h =
    cases (is_variable text) (is_old text) (are_variables vs) (nat_lt most (count vs)) (are_new occurs [] (texts_of vs))
    (parameters_breaks occurs [] vs) (parameters-mean occurs [] vs xs m a h)
  where
    cases : (v o s l n : Bool) (ps : List Break) → (if n then m else None) ≡ where_unbroken (ps ++ xs) a →
        (if not (v || o) && s && not l && n then m else None) ≡ where_unbroken
        (((breaks_if (not (not v && s)) Shape c ++ breaks_if l Limit c) ++ (breaks_if o Twice b ++ ps)) ++ xs) a
    cases true o s l n ps k = refl
    cases false o false true n ps k = lost o
      where
        lost : (p : Bool) → (if not p && false && false && n then m else None) ≡ None
        lost true = refl
        lost false = refl
    cases false o false false n ps k = lost o
      where
        lost : (p : Bool) → (if not p && false && true && n then m else None) ≡ None
        lost true = refl
        lost false = refl
    cases false true true true n ps k = refl
    cases false false true true n ps k = refl
    cases false true true false n ps k = refl
    cases false false true false n ps k = k

pub definition-mean : (names : List (List ℕ)) (g h : NameSignature) (levels : ℕ) (head body : FormTree) (at : ℕ) →
    definition_meaning names g h levels head body ≡ where_unbroken (breaks_if (not (is_list head)) Shape at ++
    definition_breaks g h head body) (definition_meant names h levels head body)
definition-mean names g h levels head body at =
    let scope : Scope = parameters_of head in
    head-mean 8 (is_taken g) (λ text. true) head at (formula_breaks role.Body h scope body) _ _
    (ap (option_map (defined_as names levels head)) (formula-mean role.Body names h scope body)
    ∙ map-unbroken (defined_as names levels head) (formula_breaks role.Body h scope body) (formula_meant names h scope body))
