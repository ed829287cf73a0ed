-- Formulas mean something exactly where they break no rule.
use Rattle.std.proofs.Common.{◌≡◌, ℕ, List, [], ◌∷◌, ◌++◌, refl, sym, ap, ◌∙◌}
use Rattle.std.specs.Prelude.{Bool, true, false, ◌&&◌, ◌||◌, ◌==◌, not, Option, Some, None, option_and_then, if◌then◌else◌, is_some}
use Rattle.std.specs.Prelude.{codes}
use Rattle.std.specs.Option.{option_map}
use Rattle.std.specs.Str.{bytes_eq}
use Rattle.tl_sexpr.specs.Tree.{FormTree, FormTrees, symbol, integer, list, no_form, more_forms}
use Rattle.tl_syntax.specs.declared.value.Cmp.{Cmp}
use Rattle.tl_syntax.specs.Trees.{TermTrees, FormulaTree, FormulaTrees, verum, falsum, atom, defined, for_all, for_some, within, during}
use Rattle.tl_syntax.specs.Trees.{compare, more_formulas}
use Rattle.tl_rules.specs.declared.rule.Rule.TheVariants.{Shape, Arity, Twice, Shadow, NotInBound, Temporal, Limit}
use Rattle.tl_rules.specs.Both.{option_both}
use Rattle.tl_rules.specs.Parts.{count, is_integer, is_variable_list, is_within, natural, elements_of, texts_of, occurs_in}
use Rattle.tl_rules.specs.Rules.{Break, breaks_if}
use Rattle.tl_rules.specs.Unbroken.{where_unbroken}
use Rattle.tl_rules.proofs.Unbroken.{map-unbroken, both-unbroken, then-unbroken, end-unbroken}
use Rattle.tl_formulas.specs.declared.roles.FormulaRole.{FormulaRole}
use Rattle.tl_formulas.specs.declared.shapes.Unary.{Unary}
use Rattle.tl_formulas.specs.declared.shapes.Unary.TheVariants as unary
use Rattle.tl_formulas.specs.declared.shapes.Binary.{Binary}
use Rattle.tl_formulas.specs.declared.shapes.Binary.TheVariants as binary
use Rattle.tl_formulas.specs.Shapes.{unary_word, binary_word}
use Rattle.tl_formulas.specs.declared.signature.NameSignature.{NameSignature}
use Rattle.tl_formulas.specs.declared.words.FormulaWord.{FormulaWord}
use Rattle.tl_formulas.specs.declared.words.FormulaWord.TheVariants as word
use Rattle.tl_formulas.specs.Bounds.{bound_breaks}
use Rattle.tl_formulas.specs.Formulas.{has_formula_shape, is_temporal, may_be_temporal, role_below, is_too_deep, is_crowded_by, is_constant}
use Rattle.tl_formulas.specs.Formulas.{atom_breaks, name_breaks, steps_breaks, formula_breaks, formula_parts_breaks}
use Rattle.tl_formulas.specs.Formulas.{formulas_breaks}
use Rattle.tl_formulas.specs.Goals.{goal_breaks}
use Rattle.tl_formulas.specs.MeaningOfFormulas.{variables_meant, steps_meant, formula_of_goal, atom_meant, under_word}
use Rattle.tl_formulas.specs.MeaningOfFormulas.{constant_meant, formula_meant, formula_list_meant, formulas_meant}
use Rattle.tl_formulas.specs.MeaningOfTerms.{term_meant, terms_meant, first_term, second_term}
use Rattle.tl_formulas.specs.PartialFormulas.{constant_meaning, are_new, are_bound_by, steps_meaning, atom_meaning, compare_meaning}
use Rattle.tl_formulas.specs.PartialFormulas.{under_meaning, formula_meaning, formula_list_meaning, formulas_meaning}
use Rattle.tl_formulas.specs.PartialTerms.{terms_meaning}
use Rattle.tl_formulas.specs.Signatures.{Table, Scope, place_of, has_arity, slot_of, call_breaks}
use Rattle.tl_formulas.specs.Terms.{term_breaks, terms_breaks}
use Rattle.tl_formulas.specs.Variables.{variables_breaks, with_variables}
use Rattle.tl_formulas.specs.Words.{formula_word}
use Rattle.tl_formulas.proofs.MeanBounds.{goal-mean, bound-mean}
use Rattle.tl_formulas.proofs.MeanTerms.{more-one, more-two, other-shape, place-mean, terms-mean}

constant-mean : (text : List ℕ) (at : ℕ) → constant_meaning text ≡ where_unbroken (breaks_if (not (is_constant text)) Shape at)
    (constant_meant text)
constant-mean text at = cases (bytes_eq text (codes "true")) (bytes_eq text (codes "false"))
  where
    cases : (t f : Bool) → (if t then Some verum else (if f then Some falsum else None)) ≡
        where_unbroken (breaks_if (not (t || f)) Shape at) (if t then verum else falsum)
    cases true f = refl
    cases false true = refl
    cases false false = refl

new-mean : {A : Type 0} (earlier scope : Scope) (b : FormTree) (fs : FormTrees) (xs : List Break) (m : Option A) (a : A) → m ≡
    where_unbroken xs a → (if are_new (λ text. not (is_some (slot_of scope text)) && occurs_in text b) earlier
    (texts_of fs) then m else None) ≡ where_unbroken (variables_breaks earlier scope b fs ++ xs) a
new-mean earlier scope b no_form xs m a h = h
new-mean earlier scope b (more_forms (symbol text at) fs) xs m a h =
    cases (is_some (slot_of earlier text)) (is_some (slot_of scope text)) (occurs_in text b)
    (are_new (λ t. not (is_some (slot_of scope t)) && occurs_in t b) (earlier ++ text ∷ []) (texts_of fs))
    (variables_breaks (earlier ++ text ∷ []) scope b fs) (new-mean (earlier ++ text ∷ []) scope b fs xs m a h)
  where
    cases : (e s o n : Bool) (vs : List Break) → (if n then m else None) ≡ where_unbroken (vs ++ xs) a →
        (if not e && (not s && o) && n then m else None) ≡ where_unbroken
        (((breaks_if e Twice at ++ (breaks_if s Shadow at ++ breaks_if (not o) NotInBound at)) ++ vs) ++ xs) a
    cases true s o n vs k = refl
    cases false true o n vs k = refl
    cases false false false n vs k = refl
    cases false false true n vs k = k
new-mean earlier scope b (more_forms (integer z at) fs) xs m a h = new-mean earlier scope b fs xs m a h
new-mean earlier scope b (more_forms (list gs at) fs) xs m a h = new-mean earlier scope b fs xs m a h

-- of a list with variables and their bound
pub binding-mean : {A : Type 0} (scope : Scope) (vs b : FormTree) (at : ℕ) (xs : List Break) (m : Option A) (a : A) → m ≡
    where_unbroken xs a → (if are_bound_by scope b vs then m else None) ≡
    where_unbroken (breaks_if (not (is_variable_list vs)) Shape at ++ (variables_breaks [] scope b (elements_of vs) ++ xs)) a
binding-mean scope vs b at xs m a h =
    cases (is_variable_list vs) (are_new (λ text. not (is_some (slot_of scope text)) && occurs_in text b) [] (texts_of (elements_of vs)))
    (variables_breaks [] scope b (elements_of vs)) (new-mean [] scope b (elements_of vs) xs m a h)
  where
    cases : (l n : Bool) (ys : List Break) → (if n then m else None) ≡ where_unbroken (ys ++ xs) a → (if l && n then m else None) ≡
        where_unbroken (breaks_if (not l) Shape at ++ (ys ++ xs)) a
    cases true n ys k = k
    cases false n ys k = refl

atom-mean : (g : NameSignature) (text : List ℕ) (n at : ℕ) (ts : TermTrees) → atom_meaning g text n ts ≡
    where_unbroken (atom_breaks g text n at) (atom_meant g text ts)
atom-mean g text n at ts = found (place_of g.predicates text) refl
  where
    tested : (b : Bool) (i : ℕ) → option_map (λ p. atom p ts) (if b then Some i else None) ≡
        where_unbroken (breaks_if (not b) Arity at) (atom i ts)
    tested true i = refl
    tested false i = refl

    found : (place : Option ℕ) → place_of g.predicates text ≡ place → atom_meaning g text n ts ≡
        where_unbroken (atom_breaks g text n at) (atom_meant g text ts)
    found None is = rw is
        (ap (option_map (λ d. defined d ts)) (place-mean g.definitions text n at) ∙
        map-unbroken (λ d. defined d ts) (call_breaks g.definitions text n at) _)
    found (Some i) is = rw is (tested (has_arity g.predicates i n) i)

-- names and comparisons, which have terms
name-mean : (names : List (List ℕ)) (g : NameSignature) (scope : Scope) (text : List ℕ) (rest : FormTrees) (at : ℕ) →
    option_and_then (atom_meaning g text (count rest)) (terms_meaning names g.functions scope rest) ≡
    where_unbroken (atom_breaks g text (count rest) at ++ terms_breaks g.functions scope rest)
    (atom_meant g text (terms_meant names g.functions scope rest))
name-mean names g scope text rest at =
    let k = atom_meaning g text (count rest) in
    ap (option_and_then k) (terms-mean names g.functions scope rest)
    ∙ then-unbroken k (atom_breaks g text (count rest) at) (terms_breaks g.functions scope rest) _ _
    (atom-mean g text (count rest) at (terms_meant names g.functions scope rest))

two-terms : (names : List (List ℕ)) (functions : Table) (scope : Scope) (c : Cmp) (rest : FormTrees) (at : ℕ) →
    compare_meaning c (terms_meant names functions scope rest) ≡ where_unbroken (breaks_if (not (count rest == 2)) Shape at)
    (compare c (first_term (terms_meant names functions scope rest)) (second_term (terms_meant names functions scope rest)))
unfolding term_meant
two-terms names functions scope c no_form at = refl
two-terms names functions scope c (more_forms t no_form) at = refl
two-terms names functions scope c (more_forms t (more_forms u no_form)) at = refl
two-terms names functions scope c (more_forms t (more_forms u (more_forms v fs))) at = other-shape _ at _ (more-two (count fs))

compare-mean : (names : List (List ℕ)) (g : NameSignature) (scope : Scope) (c : Cmp) (rest : FormTrees) (at : ℕ) →
    option_and_then (compare_meaning c) (terms_meaning names g.functions scope rest) ≡
    where_unbroken (breaks_if (not (count rest == 2)) Shape at ++ terms_breaks g.functions scope rest)
    (compare c (first_term (terms_meant names g.functions scope rest)) (second_term (terms_meant names g.functions scope rest)))
compare-mean names g scope c rest at =
    ap (option_and_then (compare_meaning c)) (terms-mean names g.functions scope rest)
    ∙ then-unbroken (compare_meaning c) (breaks_if (not (count rest == 2)) Shape at) (terms_breaks g.functions scope rest)
    (terms_meant names g.functions scope rest) _ (two-terms names g.functions scope c rest at)

-- what a word asks of the formulas after it
one-mean : (names : List (List ℕ)) (g : NameSignature) (scope : Scope) (u : Unary) (rest : FormTrees) (at : ℕ) →
    under_meaning (unary_word u) (formulas_meant names g scope rest) ≡
    where_unbroken (breaks_if (not (has_formula_shape (unary_word u) rest)) Shape at)
    (under_word (unary_word u) (formulas_meant names g scope rest))
unfolding formula_meant
one-mean names g scope unary.Not no_form at = refl
one-mean names g scope unary.Not (more_forms f no_form) at = refl
one-mean names g scope unary.Not (more_forms f (more_forms h fs)) at = other-shape _ at _ (more-one (count fs))
one-mean names g scope unary.Next no_form at = refl
one-mean names g scope unary.Next (more_forms f no_form) at = refl
one-mean names g scope unary.Next (more_forms f (more_forms h fs)) at = other-shape _ at _ (more-one (count fs))
one-mean names g scope unary.Always no_form at = refl
one-mean names g scope unary.Always (more_forms f no_form) at = refl
one-mean names g scope unary.Always (more_forms f (more_forms h fs)) at = other-shape _ at _ (more-one (count fs))
one-mean names g scope unary.Eventually no_form at = refl
one-mean names g scope unary.Eventually (more_forms f no_form) at = refl
one-mean names g scope unary.Eventually (more_forms f (more_forms h fs)) at = other-shape _ at _ (more-one (count fs))

two-mean : (names : List (List ℕ)) (g : NameSignature) (scope : Scope) (b : Binary) (rest : FormTrees) (at : ℕ) →
    under_meaning (binary_word b) (formulas_meant names g scope rest) ≡
    where_unbroken (breaks_if (not (has_formula_shape (binary_word b) rest)) Shape at)
    (under_word (binary_word b) (formulas_meant names g scope rest))
unfolding formula_meant
two-mean names g scope binary.Implies no_form at = refl
two-mean names g scope binary.Implies (more_forms f no_form) at = refl
two-mean names g scope binary.Implies (more_forms f (more_forms h no_form)) at = refl
two-mean names g scope binary.Implies (more_forms f (more_forms h (more_forms i fs))) at = other-shape _ at _ (more-two (count fs))
two-mean names g scope binary.Until no_form at = refl
two-mean names g scope binary.Until (more_forms f no_form) at = refl
two-mean names g scope binary.Until (more_forms f (more_forms h no_form)) at = refl
two-mean names g scope binary.Until (more_forms f (more_forms h (more_forms i fs))) at = other-shape _ at _ (more-two (count fs))

under-mean : (w : FormulaWord) (own xs ys : List Break) (m : Option FormulaTree) (n : Option FormulaTrees) (f : FormulaTree)
    (fs : FormulaTrees) → m ≡ where_unbroken xs f → n ≡ where_unbroken ys fs → under_meaning w (more_formulas f fs) ≡
    where_unbroken own (under_word w (more_formulas f fs)) → option_and_then (under_meaning w) (option_both more_formulas m n) ≡
    where_unbroken (own ++ (xs ++ ys)) (under_word w (more_formulas f fs))
under-mean w own xs ys m n f fs h k is =
    ap (option_and_then (under_meaning w)) ((λ i. option_both more_formulas (h i) (k i)) ∙ both-unbroken more_formulas xs ys f fs)
    ∙ then-unbroken (under_meaning w) own (xs ++ ys) (more_formulas f fs) _ is

-- a number of steps and a formula
counted-mean : (make : ℕ → FormulaTree → FormulaTree) (k : FormTree) (at : ℕ) (xs : List Break) (m : Option FormulaTree) (f : FormulaTree) →
    m ≡ where_unbroken xs f → option_both make (steps_meaning k) m ≡ where_unbroken
    (breaks_if (not (is_integer k)) Shape at ++ (steps_breaks k ++ xs)) (make (steps_meant k) f)
counted-mean make (symbol text _) at xs m f h = refl
counted-mean make (list fs _) at xs m f h = refl
counted-mean make (integer z a) at xs m f h = ap (option_both make (steps_meaning (integer z a))) h ∙ cases (is_within 0 100000 z) xs
  where
    cases : (b : Bool) (ys : List Break) → option_both make (if b then Some (natural z) else None) (where_unbroken ys f) ≡
        where_unbroken (breaks_if (not b) Limit a ++ ys) (make (natural z) f)
    cases true [] = refl
    cases true (y ∷ ys) = refl
    cases false ys = refl

-- a list that may stand there
stand-mean : (s t c : Bool) (ns ps : List Break) (at : ℕ) (m : Option FormulaTree) (f : FormulaTree) → m ≡
    where_unbroken (breaks_if (not s) Shape at ++ (ns ++ ps)) f → (if not t && not c then m else None) ≡
    where_unbroken ((breaks_if (not s) Shape at ++ (ns ++ (breaks_if t Temporal at ++ breaks_if c Limit at))) ++ ps) f
stand-mean true false false [] ps at m f h = h
stand-mean true false false (n ∷ ns) ps at m f h = h
stand-mean true false true [] ps at m f h = refl
stand-mean true false true (n ∷ ns) ps at m f h = refl
stand-mean true true c [] ps at m f h = refl
stand-mean true true c (n ∷ ns) ps at m f h = refl
stand-mean false false false ns ps at m f h = h
stand-mean false false true ns ps at m f h = refl
stand-mean false true c ns ps at m f h = refl

mutual
  unfolding formula_meaning formula_breaks formula_meant term_breaks term_meant

  pub formula-mean : (r : FormulaRole) (names : List (List ℕ)) (g : NameSignature) (scope : Scope) (f : FormTree) →
      formula_meaning r names g scope f ≡ where_unbroken (formula_breaks r g scope f) (formula_meant names g scope f)
  formula-mean r names g scope (symbol text at) = constant-mean text at
  formula-mean r names g scope (integer z at) = refl
  formula-mean r names g scope (list no_form at) = refl
  formula-mean r names g scope (list (more_forms (symbol text _) rest) at) =
      let w = formula_word text in
      stand-mean (has_formula_shape w rest) (is_temporal w && not (may_be_temporal r)) (is_crowded_by scope w rest || is_too_deep r rest)
      (name_breaks g w text rest at) (formula_parts_breaks (role_below r) g scope w rest) at _ _
      (list-mean (role_below r) names g scope w text rest at)
  formula-mean r names g scope (list (more_forms (integer z _) rest) at) = refl
  formula-mean r names g scope (list (more_forms (list fs _) rest) at) = refl

  list-mean : (r : FormulaRole) (names : List (List ℕ)) (g : NameSignature) (scope : Scope) (w : FormulaWord) (text : List ℕ)
      (rest : FormTrees) (at : ℕ) → formula_list_meaning r names g scope w text rest ≡
      where_unbroken (breaks_if (not (has_formula_shape w rest)) Shape at ++
      (name_breaks g w text rest at ++ formula_parts_breaks r g scope w rest)) (formula_list_meant names g scope w text rest)
  list-mean r names g scope word.Name text no_form at = name-mean names g scope text no_form at
  list-mean r names g scope word.Name text (more_forms f fs) at = name-mean names g scope text (more_forms f fs) at
  list-mean r names g scope (word.Compare c) text no_form at = compare-mean names g scope c no_form at
  list-mean r names g scope (word.Compare c) text (more_forms f fs) at = compare-mean names g scope c (more_forms f fs) at
  list-mean r names g scope word.Goal text no_form at = refl
  list-mean r names g scope word.Goal text (more_forms f no_form) at =
      ap (option_map formula_of_goal) (goal-mean names g scope f)
      ∙ map-unbroken formula_of_goal (goal_breaks g scope f) _ ∙ sym (end-unbroken (goal_breaks g scope f) _)
  list-mean r names g scope word.Goal text (more_forms f (more_forms h fs)) at =
      ap (λ c. where_unbroken (breaks_if (not c) Shape at ++ formula_parts_breaks r g scope word.Goal (more_forms f (more_forms h fs)))
      (formula_list_meant names g scope word.Goal text (more_forms f (more_forms h fs)))) (sym (more-one (count fs)))
  list-mean r names g scope word.ForAll text no_form at = refl
  list-mean r names g scope word.ForAll text (more_forms vs no_form) at = refl
  list-mean r names g scope word.ForAll text (more_forms vs (more_forms b no_form)) at = refl
  list-mean r names g scope word.ForAll text (more_forms vs (more_forms b (more_forms f no_form))) at =
      let inner = with_variables scope vs in
      let body = formula-mean r names g inner f ∙ sym (end-unbroken (formula_breaks r g inner f) _) in
      binding-mean scope vs b at (bound_breaks g inner b ++ (formula_breaks r g inner f ++ [])) _ _
      ((λ i. option_both (for_all (variables_meant names scope vs)) (bound-mean names g inner b i) (body i))
      ∙ both-unbroken (for_all (variables_meant names scope vs)) (bound_breaks g inner b) (formula_breaks r g inner f ++ []) _ _)
  list-mean r names g scope word.ForAll text (more_forms vs (more_forms b (more_forms f (more_forms h fs)))) at = refl
  list-mean r names g scope word.Exists text no_form at = refl
  list-mean r names g scope word.Exists text (more_forms vs no_form) at = refl
  list-mean r names g scope word.Exists text (more_forms vs (more_forms b no_form)) at = refl
  list-mean r names g scope word.Exists text (more_forms vs (more_forms b (more_forms f no_form))) at =
      let inner = with_variables scope vs in
      let body = formula-mean r names g inner f ∙ sym (end-unbroken (formula_breaks r g inner f) _) in
      binding-mean scope vs b at (bound_breaks g inner b ++ (formula_breaks r g inner f ++ [])) _ _
      ((λ i. option_both (for_some (variables_meant names scope vs)) (bound-mean names g inner b i) (body i))
      ∙ both-unbroken (for_some (variables_meant names scope vs)) (bound_breaks g inner b) (formula_breaks r g inner f ++ []) _ _)
  list-mean r names g scope word.Exists text (more_forms vs (more_forms b (more_forms f (more_forms h fs)))) at = refl
  list-mean r names g scope word.Within text no_form at = refl
  list-mean r names g scope word.Within text (more_forms k no_form) at = refl
  list-mean r names g scope word.Within text (more_forms k (more_forms f no_form)) at =
      counted-mean within k at (formula_breaks r g scope f ++ []) _ _ (formula-mean r names g scope f ∙
      sym (end-unbroken (formula_breaks r g scope f) _))
  list-mean r names g scope word.Within text (more_forms k (more_forms f (more_forms h fs))) at = refl
  list-mean r names g scope word.During text no_form at = refl
  list-mean r names g scope word.During text (more_forms k no_form) at = refl
  list-mean r names g scope word.During text (more_forms k (more_forms f no_form)) at =
      counted-mean during k at (formula_breaks r g scope f ++ []) _ _ (formula-mean r names g scope f ∙
      sym (end-unbroken (formula_breaks r g scope f) _))
  list-mean r names g scope word.During text (more_forms k (more_forms f (more_forms h fs))) at = refl
  list-mean r names g scope word.Not text no_form at = refl
  list-mean r names g scope word.Not text (more_forms f fs) at =
      under-mean word.Not (breaks_if (not (count (more_forms f fs) == 1)) Shape at) (formula_breaks r g scope f)
      (formulas_breaks r g scope fs) _ _ _ _ (formula-mean r names g scope f) (formulas-mean r names g scope fs)
      (one-mean names g scope unary.Not (more_forms f fs) at)
  list-mean r names g scope word.Next text no_form at = refl
  list-mean r names g scope word.Next text (more_forms f fs) at =
      under-mean word.Next (breaks_if (not (count (more_forms f fs) == 1)) Shape at) (formula_breaks r g scope f)
      (formulas_breaks r g scope fs) _ _ _ _ (formula-mean r names g scope f) (formulas-mean r names g scope fs)
      (one-mean names g scope unary.Next (more_forms f fs) at)
  list-mean r names g scope word.Always text no_form at = refl
  list-mean r names g scope word.Always text (more_forms f fs) at =
      under-mean word.Always (breaks_if (not (count (more_forms f fs) == 1)) Shape at) (formula_breaks r g scope f)
      (formulas_breaks r g scope fs) _ _ _ _ (formula-mean r names g scope f) (formulas-mean r names g scope fs)
      (one-mean names g scope unary.Always (more_forms f fs) at)
  list-mean r names g scope word.Eventually text no_form at = refl
  list-mean r names g scope word.Eventually text (more_forms f fs) at =
      under-mean word.Eventually (breaks_if (not (count (more_forms f fs) == 1)) Shape at) (formula_breaks r g scope f)
      (formulas_breaks r g scope fs) _ _ _ _ (formula-mean r names g scope f) (formulas-mean r names g scope fs)
      (one-mean names g scope unary.Eventually (more_forms f fs) at)
  list-mean r names g scope word.Implies text no_form at = refl
  list-mean r names g scope word.Implies text (more_forms f fs) at =
      under-mean word.Implies (breaks_if (not (count (more_forms f fs) == 2)) Shape at) (formula_breaks r g scope f)
      (formulas_breaks r g scope fs) _ _ _ _ (formula-mean r names g scope f) (formulas-mean r names g scope fs)
      (two-mean names g scope binary.Implies (more_forms f fs) at)
  list-mean r names g scope word.Until text no_form at = refl
  list-mean r names g scope word.Until text (more_forms f fs) at =
      under-mean word.Until (breaks_if (not (count (more_forms f fs) == 2)) Shape at) (formula_breaks r g scope f)
      (formulas_breaks r g scope fs) _ _ _ _ (formula-mean r names g scope f) (formulas-mean r names g scope fs)
      (two-mean names g scope binary.Until (more_forms f fs) at)
  list-mean r names g scope word.And text no_form at = refl
  list-mean r names g scope word.And text (more_forms f fs) at =
      under-mean word.And [] (formula_breaks r g scope f) (formulas_breaks r g scope fs) _ _ _ _ (formula-mean r names g scope f)
      (formulas-mean r names g scope fs) refl
  list-mean r names g scope word.Or text no_form at = refl
  list-mean r names g scope word.Or text (more_forms f fs) at =
      under-mean word.Or [] (formula_breaks r g scope f) (formulas_breaks r g scope fs) _ _ _ _ (formula-mean r names g scope f)
      (formulas-mean r names g scope fs) refl

  pub formulas-mean : (r : FormulaRole) (names : List (List ℕ)) (g : NameSignature) (scope : Scope) (fs : FormTrees) →
      formulas_meaning r names g scope fs ≡ where_unbroken (formulas_breaks r g scope fs) (formulas_meant names g scope fs)
  formulas-mean r names g scope no_form = refl
  formulas-mean r names g scope (more_forms f fs) =
      (λ i. option_both more_formulas (formula-mean r names g scope f i) (formulas-mean r names g scope fs i))
      ∙ both-unbroken more_formulas (formula_breaks r g scope f) (formulas_breaks r g scope fs) _ _
