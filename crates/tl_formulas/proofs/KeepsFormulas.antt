-- A formula that breaks nothing fits what is declared, has the slots of its scope free, and is named.
use Rattle.std.proofs.Common.{◌≡◌, ◌<◌, ◌≤◌, ◌+◌, ℕ, List, [], ◌++◌, Bool, true, false, length, Some, None, refl, sym, subst}
use Rattle.std.proofs.Common.{arith as linear, length-append, cond}
use Rattle.std.specs.Prelude.{Option, ◌&&◌, ◌||◌, not, codes}
use Rattle.std.specs.Str.{bytes_eq}
use Rattle.std.proofs.lemmas.Bool.{or_parts, ltb-false}
use Rattle.tl_sexpr.specs.Tree.{FormTree, FormTrees, symbol, integer, list, no_form, more_forms}
use Rattle.tl_syntax.specs.declared.bound.Bound.{Bound}
use Rattle.tl_syntax.specs.declared.bound.Bound.TheVariants as bound
use Rattle.tl_syntax.specs.declared.value.Cmp.{Cmp}
use Rattle.tl_syntax.specs.declared.variable.Var.{Var}
use Rattle.tl_syntax.specs.Fits.{Fits, AllFit, VariablesFit, term_count}
use Rattle.tl_syntax.specs.FreeVariables.{slots_of, is_slot_in, bound_slots, slots_without, free_slots, all_free_slots, term_slots}
use Rattle.tl_syntax.specs.Lists.{Each}
use Rattle.tl_syntax.specs.Named.{VariableIsNamed, BoundIsNamed, IsNamed, AreNamed}
use Rattle.tl_syntax.specs.Signature as domain
use Rattle.tl_syntax.specs.Signature.{Takes}
use Rattle.tl_syntax.specs.Trees.{TermTrees, FormulaTree, FormulaTrees, verum, falsum, compare, for_all, for_some, within, during}
use Rattle.tl_syntax.specs.Trees.{no_formula, more_formulas}
use Rattle.tl_rules.specs.declared.rule.Rule.TheVariants.{Shape, Temporal, Limit}
use Rattle.tl_rules.specs.Named.{HasNames, HaveNames}
use Rattle.tl_rules.specs.Parts.{count, is_variable_list, are_variables, elements_of, texts_of}
use Rattle.tl_rules.specs.Rules.{breaks_if}
use Rattle.tl_formulas.specs.declared.signature.NameSignature.{NameSignature}
use Rattle.tl_formulas.specs.declared.roles.FormulaRole.{FormulaRole}
use Rattle.tl_formulas.specs.declared.words.FormulaWord.{FormulaWord}
use Rattle.tl_formulas.specs.declared.words.FormulaWord.TheVariants as word
use Rattle.tl_formulas.specs.Words.{formula_word}
use Rattle.tl_formulas.specs.Signatures.{Scope, place_of}
use Rattle.tl_formulas.specs.Terms.{terms_breaks}
use Rattle.tl_formulas.specs.Goals.{goal_breaks}
use Rattle.tl_formulas.specs.Bounds.{bound_breaks}
use Rattle.tl_formulas.specs.Variables.{variables_breaks, with_variables, is_crowded}
use Rattle.tl_formulas.specs.Formulas.{has_quantifier_shape, has_formula_shape, is_temporal, may_be_temporal, role_below, is_too_deep}
use Rattle.tl_formulas.specs.Formulas.{atom_breaks, name_breaks, is_crowded_by, steps_breaks, formula_list_breaks, goals_breaks}
use Rattle.tl_formulas.specs.Formulas.{formula_breaks, formula_parts_breaks, formulas_breaks}
use Rattle.tl_formulas.specs.MeaningOfTerms.{first_term, second_term, terms_meant}
use Rattle.tl_formulas.specs.MeaningOfBounds.{bound_meant}
use Rattle.tl_formulas.specs.MeaningOfFormulas.{variables_meant, steps_meant, formula_of_goal, atom_at, atom_meant, first_formula}
use Rattle.tl_formulas.specs.MeaningOfFormulas.{second_formula, under_word, constant_meant, formula_meant, formula_list_meant}
use Rattle.tl_formulas.specs.MeaningOfFormulas.{formulas_meant}
use Rattle.tl_formulas.proofs.KeepsLists.{none-parts, test-fails, test-passes, Each-both, Each-parts, below-without}
use Rattle.tl_formulas.proofs.KeepsCalls.{arities, seen, NamesOnly, called-takes, called-at-takes}
use Rattle.tl_formulas.proofs.KeepsTerms.{TermsKeep, first-keeps, second-keeps, terms-count, terms-keep}
use Rattle.tl_formulas.proofs.KeepsGoals.{BoundKeeps, goal-keeps, elements-have}
use Rattle.tl_formulas.proofs.KeepsBounds.{bound-keeps}
use Rattle.tl_formulas.proofs.KeepsVariables.{variables-fit, variables-named, texts-have, texts-count, slots-cover, around-below}

-- a formula, and formulas, below quantifiers of some slots: they fit, their free slots are of the first k, and their names of the first n
pub record FormulaKeeps (g : domain.Signature) (n : ℕ) (around : List ℕ) (k : ℕ) (f : FormulaTree) : Type 0 where
  pub fits : Fits g around f
  pub below : Each (λ q. q < k) (free_slots f)
  pub named : IsNamed n f

pub record FormulasKeep (g : domain.Signature) (n : ℕ) (around : List ℕ) (k : ℕ) (fs : FormulaTrees) : Type 0 where
  pub fits : AllFit g around fs
  pub below : Each (λ q. q < k) (all_free_slots fs)
  pub named : AreNamed n fs

-- what stands around a form: at most 32 variables in scope, the slots of the quantifiers around among theirs, and names of what is declared
-- that are no variables
pub record IsPlace (g : NameSignature) (around : List ℕ) (scope : Scope) : Type 0 where
  pub few : length scope ≤ 32
  pub inside : Each (λ q. q < length scope) around
  pub only : NamesOnly g

pub constant-keeps : (g : domain.Signature) (n : ℕ) (around : List ℕ) (k : ℕ) → FormulaKeeps g n around k verum
unfolding Fits free_slots IsNamed
constant-keeps g n around k = record { fits = tt; below = tt; named = tt }

symbol-keeps : (g : domain.Signature) (n : ℕ) (around : List ℕ) (k : ℕ) (text : List ℕ) → FormulaKeeps g n around k (constant_meant text)
unfolding Fits free_slots IsNamed
symbol-keeps g n around k text = by_test (bytes_eq text (codes "true"))
  where
    by_test : (b : Bool) → FormulaKeeps g n around k (cond b verum falsum)
    by_test true = constant-keeps g n around k
    by_test false = record { fits = tt; below = tt; named = tt }

pub first_formula-keeps : (g : domain.Signature) (n : ℕ) (around : List ℕ) (k : ℕ) (fs : FormulaTrees) → FormulasKeep g n around k fs →
    FormulaKeeps g n around k (first_formula fs)
unfolding Fits free_slots IsNamed
first_formula-keeps g n around k no_formula h = constant-keeps g n around k
first_formula-keeps g n around k (more_formulas f fs) h = record {
  fits = h.fits.0;
  below =
      (Each-parts (λ q. q < k) (free_slots f) (all_free_slots fs) h.below).0;
  named = h.named.0;
}

second_formula-keeps : (g : domain.Signature) (n : ℕ) (around : List ℕ) (k : ℕ) (fs : FormulaTrees) → FormulasKeep g n around k fs →
    FormulaKeeps g n around k (second_formula fs)
unfolding Fits free_slots IsNamed
second_formula-keeps g n around k no_formula h = constant-keeps g n around k
second_formula-keeps g n around k (more_formulas f fs) h = first_formula-keeps g n around k fs
    (record { fits = h.fits.1; below = (Each-parts (λ q. q < k) (free_slots f) (all_free_slots fs) h.below).1; named = h.named.1 })

-- formulas under a word
under_word-keeps : (g : domain.Signature) (n : ℕ) (around : List ℕ) (k : ℕ) (w : FormulaWord) (fs : FormulaTrees) →
    FormulasKeep g n around k fs → FormulaKeeps g n around k (under_word w fs)
unfolding Fits free_slots IsNamed
under_word-keeps g n around k word.Not fs h = let first = first_formula-keeps g n around k fs h in
    record { fits = first.fits; below = first.below; named = first.named }
under_word-keeps g n around k word.And fs h = record { fits = h.fits; below = h.below; named = h.named }
under_word-keeps g n around k word.Or fs h = record { fits = h.fits; below = h.below; named = h.named }
under_word-keeps g n around k word.Implies fs h =
    let first = first_formula-keeps g n around k fs h in
    let second = second_formula-keeps g n around k fs h in
    record {
      fits = (first.fits, (second.fits, tt));
      below = Each-both (λ q. q < k) (free_slots (first_formula fs)) (free_slots (second_formula fs) ++ []) first.below
          (Each-both (λ q. q < k) (free_slots (second_formula fs)) [] second.below tt);
      named = (first.named, (second.named, tt));
    }
under_word-keeps g n around k word.Next fs h = let first = first_formula-keeps g n around k fs h in
    record { fits = first.fits; below = first.below; named = first.named }
under_word-keeps g n around k word.Always fs h = let first = first_formula-keeps g n around k fs h in
    record { fits = first.fits; below = first.below; named = first.named }
under_word-keeps g n around k word.Eventually fs h = let first = first_formula-keeps g n around k fs h in
    record { fits = first.fits; below = first.below; named = first.named }
under_word-keeps g n around k word.Until fs h =
    let first = first_formula-keeps g n around k fs h in
    let second = second_formula-keeps g n around k fs h in
    record {
      fits = (first.fits, second.fits);
      below = Each-both (λ q. q < k) (free_slots (first_formula fs))
          (free_slots (second_formula fs)) first.below second.below;
      named = (first.named, second.named);
    }
under_word-keeps g n around k _ fs h = constant-keeps g n around k

-- the formula of a bound under `goal`
goal_formula-keeps : (g : domain.Signature) (n : ℕ) (around : List ℕ) (k : ℕ) (b : Bound) → BoundKeeps g n k b →
    FormulaKeeps g n around k (formula_of_goal b)
unfolding Fits free_slots IsNamed
goal_formula-keeps g n around k (bound.GoalFact p xs) h = record { fits = h.fits; below = h.below; named = h.named }
goal_formula-keeps g n around k (bound.GoalPlace f xs x) h = record { fits = h.fits; below = h.below; named = (h.named.1, h.named.0) }
goal_formula-keeps g n around k (bound.GoalNot p xs) h = record { fits = h.fits; below = h.below; named = h.named }
goal_formula-keeps g n around k (bound.Fact p xs) h = constant-keeps g n around k
goal_formula-keeps g n around k (bound.Place f xs x) h = constant-keeps g n around k

-- an atom of a declared or of a defined predicate
atom-keeps : (g : NameSignature) (n : ℕ) (around : List ℕ) (k : ℕ) (text : List ℕ) (many at : ℕ) (ts : TermTrees) → term_count ts ≡ many →
    atom_breaks g text many at ≡ [] → TermsKeep (seen g) n k ts → FormulaKeeps (seen g) n around k (atom_meant g text ts)
unfolding Fits free_slots IsNamed
atom-keeps g n around k text many at ts counted none h = by_place (place_of g.predicates text) refl
  where
    counts : (taken : List ℕ) (p : ℕ) → Takes taken p many → Takes taken p (term_count ts)
    counts taken p takes = subst (λ (m : ℕ). Takes taken p m) (sym counted) takes

    by_place : (found : Option ℕ) → place_of g.predicates text ≡ found →
        FormulaKeeps (seen g) n around k (atom_at found (place_of g.definitions text) ts)
    by_place None is = record {
      fits = (counts (arities g.definitions) _ (called-takes g.definitions text many at (rw is at none)), h.fits);
      below = h.below;
      named = h.named;
    }
    by_place (Some i) is = record {
      fits = (
        counts (arities g.predicates) i (called-at-takes g.predicates (Some i) many at (rw is at none)),
        h.fits,
      );
      below = h.below;
      named = h.named;
    }

-- a quantifier over a variable list, a bound and a formula
pub record QuantifierKeeps (g : domain.Signature) (n : ℕ) (around : List ℕ) (k higher : ℕ) (vs : List Var) (b : Bound) : Type 0 where
  pub variables : VariablesFit g around vs b
  pub named : Each (VariableIsNamed n) vs
  pub bound_named : BoundIsNamed n b
  pub bound_below : Each (λ q. q < higher) (bound_slots b)
  pub covered : (q : ℕ) → k ≤ q → q < higher → is_slot_in (slots_of vs) q ≡ true

-- the parts of a quantifier that break nothing, and the place below it
pub quantifier-keeps : (names : List (List ℕ)) (g : NameSignature) (around : List ℕ) (scope : Scope) (vs b : FormTree) →
    IsPlace g around scope → HasNames names vs → HasNames names b → are_variables (elements_of vs) ≡ true → is_crowded scope vs ≡ false →
    variables_breaks [] scope b (elements_of vs) ≡ [] → bound_breaks g (with_variables scope vs) b ≡ []
    → QuantifierKeeps (seen g) (length names) around (length scope) (length (with_variables scope vs)) (variables_meant names scope vs)
    (bound_meant names g (with_variables scope vs) b) × IsPlace g (slots_of (variables_meant names scope vs) ++ around)
    (with_variables scope vs)
quantifier-keeps names g around scope vs b place has_vs has_b are crowded none right =
    let room = ltb-false 32 (length scope + count (elements_of vs)) crowded in
    let longer = length-append scope (texts_of (elements_of vs)) in
    let few : length (with_variables scope vs) ≤ 32 = omega (linear, texts-count (elements_of vs) are) in
    let kept = bound-keeps names g (with_variables scope vs) b few has_b right in (
      record {
        variables = variables-fit names g around scope b (elements_of vs) room place.inside place.only are none right kept;
        named = variables-named names (texts_of (elements_of vs)) (length scope)
            (texts-have names (elements_of vs) (elements-have names vs has_vs));
        bound_named = kept.named;
        bound_below = kept.below;
        covered = λ q low high. slots-cover names (texts_of (elements_of vs)) (length scope) q low (omega linear);
      },
      record { few = few; inside = around-below names around scope (texts_of (elements_of vs)) place.inside; only = place.only },
    )

pub quantified-below : (g : domain.Signature) (n : ℕ) (around : List ℕ) (k higher : ℕ) (vs : List Var) (b : Bound) (qs : List ℕ) →
    QuantifierKeeps g n around k higher vs b → Each (λ q. q < higher) qs →
    Each (λ q. q < k) (slots_without (slots_of vs) (bound_slots b ++ qs))
quantified-below g n around k higher vs b qs h below = below-without (slots_of vs) k higher h.covered (bound_slots b ++ qs)
    (Each-both (λ q. q < higher) (bound_slots b) qs h.bound_below below)

-- what the list of a formula itself does not break: its shape is right, its name takes the elements, and its scope has room
pub record ListBreaksNothing (g : NameSignature) (scope : Scope) (w : FormulaWord) (text : List ℕ) (rest : FormTrees) : Type 0 where
  pub at : ℕ
  pub shape : has_formula_shape w rest ≡ true
  pub name : name_breaks g w text rest at ≡ []
  pub few : is_crowded_by scope w rest ≡ false

pub own-parts : (r : FormulaRole) (g : NameSignature) (scope : Scope) (w : FormulaWord) (text : List ℕ) (rest : FormTrees) (at : ℕ) →
    formula_list_breaks r g scope w text rest at ≡ [] → ListBreaksNothing g scope w text rest
own-parts r g scope w text rest at none =
    let parts = none-parts (breaks_if (not (has_formula_shape w rest)) Shape at) _ none in
    let later = none-parts (name_breaks g w text rest at) _ parts.1 in
    let last = none-parts (breaks_if (is_temporal w && not (may_be_temporal r)) Temporal at) _ later.1 in
    record {
      at = at;
      shape = test-passes (has_formula_shape w rest) Shape at parts.0;
      name = later.0;
      few = (or_parts (is_crowded_by scope w rest) (is_too_deep r rest)
          (test-fails (is_crowded_by scope w rest || is_too_deep r rest) Limit at last.1)).0;
    }

pub list-variables : (vs : FormTree) → is_variable_list vs ≡ true → are_variables (elements_of vs) ≡ true
list-variables (symbol text at) h = cc
list-variables (integer z at) h = cc
list-variables (list no_form at) h = cc
list-variables (list (more_forms f fs) at) h = h

pub quantifier-variables : (vs b : FormTree) (fs : FormTrees) → has_quantifier_shape (more_forms vs (more_forms b fs)) ≡ true →
    are_variables (elements_of vs) ≡ true
quantifier-variables vs b no_form h = cc
quantifier-variables vs b (more_forms f no_form) h = list-variables vs h
quantifier-variables vs b (more_forms f (more_forms i fs)) h = cc

no-terms : (g : NameSignature) (scope : Scope) → terms_breaks g.functions scope no_form ≡ []
unfolding terms_breaks
no-terms g scope = refl

both-keep : (g : domain.Signature) (n : ℕ) (around : List ℕ) (k : ℕ) (f : FormulaTree) (fs : FormulaTrees) → FormulaKeeps g n around k f →
    FormulasKeep g n around k fs → FormulasKeep g n around k (more_formulas f fs)
unfolding Fits free_slots IsNamed
both-keep g n around k f fs h i = record {
  fits = (h.fits, i.fits);
  below =
      Each-both (λ q. q < k) (free_slots f) (all_free_slots fs) h.below i.below;
  named = (h.named, i.named);
}

compared-keeps : (g : NameSignature) (n : ℕ) (around : List ℕ) (k : ℕ) (c : Cmp) (ts : TermTrees) → TermsKeep (seen g) n k ts →
    FormulaKeeps (seen g) n around k (compare c (first_term ts) (second_term ts))
unfolding Fits free_slots IsNamed
compared-keeps g n around k c ts h =
    let first = first-keeps (seen g) n k ts h in
    let second = second-keeps (seen g) n k ts h in
    record {
      fits = (first.fits, second.fits);
      below = Each-both (λ q. q < k) (term_slots (first_term ts))
          (term_slots (second_term ts)) first.below second.below;
      named = (first.named, second.named);
    }

for_all-keeps : (g : domain.Signature) (n : ℕ) (around : List ℕ) (k higher : ℕ) (vs : List Var) (b : Bound) (fs : FormulaTrees) →
    QuantifierKeeps g n around k higher vs b → FormulasKeep g n (slots_of vs ++ around) higher fs →
    FormulaKeeps g n around k (for_all vs b (first_formula fs))
unfolding Fits free_slots IsNamed
for_all-keeps g n around k higher vs b fs h below =
    let first = first_formula-keeps g n (slots_of vs ++ around) higher fs below in
    record {
      fits = (h.variables, first.fits);
      below = quantified-below g n around k higher vs b
          (free_slots (first_formula fs)) h first.below;
      named = (h.named, h.bound_named, first.named);
    }

for_some-keeps : (g : domain.Signature) (n : ℕ) (around : List ℕ) (k higher : ℕ) (vs : List Var) (b : Bound) (fs : FormulaTrees) →
    QuantifierKeeps g n around k higher vs b → FormulasKeep g n (slots_of vs ++ around) higher fs →
    FormulaKeeps g n around k (for_some vs b (first_formula fs))
unfolding Fits free_slots IsNamed
for_some-keeps g n around k higher vs b fs h below =
    let first = first_formula-keeps g n (slots_of vs ++ around) higher fs below in
    record {
      fits = (h.variables, first.fits);
      below = quantified-below g n around k higher vs b
          (free_slots (first_formula fs)) h first.below;
      named = (h.named, h.bound_named, first.named);
    }

within-keeps : (g : domain.Signature) (n : ℕ) (around : List ℕ) (k steps : ℕ) (fs : FormulaTrees) → FormulasKeep g n around k fs →
    FormulaKeeps g n around k (within steps (first_formula fs))
unfolding Fits free_slots IsNamed
within-keeps g n around k steps fs h = let first = first_formula-keeps g n around k fs h in
    record { fits = first.fits; below = first.below; named = first.named }

during-keeps : (g : domain.Signature) (n : ℕ) (around : List ℕ) (k steps : ℕ) (fs : FormulaTrees) → FormulasKeep g n around k fs →
    FormulaKeeps g n around k (during steps (first_formula fs))
unfolding Fits free_slots IsNamed
during-keeps g n around k steps fs h = let first = first_formula-keeps g n around k fs h in
    record { fits = first.fits; below = first.below; named = first.named }

mutual
  unfolding formula_breaks formula_meant Fits free_slots IsNamed

  pub formula-keeps : (names : List (List ℕ)) (r : FormulaRole) (g : NameSignature) (around : List ℕ) (scope : Scope) (f : FormTree) →
      IsPlace g around scope → HasNames names f → formula_breaks r g scope f ≡ [] →
      FormulaKeeps (seen g) (length names) around (length scope) (formula_meant names g scope f)
  formula-keeps names r g around scope (symbol text at) place has none = symbol-keeps (seen g) (length names) around (length scope) text
  formula-keeps names r g around scope (integer z at) place has none = cc
  formula-keeps names r g around scope (list no_form at) place has none = cc
  formula-keeps names r g around scope (list (more_forms (symbol text s) rest) at) place has none =
      let parts = none-parts (formula_list_breaks r g scope (formula_word text) text rest at)
      (formula_parts_breaks (role_below r) g scope (formula_word text) rest) none in
      formula_list-keeps names (role_below r) g around scope (formula_word text) text rest place has.1
      (own-parts r g scope (formula_word text) text rest at parts.0) parts.1
  formula-keeps names r g around scope (list (more_forms (integer z s) rest) at) place has none = cc
  formula-keeps names r g around scope (list (more_forms (list fs s) rest) at) place has none = cc

  formula_list-keeps : (names : List (List ℕ)) (r : FormulaRole) (g : NameSignature) (around : List ℕ) (scope : Scope) (w : FormulaWord)
      (text : List ℕ) (fs : FormTrees) → IsPlace g around scope → HaveNames names fs → ListBreaksNothing g scope w text fs →
      formula_parts_breaks r g scope w fs ≡ [] → FormulaKeeps (seen g) (length names) around (length scope)
      (formula_list_meant names g scope w text fs)
  formula_list-keeps names r g around scope word.Name text no_form place has own none =
      atom-keeps g (length names) around (length scope) text 0 own.at (terms_meant names g.functions scope no_form)
      (terms-count names g.functions scope no_form) own.name (terms-keep names g scope no_form place.few has (no-terms g scope))
  formula_list-keeps names r g around scope word.Name text (more_forms f fs) place has own none =
      atom-keeps g (length names) around (length scope) text (count (more_forms f fs)) own.at
      (terms_meant names g.functions scope (more_forms f fs)) (terms-count names g.functions scope (more_forms f fs)) own.name
      (terms-keep names g scope (more_forms f fs) place.few has none)
  formula_list-keeps names r g around scope word.Goal text no_form place has own none =
      constant-keeps (seen g) (length names) around (length scope)
  formula_list-keeps names r g around scope word.Goal text (more_forms f fs) place has own none =
      goal_formula-keeps (seen g) (length names) around (length scope) _
      (goal-keeps names g scope f place.few has.0 (none-parts (goal_breaks g scope f) (goals_breaks g scope fs) none).0)
  formula_list-keeps names r g around scope (word.Compare c) text no_form place has own none =
      constant-keeps (seen g) (length names) around (length scope)
  formula_list-keeps names r g around scope (word.Compare c) text (more_forms f fs) place has own none =
      compared-keeps g (length names) around (length scope) c (terms_meant names g.functions scope (more_forms f fs))
      (terms-keep names g scope (more_forms f fs) place.few has none)
  formula_list-keeps names r g around scope word.ForAll text no_form place has own none =
      constant-keeps (seen g) (length names) around (length scope)
  formula_list-keeps names r g around scope word.ForAll text (more_forms vs no_form) place has own none =
      constant-keeps (seen g) (length names) around (length scope)
  formula_list-keeps names r g around scope word.ForAll text (more_forms vs (more_forms b fs)) place has own none =
      let parts = none-parts (variables_breaks [] scope b (elements_of vs))
      (bound_breaks g (with_variables scope vs) b ++ formulas_breaks r g (with_variables scope vs) fs) none in
      let later = none-parts (bound_breaks g (with_variables scope vs) b) (formulas_breaks r g (with_variables scope vs) fs) parts.1 in
      let head = quantifier-keeps names g around scope vs b place has.0 has.1.0
      (quantifier-variables vs b fs own.shape) own.few parts.0 later.0 in
      let below = formulas-keep names r g (slots_of (variables_meant names scope vs) ++ around)
      (with_variables scope vs) fs head.1 has.1.1 later.1 in
      for_all-keeps (seen g) (length names) around (length scope) (length (with_variables scope vs)) (variables_meant names scope vs)
      (bound_meant names g (with_variables scope vs) b) (formulas_meant names g (with_variables scope vs) fs) head.0 below
  formula_list-keeps names r g around scope word.Exists text no_form place has own none =
      constant-keeps (seen g) (length names) around (length scope)
  formula_list-keeps names r g around scope word.Exists text (more_forms vs no_form) place has own none =
      constant-keeps (seen g) (length names) around (length scope)
  formula_list-keeps names r g around scope word.Exists text (more_forms vs (more_forms b fs)) place has own none =
      let parts = none-parts (variables_breaks [] scope b (elements_of vs))
      (bound_breaks g (with_variables scope vs) b ++ formulas_breaks r g (with_variables scope vs) fs) none in
      let later = none-parts (bound_breaks g (with_variables scope vs) b) (formulas_breaks r g (with_variables scope vs) fs) parts.1 in
      let head = quantifier-keeps names g around scope vs b place has.0 has.1.0
      (quantifier-variables vs b fs own.shape) own.few parts.0 later.0 in
      let below = formulas-keep names r g (slots_of (variables_meant names scope vs) ++ around)
      (with_variables scope vs) fs head.1 has.1.1 later.1 in
      for_some-keeps (seen g) (length names) around (length scope) (length (with_variables scope vs)) (variables_meant names scope vs)
      (bound_meant names g (with_variables scope vs) b) (formulas_meant names g (with_variables scope vs) fs) head.0 below
  formula_list-keeps names r g around scope word.Within text no_form place has own none =
      constant-keeps (seen g) (length names) around (length scope)
  formula_list-keeps names r g around scope word.Within text (more_forms n fs) place has own none =
      within-keeps (seen g) (length names) around (length scope) (steps_meant n) (formulas_meant names g scope fs)
      (formulas-keep names r g around scope fs place has.1 (none-parts (steps_breaks n) (formulas_breaks r g scope fs) none).1)
  formula_list-keeps names r g around scope word.During text no_form place has own none =
      constant-keeps (seen g) (length names) around (length scope)
  formula_list-keeps names r g around scope word.During text (more_forms n fs) place has own none =
      during-keeps (seen g) (length names) around (length scope) (steps_meant n) (formulas_meant names g scope fs)
      (formulas-keep names r g around scope fs place has.1 (none-parts (steps_breaks n) (formulas_breaks r g scope fs) none).1)
  formula_list-keeps names r g around scope w text no_form place has own none =
      under_word-keeps (seen g) (length names) around (length scope) w no_formula (record { fits = tt; below = tt; named = tt })
  formula_list-keeps names r g around scope w text (more_forms f fs) place has own none =
      let parts = none-parts (formula_breaks r g scope f) (formulas_breaks r g scope fs) none in
      under_word-keeps (seen g) (length names) around (length scope) w _
      (both-keep (seen g) (length names) around (length scope) _ _ (formula-keeps names r g around scope f place has.0 parts.0)
      (formulas-keep names r g around scope fs place has.1 parts.1))

  pub formulas-keep : (names : List (List ℕ)) (r : FormulaRole) (g : NameSignature) (around : List ℕ) (scope : Scope) (fs : FormTrees) →
      IsPlace g around scope → HaveNames names fs → formulas_breaks r g scope fs ≡ [] →
      FormulasKeep (seen g) (length names) around (length scope) (formulas_meant names g scope fs)
  formulas-keep names r g around scope no_form place has none = record { fits = tt; below = tt; named = tt }
  formulas-keep names r g around scope (more_forms f fs) place has none =
      let parts = none-parts (formula_breaks r g scope f) (formulas_breaks r g scope fs) none in
      both-keep (seen g) (length names) around (length scope) _ _ (formula-keeps names r g around scope f place has.0 parts.0)
      (formulas-keep names r g around scope fs place has.1 parts.1)
