-- What terms and bounds break and stand for, by the shapes of their forms.
use Rattle.std.proofs.Common.{◌≡◌, ℕ, List, [], ◌∷◌, ◌++◌, true, false, refl}
use Rattle.std.specs.Prelude.{ℤ}
use Rattle.tl_sexpr.specs.Tree.{FormTree, FormTrees, symbol, integer, list, no_form, more_forms}
use Rattle.tl_syntax.specs.Trees.{value, no_term, more_terms}
use Rattle.tl_syntax.specs.declared.bound.Bound.TheVariants as bound
use Rattle.tl_syntax.specs.declared.value.Value.TheVariants.{Int}
use Rattle.tl_rules.specs.declared.rule.Rule.TheVariants.{Shape}
use Rattle.tl_rules.specs.Parts.{offset_of, is_call, elements_of, rest_of}
use Rattle.tl_formulas.specs.declared.signature.NameSignature.{NameSignature}
use Rattle.tl_formulas.specs.Words.{operation_named, formula_word}
use Rattle.tl_formulas.specs.Signatures.{Table, Scope, place_of, unbound_breaks}
use Rattle.tl_formulas.specs.Terms.{term_call_breaks, term_breaks, terms_breaks}
use Rattle.tl_formulas.specs.Goals.{arguments_breaks, is_flat, miscounted_breaks, other_goal_breaks, goal_breaks}
use Rattle.tl_formulas.specs.Bounds.{equality_breaks, bound_call_breaks, bound_breaks}
use Rattle.tl_formulas.specs.MeaningOfTerms.{symbol_meant, arguments_meant, term_of_argument, call_meant, term_meant, terms_meant}
use Rattle.tl_formulas.specs.MeaningOfBounds.{call_place, other_goal_meant, goal_meant, bound_call_meant, bound_meant}

-- terms
pub term-symbol : (fs : Table) (s : Scope) (text : List ℕ) (at : ℕ) → term_breaks fs s (symbol text at) ≡ unbound_breaks s (symbol text at)
unfolding term_breaks
term-symbol fs s text at = refl

pub term-symbol-meant : (names : List (List ℕ)) (fs : Table) (s : Scope) (text : List ℕ) (at : ℕ) → term_meant names fs s (symbol text at) ≡
    term_of_argument (symbol_meant names s text)
unfolding term_meant
term-symbol-meant names fs s text at = refl

pub term-integer : (fs : Table) (s : Scope) (z : ℤ) (at : ℕ) → term_breaks fs s (integer z at) ≡ []
unfolding term_breaks
term-integer fs s z at = refl

pub term-integer-meant : (names : List (List ℕ)) (fs : Table) (s : Scope) (z : ℤ) (at : ℕ) → term_meant names fs s (integer z at) ≡
    value (Int z)
unfolding term_meant
term-integer-meant names fs s z at = refl

pub term-called : (fs : Table) (s : Scope) (word : List ℕ) (k : ℕ) (rest : FormTrees) (at : ℕ)
    → term_breaks fs s (list (more_forms (symbol word k) rest) at) ≡ term_call_breaks fs (operation_named word) word rest at ++
    terms_breaks fs s rest
unfolding term_breaks
term-called fs s word k rest at = refl

pub term-called-meant : (names : List (List ℕ)) (fs : Table) (s : Scope) (word : List ℕ) (k : ℕ) (rest : FormTrees) (at : ℕ)
    → term_meant names fs s (list (more_forms (symbol word k) rest) at) ≡
    call_meant (operation_named word) (place_of fs word) (terms_meant names fs s rest) at
unfolding term_meant
term-called-meant names fs s word k rest at = refl

pub term-uncalled : (fs : Table) (s : Scope) (elements : FormTrees) (at : ℕ) → is_call (list elements at) ≡ false →
    term_breaks fs s (list elements at) ≡ (Shape, at) ∷ []
unfolding term_breaks
term-uncalled fs s no_form at none = refl
term-uncalled fs s (more_forms (symbol text k) rest) at none = cc
term-uncalled fs s (more_forms (integer z k) rest) at none = refl
term-uncalled fs s (more_forms (list gs k) rest) at none = refl

pub terms-pair : (fs : Table) (s : Scope) (f h : FormTree) → terms_breaks fs s (more_forms f (more_forms h no_form)) ≡ term_breaks fs s f ++
    (term_breaks fs s h ++ [])
unfolding term_breaks
terms-pair fs s f h = refl

pub terms-pair-meant : (names : List (List ℕ)) (fs : Table) (s : Scope) (f h : FormTree) →
    terms_meant names fs s (more_forms f (more_forms h no_form)) ≡ more_terms (term_meant names fs s f)
    (more_terms (term_meant names fs s h) no_term)
unfolding term_meant
terms-pair-meant names fs s f h = refl

pub terms-next : (fs : Table) (s : Scope) (f : FormTree) (rest : FormTrees) → terms_breaks fs s (more_forms f rest) ≡ term_breaks fs s f ++
    terms_breaks fs s rest
unfolding term_breaks
terms-next fs s f rest = refl

pub ruleset term_forms = (term-symbol, term-symbol-meant, term-integer, term-integer-meant, term-called, term-called-meant, term-uncalled)

pub ruleset term_pairs = (terms-pair, terms-pair-meant, terms-next)

-- bounds
pub bound-called : (g : NameSignature) (s : Scope) (word : List ℕ) (k : ℕ) (rest : FormTrees) (at : ℕ) →
    bound_breaks g s (list (more_forms (symbol word k) rest) at) ≡ bound_call_breaks g s (formula_word word) word rest at
unfolding bound_breaks
bound-called g s word k rest at = refl

pub bound-called-meant : (names : List (List ℕ)) (g : NameSignature) (s : Scope) (word : List ℕ) (k : ℕ) (rest : FormTrees) (at : ℕ)
    → bound_meant names g s (list (more_forms (symbol word k) rest) at) ≡ bound_call_meant names g s (formula_word word) word rest
unfolding bound_meant
bound-called-meant names g s word k rest at = refl

pub bound-uncalled : (g : NameSignature) (s : Scope) (f : FormTree) → is_call f ≡ false → bound_breaks g s f ≡ (Shape, offset_of f) ∷ []
unfolding bound_breaks
bound-uncalled g s (symbol text at) none = refl
bound-uncalled g s (integer z at) none = refl
bound-uncalled g s (list no_form at) none = refl
bound-uncalled g s (list (more_forms (symbol text k) rest) at) none = cc
bound-uncalled g s (list (more_forms (integer z k) rest) at) none = refl
bound-uncalled g s (list (more_forms (list gs k) rest) at) none = refl

pub equality-uncalled : (g : NameSignature) (s : Scope) (place v : FormTree) (at : ℕ) → is_call place ≡ false →
    equality_breaks g s (more_forms place (more_forms v no_form)) at ≡ (Shape, at) ∷ []
equality-uncalled g s (symbol text k) v at none = refl
equality-uncalled g s (integer z k) v at none = refl
equality-uncalled g s (list no_form k) v at none = refl
equality-uncalled g s (list (more_forms (symbol text l) rest) k) v at none = cc
equality-uncalled g s (list (more_forms (integer z l) rest) k) v at none = refl
equality-uncalled g s (list (more_forms (list gs l) rest) k) v at none = refl

pub ruleset bounds = (bound-called, bound-called-meant, bound-uncalled, equality-uncalled)

-- the argument of `goal`: a fact, or another
pub goal-fact : (g : NameSignature) (s : Scope) (f : FormTree) → is_flat g.predicates f ≡ true → goal_breaks g s f ≡
    miscounted_breaks g.predicates f ++ arguments_breaks s (rest_of f)
unfolding goal_breaks
goal-fact g s f flat = rw flat refl

pub goal-other : (g : NameSignature) (s : Scope) (f : FormTree) → is_flat g.predicates f ≡ false → goal_breaks g s f ≡
    miscounted_breaks g.predicates f ++ other_goal_breaks g s (elements_of f) (offset_of f)
unfolding goal_breaks
goal-other g s f other = rw other refl

pub goal-fact-meant : (names : List (List ℕ)) (g : NameSignature) (s : Scope) (f : FormTree) → is_flat g.predicates f ≡ true →
    goal_meant names g s f ≡ bound.GoalFact (call_place g.predicates f) (arguments_meant names s (rest_of f))
unfolding goal_meant
goal-fact-meant names g s f flat = rw flat refl

pub goal-other-meant : (names : List (List ℕ)) (g : NameSignature) (s : Scope) (f : FormTree) → is_flat g.predicates f ≡ false →
    goal_meant names g s f ≡ other_goal_meant names g s (elements_of f)
unfolding goal_meant
goal-other-meant names g s f other = rw other refl

pub ruleset goals = (goal-fact, goal-other, goal-fact-meant, goal-other-meant)
