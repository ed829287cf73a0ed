-- Lists that have another number of elements than their first word asks for.
use Rattle.std.proofs.Common.{◌≡◌, ◌==◌, ℕ, [], ◌∷◌, false, refl}
use Rattle.std.proofs.lemmas.Bool.{true≢false}
use Rattle.tl_sexpr.specs.Tree.{FormTree, FormTrees, symbol, integer, list, no_form, more_forms}
use Rattle.tl_rules.specs.declared.rule.Rule.TheVariants.{Shape}
use Rattle.tl_formulas.specs.declared.signature.NameSignature.{NameSignature}
use Rattle.tl_formulas.specs.Signatures.{Scope}
use Rattle.tl_formulas.specs.Bounds.{equality_breaks, goal_bound_breaks}
use Rattle.tl_formulas.specs.Formulas.{has_quantifier_shape, has_counted_shape}
use Rattle.tl_formulas.specs.Effects.{has_target_shape, has_set_shape}
use Rattle.tl_rules.specs.Parts.{count}

pub equality_count : (g : NameSignature) (scope : Scope) (fs : FormTrees) (at : ℕ) → (count fs == 2) ≡ false →
    equality_breaks g scope fs at ≡ (Shape, at) ∷ []
equality_count g scope no_form at other = refl
equality_count g scope (more_forms f no_form) at other = cases f
  where
    cases : (f : FormTree) → equality_breaks g scope (more_forms f no_form) at ≡ (Shape, at) ∷ []
    cases (symbol text _) = refl
    cases (integer z _) = refl
    cases (list no_form _) = refl
    cases (list (more_forms (symbol text _) fs) _) = refl
    cases (list (more_forms (integer z _) fs) _) = refl
    cases (list (more_forms (list gs _) fs) _) = refl
equality_count g scope (more_forms f (more_forms h no_form)) at other = absurd (true≢false other)
equality_count g scope (more_forms f (more_forms h (more_forms i fs))) at other = cases f
  where
    cases : (f : FormTree) → equality_breaks g scope (more_forms f (more_forms h (more_forms i fs))) at ≡ (Shape, at) ∷ []
    cases (symbol text _) = refl
    cases (integer z _) = refl
    cases (list no_form _) = refl
    cases (list (more_forms (symbol text _) gs) _) = refl
    cases (list (more_forms (integer z _) gs) _) = refl
    cases (list (more_forms (list hs _) gs) _) = refl

pub goal_count : (g : NameSignature) (scope : Scope) (fs : FormTrees) (at : ℕ) → (count fs == 1) ≡ false → goal_bound_breaks g scope fs at ≡
    (Shape, at) ∷ []
goal_count g scope no_form at other = refl
goal_count g scope (more_forms f no_form) at other = absurd (true≢false other)
goal_count g scope (more_forms f (more_forms h fs)) at other = refl

-- a quantifier has three elements after its first, and `within` and `for` have two
pub quantifier_count : (fs : FormTrees) → (count fs == 3) ≡ false → has_quantifier_shape fs ≡ false
quantifier_count no_form other = refl
quantifier_count (more_forms a no_form) other = refl
quantifier_count (more_forms a (more_forms b no_form)) other = refl
quantifier_count (more_forms a (more_forms b (more_forms c no_form))) other = absurd (true≢false other)
quantifier_count (more_forms a (more_forms b (more_forms c (more_forms d fs)))) other = refl

pub counted_count : (fs : FormTrees) → (count fs == 2) ≡ false → has_counted_shape fs ≡ false
counted_count no_form other = refl
counted_count (more_forms a no_form) other = refl
counted_count (more_forms a (more_forms b no_form)) other = absurd (true≢false other)
counted_count (more_forms a (more_forms b (more_forms c fs))) other = refl

-- `add` and `del` have one element after them, and `set` has two
pub target_count : (fs : FormTrees) → (count fs == 1) ≡ false → has_target_shape fs ≡ false
target_count no_form other = refl
target_count (more_forms a no_form) other = absurd (true≢false other)
target_count (more_forms a (more_forms b fs)) other = refl

pub set_count : (fs : FormTrees) → (count fs == 2) ≡ false → has_set_shape fs ≡ false
set_count no_form other = refl
set_count (more_forms a no_form) other = refl
set_count (more_forms a (more_forms b no_form)) other = absurd (true≢false other)
set_count (more_forms a (more_forms b (more_forms c fs))) other = refl
