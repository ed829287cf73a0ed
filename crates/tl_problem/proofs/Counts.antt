-- Lists with another number of elements than their first word asks for.
use Rattle.std.proofs.Common.{◌≡◌, ℕ, List, [], ◌∷◌, false, true≢false, refl}
use Rattle.std.specs.Prelude.{◌==◌}
use Rattle.tl_sexpr.specs.Tree.{FormTrees, no_form, more_forms}
use Rattle.tl_syntax.specs.declared.declared.Declared.{Declared}
use Rattle.tl_rules.specs.declared.rule.Rule.TheVariants.{Shape}
use Rattle.tl_rules.specs.Parts.{count}
use Rattle.tl_problem.specs.ProblemFiles.{has_problem_shape}
use Rattle.tl_problem.specs.Facts.{place_value_breaks, negation_breaks}

pub equality_count : (names : List (List ℕ)) (ds : List Declared) (fs : FormTrees) (at : ℕ) → (count fs == 2) ≡ false →
    place_value_breaks names ds fs at ≡ (Shape, at) ∷ []
equality_count names ds no_form at other = refl
equality_count names ds (more_forms f no_form) at other = refl
equality_count names ds (more_forms f (more_forms h no_form)) at other = absurd (true≢false other)
equality_count names ds (more_forms f (more_forms h (more_forms i fs))) at other = refl

pub negation_count : (names : List (List ℕ)) (ds : List Declared) (fs : FormTrees) (at : ℕ) → (count fs == 1) ≡ false →
    negation_breaks names ds fs at ≡ (Shape, at) ∷ []
negation_count names ds no_form at other = refl
negation_count names ds (more_forms f no_form) at other = absurd (true≢false other)
negation_count names ds (more_forms f (more_forms h fs)) at other = refl

pub problem_count : (fs : FormTrees) → (count fs == 4) ≡ false → has_problem_shape fs ≡ false
problem_count no_form other = refl
problem_count (more_forms a no_form) other = refl
problem_count (more_forms a (more_forms b no_form)) other = refl
problem_count (more_forms a (more_forms b (more_forms c no_form))) other = refl
problem_count (more_forms a (more_forms b (more_forms c (more_forms d no_form)))) other = absurd (true≢false other)
problem_count (more_forms a (more_forms b (more_forms c (more_forms d (more_forms e fs))))) other = refl
