-- Clauses, by the elements after their words.
use Rattle.std.proofs.Common.{◌≡◌, ◌==◌, ℕ, List, [], ◌∷◌, false, map, refl, ap, ◌∙◌}
use Rattle.std.proofs.lemmas.Bool.{true≢false}
use Rattle.tl_sexpr.specs.Tree.{FormTree, FormTrees, no_form, more_forms}
use Rattle.tl_syntax.specs.Effects.{no_effect}
use Rattle.tl_syntax.specs.TreeOfEffect.{tree_of_effect, tree_of_effects, effects_of_list}
use Rattle.tl_syntax.specs.declared.effect.Effects.{Effects}
use Rattle.tl_syntax.proofs.EffectTrees.{trees-Effects}
use Rattle.tl_rules.specs.declared.rule.Rule.TheVariants.{Shape}
use Rattle.tl_rules.specs.Parts.{count}
use Rattle.tl_formulas.specs.declared.signature.NameSignature.{NameSignature}
use Rattle.tl_formulas.specs.Signatures.{Scope}
use Rattle.tl_formulas.specs.Effects.{effect_breaks, effects_breaks}
use Rattle.tl_formulas.specs.MeaningOfEffects.{effect_meant, effects_meant}
use Rattle.tl_formulas.specs.MeaningOfFormulas.{formula_meant, formulas_meant, first_formula}
use Rattle.tl_domain.specs.Operators.{pre_breaks}

-- `pre` has one element after it
pub pre-count : (g : NameSignature) (scope : Scope) (fs : FormTrees) (at : ℕ) → (count fs == 1) ≡ false → pre_breaks g scope fs at ≡
    (Shape, at) ∷ []
pre-count g scope no_form at other = refl
pre-count g scope (more_forms f no_form) at other = absurd (true≢false other)
pre-count g scope (more_forms f (more_forms h fs)) at other = refl

-- the precondition is the first of the formulas after `pre`
pub pre-meant : (names : List (List ℕ)) (g : NameSignature) (scope : Scope) (f : FormTree) (fs : FormTrees) →
    first_formula (formulas_meant names g scope (more_forms f fs)) ≡ formula_meant names g scope f
unfolding formula_meant
pre-meant names g scope f fs = refl

pub ruleset pre_parts = (pre-count, pre-meant)

-- a clause without effects breaks nothing and changes nothing
pub breaks-none : (g : NameSignature) (scope : Scope) → effects_breaks g scope no_form ≡ []
unfolding effect_breaks
breaks-none g scope = refl

pub meant-none : (names : List (List ℕ)) (g : NameSignature) (scope : Scope) → effects_meant names g scope no_form ≡ no_effect
unfolding effect_meant
meant-none names g scope = refl

pub trees-none : (es : Effects) → es.items.items ≡ [] → tree_of_effects es ≡ no_effect
trees-none es none = trees-Effects es ∙ ap (λ xs. effects_of_list (map tree_of_effect xs)) none

pub ruleset effect_parts = (breaks-none, meant-none, trees-none)
