-- Arguments of `goal` that have neither two nor three elements.
use Rattle.std.proofs.Common.{◌≡◌, ◌≢◌, ℕ, List, [], ◌∷◌, length, refl}
use Rattle.tl_sexpr.specs.declared.form.Form.{Form}
use Rattle.tl_rules.specs.declared.rule.Rule.TheVariants.{GoalArg}
use Rattle.tl_formulas.specs.declared.signature.NameSignature.{NameSignature}
use Rattle.tl_formulas.specs.Signatures.{Scope}
use Rattle.tl_formulas.specs.Goals.{other_goal_breaks}
use Rattle.tl_rules.specs.Reads.{trees_in}

pub other_length : (g : NameSignature) (scope : Scope) (xs : List Form) (at : ℕ) → length xs ≢ 2 → length xs ≢ 3 →
    other_goal_breaks g scope (trees_in xs) at ≡ (GoalArg, at) ∷ []
other_length g scope [] at no_two no_three = refl
other_length g scope (x ∷ []) at no_two no_three = refl
other_length g scope (x ∷ y ∷ []) at no_two no_three = absurd (no_two refl)
other_length g scope (x ∷ y ∷ z ∷ []) at no_two no_three = absurd (no_three refl)
other_length g scope (x ∷ y ∷ z ∷ u ∷ us) at no_two no_three = refl
