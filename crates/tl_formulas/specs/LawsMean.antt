-- Forms mean something exactly where they break no rule.
use Rattle.std.specs.Prelude.{◌≡◌, ℕ, List}
use Rattle.tl_sexpr.specs.Tree.{FormTree, FormTrees}
use Rattle.tl_rules.specs.Unbroken.{where_unbroken}
use Rattle.tl_formulas.specs.declared.roles.FormulaRole.{FormulaRole}
use Rattle.tl_formulas.specs.declared.signature.NameSignature.{NameSignature}
use Rattle.tl_formulas.specs.Bounds.{bound_breaks}
use Rattle.tl_formulas.specs.Effects.{effects_breaks}
use Rattle.tl_formulas.specs.Formulas.{formula_breaks}
use Rattle.tl_formulas.specs.MeaningOfBounds.{bound_meant}
use Rattle.tl_formulas.specs.MeaningOfEffects.{effects_meant}
use Rattle.tl_formulas.specs.MeaningOfFormulas.{formula_meant}
use Rattle.tl_formulas.specs.PartialBounds.{bound_meaning}
use Rattle.tl_formulas.specs.PartialEffects.{effects_meaning}
use Rattle.tl_formulas.specs.PartialFormulas.{formula_meaning}
use Rattle.tl_formulas.specs.Signatures.{Scope}

-- in the role of a bound
abbrev pub BoundsMean : Type 0
BoundsMean =
    (names : List (List ℕ)) (g : NameSignature) (scope : Scope) (f : FormTree)
    → bound_meaning names g scope f ≡ where_unbroken (bound_breaks g scope f) (bound_meant names g scope f)

-- in the role of a formula
abbrev pub FormulasMean : Type 0
FormulasMean =
    (r : FormulaRole) (names : List (List ℕ)) (g : NameSignature) (scope : Scope) (f : FormTree)
    → formula_meaning r names g scope f ≡ where_unbroken (formula_breaks r g scope f) (formula_meant names g scope f)

-- in the role of effects
abbrev pub EffectsMean : Type 0
EffectsMean =
    (names : List (List ℕ)) (g : NameSignature) (scope : Scope) (fs : FormTrees)
    → effects_meaning names g scope fs ≡ where_unbroken (effects_breaks g scope fs) (effects_meant names g scope fs)
