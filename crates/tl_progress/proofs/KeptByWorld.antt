-- What is kept of worlds, and one number more.
use Rattle.std.proofs.Common.{◌≡◌, ◌&&◌, ℕ, List, Bool, true, false, cond, nat_eq, eqb-true, eq-eqb, Option, Some, refl, sym, ap, ◌∙◌}
use Rattle.tl_syntax.specs.Trees.{FormulaTree}
use Rattle.tl_terms.specs.Problem.{PlainProblem}
use Rattle.tl_terms.specs.World.{World}
use Rattle.tl_progress.specs.declared.residuals.Incoming.{Incoming}
use Rattle.tl_progress.specs.declared.residuals.Residuals.{Residuals}
use Rattle.tl_progress.specs.KeptResiduals.{found_in, StaysElsewhere}
use Rattle.tl_progress.specs.Known.{AreResiduals}
use Rattle.tl_progress.specs.WorldsKept.{number_for, HasPut}

-- the entries are the same
pub same-found : (old new : Residuals) → new.table ≡ old.table → (n k : ℕ) → found_in new n k ≡ found_in old n k
unfolding found_in
same-found old new e n k = ap (λ (es : List (Incoming × ℕ)). number_for es (record { world = n; formula = k })) e

module _ (old new : Residuals) (i : Incoming) (x : ℕ) (put : HasPut old.table new.table i x) where
  pub put-here : (k : ℕ) → found_in new i.world k ≡ cond (nat_eq i.formula k) (Some x) (found_in old i.world k)
  unfolding found_in
  put-here k = put (record { world = i.world; formula = k }) ∙ ap (λ (b : Bool).
      cond (b && nat_eq i.formula k) (Some x) (found_in old i.world k)) (eq-eqb i.world i.world refl)

  pub put-elsewhere : StaysElsewhere i.world old new
  unfolding found_in
  put-elsewhere m k other = put (record { world = m; formula = k }) ∙ ap
      (λ (b : Bool). cond (b && nat_eq i.formula k) (Some x) (found_in old m k)) (differ (nat_eq i.world m) refl)
    where
      differ : (b : Bool) → nat_eq i.world m ≡ b → b ≡ false
      differ true e = absurd (other (sym (eqb-true i.world m e)))
      differ false e = refl

-- what is right stays right where the same is found
pub still-residuals : (p : PlainProblem) (w : World) (ts : List FormulaTree) (old new : ℕ → Option ℕ) → ((k : ℕ) → new k ≡ old k) →
    AreResiduals p w ts old → AreResiduals p w ts new
still-residuals p w ts old new same h k i e = h k i (sym (same k) ∙ e)
