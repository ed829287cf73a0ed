-- The truth of formulas that are plain to read.
use Rattle.std.proofs.Common.{◌≡◌, ℕ, List, Bool, Option, Some, None, Ok, IfSome, sym, ap, ◌∙◌, subst}
use Rattle.tl_eval.specs.Frames.{assignment_in}
use Rattle.tl_eval.specs.Plain.{IsPlainTruth, IsPlainComparison}
use Rattle.tl_eval.specs.TermValues.{IsAtomTruth}
use Rattle.tl_syntax.specs.declared.formula.Formula.{Formula}
use Rattle.tl_syntax.specs.declared.formula.Formula.TheVariants as formula
use Rattle.tl_syntax.specs.declared.term.Term.{Term}
use Rattle.tl_syntax.specs.declared.term.Terms.{Terms}
use Rattle.tl_syntax.specs.declared.value.Cmp.{Cmp}
use Rattle.tl_syntax.specs.declared.value.Value.{Value}
use Rattle.tl_syntax.specs.TreeOfFormula.{tree_of_formula}
use Rattle.tl_syntax.specs.TreeOfTerm.{tree_of_terms}
use Rattle.tl_syntax.proofs.FormulaTrees.{tree-Atom, tree-Compare}
use Rattle.tl_terms.specs.Definitions.{situation_of}
use Rattle.tl_terms.specs.Truth.{state_true}
use Rattle.tl_terms.specs.World.{World}

module _ (w : World) (env frame : List (Option Value)) (f : Formula) where
  pub plain-Atom : (c : ℕ) (ts : Terms) (r : Option Bool) → frame ≡ env → f ≡ formula.Atom c ts →
      IfSome r (λ b. IsAtomTruth w frame c (tree_of_terms ts) (Ok b)) → IfSome r (IsPlainTruth w env (tree_of_formula f))
  unfolding state_true situation_of
  plain-Atom c ts None q k h = tt
  plain-Atom c ts (Some b) q k h = λ p. subst (λ (v : List (Option Value)). b ≡
      state_true (situation_of p w) (assignment_in v) (tree_of_formula f)) q
      (h.0 ∙ sym (ap (state_true (situation_of p w) (assignment_in frame)) (ap tree_of_formula k ∙ tree-Atom c ts)))

  pub plain-Compare : (c : Cmp) (s t : Term) (r : Option Bool) → frame ≡ env → f ≡ formula.Compare c s t →
      IfSome r (IsPlainComparison frame c s t) → IfSome r (IsPlainTruth w env (tree_of_formula f))
  unfolding state_true situation_of
  plain-Compare c s t None q k h = tt
  plain-Compare c s t (Some b) q k h = λ p. subst (λ (v : List (Option Value)). b ≡
      state_true (situation_of p w) (assignment_in v) (tree_of_formula f)) q
      ((h w).0 ∙ sym (ap (state_true (situation_of p w) (assignment_in frame)) (ap tree_of_formula k ∙ tree-Compare c s t)))
