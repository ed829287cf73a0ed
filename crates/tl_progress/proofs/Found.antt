-- What was found for numbers.
use Rattle.std.proofs.Common.{◌≡◌, ℕ, List, [], ◌∷◌, ◌++◌, Bool, true, false, cond, nat_eq, eqb-true, Option, Some, None, Result, Ok, Err}
use Rattle.std.proofs.Common.{IfErr, IsErrAnd, refl, sym, ◌∙◌, subst}
use Rattle.tl_syntax.specs.declared.junction.Junction.{Junction}
use Rattle.tl_syntax.specs.Lists.{Each, Among}
use Rattle.tl_syntax.specs.Signature.{Signature}
use Rattle.tl_syntax.specs.Trees.{FormulaTree}
use Rattle.tl_syntax.proofs.ListLaws.{Each-append}
use Rattle.tl_terms.specs.Problem.{PlainProblem}
use Rattle.tl_terms.specs.World.{World}
use Rattle.tl_syntax.specs.Assignment.{Assignment}
use Rattle.tl_nodes.specs.Joins.{join_node}
use Rattle.tl_nodes.specs.NodeTrees.{tree_at, tree_of_node}
use Rattle.tl_eval.specs.declared.fault.EvalFault.{EvalFault}
use Rattle.tl_eval.specs.declared.fault.EvalFault.TheVariants as fault
use Rattle.tl_progress.specs.Sentences.{FitsSomewhere}
use Rattle.tl_eval.specs.Faults.{IsCausedBy}
use Rattle.tl_progress.specs.Answers.{looked_idly, looked_for_residual}
use Rattle.tl_progress.specs.Parts.{IsBelow}
use Rattle.tl_terms.specs.Definitions.{situation_of}
use Rattle.tl_terms.specs.Looked.{looks_of}
use Rattle.tl_terms.specs.Operations.{Operation}
use Rattle.tl_progress.proofs.Below.{part-looked}

-- there is none
pub none-found : {A : Type 0} (o : Option A) → ((x : A) → o ≡ Some x → ⊥) → o ≡ None
none-found None h = refl
none-found (Some x) h = absurd (h x refl)

module _ {A : Type 0} (P : ℕ → A → Type 0) (old new : ℕ → Option A) (at : ℕ) (x : A)
    (put : (q : ℕ) → new q ≡ cond (nat_eq at q) (Some x) (old q)) where
  pub found-more : P at x → ((k : ℕ) (y : A) → old k ≡ Some y → P k y) → (k : ℕ) (y : A) → new k ≡ Some y → P k y
  found-more here before k y h = by (nat_eq at k) refl (sym (put k) ∙ h)
    where
      by : (b : Bool) → nat_eq at k ≡ b → cond b (Some x) (old k) ≡ Some y → P k y
      by true e q = let same : x ≡ y = cc in subst (λ j. P j y) (eqb-true at k e) (subst (P at) same here)
      by false e q = before k y q

pub last-of : {A : Type 0} (P : A → Type 0) (xs rest : List A) (x : A) → xs ≡ rest ++ x ∷ [] → Each P xs → Each P rest × P x
last-of P xs rest x e h = let k = (Each-append P rest (x ∷ [])).0 (subst (Each P) e h) in (k.0, k.1.0)

pub fits-below : (n : Bool) (ts : List FormulaTree) (g : Signature) (id at : ℕ) → IsBelow n ts id at → FitsSomewhere g (tree_at ts id) →
    FitsSomewhere g (tree_at ts at)
fits-below n ts g id at b h = record { around = h.around; fits = b.fits g h.around h.fits }

caused-up : (a b : List Operation) → ((o : Operation) → Among o a → Among o b) → (x : EvalFault) → IsCausedBy a x → IsCausedBy b x
caused-up a b k (fault.Range m) h = (k _ h.0, h.1)
caused-up a b k fault.NoMemory h = tt

caused-in : {A : Type 0} (a b : List Operation) → ((o : Operation) → Among o a → Among o b) → (r : Result A EvalFault) →
    IfErr r (IsCausedBy a) → IfErr r (IsCausedBy b)
caused-in a b k (Ok x) h = tt
caused-in a b k (Err x) h = caused-up a b k x h

-- the fault that a call hands on
pub handed-on : {A : Type 0} (looked : List Operation) (r : Result A EvalFault) (x : EvalFault) → IsErrAnd r (λ y. y ≡ x) →
    IsCausedBy looked x → IfErr r (IsCausedBy looked)
handed-on looked (Ok a) x same h = absurd same
handed-on looked (Err y) x same h = subst (IsCausedBy looked) (sym same) h

module _ (p : PlainProblem) (w : World) (e : Assignment) (ts : List FormulaTree) where
  pub truth-caused : {A : Type 0} (id at : ℕ) → IsBelow true ts id at → (r : Result A EvalFault) →
      IfErr r (IsCausedBy (looked_idly p w e (tree_at ts at))) → IfErr r (IsCausedBy (looked_idly p w e (tree_at ts id)))
  truth-caused id at b r h = caused-in _ _ (λ o k. b.looked (looks_of p w) (situation_of p w ∷ []) (situation_of p w) e o k) r h

  pub truth-fault : (id at : ℕ) → IsBelow true ts id at → (x : EvalFault) → IsCausedBy (looked_idly p w e (tree_at ts at)) x →
      IsCausedBy (looked_idly p w e (tree_at ts id)) x
  truth-fault id at b x h = caused-up _ _ (λ o k. b.looked (looks_of p w) (situation_of p w ∷ []) (situation_of p w) e o k) x h

  pub residual-fault : (id at : ℕ) → IsBelow false ts id at → (x : EvalFault) → IsCausedBy (looked_for_residual p w e (tree_at ts at)) x →
      IsCausedBy (looked_for_residual p w e (tree_at ts id)) x
  residual-fault id at b x h = caused-up _ _ (λ o k. b.looked (looks_of p w) (situation_of p w ∷ []) (situation_of p w) e o k) x h

  pub join-caused : (junction : Junction) (ids : List ℕ) (q : ℕ) → Among q ids → (x : EvalFault) →
      IsCausedBy (looked_idly p w e (tree_at ts q)) x → IsCausedBy (looked_idly p w e (tree_of_node ts (join_node junction ids))) x
  join-caused junction ids q m x h = caused-up _ _ (λ o k. part-looked true ts junction ids q m (looks_of p w) (situation_of p w ∷ [])
      (situation_of p w) e o k) x h
