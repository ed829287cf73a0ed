-- The states of a plan, kept or not.
use Rattle.std.proofs.Common.{◌≡◌, List, [], Option, Some, Result, Ok, Err, IsErrAnd, unwrap_or, sym, ap, ◌∙◌, subst}
use Rattle.tl_action.specs.declared.check_fault.CheckFault.{CheckFault}
use Rattle.tl_check.specs.StatesAlong.{UnlessFew, states_of}
use Rattle.tl_check.specs.declared.along.Along.{Along}
use Rattle.tl_check.specs.declared.unlabelled.Unlabelled.{Unlabelled}
use Rattle.tl_check.specs.declared.unlabelled.Unlabelled.TheVariants as unlabelled
use Rattle.tl_syntax.specs.declared.action.Action.{Action}
use Rattle.tl_terms.specs.Acceptance.{states}
use Rattle.tl_terms.specs.Problem.{PlainProblem}
use Rattle.tl_terms.specs.World.{World}

pub states-are : (p : PlainProblem) (plan : List Action) (ws : List World) → states p plan ≡ Some ws → ws ≡ states_of p plan
unfolding states_of
states-are p plan ws e = sym (ap (λ (o : Option (List World)). unwrap_or o []) e)

pub states-here : (p : PlainProblem) (plan : List Action) (ws : List World) → states p plan ≡ Some ws → states p plan ≡
    Some (states_of p plan)
states-here p plan ws e = e ∙ ap (λ (vs : List World). Some vs) (states-are p plan ws e)

-- ---- the exit of a `?`

module _ {A B : Type 0} (along : Along) (P : Result A CheckFault → Type 0) (Q : Result B CheckFault → Type 0)
    (step : (y : CheckFault) → P (Err y) → Q (Err y)) where
  pub passed : (x : Unlabelled) → UnlessFew along P (Err x) → UnlessFew along Q (Err x)
  passed (unlabelled.Fault y) h = step y h
  passed unlabelled.NotKept h = h

  pub passed-on : (r : Result B Unlabelled) (x : Unlabelled) → IsErrAnd r (λ y. y ≡ x) → UnlessFew along P (Err x) → UnlessFew along Q r
  passed-on (Ok b) x same h = absurd same
  passed-on (Err y) x same h = subst (λ (z : Unlabelled). UnlessFew along Q (Err z)) (sym same) (passed x h)

-- the same of a call that wants no states kept
pub fault-passed : {A : Type 0} (along : Along) (P : Result A CheckFault → Type 0) (r : Result A Unlabelled) (y : CheckFault) →
    IsErrAnd r (λ u. u ≡ unlabelled.Fault y) → P (Err y) → UnlessFew along P r
fault-passed along P (Ok b) y same h = absurd same
fault-passed along P (Err u) y same h = subst (λ (z : Unlabelled). UnlessFew along P (Err z)) (sym same) h

module _ {A : Type 0} (along : Along) (P Q : Result A CheckFault → Type 0) (step : (r : Result A CheckFault) → P r → Q r) where
  pub by-cases : (r : Result A Unlabelled) → UnlessFew along P r → UnlessFew along Q r
  by-cases (Ok x) h = step (Ok x) h
  by-cases (Err (unlabelled.Fault y)) h = step (Err y) h
  by-cases (Err unlabelled.NotKept) h = h
