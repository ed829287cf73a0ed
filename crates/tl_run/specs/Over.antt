-- What the files of a command stand for together, of which something holds.
use Rattle.std.specs.Prelude.{◌≡◌, ℕ, List, [], Option}
use Rattle.tl_cert.specs.MeaningOfProofs.{proof_meant}
use Rattle.tl_cert.specs.ProofFiles.{proof_breaks}
use Rattle.tl_cert.specs.declared.proof.Proof.{Proof}
use Rattle.tl_cost.specs.CostFiles.{costs_breaks, costs_meant}
use Rattle.tl_domain.specs.Files.{AreFilesOf}
use Rattle.tl_gen.specs.Samples.{domain_text, problem_text}
use Rattle.tl_lasso.specs.LoopFiles.{loop_breaks}
use Rattle.tl_lasso.specs.MeaningOfLoops.{loop_meant}
use Rattle.tl_lasso.specs.declared.plan.LoopPlan.{LoopPlan}
use Rattle.tl_outside.specs.Told.{Files, IsContent}
use Rattle.tl_rules.specs.Rules.{Break}
use Rattle.tl_sexpr.specs.Tree.{FormTrees}
use Rattle.tl_syntax.specs.declared.action.Action.{Action}
use Rattle.tl_syntax.specs.declared.problem.Problem.{Problem}
use Rattle.tl_text.specs.MeaningOfPlans.{plan_meant}
use Rattle.tl_text.specs.Plans.{plan_breaks}
use Rattle.tl_run.specs.Files.{SpellShortly}

-- a domain file and a problem file of these bytes break no rule, and stand for the problem
pub record StandForProblem (domain problem : List ℕ) (m : Problem) : Type 0 where
  pub first : FormTrees
  pub second : FormTrees
  pub first_spelled : SpellShortly domain first
  pub second_spelled : SpellShortly problem second
  pub files : AreFilesOf first second m

-- files with these names do
pub record HoldProblem (files : Option Files) (d p : List ℕ) (m : Problem) : Type 0 where
  pub domain : List ℕ
  pub problem : List ℕ
  pub domain_content : IsContent files d domain
  pub problem_content : IsContent files p problem
  pub stand : StandForProblem domain problem m

-- the file with this name breaks none of these rules, and its forms mean this
pub record HoldThird {A : Type 0} (files : Option Files) (q : List ℕ) (breaks : FormTrees → List Break) (meant : FormTrees → A)
    (what : A) : Type 0 where
  pub bytes : List ℕ
  pub content : IsContent files q bytes
  pub forms : FormTrees
  pub spelled : SpellShortly bytes forms
  pub lawful : breaks forms ≡ []
  pub means : what ≡ meant forms

-- the files with these names pass, and P holds of what they stand for: of a problem; of a problem
-- and a plan, a proof, the cost of each operator, or a plan with a repeated part; and of the
-- problem of a sample
abbrev pub OverProblem : Option Files → List ℕ → List ℕ → (Problem → Type 0) → Type 0
OverProblem files d p P = (m : Problem) × HoldProblem files d p m × P m

abbrev pub OverPlan : Option Files → List ℕ → List ℕ → List ℕ → (Problem → List Action → Type 0) → Type 0
OverPlan files d p q P =
    (m : Problem) × (plan : List Action)
    × (HoldProblem files d p m × HoldThird files q (plan_breaks m.names m.domain.operators) (plan_meant m.names m.domain.operators) plan)
    × P m plan

abbrev pub OverProof : Option Files → List ℕ → List ℕ → List ℕ → (Problem → Proof → Type 0) → Type 0
OverProof files d p q P =
    (m : Problem) × (proof : Proof)
    × (HoldProblem files d p m × HoldThird files q (proof_breaks m.names m.domain.operators) (proof_meant m.names m.domain.operators) proof)
    × P m proof

abbrev pub OverCosts : Option Files → List ℕ → List ℕ → List ℕ → (Problem → List ℕ → Type 0) → Type 0
OverCosts files d p k P =
    (m : Problem) × (costs : List ℕ)
    × (HoldProblem files d p m × HoldThird files k (costs_breaks m.names m.domain.operators) (costs_meant m.names m.domain.operators) costs)
    × P m costs

abbrev pub OverLoop : Option Files → List ℕ → List ℕ → List ℕ → (Problem → LoopPlan → Type 0) → Type 0
OverLoop files d p q P =
    (m : Problem) × (plan : LoopPlan)
    × (HoldProblem files d p m × HoldThird files q (loop_breaks m.names m.domain.operators) (loop_meant m.names m.domain.operators) plan)
    × P m plan

abbrev pub OverSample : ℕ → (Problem → Type 0) → Type 0
OverSample balls P = (m : Problem) × StandForProblem domain_text (problem_text balls) m × P m
