-- What the files of a command stand for together, one after the other, and the rules that one of
-- them breaks.
use Rattle.std.specs.Prelude.{◌≡◌, ℕ, ◌<◌, ◌≤◌, List, [], length}
use Rattle.tl_sexpr.specs.Faults.{IsFaultOf}
use Rattle.tl_sexpr.specs.Tree.{FormTrees}
use Rattle.tl_sexpr.specs.declared.fault.TextFault.TheVariants as fault
use Rattle.tl_syntax.specs.declared.action.Action.{Action}
use Rattle.tl_syntax.specs.declared.problem.Problem.{Problem}
use Rattle.tl_rules.specs.Rules.{Break, IsLeastBreak}
use Rattle.tl_domain.specs.DomainFiles.{domain_file_breaks}
use Rattle.tl_domain.specs.Files.{AreFilesOf, problem_breaks}
use Rattle.tl_cert.specs.MeaningOfProofs.{proof_meant}
use Rattle.tl_cert.specs.ProofFiles.{proof_breaks}
use Rattle.tl_cert.specs.declared.proof.Proof.{Proof}
use Rattle.tl_cost.specs.CostFiles.{costs_breaks, costs_meant}
use Rattle.tl_lasso.specs.LoopFiles.{loop_breaks}
use Rattle.tl_lasso.specs.MeaningOfLoops.{loop_meant}
use Rattle.tl_lasso.specs.declared.plan.LoopPlan.{LoopPlan}
use Rattle.tl_text.specs.Plans.{plan_breaks}
use Rattle.tl_text.specs.MeaningOfPlans.{plan_meant}
use Rattle.tl_run.specs.declared.words.Role.{Role}
use Rattle.tl_run.specs.declared.words.Role.TheVariants as role
use Rattle.tl_run.specs.declared.stop.Broken.{Broken}
use Rattle.tl_run.specs.declared.stop.Broken.TheVariants as broken
use Rattle.tl_run.specs.Files.{SpellShortly}

-- what the files that were read so far stand for: the forms of a domain file, a problem, a problem
-- with a plan, with a proof, with the cost of each operator, or with a plan that has a repeated
-- part
pub data Input : Type 0 where
  nothing : Input
  a_domain : FormTrees → Input
  a_problem : Problem → Input
  a_plan : Problem → List Action → Input
  a_proof : Problem → Proof → Input
  some_costs : Problem → List ℕ → Input
  a_loop : Problem → LoopPlan → Input

-- the rules that the forms of a file of this role break, after what was read before: one line for
-- each role
abbrev pub breaks_of : Role → Input → FormTrees → List Break
breaks_of role.Domain nothing forms = domain_file_breaks forms
breaks_of role.Problem (a_domain first) forms = problem_breaks first forms
breaks_of role.Plan (a_problem p) forms = plan_breaks p.names p.domain.operators forms
breaks_of role.Proof (a_problem p) forms = proof_breaks p.names p.domain.operators forms
breaks_of role.Costs (a_problem p) forms = costs_breaks p.names p.domain.operators forms
breaks_of role.Loop (a_problem p) forms = loop_breaks p.names p.domain.operators forms
breaks_of r before forms = []

-- the forms of a file of this role, which break no rule, stand for this together with what was read
-- before: one line for each role
abbrev pub IsMeant : Role → Input → FormTrees → Input → Type 0
IsMeant role.Domain nothing forms (a_domain first) = first ≡ forms
IsMeant role.Problem (a_domain first) forms (a_problem p) = AreFilesOf first forms p
IsMeant role.Plan (a_problem p) forms (a_plan q plan) = (q ≡ p) × (plan ≡ plan_meant p.names p.domain.operators forms)
IsMeant role.Proof (a_problem p) forms (a_proof q proof) = (q ≡ p) × (proof ≡ proof_meant p.names p.domain.operators forms)
IsMeant role.Costs (a_problem p) forms (some_costs q costs) = (q ≡ p) × (costs ≡ costs_meant p.names p.domain.operators forms)
IsMeant role.Loop (a_problem p) forms (a_loop q plan) = (q ≡ p) × (plan ≡ loop_meant p.names p.domain.operators forms)
IsMeant r before forms after = ⊥

-- after what was read before, a file of this role with these bytes breaks no rule, and all stand
-- for this together
pub record StandsFor (r : Role) (before : Input) (bytes : List ℕ) (after : Input) : Type 0 where
  pub forms : FormTrees
  pub spelled : SpellShortly bytes forms
  pub lawful : breaks_of r before forms ≡ []
  pub meant : IsMeant r before forms after

-- after what was read before, the bytes spell forms, and of the rules that these break this one is
-- the least
pub record FormsBreak (r : Role) (before : Input) (bytes : List ℕ) (b : Break) : Type 0 where
  pub forms : FormTrees
  pub spelled : SpellShortly bytes forms
  pub least : IsLeastBreak (breaks_of r before forms) b

-- after what was read before, a file of this role with these bytes breaks this rule, and no lesser
-- one
abbrev pub IsBroken : Role → Input → List ℕ → Broken → Type 0
IsBroken r before bytes (broken.BadByte at) = (length bytes ≤ 4194304) × IsFaultOf bytes (fault.BadByte at)
IsBroken r before bytes (broken.StrayClose at) = (length bytes ≤ 4194304) × IsFaultOf bytes (fault.StrayClose at)
IsBroken r before bytes (broken.Unclosed at) = (length bytes ≤ 4194304) × IsFaultOf bytes (fault.Unclosed at)
IsBroken r before bytes (broken.TooDeep at) = (length bytes ≤ 4194304) × IsFaultOf bytes (fault.TooDeep at)
IsBroken r before bytes (broken.BigInteger at) = (length bytes ≤ 4194304) × IsFaultOf bytes (fault.BigInteger at)
IsBroken r before bytes broken.TooLong = 4194304 < length bytes
IsBroken r before bytes (broken.Form rule at) = FormsBreak r before bytes (rule, at)
