-- What the program holds of the files that it has read.
use Rattle.std.specs.Prelude.{◌≡◌, ℕ, ◌+◌, ◌<◌, ◌≤◌, List, [], ◌∷◌, length, Option, Some, None, ⊤}
use Rattle.tl_sexpr.specs.Spelling.{symbols_in_all}
use Rattle.tl_sexpr.specs.Tree.{FormTrees, trees_of}
use Rattle.tl_syntax.specs.Lists.{Each}
use Rattle.tl_syntax.specs.declared.operator.Operator.{Operator}
use Rattle.tl_line.specs.NamedActions.{ActionIsNamed}
use Rattle.tl_run.specs.declared.turn.Input.{Input}
use Rattle.tl_run.specs.declared.turn.Input.TheVariants.{Nothing, Domain, Problem, Plan, Proof, Costs, Loop}
use Rattle.tl_run.specs.declared.words.Role.{Role}
use Rattle.tl_run.specs.declared.words.Role.TheVariants as role
use Rattle.tl_domain.specs.DomainFiles.{domain_file_breaks}
use Rattle.tl_outside.specs.Told.{Files, IsContent}
use Rattle.tl_cert.specs.ProofTexts.{LinksAreNamed}
use Rattle.tl_lasso.specs.declared.plan.LoopPlan.{LoopPlan}
use Rattle.tl_run.specs.Inputs.{nothing, a_domain, a_problem, a_plan, a_proof, breaks_of, IsMeant, StandsFor, some_costs, a_loop}
use Rattle.tl_run.specs.Inputs as inputs

-- what is held is this, as the definitions have it
abbrev pub IsHeld : Input → inputs.Input → Type 0
IsHeld Nothing nothing = ⊤
IsHeld (Domain forms) (a_domain first) = first ≡ trees_of forms
IsHeld (Problem p) (a_problem q) = q ≡ p
IsHeld (Plan p plan) (a_plan q actions) = (q ≡ p) × (actions ≡ plan)
IsHeld (Proof p proof) (a_proof q other) = (q ≡ p) × (other ≡ proof)
IsHeld (Costs p costs) (some_costs q given) = (q ≡ p) × (given ≡ costs)
IsHeld (Loop p plan) (a_loop q other) = (q ≡ p) × (other ≡ plan)
IsHeld held input = ⊥

-- the repeated part of a plan has an action, both parts together have at most 100000, and each
-- names only what the problem has
pub record KeepsParts (names : List (List ℕ)) (operators : List Operator) (plan : LoopPlan) : Type 0 where
  pub some : 0 < length plan.cycle
  pub few : length plan.stem + length plan.cycle ≤ 100000
  pub stem : Each (ActionIsNamed names operators) plan.stem
  pub cycle : Each (ActionIsNamed names operators) plan.cycle

-- what more is known of what is held
abbrev pub KeepsBounds : Input → Type 0
KeepsBounds Nothing = ⊤
KeepsBounds (Domain forms) = (domain_file_breaks (trees_of forms) ≡ []) × (symbols_in_all (trees_of forms) ≤ 4194304)
KeepsBounds (Problem p) = ⊤
KeepsBounds (Plan p plan) = (length plan ≤ 100000) × Each (ActionIsNamed p.names p.domain.operators) plan
KeepsBounds (Proof p proof) = (length proof.links ≤ 100000) × LinksAreNamed p.names p.domain.operators proof.links
KeepsBounds (Costs p costs) = ⊤
KeepsBounds (Loop p plan) = KeepsParts p.names p.domain.operators plan

-- the role of the file before one of this role, if there is one before it
abbrev pub role_before : Role → Option Role
role_before role.Domain = None
role_before role.Problem = Some role.Domain
role_before role.Plan = Some role.Problem
role_before role.Proof = Some role.Problem
role_before role.Costs = Some role.Problem
role_before role.Loop = Some role.Problem

-- the role of the file that was read last
abbrev pub last_role : Input → Option Role
last_role Nothing = None
last_role (Domain forms) = Some role.Domain
last_role (Problem p) = Some role.Problem
last_role (Plan p plan) = Some role.Plan
last_role (Proof p proof) = Some role.Proof
last_role (Costs p costs) = Some role.Costs
last_role (Loop p plan) = Some role.Loop

-- each file comes after one of the role that it needs before it
abbrev pub AreInOrder : Option Role → List (Role × List ℕ) → Type 0
AreInOrder last [] = ⊤
AreInOrder last (f ∷ fs) = (role_before f.0 ≡ last) × AreInOrder (Some f.0) fs

-- the forms of a file of this role break no rule, and this holds what they stand for together with
-- what was read before
pub record HoldsForms (r : Role) (before : inputs.Input) (forms : FormTrees) (held : Input) : Type 0 where
  pub input : inputs.Input
  pub lawful : breaks_of r before forms ≡ []
  pub meant : IsMeant r before forms input
  pub is_held : IsHeld held input

-- the file of this role and name breaks no rule, and this holds what it stands for together with
-- what was read before
pub record HoldsFile (files : Option Files) (r : Role) (name : List ℕ) (before : inputs.Input) (held : Input) : Type 0 where
  pub input : inputs.Input
  pub bytes : List ℕ
  pub content : IsContent files name bytes
  pub stands : StandsFor r before bytes input
  pub is_held : IsHeld held input
