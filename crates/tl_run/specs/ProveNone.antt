-- What the command `prove-none` promises: which proofs are right of its search, which outcomes
-- leave none, and what its lines say.
use Rattle.std.specs.Prelude.{◌≡◌, ◌≤◌, ℕ, List, length, Option, Some, None, ⊤}
use Rattle.tl_cert.specs.Covers.{Covers, HasNone}
use Rattle.tl_cert.specs.LawsReadBack.{StartBefore}
use Rattle.tl_cert.specs.ProofTexts.{proof_text}
use Rattle.tl_cert.specs.declared.proof.Proof.{Proof}
use Rattle.tl_search.specs.declared.outcome.Outcome.{Outcome}
use Rattle.tl_search.specs.declared.outcome.Outcome.TheVariants as outcome
use Rattle.tl_syntax.specs.declared.problem.Problem.{Problem}
use Rattle.tl_terms.specs.Problem.{PlainProblem}
use Rattle.tl_terms.specs.ProblemMeaning.{plain_problem}
use Rattle.tl_run.specs.declared.search.Search.{Search}
use Rattle.tl_run.specs.declared.status.Status.{Status}
use Rattle.tl_run.specs.declared.status.Status.TheVariants.{No, Spent}
use Rattle.tl_run.specs.Plan.{IsOutcome}

-- the bound of a proof after this outcome: none where there is no plan of any length, and the
-- search's where there is none within it
abbrev pub IsBoundOf : ℕ → Outcome → Option ℕ → Type 0
IsBoundOf n (outcome.Plan plan) bound = ⊥
IsBoundOf n outcome.NoPlan bound = bound ≡ None
IsBoundOf n outcome.NoneWithin bound = bound ≡ Some n
IsBoundOf n outcome.Spent bound = ⊥

-- the proof covers the search space, and its bound is that of the outcome which is right of the
-- search; each link starts from a node that is there before it, and there are no more than a proof
-- file may have
pub record IsCertificate (s : Search) (p : PlainProblem) (proof : Proof) : Type 0 where
  pub ended : Outcome
  pub right : IsOutcome s p ended
  pub bound : IsBoundOf s.within ended proof.bound
  pub covers : Covers p proof
  pub order : StartBefore 0 proof.links
  pub few : length proof.links ≤ 100000

-- the outcome leaves no proof: there is a plan, or the search was spent
abbrev pub LeavesNoProof : Outcome → Type 0
LeavesNoProof (outcome.Plan plan) = ⊤
LeavesNoProof outcome.NoPlan = ⊥
LeavesNoProof outcome.NoneWithin = ⊥
LeavesNoProof outcome.Spent = ⊤

-- the status with an outcome that leaves no proof
abbrev pub unproved_status : Outcome → Status
unproved_status (outcome.Plan plan) = No
unproved_status outcome.NoPlan = No
unproved_status outcome.NoneWithin = No
unproved_status outcome.Spent = Spent

-- the lines are those of a proof that covers the search space; so no plan is accepted, or where it
-- has a bound none of at most so many actions
pub record PrintsProof (text : List ℕ) (problem : Problem) : Type 0 where
  pub proof : Proof
  pub lines : text ≡ proof_text problem.names problem.domain.operators proof
  pub covers : Covers (plain_problem problem) proof
  pub none : HasNone (plain_problem problem) proof.bound
