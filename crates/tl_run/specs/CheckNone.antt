-- What the command `check-none` promises beyond its right answers.
use Rattle.std.specs.Prelude.{◌≡◌, ℕ, List}
use Rattle.tl_cert.specs.Covers.{Covers, HasNone}
use Rattle.tl_cert.specs.ProofTexts.{proved_line}
use Rattle.tl_cert.specs.declared.proof.Proof.{Proof}
use Rattle.tl_cert.specs.declared.verdict.NoneVerdict.{NoneVerdict}
use Rattle.tl_cert.specs.declared.verdict.NoneVerdict.TheVariants.{Proved, BadLink, Accepts, Open}
use Rattle.tl_syntax.specs.declared.problem.Problem.{Problem}
use Rattle.tl_terms.specs.ProblemMeaning.{plain_problem}
use Rattle.tl_run.specs.declared.status.Status.{Status}
use Rattle.tl_run.specs.declared.status.Status.TheVariants.{Yes, No}

-- the status with a verdict on a proof
abbrev pub none_status : NoneVerdict → Status
none_status Proved = Yes
none_status (BadLink k) = No
none_status (Accepts k) = No
none_status (Open k a) = No

-- the line is `; proved none`, or `; proved none within N` for a proof with this bound: the proof
-- covers the search space, so no plan is accepted, or none of at most N actions
pub record SaysProved (text : List ℕ) (problem : Problem) (proof : Proof) : Type 0 where
  pub covers : Covers (plain_problem problem) proof
  pub none : HasNone (plain_problem problem) proof.bound
  pub line : text ≡ proved_line proof.bound
