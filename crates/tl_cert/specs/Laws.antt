-- What proofs and their verdicts say.
use Rattle.std.specs.Prelude.{◌≡◌}
use Rattle.tl_terms.specs.Problem.{PlainProblem}
use Rattle.tl_cert.specs.Covers.{Covers, HasNone}
use Rattle.tl_cert.specs.Verdicts.{IsNoneVerdict}
use Rattle.tl_cert.specs.declared.proof.Proof.{Proof}
use Rattle.tl_cert.specs.declared.verdict.NoneVerdict.{NoneVerdict}

-- where a proof covers the search space, no plan is accepted, or with a bound none of at most so
-- many actions
abbrev pub CoveredHasNone : Type 0
CoveredHasNone = (p : PlainProblem) (proof : Proof) → Covers p proof → HasNone p proof.bound

-- two verdicts that are right of one proof are the same
abbrev pub OneNoneVerdict : Type 0
OneNoneVerdict = (p : PlainProblem) (proof : Proof) (v w : NoneVerdict) → IsNoneVerdict p proof v → IsNoneVerdict p proof w → v ≡ w
