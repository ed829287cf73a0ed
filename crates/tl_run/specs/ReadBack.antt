-- What is printed and then read again, as the third file of another command.
use Rattle.std.specs.Prelude.{◌≡◌, ◌⊎◌, ◌≤◌, ℕ, List, length, Option, Some}
use Rattle.tl_cert.specs.ProofTexts.{proof_text}
use Rattle.tl_cert.specs.Verdicts.{IsNoneVerdict}
use Rattle.tl_cert.specs.declared.verdict.NoneVerdict.TheVariants.{Proved}
use Rattle.tl_check.specs.Verdicts.{IsVerdict}
use Rattle.tl_check.specs.declared.verdict.Verdict.TheVariants.{Valid}
use Rattle.tl_domain.specs.Files.{AreFilesOf}
use Rattle.tl_line.specs.WritableActions.{ArgumentsFit}
use Rattle.tl_outside.specs.Told.{Files, IsContent}
use Rattle.tl_sexpr.specs.Spelling.{Spells}
use Rattle.tl_sexpr.specs.Tree.{FormTrees}
use Rattle.tl_syntax.specs.declared.action.Action.{Action}
use Rattle.tl_syntax.specs.declared.problem.Problem.{Problem}
use Rattle.tl_syntax.specs.Lists.{Each}
use Rattle.tl_terms.specs.Acceptance.{states}
use Rattle.tl_terms.specs.ProblemMeaning.{plain_problem}
use Rattle.tl_terms.specs.World.{World}
use Rattle.tl_text.specs.LawsReadBack as plan
use Rattle.tl_text.specs.Outcomes.{plan_text}
use Rattle.tl_run.specs.declared.search.Search.{Search}
use Rattle.tl_run.specs.declared.status.Status.TheVariants.{Yes, No}
use Rattle.tl_run.specs.Commands.{prove_none, search}
use Rattle.tl_run.specs.Over.{OverPlan, OverProof}
use Rattle.tl_run.specs.Promises.{IsAnswer}
use Rattle.tl_run.specs.Turns.{CallsTold}

-- the bytes of two files spell forms that stand for the problem
pub record AreBytesOf (domain problem : List ℕ) (p : Problem) : Type 0 where
  pub first : FormTrees
  pub second : FormTrees
  pub first_spelled : Spells domain first
  pub second_spelled : Spells problem second
  pub files : AreFilesOf first second p

-- the lines of a plan of two files that executes, of at most 100000 actions and with integers of 64
-- bits, are a plan file of it
abbrev pub ExecutedPlansAreReadBack : Type 0
ExecutedPlansAreReadBack =
    (domain problem : List ℕ) (p : Problem) (actions : List Action) (ws : List World) →
    AreBytesOf domain problem p → states (plain_problem p) actions ≡ Some ws → Each ArgumentsFit actions → length actions ≤ 100000 →
    plan.AreReadAsPlan p.names p.domain.operators (plan_text p.names p.domain.operators actions) actions

-- the text is that of a plan, and with the third file the files stand for it, and the right verdict
-- on it is that it is valid
abbrev pub IsValidFile : Option Files → List ℕ → List ℕ → List ℕ → List ℕ → Type 0
IsValidFile files d p q text =
    OverPlan files d p q (λ m actions. (text ≡ plan_text m.names m.domain.operators actions) × IsVerdict (plain_problem m) actions Valid)

-- where `plan` printed a plan, or `prove-none` one in place of a proof, and its lines are at most
-- 4194304 bytes and those of a third file, it is so
abbrev pub PrintedPlansAreValid : Type 0
PrintedPlansAreValid =
    (files : Option Files) (s : Search) (d p q text : List ℕ) (told : CallsTold) →
    IsAnswer files (search s d p) told Yes text ⊎ IsAnswer files (prove_none s d p) told No text → s.within ≤ 100000 →
    length text ≤ 4194304 → IsContent files q text →
    IsValidFile files d p q text

-- the text is that of a proof, and with the third file the files stand for it, and the right
-- verdict on it is that there is no plan
abbrev pub IsProofFile : Option Files → List ℕ → List ℕ → List ℕ → List ℕ → Type 0
IsProofFile files d p q text =
    OverProof files d p q (λ m proof. (text ≡ proof_text m.names m.domain.operators proof) × IsNoneVerdict (plain_problem m) proof Proved)

-- where a proof was printed, and its lines are at most 4194304 bytes and those of a third file, it
-- is so
abbrev pub PrintedProofsAreProved : Type 0
PrintedProofsAreProved =
    (files : Option Files) (s : Search) (d p q text : List ℕ) (told : CallsTold) →
    IsAnswer files (prove_none s d p) told Yes text → s.within ≤ 100000 → length text ≤ 4194304 → IsContent files q text →
    IsProofFile files d p q text
