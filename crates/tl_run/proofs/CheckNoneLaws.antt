-- Laws of the right answers of `check-none`.
use Rattle.std.proofs.Common.{◌≡◌, inl, inr, ℕ, List, sym, ◌∙◌, subst}
use Rattle.std.specs.Prelude.{Option}
use Rattle.tl_cert.specs.Causes.{IsNoneCause}
use Rattle.tl_cert.specs.Laws.{OneNoneVerdict}
use Rattle.tl_cert.specs.ProofTexts.{proof_verdict_text}
use Rattle.tl_cert.specs.Verdicts.{IsNoneVerdict}
use Rattle.tl_cert.specs.declared.proof.Proof.{Proof}
use Rattle.tl_cert.specs.declared.verdict.NoneVerdict.{NoneVerdict}
use Rattle.tl_cert.specs.declared.verdict.NoneVerdict.TheVariants.{Proved, BadLink, Accepts, Open}
use Rattle.tl_eval.specs.Notes.{operation_of}
use Rattle.tl_eval.specs.declared.range.RangeNote.{RangeNote}
use Rattle.tl_outside.specs.Told.{Files}
use Rattle.tl_syntax.specs.declared.action.Action.{Action}
use Rattle.tl_syntax.specs.declared.problem.Problem.{Problem}
use Rattle.tl_terms.specs.Problem.{PlainProblem}
use Rattle.tl_terms.specs.ProblemMeaning.{plain_problem}
use Rattle.tl_run.specs.declared.status.Status.{Status}
use Rattle.tl_run.specs.Answers.{JudgesProof}
use Rattle.tl_run.specs.CheckNone.{none_status}
use Rattle.tl_run.specs.Commands.{Command, check_none}
use Rattle.tl_run.specs.Laws.{Laws}
use Rattle.tl_run.specs.Promises.{Agrees, Headline, IsOwn}
use Rattle.tl_run.proofs.Agreement.{IsDone, from_range, same_given, to_range}
use Rattle.tl_run.proofs.Meant.{HoldProof}
use Rattle.tl_run.proofs.OneProblem.{SameProblem}
use Rattle.tl_run.proofs.SameProofs.{same_none_text}

-- of the proof of one problem, one verdict is right
one_verdict : OneNoneVerdict → (p q : Problem) (proof other : Proof) (v w : NoneVerdict) → SameProblem p q → proof ≡ other →
    IsNoneVerdict (plain_problem p) proof v → IsNoneVerdict (plain_problem q) other w → w ≡ v
one_verdict law p q proof other v w same e h k =
    sym (law (plain_problem q) other v w (subst (λ (x : PlainProblem). IsNoneVerdict x other v) same.meaning
    (subst (λ (x : Proof). IsNoneVerdict (plain_problem p) x v) e h)) k)

-- and it has one line
one_line : (m n : Problem) (proof other : Proof) (v : NoneVerdict) → SameProblem m n → proof ≡ other →
    proof_verdict_text n.names n.domain.operators other.bound v ≡ proof_verdict_text m.names m.domain.operators proof.bound v
one_line m n proof other v same e =
    let names = sym same.names in
    let back = sym e in
    (λ i. proof_verdict_text (names i) n.domain.operators (back i).bound v) ∙
    same_none_text m.names n.domain.operators m.domain.operators (sym same.heads) proof.bound v

verdict_done : (v : NoneVerdict) → IsDone (none_status v)
verdict_done Proved = tt
verdict_done (BadLink k) = tt
verdict_done (Accepts k) = tt
verdict_done (Open k a) = tt

pub check_none_done : (status : Status) (text : List ℕ) (m : Problem) (proof : Proof) → JudgesProof status text m proof → IsDone status
check_none_done status text m proof (inl h) = subst IsDone (sym h.status_is) (verdict_done h.what)
check_none_done status text m proof (inr h) = subst IsDone (sym h.3) tt

-- of two right answers over the same proof each agrees with the other
pub check_none_agrees : OneNoneVerdict → (c : Command) (status given : Status) (text lines : List ℕ) (m n : Problem) (proof other : Proof) →
    SameProblem m n → proof ≡ other → JudgesProof status text m proof → JudgesProof given lines n other → Agrees c status text given lines
check_none_agrees law c status given text lines m n proof other same e (inl h) (inl k) =
    same_given c (IsNoneVerdict (plain_problem m) proof) (IsNoneVerdict (plain_problem n) other) none_status
    (proof_verdict_text m.names m.domain.operators proof.bound) (proof_verdict_text n.names n.domain.operators other.bound) status given
    text lines h k
    (one_verdict law m n proof other h.what k.what same e h.right k.right) (one_line m n proof other h.what same e)
check_none_agrees law c status given text lines m n proof other same e h (inr k) =
    to_range c status given text lines (check_none_done status text m proof h) k.3
check_none_agrees law c status given text lines m n proof other same e (inr h) k =
    from_range c status given text lines h.3 (check_none_done given lines n other k)

verdict_says : Laws → (files : Option Files) (d p q : List ℕ) (problem : Problem) (proof : Proof) (v : NoneVerdict) (text : List ℕ) →
    HoldProof files d p q problem proof → IsNoneVerdict (plain_problem problem) proof v → text ≡
    proof_verdict_text problem.names problem.domain.operators proof.bound v → Headline files (check_none d p q) (none_status v) text
verdict_says laws files d p q problem proof Proved text stand right line =
    (problem, proof, stand, record { covers = right; none = laws.covered (plain_problem problem) proof right; line = line })
verdict_says laws files d p q problem proof (BadLink k) text stand right line = tt
verdict_says laws files d p q problem proof (Accepts k) text stand right line = tt
verdict_says laws files d p q problem proof (Open k a) text stand right line = tt

-- what the headline says of a right answer
pub check_none_says : Laws → (files : Option Files) (d p q : List ℕ) (status : Status) (text : List ℕ) (m : Problem) (proof : Proof) →
    HoldProof files d p q m proof → JudgesProof status text m proof → Headline files (check_none d p q) status text
check_none_says laws files d p q status text m proof stand (inl h) =
    subst (λ (s : Status). Headline files (check_none d p q) s text) (sym h.status_is)
    (verdict_says laws files d p q m proof h.what text stand h.right h.text_is)
check_none_says laws files d p q status text m proof stand (inr h) = subst (λ (s : Status). Headline files (check_none d p q) s text)
    (sym h.3) tt

verdict_is_own : (v : NoneVerdict) → IsOwn (none_status v)
verdict_is_own Proved = tt
verdict_is_own (BadLink k) = tt
verdict_is_own (Accepts k) = tt
verdict_is_own (Open k a) = tt

-- where nothing past range is looked at, no right answer has the status Range
pub check_none_calm : (status : Status) (text : List ℕ) (m n : Problem) (proof other : Proof) → SameProblem m n → proof ≡ other →
    ((path : List Action) (note : RangeNote) → ¬ IsNoneCause (plain_problem m) proof.bound proof.links path (operation_of note)) →
    JudgesProof status text n other → IsOwn status
check_none_calm status text m n proof other same e calm (inl h) = subst IsOwn (sym h.status_is) (verdict_is_own h.what)
check_none_calm status text m n proof other same e calm (inr h) =
    absurd (calm h.0 h.1 (subst (λ (u : PlainProblem). IsNoneCause u proof.bound proof.links h.0 (operation_of h.1)) (sym same.meaning)
    (subst (λ (u : Proof). IsNoneCause (plain_problem n) u.bound u.links h.0 (operation_of h.1)) (sym e) h.2)))
