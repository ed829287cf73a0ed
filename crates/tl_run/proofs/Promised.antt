-- What follows from an answer that the files allow.
use Rattle.std.proofs.Common.{◌≡◌, inl, inr, ℕ, List, [], true, false, true≢false, sym, ◌∙◌, subst}
use Rattle.std.specs.Prelude.{Bool, Option, Some, None}
use Rattle.std.specs.FinMap as dict
use Rattle.tl_cert.specs.declared.proof.Proof.{Proof}
use Rattle.tl_gen.specs.Samples.{domain_text, problem_text}
use Rattle.tl_lasso.specs.declared.plan.LoopPlan.{LoopPlan}
use Rattle.tl_outside.specs.Told.{Files}
use Rattle.tl_syntax.specs.declared.action.Action.{Action}
use Rattle.tl_syntax.specs.declared.problem.Problem.{Problem}
use Rattle.tl_run.specs.declared.status.Status.{Status}
use Rattle.tl_run.specs.declared.status.Status.TheVariants.{Yes, No, Spent, Refused, Range}
use Rattle.tl_run.specs.declared.stop.Broken.{Broken}
use Rattle.tl_run.specs.declared.words.Role.TheVariants as role
use Rattle.tl_run.specs.Answers.{Answers}
use Rattle.tl_run.specs.Commands.{Command, check, search, trace, explain, prove_none, check_none, sample, cheapest, check_loop, three_files}
use Rattle.tl_run.specs.Commands.{two_files}
use Rattle.tl_run.specs.Inputs.{Input, nothing, a_problem, a_plan, a_proof, some_costs, a_loop}
use Rattle.tl_run.specs.Laws.{Laws}
use Rattle.tl_run.specs.Over.{HoldProblem, StandForProblem}
use Rattle.tl_run.specs.Promises.{Agrees, Allows, AnswersRightly, AreTold, Headline, IsAnswer, IsCalmCommand, IsOnlyAnswer, IsOwn, Refuses}
use Rattle.tl_run.specs.Refusals.{refusal_text}
use Rattle.tl_run.specs.Replies.{HasLines}
use Rattle.tl_run.specs.Turns.{CallsTold, HoldInput}
use Rattle.tl_run.proofs.Agreement.{IsDone}
use Rattle.tl_run.proofs.CheapestLaws.{cheapest_agrees, cheapest_calm, cheapest_done, cheapest_says}
use Rattle.tl_run.proofs.CheckLaws.{check_agrees, check_calm, check_done, check_says}
use Rattle.tl_run.proofs.CheckLoopLaws.{check_loop_agrees, check_loop_calm, check_loop_done, check_loop_says}
use Rattle.tl_run.proofs.CheckNoneLaws.{check_none_agrees, check_none_calm, check_none_done, check_none_says}
use Rattle.tl_run.proofs.ExplainLaws.{explain_agrees, explain_calm, explain_done, explain_says}
use Rattle.tl_run.proofs.InTurn.{no_refusal, one_refusal, sample_one, stand_same}
use Rattle.tl_run.proofs.Meant.{HoldCosts, HoldLoop, HoldPlan, HoldProof, costs_in_turn, loop_in_turn, plan_in_turn, problem_in_turn}
use Rattle.tl_run.proofs.Meant.{proof_in_turn, sample_in_turn}
use Rattle.tl_run.proofs.OneProblem.{SameProblem}
use Rattle.tl_run.proofs.ProveNoneLaws.{prove_none_agrees, prove_none_calm, prove_none_done, prove_none_says}
use Rattle.tl_run.proofs.SampleLaws.{sample_agrees, sample_calm, sample_done, sample_says}
use Rattle.tl_run.proofs.SearchLaws.{search_agrees, search_calm, search_done, search_says}
use Rattle.tl_run.proofs.TraceLaws.{trace_agrees, trace_calm, trace_done, trace_says}

-- the status of what is right over all files: one line for each command
answer_done : (fits : Bool) (files : Option Files) (c : Command) (status : Status) (text : List ℕ) → Answers fits files c status text →
    IsDone status
answer_done fits files (check d p q) status text h = check_done status text h.0 h.1 h.3
answer_done fits files (search s d p) status text h = search_done fits s status text h.0 h.2
answer_done fits files (trace s d p) status text h = trace_done fits s status text h.0 h.2
answer_done fits files (explain d p q) status text h = explain_done status text h.0 h.1 h.3
answer_done fits files (prove_none s d p) status text h = prove_none_done fits s status text h.0 h.2
answer_done fits files (check_none d p q) status text h = check_none_done status text h.0 h.1 h.3
answer_done fits files (sample m) status text h = sample_done m status text h.0 h.2
answer_done fits files (cheapest b d p k) status text h = cheapest_done b status text h.0 h.1 h.3
answer_done fits files (check_loop d p q) status text h = check_loop_done status text h.0 h.1 h.3

done_has_lines : (status : Status) → IsDone status → HasLines status
done_has_lines Yes done = tt
done_has_lines No done = tt
done_has_lines Spent done = tt
done_has_lines Range done = tt
done_has_lines status done = absurd done

-- the status of an answer comes with lines
pub has_lines : (files : Option Files) (c : Command) (told : CallsTold) (status : Status) (text : List ℕ) →
    IsAnswer files c told status text → HasLines status
has_lines files c told status text (inl h) = done_has_lines status (answer_done true files c status text h)
has_lines files c told status text (inr h) = let refuses = h.2 in subst HasLines (sym refuses.1) tt

-- what the headline says of a refusal: nothing, one line for each command
refused_says : (files : Option Files) (c : Command) (text : List ℕ) → Headline files c Refused text
refused_says files (check d p q) text = tt
refused_says files (search s d p) text = tt
refused_says files (trace s d p) text = tt
refused_says files (explain d p q) text = tt
refused_says files (prove_none s d p) text = tt
refused_says files (check_none d p q) text = tt
refused_says files (sample m) text = tt
refused_says files (cheapest b d p k) text = tt
refused_says files (check_loop d p q) text = tt

-- what it says of a right answer: one line for each command
right_says : Laws → (files : Option Files) (c : Command) (status : Status) (text : List ℕ) → Answers true files c status text →
    Headline files c status text
right_says laws files (check d p q) status text h = check_says files d p q status text h.0 h.1 h.2 h.3
right_says laws files (search s d p) status text h = search_says files s d p status text h.0 h.1 h.2
right_says laws files (trace s d p) status text h = trace_says files s d p status text h.0 h.1 h.2
right_says laws files (explain d p q) status text h = explain_says files d p q status text h.0 h.1 h.2 h.3
right_says laws files (prove_none s d p) status text h = prove_none_says laws files s d p status text h.0 h.1 h.2
right_says laws files (check_none d p q) status text h = check_none_says laws files d p q status text h.0 h.1 h.2 h.3
right_says laws files (sample m) status text h = sample_says laws files m status text h.0 h.1 h.2
right_says laws files (cheapest b d p k) status text h = cheapest_says files b d p k status text h.0 h.1 h.2 h.3
right_says laws files (check_loop d p q) status text h = check_loop_says files d p q status text h.0 h.1 h.2 h.3

headline_of : Laws → (files : Option Files) (c : Command) (told : CallsTold) (status : Status) (text : List ℕ) →
    IsAnswer files c told status text → Headline files c status text
headline_of laws files c told status text (inl h) = right_says laws files c status text h
headline_of laws files c told status text (inr h) =
    let refuses = h.2 in subst (λ (s : Status). Headline files c s text) (sym refuses.1) (refused_says files c text)

-- told files stand for one problem, and for one thing besides

two_same : Laws → (files : Files) (d p : List ℕ) (m n : Problem) → HoldProblem (Some files) d p m → HoldProblem (Some files) d p n →
    SameProblem m n
two_same laws files d p m n h k =
    stand_same laws.problems files (two_files d p) nothing nothing (a_problem m) (a_problem n) tt (problem_in_turn (Some files) d p m h)
    (problem_in_turn (Some files) d p n k)

plans_same : Laws → (files : Files) (d p q : List ℕ) (m n : Problem) (plan other : List Action) → HoldPlan (Some files) d p q m plan →
    HoldPlan (Some files) d p q n other → SameProblem m n × (plan ≡ other)
plans_same laws files d p q m n plan other h k =
    stand_same laws.problems files (three_files d p role.Plan q) nothing nothing (a_plan m plan) (a_plan n other) tt
    (plan_in_turn (Some files) d p q m plan h) (plan_in_turn (Some files) d p q n other k)

proofs_same : Laws → (files : Files) (d p q : List ℕ) (m n : Problem) (proof other : Proof) → HoldProof (Some files) d p q m proof →
    HoldProof (Some files) d p q n other → SameProblem m n × (proof ≡ other)
proofs_same laws files d p q m n proof other h k =
    stand_same laws.problems files (three_files d p role.Proof q) nothing nothing (a_proof m proof) (a_proof n other) tt
    (proof_in_turn (Some files) d p q m proof h) (proof_in_turn (Some files) d p q n other k)

costs_same : Laws → (files : Files) (d p q : List ℕ) (m n : Problem) (costs others : List ℕ) → HoldCosts (Some files) d p q m costs →
    HoldCosts (Some files) d p q n others → SameProblem m n × (costs ≡ others)
costs_same laws files d p q m n costs others h k =
    stand_same laws.problems files (three_files d p role.Costs q) nothing nothing (some_costs m costs) (some_costs n others) tt
    (costs_in_turn (Some files) d p q m costs h) (costs_in_turn (Some files) d p q n others k)

loops_same : Laws → (files : Files) (d p q : List ℕ) (m n : Problem) (plan other : LoopPlan) → HoldLoop (Some files) d p q m plan →
    HoldLoop (Some files) d p q n other → SameProblem m n × (plan ≡ other)
loops_same laws files d p q m n plan other h k =
    stand_same laws.problems files (three_files d p role.Loop q) nothing nothing (a_loop m plan) (a_loop n other) tt
    (loop_in_turn (Some files) d p q m plan h) (loop_in_turn (Some files) d p q n other k)

samples_same : Laws → (balls : ℕ) (m n : Problem) → StandForProblem domain_text (problem_text balls) m →
    StandForProblem domain_text (problem_text balls) n → SameProblem m n
samples_same laws balls m n h k = sample_one laws.problems balls (a_problem m) (a_problem n) (sample_in_turn balls m h)
    (sample_in_turn balls n k)

-- two right answers over the same files: one line for each command
right_agrees : Laws → (files : Files) (c : Command) (status given : Status) (text lines : List ℕ) →
    Answers false (Some files) c status text → Answers true (Some files) c given lines → Agrees c status text given lines
right_agrees laws files (check d p q) status given text lines h k =
    let same = plans_same laws files d p q h.0 k.0 h.1 k.1 h.2 k.2 in
    check_agrees laws.verdicts (check d p q) status given text lines h.0 k.0 h.1 k.1 same.0 same.1 h.3 k.3
right_agrees laws files (search s d p) status given text lines h k =
    search_agrees laws (search s d p) s status given text lines h.0 k.0 (two_same laws files d p h.0 k.0 h.1 k.1) h.2 k.2
right_agrees laws files (trace s d p) status given text lines h k =
    trace_agrees laws (trace s d p) s status given text lines h.0 k.0 (two_same laws files d p h.0 k.0 h.1 k.1) h.2 k.2
right_agrees laws files (explain d p q) status given text lines h k =
    let same = plans_same laws files d p q h.0 k.0 h.1 k.1 h.2 k.2 in
    explain_agrees (explain d p q) status given text lines h.0 k.0 h.1 k.1 same.0 same.1 h.3 k.3
right_agrees laws files (prove_none s d p) status given text lines h k =
    prove_none_agrees laws s d p status given text lines h.0 k.0 (two_same laws files d p h.0 k.0 h.1 k.1) h.2 k.2
right_agrees laws files (check_none d p q) status given text lines h k =
    let same = proofs_same laws files d p q h.0 k.0 h.1 k.1 h.2 k.2 in
    check_none_agrees laws.none_verdicts (check_none d p q) status given text lines h.0 k.0 h.1 k.1 same.0 same.1 h.3 k.3
right_agrees laws files (sample m) status given text lines h k =
    sample_agrees laws m status given text lines h.0 k.0 (samples_same laws m h.0 k.0 h.1 k.1) h.2 k.2
right_agrees laws files (cheapest b d p q) status given text lines h k =
    let same = costs_same laws files d p q h.0 k.0 h.1 k.1 h.2 k.2 in
    cheapest_agrees b d p q status given text lines h.0 k.0 h.1 k.1 same.0 same.1 h.3 k.3
right_agrees laws files (check_loop d p q) status given text lines h k =
    let same = loops_same laws files d p q h.0 k.0 h.1 k.1 h.2 k.2 in
    check_loop_agrees laws.loop_verdicts (check_loop d p q) status given text lines h.0 k.0 h.1 k.1 same.0 same.1 h.3 k.3

-- files of which an answer is right all pass: one line for each command
right_passes : (fits : Bool) (files : Files) (c : Command) (status : Status) (text : List ℕ) → Answers fits (Some files) c status text →
    (x : Input) × HoldInput (Some files) c x
right_passes fits files (check d p q) status text h = (a_plan h.0 h.1, plan_in_turn (Some files) d p q h.0 h.1 h.2)
right_passes fits files (search s d p) status text h = (a_problem h.0, problem_in_turn (Some files) d p h.0 h.1)
right_passes fits files (trace s d p) status text h = (a_problem h.0, problem_in_turn (Some files) d p h.0 h.1)
right_passes fits files (explain d p q) status text h = (a_plan h.0 h.1, plan_in_turn (Some files) d p q h.0 h.1 h.2)
right_passes fits files (prove_none s d p) status text h = (a_problem h.0, problem_in_turn (Some files) d p h.0 h.1)
right_passes fits files (check_none d p q) status text h = (a_proof h.0 h.1, proof_in_turn (Some files) d p q h.0 h.1 h.2)
right_passes fits files (sample m) status text h = (a_problem h.0, sample_in_turn m h.0 h.1)
right_passes fits files (cheapest b d p k) status text h = (some_costs h.0 h.1, costs_in_turn (Some files) d p k h.0 h.1 h.2)
right_passes fits files (check_loop d p q) status text h = (a_loop h.0 h.1, loop_in_turn (Some files) d p q h.0 h.1 h.2)

-- and none of them is refused
not_both : Laws → (fits : Bool) (files : Files) (c : Command) (status : Status) (text : List ℕ) (number : ℕ) (m : Broken) (given : Status)
    (lines : List ℕ) → Answers fits (Some files) c status text → Refuses (Some files) c number m given lines → ⊥
not_both laws fits files c status text number m given lines h k =
    let passes = right_passes fits files c status text h in
    no_refusal laws.problems files c passes.0 number m passes.1 k.0

refusals_agree : Laws → (files : Files) (c : Command) (i j : ℕ) (m n : Broken) (status given : Status) (text lines : List ℕ) →
    Refuses (Some files) c i m status text → Refuses (Some files) c j n given lines → Agrees c status text given lines
refusals_agree laws files c i j m n status given text lines h k =
    let one = one_refusal laws.problems files c i j m n h.0 k.0 in
    inl (k.1 ∙ sym h.1, inl (k.2 ∙ (λ t. refusal_text (sym one.0 t) (sym one.1 t)) ∙ sym h.2))

-- an answer that is allowed agrees with the one that is given
told_agree : Laws → (files : Files) (c : Command) (told : CallsTold) (status given : Status) (text lines : List ℕ) →
    Allows (Some files) c status text → IsAnswer (Some files) c told given lines → Agrees c status text given lines
told_agree laws files c told status given text lines (inl h) (inl k) = right_agrees laws files c status given text lines h k
told_agree laws files c told status given text lines (inl h) (inr k) =
    absurd (not_both laws false files c status text k.0 k.1 given lines h k.2)
told_agree laws files c told status given text lines (inr h) (inl k) =
    absurd (not_both laws true files c given lines h.0 h.1 status text k h.2)
told_agree laws files c told status given text lines (inr h) (inr k) =
    refusals_agree laws files c h.0 k.0 h.1 k.1 status given text lines h.2 k.2

-- a sample, which reads no file, may be taken to be over any files
only_answer : Laws → (files : Option Files) (c : Command) (told : CallsTold) (given : Status) (lines : List ℕ) →
    IsAnswer files c told given lines → AreTold files c → IsOnlyAnswer files c given lines
only_answer laws (Some files) c told given lines k are = λ status text h. told_agree laws files c told status given text lines h k
only_answer laws None (sample m) told given lines k are = λ status text h.
    told_agree laws (dict.from_entries []) (sample m) told status given text lines h k
only_answer laws None c told given lines k are = absurd (true≢false (sym are))

-- files whose command is calm all pass: one line for each command
calm_passes : (files : Files) (c : Command) → IsCalmCommand (Some files) c → (x : Input) × HoldInput (Some files) c x
calm_passes files (check d p q) calm = (a_plan calm.0 calm.1, plan_in_turn (Some files) d p q calm.0 calm.1 calm.2)
calm_passes files (search s d p) calm = (a_problem calm.0, problem_in_turn (Some files) d p calm.0 calm.1)
calm_passes files (trace s d p) calm = (a_problem calm.0, problem_in_turn (Some files) d p calm.0 calm.1)
calm_passes files (explain d p q) calm = (a_plan calm.0 calm.1, plan_in_turn (Some files) d p q calm.0 calm.1 calm.2)
calm_passes files (prove_none s d p) calm = (a_problem calm.0, problem_in_turn (Some files) d p calm.0 calm.1)
calm_passes files (check_none d p q) calm = (a_proof calm.0 calm.1, proof_in_turn (Some files) d p q calm.0 calm.1 calm.2)
calm_passes files (sample m) calm = (a_problem calm.0, sample_in_turn m calm.0 calm.1)
calm_passes files (cheapest b d p k) calm = (some_costs calm.0 calm.1, costs_in_turn (Some files) d p k calm.0 calm.1 calm.2)
calm_passes files (check_loop d p q) calm = (a_loop calm.0 calm.1, loop_in_turn (Some files) d p q calm.0 calm.1 calm.2)

-- right answers where nothing past range is looked at: one line for each command
right_calm : Laws → (files : Files) (c : Command) (status : Status) (text : List ℕ) → IsCalmCommand (Some files) c →
    Answers true (Some files) c status text → IsOwn status
right_calm laws files (check d p q) status text calm h =
    let same = plans_same laws files d p q calm.0 h.0 calm.1 h.1 calm.2 h.2 in
    check_calm status text calm.0 h.0 calm.1 h.1 same.0 same.1 calm.3 h.3
right_calm laws files (search s d p) status text calm h =
    search_calm laws s status text calm.0 h.0 (two_same laws files d p calm.0 h.0 calm.1 h.1) calm.2 h.2
right_calm laws files (trace s d p) status text calm h =
    trace_calm laws s status text calm.0 h.0 (two_same laws files d p calm.0 h.0 calm.1 h.1) calm.2 h.2
right_calm laws files (explain d p q) status text calm h =
    let same = plans_same laws files d p q calm.0 h.0 calm.1 h.1 calm.2 h.2 in
    explain_calm status text calm.0 h.0 calm.1 h.1 same.0 same.1 calm.3 h.3
right_calm laws files (prove_none s d p) status text calm h =
    prove_none_calm laws s status text calm.0 h.0 (two_same laws files d p calm.0 h.0 calm.1 h.1) calm.2 h.2
right_calm laws files (check_none d p q) status text calm h =
    let same = proofs_same laws files d p q calm.0 h.0 calm.1 h.1 calm.2 h.2 in
    check_none_calm status text calm.0 h.0 calm.1 h.1 same.0 same.1 calm.3 h.3
right_calm laws files (sample m) status text calm h =
    sample_calm laws m status text calm.0 h.0 (samples_same laws m calm.0 h.0 calm.1 h.1) calm.2 h.2
right_calm laws files (cheapest b d p k) status text calm h =
    let same = costs_same laws files d p k calm.0 h.0 calm.1 h.1 calm.2 h.2 in
    let near = calm.3 in
    cheapest_calm b status text calm.0 h.0 calm.1 h.1 same.0 same.1 near.0 near.1 h.3
right_calm laws files (check_loop d p q) status text calm h =
    let same = loops_same laws files d p q calm.0 h.0 calm.1 h.1 calm.2 h.2 in
    check_loop_calm status text calm.0 h.0 calm.1 h.1 same.0 same.1 calm.3 h.3

-- where nothing past range is looked at and there is room, an answer is what the command finds
told_calm : Laws → (files : Files) (c : Command) (told : CallsTold) (status : Status) (text : List ℕ) → IsCalmCommand (Some files) c →
    IsAnswer (Some files) c told status text → IsOwn status
told_calm laws files c told status text calm (inl h) = right_calm laws files c status text calm h
told_calm laws files c told status text calm (inr h) =
    let passes = calm_passes files c calm in
    let refuses = h.2 in
    absurd (no_refusal laws.problems files c passes.0 h.0 h.1 passes.1 refuses.0)

calm_answer : Laws → (files : Option Files) (c : Command) (told : CallsTold) (status : Status) (text : List ℕ) →
    IsAnswer files c told status text → AreTold files c → IsCalmCommand files c → IsOwn status
calm_answer laws (Some files) c told status text h are calm = told_calm laws files c told status text calm h
calm_answer laws None (sample m) told status text h are calm = told_calm laws (dict.from_entries []) (sample m) told status text calm h
calm_answer laws None c told status text h are calm = absurd (true≢false (sym are))

-- an answer that the files allow is one of which all this holds
pub rightly : Laws → (files : Option Files) (c : Command) (told : CallsTold) (status : Status) (text : List ℕ) →
    IsAnswer files c told status text → AnswersRightly files c told status text
rightly laws files c told status text h = record {
  allowed = h;
  headline = headline_of laws files c told status text h;
  exact = only_answer laws files c told status text h;
  calm = calm_answer laws files c told status text h;
}
