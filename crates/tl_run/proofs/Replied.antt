-- Replies to commands.
use Rattle.std.proofs.Common.{◌≡◌, inl, inr, ℕ, List, [], ◌∷◌, map, length, true, refl, sym, subst}
use Rattle.std.specs.Prelude.{Option, Result, Ok, Err, IfOk, false}
use Rattle.tl_action.specs.Actions.{HasOperator}
use Rattle.tl_cert.specs.Causes.{IsNoneCause}
use Rattle.tl_cert.specs.declared.proof.Proof.{Proof}
use Rattle.tl_check.specs.Verdicts.{IsVerdict, IsCause}
use Rattle.tl_action.specs.declared.check_fault.CheckFault.TheVariants as fault
use Rattle.tl_check.specs.declared.verdict.Verdict.{Verdict}
use Rattle.tl_eval.specs.Notes.{operation_of}
use Rattle.tl_eval.specs.declared.range.RangeNote.{RangeNote}
use Rattle.tl_lasso.specs.LoopTexts.{loop_text}
use Rattle.tl_lasso.specs.Verdicts.{IsLoopVerdict, IsLoopCause}
use Rattle.tl_lasso.specs.declared.plan.LoopPlan.{LoopPlan}
use Rattle.tl_lasso.specs.declared.verdict.LoopVerdict.{LoopVerdict}
use Rattle.tl_line.specs.NamedActions.{ActionIsNamed}
use Rattle.tl_outside.specs.Told.{Files}
use Rattle.tl_search.specs.declared.outcome.Outcome.{Outcome}
use Rattle.tl_search.specs.declared.outcome.Outcome.TheVariants as outcome
use Rattle.tl_syntax.specs.declared.action.Action.{Action}
use Rattle.tl_syntax.specs.declared.problem.Problem.{Problem}
use Rattle.tl_syntax.specs.Lists.{Each}
use Rattle.tl_syntax.specs.Signature.{Takes}
use Rattle.tl_terms.specs.Problem.{PlainOperator}
use Rattle.tl_terms.specs.ProblemMeaning.{plain_operator, plain_problem}
use Rattle.tl_explain.specs.Causes.{IsPastInExplanation}
use Rattle.tl_explain.specs.Explain.{explain_text}
use Rattle.tl_text.specs.Ranges.{range_text}
use Rattle.tl_text.specs.Verdicts.{verdict_text}
use Rattle.tl_run.specs.declared.reply.Reply.{Reply}
use Rattle.tl_run.specs.declared.status.Status.{Status}
use Rattle.tl_run.specs.declared.status.Status.TheVariants.{Yes, Refused, Range}
use Rattle.tl_run.specs.declared.stop.Broken.{Broken}
use Rattle.tl_run.specs.declared.search.Search.{Search}
use Rattle.tl_run.specs.Answers.{Answers, verdict_status}
use Rattle.tl_run.specs.Commands.{Command, check, search, trace, explain, prove_none, check_none, sample, cheapest, check_loop}
use Rattle.tl_run.specs.Inputs.{Input, a_problem, a_plan, a_proof, some_costs, a_loop}
use Rattle.tl_run.specs.Cheapest.{CheapestEndsPastRange}
use Rattle.tl_run.specs.CheckLoop.{loop_status}
use Rattle.tl_run.specs.Plan.{IsOutcome, EndsPastRange}
use Rattle.tl_run.specs.Promises.{IsAnswer}
use Rattle.tl_run.specs.Refusals.{refusal_text}
use Rattle.tl_run.specs.Replies.{Replies}
use Rattle.tl_run.specs.Sample.{IsSummary, sample_search, sample_text}
use Rattle.tl_run.specs.Turns.{BeginsFirst, CallsTold, HoldInput, IsRefused}
use Rattle.tl_run.proofs.Meant.{costs_held, loop_held, plan_held, problem_held, proof_held, sample_held}
use Rattle.tl_run.proofs.SeenTwice.{map_seen}

pub counts_seen : (p : Problem) → map (λ (o : PlainOperator). length o.params) (plain_problem p).operators ≡
    map (λ o. length o.params) p.domain.operators
unfolding plain_problem
counts_seen p = map_seen (λ (o : PlainOperator). length o.params) plain_operator p.domain.operators

-- each action that names only what a problem has is of an operator of it
pub of_operators : (p : Problem) (plan : List Action) → Each (ActionIsNamed p.names p.domain.operators) plan →
    Each (HasOperator (plain_problem p)) plan
of_operators p [] h = tt
of_operators p (a ∷ plan) h =
    let named = h.0 in
    (subst (λ (counts : List ℕ). Takes counts a.op (length a.args)) (sym (counts_seen p)) named.takes, of_operators p plan h.1)

-- the reply with a verdict
pub verdict_replied : {E : Type 0} (d p q : List ℕ) (problem : Problem) (plan : List Action) (v : Verdict) (r : Result Reply E) →
    IsVerdict (plain_problem problem) plan v → IfOk r (λ reply. reply.status ≡ verdict_status v) →
    IfOk r (λ reply. reply.text ≡ verdict_text v) → IfOk r (Replies (check d p q) (a_plan problem plan))
verdict_replied d p q problem plan v (Ok reply) right s t = record {
  right =
      inl (record { what = v; right = right; status_is = s; text_is = t });
}
verdict_replied d p q problem plan v (Err e) right s t = tt

-- the reply with an operation past range
pub range_replied : (d p q : List ℕ) (problem : Problem) (plan : List Action) (after : ℕ) (note : RangeNote) (text : List ℕ) →
    IsCause (plain_problem problem) plan (fault.Range after note) → text ≡ range_text problem.names problem.domain.operators note after [] →
    Replies (check d p q) (a_plan problem plan) (record { status = Range; text = text })
range_replied d p q problem plan after note text cause t = record { right = inr (after, note, cause, refl, t) }

-- the reply where a search ends at an operation past range
pub search_range_replied : (s : Search) (d p : List ℕ) (problem : Problem) (note : RangeNote) (path : List Action) (text : List ℕ) →
    EndsPastRange s (plain_problem problem) path note → text ≡ range_text problem.names problem.domain.operators note (length path) path →
    Replies (search s d p) (a_problem problem) (record { status = Range; text = text })
search_range_replied s d p problem note path text cause t = record { right = inr (path, note, cause, refl, t) }

-- and so does a trace
pub trace_range_replied : (s : Search) (d p : List ℕ) (problem : Problem) (note : RangeNote) (path : List Action) (text : List ℕ) →
    EndsPastRange s (plain_problem problem) path note → text ≡ range_text problem.names problem.domain.operators note (length path) path →
    Replies (trace s d p) (a_problem problem) (record { status = Range; text = text })
trace_range_replied s d p problem note path text cause t = record { right = inr (path, note, cause, refl, t) }

-- the reply with the lines that explain a plan
pub explained_replied : (d p q : List ℕ) (problem : Problem) (plan : List Action) (text : List ℕ) → text ≡ explain_text problem plan →
    Replies (explain d p q) (a_plan problem plan) (record { status = Yes; text = text })
explained_replied d p q problem plan text t = record { right = inl (refl, t) }

-- the reply with an operation past range that is looked at along a plan
pub explain_range_replied : (d p q : List ℕ) (problem : Problem) (plan : List Action) (after : ℕ) (note : RangeNote) (text : List ℕ) →
    IsPastInExplanation (plain_problem problem) plan after note → text ≡ range_text problem.names problem.domain.operators note after [] →
    Replies (explain d p q) (a_plan problem plan) (record { status = Range; text = text })
explain_range_replied d p q problem plan after note text cause t = record { right = inr (after, note, cause, refl, t) }

-- and so does the search of `prove-none`
pub prove_none_range_replied : (s : Search) (d p : List ℕ) (problem : Problem) (note : RangeNote) (path : List Action) (text : List ℕ) →
    EndsPastRange s (plain_problem problem) path note → text ≡ range_text problem.names problem.domain.operators note (length path) path →
    Replies (prove_none s d p) (a_problem problem) (record { status = Range; text = text })
prove_none_range_replied s d p problem note path text cause t = record { right = inr (inr (path, note, cause, refl, t)) }

-- the reply where the check of a proof does
pub proof_range_replied : (d p q : List ℕ) (problem : Problem) (proof : Proof) (note : RangeNote) (path : List Action) (text : List ℕ) →
    IsNoneCause (plain_problem problem) proof.bound proof.links path (operation_of note) → text ≡
    range_text problem.names problem.domain.operators note (length path) path →
    Replies (check_none d p q) (a_proof problem proof) (record { status = Range; text = text })
proof_range_replied d p q problem proof note path text cause t = record { right = inr (path, note, cause, refl, t) }

-- the reply with the lines of a sample
pub summary_replied : {E : Type 0} (m : ℕ) (problem : Problem) (kept : ℕ) (o : Outcome) (v : Option Verdict) (r : Result Reply E) →
    IsSummary m (plain_problem problem) kept o v → IfOk r (λ reply. reply.status ≡ Yes) →
    IfOk r (λ reply. reply.text ≡ sample_text m kept o v) → IfOk r (Replies (sample m) (a_problem problem))
summary_replied m problem kept o v (Ok reply) right s t = record {
  right =
      inl (record { kept = kept; ended = o; verdict = v; right = right; status_is = s; text_is = t });
}
summary_replied m problem kept o v (Err e) right s t = tt

-- the reply where the search of a sample ends at an operation past range
pub sample_range_replied : (m : ℕ) (s : Search) (problem : Problem) (note : RangeNote) (path : List Action) (text : List ℕ) → s ≡
    sample_search m → EndsPastRange s (plain_problem problem) path note → text ≡
    range_text problem.names problem.domain.operators note (length path) path →
    Replies (sample m) (a_problem problem) (record { status = Range; text = text })
sample_range_replied m s problem note path text e cause t =
    record { right = inr (inl (path, note, subst (λ (u : Search). EndsPastRange u (plain_problem problem) path note) e cause, refl, t)) }

-- the reply where the check of its plan does
pub check_range_replied : (m : ℕ) (problem : Problem) (plan : List Action) (after : ℕ) (note : RangeNote) (text : List ℕ) →
    IsOutcome (sample_search m) (plain_problem problem) (outcome.Plan plan) →
    IsCause (plain_problem problem) plan (fault.Range after note) → text ≡ range_text problem.names problem.domain.operators note after [] →
    Replies (sample m) (a_problem problem) (record { status = Range; text = text })
check_range_replied m problem plan after note text found cause t =
    record { right = inr (inr (after, note, record { plan = plan; found = found; cause = cause }, refl, t)) }

-- the reply where the search for a cheapest plan ends at an operation past range
pub cheapest_range_replied : (b : ℕ) (d p k : List ℕ) (problem : Problem) (costs : List ℕ) (note : RangeNote) (path : List Action)
    (text : List ℕ) → CheapestEndsPastRange b (plain_problem problem) costs path note → text ≡
    range_text problem.names problem.domain.operators note (length path) path →
    Replies (cheapest b d p k) (some_costs problem costs) (record { status = Range; text = text })
cheapest_range_replied b d p k problem costs note path text cause t = record { right = inr (path, note, cause, refl, t) }

-- the reply with a verdict on a plan with a repeated part
pub loop_verdict_replied : {E : Type 0} (d p q : List ℕ) (problem : Problem) (plan : LoopPlan) (v : LoopVerdict) (r : Result Reply E) →
    IsLoopVerdict (plain_problem problem) plan.stem plan.cycle v → IfOk r (λ reply. reply.status ≡ loop_status v) →
    IfOk r (λ reply. reply.text ≡ loop_text v) → IfOk r (Replies (check_loop d p q) (a_loop problem plan))
loop_verdict_replied d p q problem plan v (Ok reply) right s t = record
    { right = inl (record { what = v; right = right; status_is = s; text_is = t }) }
loop_verdict_replied d p q problem plan v (Err e) right s t = tt

-- the reply with an operation past range that the check of one looks at
pub loop_range_replied : (d p q : List ℕ) (problem : Problem) (plan : LoopPlan) (after : ℕ) (note : RangeNote) (text : List ℕ) →
    IsLoopCause (plain_problem problem) plan.stem plan.cycle (fault.Range after note) → text ≡
    range_text problem.names problem.domain.operators note after [] → Replies (check_loop d p q) (a_loop problem plan)
    (record { status = Range; text = text })
loop_range_replied d p q problem plan after note text cause t = record { right = inr (after, note, cause, refl, t) }

-- a right reply over the input is right over the files: one line for each command
right_answers : (files : Option Files) (c : Command) (x : Input) (reply : Reply) → HoldInput files c x → Replies c x reply →
    Answers true files c reply.status reply.text
right_answers files (check d p q) (a_plan m plan) reply stand r = (m, plan, plan_held files d p q m plan stand, r.right)
right_answers files (search s d p) (a_problem m) reply stand r = (m, problem_held files d p m stand, r.right)
right_answers files (trace s d p) (a_problem m) reply stand r = (m, problem_held files d p m stand, r.right)
right_answers files (explain d p q) (a_plan m plan) reply stand r = (m, plan, plan_held files d p q m plan stand, r.right)
right_answers files (prove_none s d p) (a_problem m) reply stand r = (m, problem_held files d p m stand, r.right)
right_answers files (check_none d p q) (a_proof m proof) reply stand r = (m, proof, proof_held files d p q m proof stand, r.right)
right_answers files (sample n) (a_problem m) reply stand r = (m, sample_held n m stand, r.right)
right_answers files (cheapest b d p k) (some_costs m costs) reply stand r = (m, costs, costs_held files d p k m costs stand, r.right)
right_answers files (check_loop d p q) (a_loop m plan) reply stand r = (m, plan, loop_held files d p q m plan stand, r.right)
right_answers files c x reply stand r = absurd r.right

-- so it is an answer that the files allow
pub reply_answers : (files : Option Files) (c : Command) (told : CallsTold) (x : Input) (reply : Reply) → HoldInput files c x →
    Replies c x reply → IsAnswer files c told reply.status reply.text
reply_answers files c told x reply stand r = inl (right_answers files c x reply stand r)

-- and so is the line of a refusal
pub refusal_answers : (files : Option Files) (c : Command) (told : CallsTold) (number : ℕ) (m : Broken) (status : Status) (text : List ℕ) →
    IsRefused files c number m × BeginsFirst c told number false → status ≡ Refused → text ≡ refusal_text number m →
    IsAnswer files c told status text
refusal_answers files c told number m status text h s t = inr (number, m, (h.0, s, t), h.1)
