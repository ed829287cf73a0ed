-- The actions of a plan that executes are of operators of the problem.
use Rattle.std.proofs.Common.{◌≡◌, ℕ, List, [], ◌∷◌, length, map, Option, Some, None, refl, sym, ap, ◌∙◌, subst}
use Rattle.std.specs.Option.{option_map}
use Rattle.std.proofs.lemmas.Option.{slice_get-map}
use Rattle.tl_line.specs.NamedActions.{ActionIsNamed}
use Rattle.tl_search.specs.NamedAnswers.{OutcomeIsNamed, FaultIsNamed}
use Rattle.tl_search.specs.declared.fault.SearchFault.{SearchFault}
use Rattle.tl_search.specs.declared.fault.SearchFault.TheVariants as fault
use Rattle.tl_search.specs.declared.outcome.Outcome.{Outcome}
use Rattle.tl_search.specs.declared.outcome.Outcome.TheVariants as outcome
use Rattle.tl_syntax.specs.declared.action.Action.{Action}
use Rattle.tl_syntax.specs.declared.problem.Problem.{Problem}
use Rattle.tl_syntax.specs.Lists.{Each}
use Rattle.tl_syntax.specs.Named.{ValueIsNamed}
use Rattle.tl_syntax.specs.Signature.{Takes}
use Rattle.tl_terms.specs.Acceptance.{states_from, then_states}
use Rattle.tl_terms.specs.LawsStep.{StepByItsConditions, IsStep}
use Rattle.tl_terms.specs.Problem.{PlainOperator, PlainProblem}
use Rattle.tl_terms.specs.ProblemMeaning.{plain_problem}
use Rattle.tl_terms.specs.Step.{step}
use Rattle.tl_terms.specs.World.{World}
use Rattle.tl_text.specs.Outcomes.{HasNamedPlan}
use Rattle.tl_world.specs.declared.task.Task.{Task}
use Rattle.tl_run.specs.declared.search.Search.{Search}
use Rattle.tl_run.specs.Plan.{IsOutcome}
use Rattle.tl_run.specs.Searched.{HasNamedPath, IsSearchFault}
use Rattle.tl_run.proofs.OneOutcome.{plan_within}
use Rattle.tl_run.proofs.Replied.{counts_seen}

-- the operator of the action is there and takes its arguments
abbrev pub IsOfOperator : PlainProblem → Action → Type 0
IsOfOperator p a = Takes (map (λ (o : PlainOperator). length o.params) p.operators) a.op (length a.args)

pub step_takes : StepByItsConditions → (p : PlainProblem) (w v : World) (a : Action) → step p w a ≡ Some v → IsOfOperator p a
step_takes law p w v a e =
    let s : IsStep p w a v = (law p w a v).0 e in
    slice_get-map (λ (o : PlainOperator). length o.params) p.operators a.op ∙
    ap (option_map (λ (o : PlainOperator). length o.params)) s.exists ∙ ap (λ (n : ℕ). Some n) (sym s.arity)

no_states : (w : World) (ws : List World) → then_states w None ≡ Some ws → ⊥
no_states w ws e = let k : ⊥ = cc in k

pub states_take : StepByItsConditions → (p : PlainProblem) (w : World) (plan : List Action) (ws : List World) →
    states_from p (Some w) plan ≡ Some ws → Each (IsOfOperator p) plan
unfolding states_from
states_take law p w [] ws e = tt
states_take law p w (a ∷ plan) ws e = by_step (step p w a) refl (λ v vs t. states_take law p v plan vs t)
  where
    by_rest : (v : World) (rest : Option (List World)) → step p w a ≡ Some v → states_from p (Some v) plan ≡ rest →
        ((u : World) (us : List World) → states_from p (Some u) plan ≡ Some us → Each (IsOfOperator p) plan) → Each (IsOfOperator p) plan
    by_rest v None s t others = absurd (no_states w ws (sym (ap (λ (x : Option World). then_states w (states_from p x plan)) s ∙
        ap (then_states w) t) ∙ e))
    by_rest v (Some vs) s t others = others v vs t

    by_step : (o : Option World) → step p w a ≡ o → ((u : World) (us : List World) → states_from p (Some u) plan ≡ Some us →
        Each (IsOfOperator p) plan) → Each (IsOfOperator p) (a ∷ plan)
    by_step None s others = absurd (no_states w ws (sym (ap (λ (x : Option World). then_states w (states_from p x plan)) s) ∙ e))
    by_step (Some v) s others = (step_takes law p w v a s, by_rest v (states_from p (Some v) plan) s refl others)

pub named_both : (p : Problem) (plan : List Action) → Each (IsOfOperator (plain_problem p)) plan →
    Each (λ a. Each (ValueIsNamed (length p.names)) a.args) plan → Each (ActionIsNamed p.names p.domain.operators) plan
named_both p [] takes named = tt
named_both p (a ∷ plan) takes named = (
  record { takes = subst (λ (counts : List ℕ). Takes counts a.op (length a.args)) (counts_seen p) takes.0; named = named.0 },
  named_both p plan takes.1 named.1,
)

-- so the plan of an outcome names only what the problem has
pub plan_is_named : StepByItsConditions → (search : Search) (task : Task) (o : Outcome) → IsOutcome search (plain_problem task.problem) o →
    OutcomeIsNamed task o → HasNamedPlan task.problem.names task.problem.domain.operators o
plan_is_named law search task (outcome.Plan plan) right named =
    let p = plain_problem task.problem in
    let within = plan_within search.mode search.within search.nodes p plan right in
    let accepted = within.accepted in
    named_both task.problem plan (states_take law p p.first plan (accepted.from ∷ accepted.after) accepted.executes) named
plan_is_named law search task outcome.NoPlan right named = tt
plan_is_named law search task outcome.NoneWithin right named = tt
plan_is_named law search task outcome.Spent right named = tt

-- and so does the path to an operation past range
pub path_is_named : StepByItsConditions → (search : Search) (task : Task) (f : SearchFault) →
    IsSearchFault search (plain_problem task.problem) f → FaultIsNamed task f →
    HasNamedPath task.problem.names task.problem.domain.operators f
path_is_named law search task (fault.Range path note) right named =
    let p = plain_problem task.problem in
    let cause = right.0 in
    named_both task.problem path (states_take law p p.first path (cause.from ∷ cause.after) cause.executes) named
path_is_named law search task fault.NoMemory right named = tt
