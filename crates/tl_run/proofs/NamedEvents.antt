-- True events name only what the problem has, and search nodes that are kept.
use Rattle.std.proofs.Common.{◌≡◌, ℕ, ◌<◌, ◌≤◌, suc, List, [], ◌∷◌, ◌++◌, length, Option, Some, None, refl, ap, ◌∙◌, arith}
use Rattle.std.specs.Option.{option_map}
use Rattle.std.proofs.lemmas.Option.{slice_get_within}
use Rattle.tl_line.specs.NamedActions.{ActionIsNamed}
use Rattle.tl_search.specs.KeptPairs.{KeptPair}
use Rattle.tl_search.specs.NamedAnswers.{EventIsNamed, EventsAreNamed, IsNamedIn, OutcomeIsNamed}
use Rattle.tl_search.specs.PairGraph.{next_pair, pair_in}
use Rattle.tl_search.specs.TrueEvents.{AreTrueEvents, IsTrueEvent}
use Rattle.tl_search.specs.declared.event.Event.{Event}
use Rattle.tl_search.specs.declared.event.Event.TheVariants as event
use Rattle.tl_search.specs.declared.outcome.Report.{Report}
use Rattle.tl_search.proofs.WalkLaws.{length-snoc}
use Rattle.tl_syntax.specs.declared.action.Action.{Action}
use Rattle.tl_terms.specs.LawsStep.{StepByItsConditions}
use Rattle.tl_terms.specs.Pairs.{Pair}
use Rattle.tl_terms.specs.Problem.{PlainProblem}
use Rattle.tl_terms.specs.ProblemMeaning.{plain_problem}
use Rattle.tl_terms.specs.Step.{step}
use Rattle.tl_terms.specs.World.{World}
use Rattle.tl_text.specs.Traces.{AreWritable, EventIsWritable}
use Rattle.tl_world.specs.declared.task.Task.{Task}
use Rattle.tl_run.specs.declared.search.Search.{Search}
use Rattle.tl_run.specs.Searched.{HasNamedLines, IsTraceReport}
use Rattle.tl_run.proofs.NamedPlans.{IsOfOperator, named_both, plan_is_named, step_takes}
use Rattle.tl_run.proofs.TraceLaws.{trace_outcome}

-- an action after which there is a search node is of an operator
steps_take : StepByItsConditions → (p : PlainProblem) (x y : Pair) (a : Action) (after : Option World) → step p x.world a ≡ after →
    option_map (pair_in p x.formula) after ≡ Some y → IsOfOperator p a
steps_take law p x y a None is e = absurd (let z : ⊥ = cc in z)
steps_take law p x y a (Some w) is e = step_takes law p x.world w a is

pub action_is_named : StepByItsConditions → (task : Task) (x y : Pair) (a : Action) → next_pair (plain_problem task.problem) x a ≡ Some y →
    IsNamedIn task a → ActionIsNamed task.problem.names task.problem.domain.operators a
action_is_named law task x y a e named =
    let p = plain_problem task.problem in
    let both = named_both task.problem (a ∷ []) (steps_take law p x y a (step p x.world a) refl e, tt) (named, tt) in
    both.0

-- no event takes a search node away
event_keeps : (p : PlainProblem) (old : List KeptPair) (e : Event) (new : List KeptPair) → IsTrueEvent p old e new → length old ≤ length new
event_keeps p old event.RootKept new t = let n : length old ≡ 0 = ap length t.3 in omega (arith, n)
event_keeps p old event.RootPruned new t = let n : length old ≡ 0 = ap length t.3 in omega (arith, n)
event_keeps p old (event.Kept j a k) new t =
    let n : length new ≡ suc (length old) = ap length t.7 ∙ length-snoc old (record { node = t.1; path = t.0.path ++ a ∷ [] }) in
    omega (arith, n)
event_keeps p old (event.Seen j a k) new t = let n : length new ≡ length old = ap length t.5 in omega (arith, n)
event_keeps p old (event.Pruned j a) new t = let n : length new ≡ length old = ap length t.5 in omega (arith, n)

events_keep : (p : PlainProblem) (old : List KeptPair) (events : List Event) (new : List KeptPair) → AreTrueEvents p old events new →
    length old ≤ length new
events_keep p old [] new told = let n : length old ≡ length new = ap length told in omega (arith, n)
events_keep p old (e ∷ events) new told =
    let first = event_keeps p old e told.0 told.1 in
    let others = events_keep p told.0 events new told.2 in
    omega (arith, first, others)

module _ (law : StepByItsConditions) (task : Task) where
  event_writable : (old : List KeptPair) (e : Event) (new : List KeptPair) (n : ℕ) → IsTrueEvent (plain_problem task.problem) old e new →
      EventIsNamed task e → length old ≤ length new → length new ≤ n → EventIsWritable task.problem.names task.problem.domain n e
  event_writable old event.RootKept new n t named grows few = let m : length new ≡ 1 = ap length t.4 in omega (arith, m, few)
  event_writable old event.RootPruned new n t named grows few = tt
  event_writable old (event.Kept j a k) new n t named grows few =
      let here : j < length old = slice_get_within old j t.0 t.2 in
      let m : length new ≡ suc (length old) = ap length t.7 ∙ length-snoc old (record { node = t.1; path = t.0.path ++ a ∷ [] }) in
      let last : k ≡ length old = t.6 in
      (omega (arith, here, grows, few), omega (arith, m, last, few), action_is_named law task t.0.node t.1 a t.3 named)
  event_writable old (event.Seen j a k) new n t named grows few =
      let here : j < length old = slice_get_within old j t.0 t.2 in
      let there : k < length old = slice_get_within old k t.1 t.4 in
      (omega (arith, here, grows, few), omega (arith, there, grows, few), action_is_named law task t.0.node t.1.node a t.3 named)
  event_writable old (event.Pruned j a) new n t named grows few =
      let here : j < length old = slice_get_within old j t.0 t.2 in
      (omega (arith, here, grows, few), action_is_named law task t.0.node t.1 a t.3 named)

  events_writable : (old : List KeptPair) (events : List Event) (new : List KeptPair) →
      AreTrueEvents (plain_problem task.problem) old events new → EventsAreNamed task events →
      AreWritable task.problem.names task.problem.domain (length new) events
  events_writable old [] new told named = tt
  events_writable old (e ∷ events) new told named =
      let p = plain_problem task.problem in (
        event_writable old e told.0 (length new) told.1 named.0 (event_keeps p old e told.0 told.1)
            (events_keep p told.0 events new told.2),
        events_writable told.0 events new told.2 named.1,
      )

-- so the lines of a report name only what the problem has
pub lines_are_named : StepByItsConditions → (search : Search) (task : Task) (kept : List KeptPair) (report : Report) →
    IsTraceReport search (plain_problem task.problem) kept report → EventsAreNamed task report.events → OutcomeIsNamed task report.outcome →
    HasNamedLines task.problem kept report
lines_are_named law search task kept report right events plan = record {
  events = events_writable law task [] report.events kept right.told events;
  plan = plan_is_named law search task report.outcome (trace_outcome search
      (plain_problem task.problem) kept report.events report.outcome right) plan;
}
