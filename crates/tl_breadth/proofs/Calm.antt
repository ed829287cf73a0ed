-- What holds of all that a search answers.
use Rattle.std.proofs.Common.{◌≡◌, ◌≢◌, ℕ, List, Bool, refl, subst}
use Rattle.tl_terms.specs.Calm.{IsCalm}
use Rattle.tl_terms.specs.Problem.{PlainProblem}
use Rattle.tl_eval.specs.Notes.{operation_of}
use Rattle.tl_search.specs.Spent.{HasFewPairs}
use Rattle.tl_search.specs.KeptPairs.{KeptPair, pairs_of}
use Rattle.tl_search.proofs.RangeLaws.{calm-has-no-cause}
use Rattle.tl_search.proofs.OutcomeLaws.{few-not-spent}
use Rattle.tl_search.specs.declared.event.Event.{Event}
use Rattle.tl_search.specs.declared.outcome.Outcome.{Outcome}
use Rattle.tl_search.specs.declared.outcome.Outcome.TheVariants as outcome
use Rattle.tl_search.specs.declared.fault.SearchFault.{SearchFault}
use Rattle.tl_search.specs.declared.fault.SearchFault.TheVariants as fault
use Rattle.tl_breadth.specs.Outcomes.{IsBreadthFirstOutcome, IsBreadthFirstFault}
use Rattle.tl_breadth.specs.Events.{HasReported}
use Rattle.tl_search.specs.History.{IsHistory}

pub reported-history : (p : PlainProblem) (n : ℕ) (watch : Bool) (from : ℕ) (kept : List KeptPair) (events : List Event) (steps : ℕ)
    (o : Outcome) → HasReported p n watch from kept events steps o → IsHistory p watch kept events
reported-history p n watch from kept events steps (outcome.Plan plan) h = h.2.history
reported-history p n watch from kept events steps outcome.NoPlan h = h.1.history
reported-history p n watch from kept events steps outcome.NoneWithin h = h.1.history
reported-history p n watch from kept events steps outcome.Spent h = h.2.history

pub calm-outcome : (p : PlainProblem) (n b : ℕ) (kept : List KeptPair) (o : Outcome) → HasFewPairs p n b →
    IsBreadthFirstOutcome p n b kept o → o ≢ outcome.Spent
calm-outcome p n b kept o few h e = few-not-spent p n b (pairs_of kept) few (subst (IsBreadthFirstOutcome p n b kept) e h).0

pub calm-fault : (p : PlainProblem) (n : ℕ) (f : SearchFault) → IsCalm p n → IsBreadthFirstFault p n f → f ≡ fault.NoMemory
calm-fault p n (fault.Range path note) calm h = absurd (calm-has-no-cause p n path (operation_of note) calm h.0)
calm-fault p n fault.NoMemory calm h = refl
