-- Laws of the right answers of `plan`.
use Rattle.std.proofs.Common.{◌≡◌, inl, inr, ℕ, List, true, false, IsTrue, sym, ◌∙◌, subst}
use Rattle.std.specs.Prelude.{Bool, Option}
use Rattle.tl_eval.specs.Notes.{operation_of}
use Rattle.tl_outside.specs.Told.{Files}
use Rattle.tl_search.specs.RangeCauses.{IsRangeCause}
use Rattle.tl_search.specs.declared.outcome.Outcome.{Outcome}
use Rattle.tl_search.specs.declared.outcome.Outcome.TheVariants as outcome
use Rattle.tl_syntax.specs.declared.action.Action.{Action}
use Rattle.tl_syntax.specs.declared.problem.Problem.{Problem}
use Rattle.tl_terms.specs.Problem.{PlainProblem}
use Rattle.tl_terms.specs.ProblemMeaning.{plain_problem}
use Rattle.tl_text.specs.Outcomes.{PlanFits, none_text, none_within_text, outcome_text, plan_text}
use Rattle.tl_run.specs.declared.search.Search.{Search}
use Rattle.tl_run.specs.declared.status.Status.{Status}
use Rattle.tl_run.specs.Answers.{PastRangeAt, Searches, outcome_status}
use Rattle.tl_run.specs.Commands.{Command, search}
use Rattle.tl_run.specs.Laws.{Laws}
use Rattle.tl_run.specs.Over.{HoldProblem}
use Rattle.tl_run.specs.Plan.{EndsPastRange, HasCalmSearch, IsOutcome, PrintsPlan, SaysNone}
use Rattle.tl_run.specs.Promises.{Agrees, Headline, IsOwn}
use Rattle.tl_run.proofs.Agreement.{IsDone, from_range, gives_way, same_given, to_range}
use Rattle.tl_run.proofs.OneOutcome.{IsOneOrYields, one_outcome, calm_outcome, plan_within, plan_shortest, no_plan, no_plan_within}
use Rattle.tl_run.proofs.OneProblem.{SameProblem}
use Rattle.tl_run.proofs.SameLines.{same_outcome_text}

pub outcome_done : (o : Outcome) → IsDone (outcome_status o)
outcome_done (outcome.Plan plan) = tt
outcome_done outcome.NoPlan = tt
outcome_done outcome.NoneWithin = tt
outcome_done outcome.Spent = tt

pub search_done : (fits : Bool) (s : Search) (status : Status) (text : List ℕ) (m : Problem) → Searches fits s status text m → IsDone status
search_done fits s status text m (inl h) = subst IsDone (sym h.status_is) (outcome_done h.what)
search_done fits s status text m (inr h) = subst IsDone (sym h.3) tt

-- right outcomes of a search of one problem
pub outcomes_of_one : Laws → (s : Search) (m n : Problem) (o u : Outcome) → SameProblem m n → IsOutcome s (plain_problem m) o →
    IsOutcome s (plain_problem n) u → IsOneOrYields o u
outcomes_of_one laws s m n o u same h k =
    one_outcome laws s.mode s.within s.nodes (plain_problem m) o u h (subst (λ (x : PlainProblem). IsOutcome s x u) (sym same.meaning) k)

-- an outcome has the same lines for the same problem
pub same_outcome_lines : (s : Search) (m n : Problem) (o : Outcome) → SameProblem m n →
    outcome_text n.names n.domain.operators s.within s.nodes o ≡ outcome_text m.names m.domain.operators s.within s.nodes o
same_outcome_lines s m n o same =
    let names = sym same.names in
    (λ i. outcome_text (names i) n.domain.operators s.within s.nodes o) ∙
    same_outcome_text m.names n.domain.operators m.domain.operators s.within s.nodes o (sym same.heads)

abbrev Right : Bool → Search → Problem → Outcome → Type 0
Right fits s m o = IsOutcome s (plain_problem m) o × (IsTrue fits → PlanFits o)

abbrev lines_of : Search → Problem → Outcome → List ℕ
lines_of s m o = outcome_text m.names m.domain.operators s.within s.nodes o

-- of two right answers to a search of one problem each agrees with the other
pub search_agrees : Laws → (c : Command) (s : Search) (status given : Status) (text lines : List ℕ) (m n : Problem) → SameProblem m n →
    Searches false s status text m → Searches true s given lines n → Agrees c status text given lines
search_agrees laws c s status given text lines m n same (inl h) (inl k) =
    elim (outcomes_of_one laws s m n h.what k.what same h.right.0 k.right.0) [
      | inl is ↦ same_given c (Right false s m) (Right true s n) outcome_status (lines_of s m) (lines_of s n) status given text lines h k is
          (same_outcome_lines s m n h.what same)
      | inr way ↦ gives_way c status given (outcome_status h.what) (outcome_status k.what) text lines h.status_is k.status_is way
    ]
search_agrees laws c s status given text lines m n same h (inr k) = to_range c status given text lines
    (search_done false s status text m h) k.3
search_agrees laws c s status given text lines m n same (inr h) k = from_range c status given text lines h.3
    (search_done true s given lines n k)

-- what the lines of an outcome say, whatever the command

pub prints_plan : (s : Search) (m : Problem) (plan : List Action) (text : List ℕ) → IsOutcome s (plain_problem m) (outcome.Plan plan) →
    text ≡ plan_text m.names m.domain.operators plan → PrintsPlan s text m
prints_plan s m plan text right line =
    let within = plan_within s.mode s.within s.nodes (plain_problem m) plan right in
    record {
      plan = plan;
      lines = line;
      short = within.short;
      accepted = within.accepted;
      shortest = plan_shortest s.mode s.within s.nodes (plain_problem m) plan right;
    }

pub says_none : (s : Search) (m : Problem) (text : List ℕ) → IsOutcome s (plain_problem m) outcome.NoPlan → text ≡ none_text →
    SaysNone s.within text m
says_none s m text right line = inl (line, no_plan s.mode s.within s.nodes (plain_problem m) right)

pub says_none_within : (s : Search) (m : Problem) (text : List ℕ) → IsOutcome s (plain_problem m) outcome.NoneWithin → text ≡
    none_within_text s.within → SaysNone s.within text m
says_none_within s m text right line = inr (line, no_plan_within s.mode s.within s.nodes (plain_problem m) right)

outcome_says : (files : Option Files) (s : Search) (d p : List ℕ) (m : Problem) (o : Outcome) (text : List ℕ) → HoldProblem files d p m →
    IsOutcome s (plain_problem m) o → text ≡ outcome_text m.names m.domain.operators s.within s.nodes o →
    Headline files (search s d p) (outcome_status o) text
outcome_says files s d p m (outcome.Plan plan) text stand right line = (m, stand, prints_plan s m plan text right line)
outcome_says files s d p m outcome.NoPlan text stand right line = (m, stand, says_none s m text right line)
outcome_says files s d p m outcome.NoneWithin text stand right line = (m, stand, says_none_within s m text right line)
outcome_says files s d p m outcome.Spent text stand right line = tt

-- what the headline says of a right answer
pub search_says : (files : Option Files) (s : Search) (d p : List ℕ) (status : Status) (text : List ℕ) (m : Problem) →
    HoldProblem files d p m → Searches true s status text m → Headline files (search s d p) status text
search_says files s d p status text m stand (inl h) =
    subst (λ (x : Status). Headline files (search s d p) x text) (sym h.status_is)
    (outcome_says files s d p m h.what text stand h.right.0 h.text_is)
search_says files s d p status text m stand (inr h) = subst (λ (x : Status). Headline files (search s d p) x text) (sym h.3) tt

-- where nothing past range is looked at, no search ends at an operation past range
pub no_past_range : Laws → (s : Search) (m n : Problem) (status : Status) (text : List ℕ) → SameProblem m n → HasCalmSearch s m →
    PastRangeAt (EndsPastRange s (plain_problem n)) n status text → ⊥
no_past_range laws s m n status text same few h =
    laws.calm (plain_problem m) s.within h.0 (operation_of h.1) few.calm
    (subst (λ (u : PlainProblem). IsRangeCause u s.within h.0 (operation_of h.1)) (sym same.meaning) h.2.0)

-- and there is room
pub own_outcome : Laws → (s : Search) (m n : Problem) (o : Outcome) → SameProblem m n → HasCalmSearch s m →
    IsOutcome s (plain_problem n) o → IsOwn (outcome_status o)
own_outcome laws s m n o same few right =
    calm_outcome laws s.mode s.within s.nodes (plain_problem m) o few.few
    (subst (λ (u : PlainProblem). IsOutcome s u o) (sym same.meaning) right)

-- where nothing past range is looked at, and there are few search nodes, every right answer is a plan or none
pub search_calm : Laws → (s : Search) (status : Status) (text : List ℕ) (m n : Problem) → SameProblem m n → HasCalmSearch s m →
    Searches true s status text n → IsOwn status
search_calm laws s status text m n same few (inl h) = subst IsOwn (sym h.status_is) (own_outcome laws s m n h.what same few h.right.0)
search_calm laws s status text m n same few (inr h) = absurd (no_past_range laws s m n status text same few h)
