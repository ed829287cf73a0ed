-- Laws of the right answers of `prove-none`.
use Rattle.std.proofs.Common.{◌≡◌, inl, inr, ℕ, List, ◌++◌, true, false, IsTrue, sym, ap, ◌∙◌, subst}
use Rattle.std.specs.Prelude.{Bool, Option}
use Rattle.tl_cert.specs.ProofTexts.{head_line, link_lines}
use Rattle.tl_outside.specs.Told.{Files}
use Rattle.tl_search.specs.declared.outcome.Outcome.{Outcome}
use Rattle.tl_search.specs.declared.outcome.Outcome.TheVariants as outcome
use Rattle.tl_syntax.specs.declared.problem.Problem.{Problem}
use Rattle.tl_terms.specs.ProblemMeaning.{plain_problem}
use Rattle.tl_text.specs.Outcomes.{PlanFits, outcome_text}
use Rattle.tl_run.specs.declared.search.Search.{Search}
use Rattle.tl_run.specs.declared.status.Status.{Status}
use Rattle.tl_run.specs.declared.status.Status.TheVariants.{Yes}
use Rattle.tl_run.specs.Answers.{GivesNoProof, GivesProof, ProvesNone, outcome_status}
use Rattle.tl_run.specs.Commands.{prove_none}
use Rattle.tl_run.specs.Laws.{Laws}
use Rattle.tl_run.specs.Over.{HoldProblem}
use Rattle.tl_run.specs.Plan.{HasCalmSearch, IsOutcome}
use Rattle.tl_run.specs.Promises.{Agrees, GivesWay, Headline, IsOwn}
use Rattle.tl_run.specs.ProveNone.{IsBoundOf, IsCertificate, LeavesNoProof, unproved_status}
use Rattle.tl_run.proofs.Agreement.{IsDone, from_range, gives_way, same_given, to_range}
use Rattle.tl_run.proofs.OneOutcome.{IsOneOrYields}
use Rattle.tl_run.proofs.OneProblem.{SameProblem}
use Rattle.tl_run.proofs.SearchLaws.{no_past_range, outcomes_of_one, own_outcome, prints_plan, same_outcome_lines}

unproved_done : (o : Outcome) → IsDone (unproved_status o)
unproved_done (outcome.Plan plan) = tt
unproved_done outcome.NoPlan = tt
unproved_done outcome.NoneWithin = tt
unproved_done outcome.Spent = tt

pub prove_none_done : (fits : Bool) (s : Search) (status : Status) (text : List ℕ) (m : Problem) → ProvesNone fits s status text m →
    IsDone status
prove_none_done fits s status text m (inl h) = subst IsDone (sym h.status_is) tt
prove_none_done fits s status text m (inr (inl h)) = subst IsDone (sym h.status_is) (unproved_done h.what)
prove_none_done fits s status text m (inr (inr h)) = subst IsDone (sym h.3) tt

-- two outcomes that are right and leave proofs leave proofs with one bound
one_bound : (n : ℕ) (o u : Outcome) (b c : Option ℕ) → IsBoundOf n o b → IsBoundOf n u c → IsOneOrYields o u → c ≡ b
one_bound n (outcome.Plan x) u b c h k one = absurd h
one_bound n outcome.NoPlan (outcome.Plan y) b c h k one = absurd k
one_bound n outcome.NoPlan outcome.NoPlan b c h k one = k ∙ sym h
one_bound n outcome.NoPlan outcome.NoneWithin b c h k (inl e) = absurd (let z : ⊥ = cc in z)
one_bound n outcome.NoPlan outcome.NoneWithin b c h k (inr y) = absurd y
one_bound n outcome.NoPlan outcome.Spent b c h k one = absurd k
one_bound n outcome.NoneWithin (outcome.Plan y) b c h k one = absurd k
one_bound n outcome.NoneWithin outcome.NoPlan b c h k (inl e) = absurd (let z : ⊥ = cc in z)
one_bound n outcome.NoneWithin outcome.NoPlan b c h k (inr y) = absurd y
one_bound n outcome.NoneWithin outcome.NoneWithin b c h k one = k ∙ sym h
one_bound n outcome.NoneWithin outcome.Spent b c h k one = absurd k
one_bound n outcome.Spent u b c h k one = absurd h

-- where one right outcome leaves a proof and another none, that one is spent
proof_gives_way : (n : ℕ) (o u : Outcome) (b : Option ℕ) → IsBoundOf n o b → LeavesNoProof u → IsOneOrYields o u →
    GivesWay Yes (unproved_status u)
proof_gives_way n (outcome.Plan x) u b h leaves one = absurd h
proof_gives_way n outcome.NoPlan (outcome.Plan y) b h leaves (inl e) = absurd (let z : ⊥ = cc in z)
proof_gives_way n outcome.NoPlan (outcome.Plan y) b h leaves (inr k) = absurd k
proof_gives_way n outcome.NoPlan outcome.NoPlan b h leaves one = absurd leaves
proof_gives_way n outcome.NoPlan outcome.NoneWithin b h leaves one = absurd leaves
proof_gives_way n outcome.NoPlan outcome.Spent b h leaves one = tt
proof_gives_way n outcome.NoneWithin (outcome.Plan y) b h leaves (inl e) = absurd (let z : ⊥ = cc in z)
proof_gives_way n outcome.NoneWithin (outcome.Plan y) b h leaves (inr k) = absurd k
proof_gives_way n outcome.NoneWithin outcome.NoPlan b h leaves one = absurd leaves
proof_gives_way n outcome.NoneWithin outcome.NoneWithin b h leaves one = absurd leaves
proof_gives_way n outcome.NoneWithin outcome.Spent b h leaves one = tt
proof_gives_way n outcome.Spent u b h leaves one = absurd h

gives_way_to_proof : (n : ℕ) (o u : Outcome) (b : Option ℕ) → LeavesNoProof o → IsBoundOf n u b → IsOneOrYields o u →
    GivesWay (unproved_status o) Yes
gives_way_to_proof n (outcome.Plan x) (outcome.Plan y) b leaves k one = absurd k
gives_way_to_proof n (outcome.Plan x) outcome.NoPlan b leaves k (inl e) = absurd (let z : ⊥ = cc in z)
gives_way_to_proof n (outcome.Plan x) outcome.NoPlan b leaves k (inr y) = absurd y
gives_way_to_proof n (outcome.Plan x) outcome.NoneWithin b leaves k (inl e) = absurd (let z : ⊥ = cc in z)
gives_way_to_proof n (outcome.Plan x) outcome.NoneWithin b leaves k (inr y) = absurd y
gives_way_to_proof n (outcome.Plan x) outcome.Spent b leaves k one = absurd k
gives_way_to_proof n outcome.NoPlan u b leaves k one = absurd leaves
gives_way_to_proof n outcome.NoneWithin u b leaves k one = absurd leaves
gives_way_to_proof n outcome.Spent u b leaves k one = tt

-- of two right outcomes without a proof that differ, one is spent
both_give_way : (o u : Outcome) → LeavesNoProof o → LeavesNoProof u → GivesWay (outcome_status o) (outcome_status u) →
    GivesWay (unproved_status o) (unproved_status u)
both_give_way (outcome.Plan x) (outcome.Plan y) h k way = absurd way
both_give_way (outcome.Plan x) outcome.NoPlan h k way = absurd k
both_give_way (outcome.Plan x) outcome.NoneWithin h k way = absurd k
both_give_way (outcome.Plan x) outcome.Spent h k way = tt
both_give_way outcome.NoPlan u h k way = absurd h
both_give_way outcome.NoneWithin u h k way = absurd h
both_give_way outcome.Spent (outcome.Plan y) h k way = tt
both_give_way outcome.Spent outcome.NoPlan h k way = absurd k
both_give_way outcome.Spent outcome.NoneWithin h k way = absurd k
both_give_way outcome.Spent outcome.Spent h k way = tt

abbrev Right : Bool → Search → Problem → Outcome → Type 0
Right fits s m o = IsOutcome s (plain_problem m) o × LeavesNoProof o × (IsTrue fits → PlanFits o)

abbrev lines_of : Search → Problem → Outcome → List ℕ
lines_of s m o = outcome_text m.names m.domain.operators s.within s.nodes o

module _ (laws : Laws) (s : Search) (d p : List ℕ) (status given : Status) (text lines : List ℕ) (m n : Problem)
    (same : SameProblem m n) where
  both_proofs : GivesProof false s status text m → GivesProof true s given lines n → Agrees (prove_none s d p) status text given lines
  both_proofs h k =
      let c : IsCertificate s (plain_problem m) h.what = h.right.0 in
      let o : IsCertificate s (plain_problem n) k.what = k.right.0 in
      let one = one_bound s.within c.ended o.ended h.what.bound k.what.bound c.bound o.bound
      (outcomes_of_one laws s m n c.ended o.ended same c.right o.right) in
      inl (
        k.status_is ∙ sym h.status_is,
        inr (
          h.what.bound,
          (link_lines m.names m.domain.operators h.what.links, h.text_is),
          (
            link_lines n.names n.domain.operators k.what.links,
            k.text_is ∙ ap (λ (b : Option ℕ). head_line b ++ link_lines n.names n.domain.operators k.what.links) one,
          ),
        ),
      )

  proof_then_none : GivesProof false s status text m → GivesNoProof true s given lines n → Agrees (prove_none s d p) status text given lines
  proof_then_none h k =
      let c : IsCertificate s (plain_problem m) h.what = h.right.0 in
      let one = outcomes_of_one laws s m n c.ended k.what same c.right k.right.0 in
      gives_way (prove_none s d p) status given Yes (unproved_status k.what) text lines h.status_is k.status_is
      (proof_gives_way s.within c.ended k.what h.what.bound c.bound k.right.1 one)

  none_then_proof : GivesNoProof false s status text m → GivesProof true s given lines n → Agrees (prove_none s d p) status text given lines
  none_then_proof h k =
      let c : IsCertificate s (plain_problem n) k.what = k.right.0 in
      let one = outcomes_of_one laws s m n h.what c.ended same h.right.0 c.right in
      gives_way (prove_none s d p) status given (unproved_status h.what) Yes text lines h.status_is k.status_is
      (gives_way_to_proof s.within h.what c.ended k.what.bound h.right.1 c.bound one)

  both_none : GivesNoProof false s status text m → GivesNoProof true s given lines n → Agrees (prove_none s d p) status text given lines
  both_none h k =
      elim (outcomes_of_one laws s m n h.what k.what same h.right.0 k.right.0) [
        | inl is ↦ same_given (prove_none s d p) (Right false s m) (Right true s n) unproved_status (lines_of s m)
            (lines_of s n) status given text lines h k is (same_outcome_lines s m n h.what same)
        | inr way ↦ gives_way (prove_none s d p) status given (unproved_status h.what)
            (unproved_status k.what) text lines h.status_is k.status_is
            (both_give_way h.what k.what h.right.1 k.right.1 way)
      ]

-- of two right answers over the same problem each agrees with the other
pub prove_none_agrees : Laws → (s : Search) (d p : List ℕ) (status given : Status) (text lines : List ℕ) (m n : Problem) → SameProblem m n →
    ProvesNone false s status text m → ProvesNone true s given lines n → Agrees (prove_none s d p) status text given lines
prove_none_agrees laws s d p status given text lines m n same (inl h) (inl k) = both_proofs laws s d p status given text lines m n same h k
prove_none_agrees laws s d p status given text lines m n same (inl h) (inr (inl k)) =
    proof_then_none laws s d p status given text lines m n same h k
prove_none_agrees laws s d p status given text lines m n same (inr (inl h)) (inl k) =
    none_then_proof laws s d p status given text lines m n same h k
prove_none_agrees laws s d p status given text lines m n same (inr (inl h)) (inr (inl k)) =
    both_none laws s d p status given text lines m n same h k
prove_none_agrees laws s d p status given text lines m n same h (inr (inr k)) =
    to_range (prove_none s d p) status given text lines (prove_none_done false s status text m h) k.3
prove_none_agrees laws s d p status given text lines m n same (inr (inr h)) k =
    from_range (prove_none s d p) status given text lines h.3 (prove_none_done true s given lines n k)

unproved_says : (files : Option Files) (s : Search) (d p : List ℕ) (m : Problem) (o : Outcome) (text : List ℕ) → HoldProblem files d p m →
    IsOutcome s (plain_problem m) o → LeavesNoProof o → text ≡ outcome_text m.names m.domain.operators s.within s.nodes o →
    Headline files (prove_none s d p) (unproved_status o) text
unproved_says files s d p m (outcome.Plan plan) text stand right leaves line = (m, stand, prints_plan s m plan text right line)
unproved_says files s d p m outcome.NoPlan text stand right leaves line = absurd leaves
unproved_says files s d p m outcome.NoneWithin text stand right leaves line = absurd leaves
unproved_says files s d p m outcome.Spent text stand right leaves line = tt

-- what the headline says of a right answer
pub prove_none_says : Laws → (files : Option Files) (s : Search) (d p : List ℕ) (status : Status) (text : List ℕ) (m : Problem) →
    HoldProblem files d p m → ProvesNone true s status text m → Headline files (prove_none s d p) status text
prove_none_says laws files s d p status text m stand (inl h) =
    let c : IsCertificate s (plain_problem m) h.what = h.right.0 in
    subst (λ (x : Status). Headline files (prove_none s d p) x text) (sym h.status_is)
    (m, stand, record { proof = h.what; lines = h.text_is; covers = c.covers; none = laws.covered (plain_problem m) h.what c.covers })
prove_none_says laws files s d p status text m stand (inr (inl h)) =
    subst (λ (x : Status). Headline files (prove_none s d p) x text) (sym h.status_is)
    (unproved_says files s d p m h.what text stand h.right.0 h.right.1 h.text_is)
prove_none_says laws files s d p status text m stand (inr (inr h)) = subst (λ (x : Status). Headline files (prove_none s d p) x text)
    (sym h.3) tt

unproved_is_own : (o : Outcome) → LeavesNoProof o → IsOwn (outcome_status o) → IsOwn (unproved_status o)
unproved_is_own (outcome.Plan plan) leaves own = tt
unproved_is_own outcome.NoPlan leaves own = absurd leaves
unproved_is_own outcome.NoneWithin leaves own = absurd leaves
unproved_is_own outcome.Spent leaves own = absurd own

-- where nothing past range is looked at, and there are few search nodes, every right answer is a proof or a plan
pub prove_none_calm : Laws → (s : Search) (status : Status) (text : List ℕ) (m n : Problem) → SameProblem m n → HasCalmSearch s m →
    ProvesNone true s status text n → IsOwn status
prove_none_calm laws s status text m n same few (inl h) = subst IsOwn (sym h.status_is) tt
prove_none_calm laws s status text m n same few (inr (inl h)) =
    subst IsOwn (sym h.status_is) (unproved_is_own h.what h.right.1 (own_outcome laws s m n h.what same few h.right.0))
prove_none_calm laws s status text m n same few (inr (inr h)) = absurd (no_past_range laws s m n status text same few h)
