-- Verdicts on proofs, and the paths at whose ends a check ends, name only what the problem has; and these paths are no longer than the
-- links are many.
use Rattle.std.proofs.Common.{◌≡◌, ◌⊎◌, inl, inr, ℕ, zero, suc, ◌+◌, ◌<◌, ◌≤◌, List, [], ◌∷◌, ◌++◌, length, take, slice_get, Option, Some}
use Rattle.std.proofs.Common.{None, true≢false, refl, sym, ap, subst, arith}
use Rattle.std.specs.Prelude.{◌≢◌, IsSome}
use Rattle.std.proofs.lemmas.Option.{slice_get_within}
use Rattle.tl_cert.specs.Causes.{IsVisited, LooksAtRoot, LooksAfterAction, LooksByIdling, LooksByActing, IsNoneCause, IsNoneFault}
use Rattle.tl_cert.specs.Checking.{AreShort, VerdictIsNamed}
use Rattle.tl_cert.specs.Links.{AreGood, Lists}
use Rattle.tl_cert.specs.ProofTexts.{HasNamedAction}
use Rattle.tl_cert.specs.Verdicts.{IsNoneVerdict}
use Rattle.tl_cert.specs.declared.proof.Link.{Link}
use Rattle.tl_cert.specs.declared.proof.Proof.{Proof}
use Rattle.tl_cert.specs.declared.verdict.NoneVerdict.{NoneVerdict}
use Rattle.tl_cert.specs.declared.verdict.NoneVerdict.TheVariants.{Proved, BadLink, Accepts, Open}
use Rattle.tl_cert.proofs.GoodLinks.{short-more}
use Rattle.tl_search.specs.KeptPairs.{KeptPair}
use Rattle.tl_search.specs.NamedAnswers.{FaultIsNamed}
use Rattle.tl_search.specs.declared.fault.SearchFault.{SearchFault}
use Rattle.tl_search.specs.declared.fault.SearchFault.TheVariants as fault
use Rattle.tl_search.proofs.WalkLaws.{length-snoc}
use Rattle.tl_syntax.specs.declared.action.Action.{Action}
use Rattle.tl_syntax.specs.Trees.{falsum}
use Rattle.tl_terms.specs.Acceptance.{states}
use Rattle.tl_terms.specs.LawsStep.{StepByItsConditions}
use Rattle.tl_terms.specs.Operations.{Operation}
use Rattle.tl_terms.specs.Pairs.{Pair}
use Rattle.tl_terms.specs.Problem.{PlainProblem}
use Rattle.tl_terms.specs.ProblemMeaning.{plain_problem}
use Rattle.tl_world.specs.declared.task.Task.{Task}
use Rattle.tl_run.specs.Searched.{HasNamedPath}
use Rattle.tl_run.proofs.NamedEvents.{action_is_named}
use Rattle.tl_run.proofs.NamedPlans.{named_both, states_take}

-- the action of a verdict is one of the problem
pub verdict_is_named : StepByItsConditions → (task : Task) (proof : Proof) (v : NoneVerdict) →
    IsNoneVerdict (plain_problem task.problem) proof v → VerdictIsNamed task v →
    HasNamedAction task.problem.names task.problem.domain.operators v
verdict_is_named law task proof Proved right named = tt
verdict_is_named law task proof (BadLink k) right named = tt
verdict_is_named law task proof (Accepts k) right named = tt
verdict_is_named law task proof (Open k a) right named =
    let node = right.node in
    let by = right.is_open in
    let first = by.first_out in
    let out = first.out in
    action_is_named law task node.node out.next a out.leads named

is_there : {A : Type 0} (o : Option A) → IsSome o → (x : A) × (o ≡ Some x)
is_there None h = absurd (true≢false (sym h))
is_there (Some x) h = (x, refl)

-- and so are those of the path to an operation past range
pub none_path_is_named : StepByItsConditions → (task : Task) (proof : Proof) (f : SearchFault) →
    IsNoneFault (plain_problem task.problem) proof f → FaultIsNamed task f → HasNamedPath task.problem.names task.problem.domain.operators f
none_path_is_named law task proof (fault.Range path note) right named =
    let p = plain_problem task.problem in
    let there = is_there (states p path) right.executes in
    named_both task.problem path (states_take law p p.first path there.0 there.1) named
none_path_is_named law task proof fault.NoMemory right named = tt

-- ---- how long the paths are

none_short : AreShort []
none_short i x e = absurd (let b : ⊥ = cc in b)

one_short : (x : Pair) → AreShort (record { node = x; path = [] } ∷ [])
one_short x zero y e =
    let q : record { node = x; path = [] } ≡ y = cc in
    let n : length y.path ≡ 0 = ap (λ (z : KeptPair). length z.path) (sym q) in
    omega (arith, n)
one_short x (suc i) y e = absurd (let b : ⊥ = cc in b)

root_short : (first : List KeptPair) (x : Pair) → ((x.formula ≡ falsum) × (first ≡ [])) ⊎
    ((x.formula ≢ falsum) × (first ≡ record { node = x; path = [] } ∷ [])) → AreShort first × (length first ≤ 1)
root_short first x (inl h) = (subst AreShort (sym h.1) none_short, let e : length first ≡ 0 = ap length h.1 in omega (arith, e))
root_short first x (inr h) = (subst AreShort (sym h.1) (one_short x), let e : length first ≡ 1 = ap length h.1 in omega (arith, e))

taken_few : (n : ℕ) (ls : List Link) → length (take n ls) ≤ length ls
taken_few zero [] = omega arith
taken_few (suc n) [] = omega arith
taken_few zero (l ∷ ls) = omega arith
taken_few (suc n) (l ∷ ls) = let e = taken_few n ls in omega (arith, e)

module _ (p : PlainProblem) (bound : Option ℕ) where
  good_short : (old : List KeptPair) (links : List Link) (new : List KeptPair) → AreGood p bound old links new → AreShort old →
      AreShort new × (length new ≡ length old + length links)
  good_short old [] new h short = (subst AreShort (sym h) short, let e : length new ≡ length old = ap length h in omega (arith, e))
  good_short old (l ∷ ls) new h short =
      let rest = good_short (old ++ h.0 ∷ []) ls new h.2 (short-more p bound old l h.0 h.1 short) in
      let e : length (old ++ h.0 ∷ []) ≡ suc (length old) = length-snoc old h.0 in
      (rest.0, omega (arith, rest.1, e))

  -- the path of a node that some links list
  listed_short : (links : List Link) (listed : List KeptPair) (k : ℕ) (x : KeptPair) → Lists p bound links listed → slice_get listed k ≡
      Some x → length x.path ≤ length links
  listed_short links listed k x h at =
      let root = h.1 in
      let first = root_short h.0 root.0 root.2 in
      let good = good_short h.0 links listed h.2 first.0 in
      let short : length x.path ≤ k = good.0 k x at in
      let here : k < length listed = slice_get_within listed k x at in
      omega (arith, short, here, good.1, first.1)

  visited_short : (links : List Link) (x : KeptPair) (a : Action) → IsVisited p bound links x a → length x.path ≤ length links
  visited_short links x a (inl h) =
      let l = h.link in
      let e = listed_short (take h.before links) h.listed l.from x h.lists h.from in
      let few = taken_few h.before links in
      omega (arith, e, few)
  visited_short links x a (inr h) = listed_short links h.listed h.number x h.lists h.node

  looked_short : (links : List Link) (path : List Action) (o : Operation) → LooksAtRoot p path o ⊎
      (LooksAfterAction p bound links path o ⊎ (LooksByIdling p bound links path o ⊎ LooksByActing p bound links path o)) →
      length path ≤ length links + 1
  looked_short links path o (inl h) = let e : length path ≡ 0 = ap length h.0 in omega (arith, e)
  looked_short links path o (inr (inl h)) =
      let x = h.node in
      let e : length path ≡ length (x.path ++ h.action ∷ []) = ap length h.is_path in
      let q : length (x.path ++ h.action ∷ []) ≡ suc (length x.path) = length-snoc x.path h.action in
      let short = visited_short links x h.action h.visited in
      omega (arith, e, q, short)
  looked_short links path o (inr (inr (inl h))) =
      let x = h.node in
      let l = h.is_listed in
      let e : length path ≡ length x.path = ap length h.is_path in
      let short = listed_short (take l.count links) l.listed l.number x l.lists l.node in
      let few = taken_few l.count links in
      omega (arith, e, short, few)
  looked_short links path o (inr (inr (inr h))) =
      let x = h.node in
      let e : length path ≡ length x.path = ap length h.is_path in
      let short = visited_short links x h.visits h.visited in
      omega (arith, e, short)

-- the path to an operation past range has at most one action more than there are links
pub none_path_short : (p : PlainProblem) (bound : Option ℕ) (links : List Link) (path : List Action) (o : Operation) →
    IsNoneCause p bound links path o → length path ≤ length links + 1
none_path_short p bound links path o h = looked_short p bound links path o h.looked
