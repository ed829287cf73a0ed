-- All listed nodes, judged one after another.
use Rattle.std.proofs.Common.{◌≡◌, ◌≢◌, ◌≤◌, ◌<◌, ◌+◌, ◌⊎◌, ℕ, true, false, List, [], ◌∷◌, ◌++◌, length, take, slice_get, Option, Some}
use Rattle.std.proofs.Common.{None, refl, sym, ap, subst, inl, inr, arith}
use native.Mathlib.Decide.{dec_lt}
use Rattle.std.proofs.lemmas.Option.{slice_get_within}
use Rattle.tl_syntax.specs.Trees.{falsum}
use Rattle.tl_terms.specs.Problem.{PlainProblem}
use Rattle.tl_search.specs.KeptPairs.{KeptPair}
use Rattle.tl_search.specs.declared.fault.SearchFault.{SearchFault}
use Rattle.tl_search.proofs.ListLaws.{get-inside, take-next}
use Rattle.tl_search.proofs.WalkLaws.{length-snoc}
use Rattle.tl_cert.specs.Causes.{IsNoneFault}
use Rattle.tl_cert.specs.Checking.{IsJudgingFault, IsNodesFault, JudgesNode, JudgesNodes, ListsLink, ListsLinks}
use Rattle.tl_cert.specs.Covers.{IsRightNode}
use Rattle.tl_cert.specs.Links.{AreGood, Lists, ListsRoot}
use Rattle.tl_cert.specs.Verdicts.{IsFirstBad, IsNoneVerdict}
use Rattle.tl_cert.specs.declared.proof.Link.{Link}
use Rattle.tl_cert.specs.declared.proof.Proof.{Proof}
use Rattle.tl_cert.specs.declared.verdict.NoneVerdict.{NoneVerdict}
use Rattle.tl_cert.specs.declared.verdict.NoneVerdict.TheVariants.{Proved, BadLink, Accepts, Open}
use Rattle.tl_cert.proofs.FaultLaws.{fault-at-node}
use Rattle.tl_cert.proofs.GoodLinks.{good-more}

module _ (p : PlainProblem) (bound : Option ℕ) (kept : List KeptPair) where
  -- all nodes before this number are right
  abbrev pub AreRightBelow : ℕ → Type 0
  AreRightBelow k = (i : ℕ) (x : KeptPair) → slice_get kept i ≡ Some x → i < k → IsRightNode p bound kept x

  pub right-more : (at : ℕ) → AreRightBelow at → JudgesNode p bound kept at None → AreRightBelow (at + 1)
  right-more at h j i x e less = elim (dec_lt i at) [
    | yes q ↦ h i x e q
    | no q ↦ j x (let s : i ≡ at = omega arith in subst (λ k. slice_get kept k ≡ Some x) s e)
  ]

  pub all-right : (at : ℕ) → length kept ≤ at → AreRightBelow at → JudgesNodes p bound kept Proved
  all-right at l h k x e = h k x e (let q : k < length kept = slice_get_within kept k x e in omega arith)

  pub first-wrong : (at : ℕ) (v : NoneVerdict) → at < length kept → AreRightBelow at → JudgesNode p bound kept at (Some v) →
      JudgesNodes p bound kept v
  first-wrong at Proved l h j = absurd j
  first-wrong at (BadLink k) l h j = j
  first-wrong at (Accepts k) l h j =
      let x = get-inside kept at l in (
        x.0,
        record { node = subst (λ i. slice_get kept i ≡ Some x.0) (sym j.0) x.1; right = λ i y e less. h i y e (omega (arith, j.0)) },
        j.1 x.0 x.1,
      )
  first-wrong at (Open k a) l h j =
      let x = get-inside kept at l in (
        x.0,
        record { node = subst (λ i. slice_get kept i ≡ Some x.0) (sym j.0) x.1; right = λ i y e less. h i y e (omega (arith, j.0)) },
        j.1 x.0 x.1,
      )

  pub fault-of-nodes : (at : ℕ) (f : SearchFault) → at < length kept → IsJudgingFault p bound kept at f → IsNodesFault p bound kept f
  fault-of-nodes at f l h = let x = get-inside kept at l in (at, x.0, x.1, h x.0 x.1)

-- ---- with the links that list the nodes

take-whole : {X : Type 0} (xs : List X) → take (length xs) xs ≡ xs
take-whole [] = refl
take-whole (x ∷ xs) = ap (λ ys. x ∷ ys) (take-whole xs)

pub verdict-of : (p : PlainProblem) (proof : Proof) (kept : List KeptPair) (v : NoneVerdict) → Lists p proof.bound proof.links kept →
    JudgesNodes p proof.bound kept v → IsNoneVerdict p proof v
verdict-of p proof kept Proved l j = record { listed = kept; lists = l; right = j }
verdict-of p proof kept (BadLink k) l j = absurd j
verdict-of p proof kept (Accepts k) l j = record { listed = kept; lists = l; node = j.0; comes = j.1; accepted = j.2 }
verdict-of p proof kept (Open k a) l j = record { listed = kept; lists = l; node = j.0; comes = j.1; is_open = j.2 }

pub fault-of : (p : PlainProblem) (proof : Proof) (kept : List KeptPair) (f : SearchFault) → Lists p proof.bound proof.links kept →
    IsNodesFault p proof.bound kept f → IsNoneFault p proof f
fault-of p proof kept f l h =
    fault-at-node p proof.bound proof.links kept h.0 h.1 l
    (record {
      count = length proof.links;
      listed = kept;
      lists = subst (λ ls. Lists p proof.bound ls kept)
          (sym (take-whole proof.links)) l;
      number = h.0;
      node = h.2;
    })
    h.2 f h.3

-- how many nodes links list
pub good-length : (p : PlainProblem) (bound : Option ℕ) (old : List KeptPair) (links : List Link) (new : List KeptPair) →
    AreGood p bound old links new → length new ≡ length old + length links
good-length p bound old [] new g = let e = ap length g in omega (arith, e)
good-length p bound old (link ∷ links) new g = let e = good-length p bound (old ++ g.0 ∷ []) links new g.2 in
    omega (arith, e, length-snoc old g.0)

pub lists-length : (p : PlainProblem) (bound : Option ℕ) (links : List Link) (listed : List KeptPair) → Lists p bound links listed →
    length listed ≤ length links + 1
lists-length p bound links listed l = let e = good-length p bound l.0 links listed l.2 in omega (arith, e, by_root l.1.2)
  where
    by_root : ((l.1.0.formula ≡ falsum) × (l.0 ≡ [])) ⊎ ((l.1.0.formula ≢ falsum) × (l.0 ≡ record { node = l.1.0; path = [] } ∷ [])) →
        length l.0 ≤ 1
    by_root (inl a) = let e = ap length a.1 in omega (arith, e)
    by_root (inr a) = let e = ap length a.1 in omega (arith, e)

-- ---- links, one after another

take-none : {X : Type 0} (xs : List X) → take 0 xs ≡ []
take-none [] = refl
take-none (x ∷ xs) = refl

pub lists-none : (p : PlainProblem) (bound : Option ℕ) (links : List Link) (kept : List KeptPair) → ListsRoot p kept →
    Lists p bound (take 0 links) kept
lists-none p bound links kept r = (kept, r, subst (λ ls. AreGood p bound kept ls kept) (sym (take-none links)) refl)

pub lists-more : (p : PlainProblem) (bound : Option ℕ) (links : List Link) (k : ℕ) (link : Link) (old new : List KeptPair) →
    slice_get links k ≡ Some link → Lists p bound (take k links) old → ListsLink p bound old new link true →
    Lists p bound (take (k + 1) links) new
lists-more p bound links k link old new at l h = (
  l.0,
  l.1,
  subst (λ ls. AreGood p bound l.0 ls new) (sym (take-next links k link at))
      (subst (AreGood p bound l.0 (take k links ++ link ∷ [])) (sym h.2) (good-more p bound l.0 (take k links) old link h.0 l.2 h.1)),
)

pub lists-all : (p : PlainProblem) (bound : Option ℕ) (links : List Link) (k : ℕ) (kept : List KeptPair) → take k links ≡ links →
    Lists p bound (take k links) kept → ListsLinks p bound links kept None
lists-all p bound links k kept e l = subst (λ ls. Lists p bound ls kept) e l

pub first-bad : (p : PlainProblem) (bound : Option ℕ) (links : List Link) (k : ℕ) (link : Link) (old new : List KeptPair) →
    slice_get links k ≡ Some link → Lists p bound (take k links) old → ListsLink p bound old new link false →
    IsFirstBad p bound links (k + 1)
first-bad p bound links k link old new at l h = record {
  before = k;
  number = refl;
  link = link;
  is_link = at;
  listed = old;
  good = l;
  bad =
      h;
}

-- ---- over what a call before left the same

pub lists-over : (p q : PlainProblem) (bound other : Option ℕ) (links us : List Link) (kept : List KeptPair) → q ≡ p → other ≡ bound → us ≡
    links → Lists q other us kept → Lists p bound links kept
lists-over p q bound other links us kept e f g h = subst (λ r. Lists r bound links kept) e
    (subst (λ o. Lists q o links kept) f (subst (λ ls. Lists q other ls kept) g h))

pub judged-over : (p q : PlainProblem) (bound other : Option ℕ) (kept : List KeptPair) (v : NoneVerdict) → q ≡ p → other ≡ bound →
    JudgesNodes q other kept v → JudgesNodes p bound kept v
judged-over p q bound other kept v e f h = subst (λ r. JudgesNodes r bound kept v) e (subst (λ o. JudgesNodes q o kept v) f h)

pub faults-over : (p q : PlainProblem) (bound other : Option ℕ) (kept : List KeptPair) (f : SearchFault) → q ≡ p → other ≡ bound →
    IsNodesFault q other kept f → IsNodesFault p bound kept f
faults-over p q bound other kept f e g h = subst (λ r. IsNodesFault r bound kept f) e (subst (λ o. IsNodesFault q o kept f) g h)
