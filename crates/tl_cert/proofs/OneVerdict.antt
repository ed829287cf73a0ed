-- Two verdicts that are right of one proof are the same.
use Rattle.std.proofs.Common.{◌≡◌, ◌<◌, ℕ, List, take, slice_get, Option, Some, Ordering, Less, Equal, Greater, refl, sym, ap, ap₂, ◌∙◌}
use Rattle.std.proofs.Common.{subst, inl, inr, arith}
use native.Mathlib.Decide.{dec_lt}
use Rattle.std.specs.Ordering.{ordering_reverse}
use Rattle.tl_syntax.specs.declared.action.Action.{Action}
use Rattle.tl_terms.specs.Orders.{action_cmp}
use Rattle.tl_terms.specs.Pairs.{IsPairAccepted}
use Rattle.tl_terms.specs.Problem.{PlainProblem}
use Rattle.tl_terms.proofs.OrderLaws.{actions-total}
use Rattle.tl_search.specs.KeptPairs.{KeptPair}
use Rattle.tl_search.proofs.ListLaws.{get-one}
use Rattle.tl_cert.specs.Covers.{IsRightNode, StaysInside}
use Rattle.tl_cert.specs.Links.{IsGood, Lists}
use Rattle.tl_cert.specs.Verdicts.{IsFirstBad, ComesTo, IsFirstAccepted, LeadsOut, IsFirstOpen, IsNoneVerdict}
use Rattle.tl_cert.specs.declared.proof.Link.{Link}
use Rattle.tl_cert.specs.declared.proof.Proof.{Proof}
use Rattle.tl_cert.specs.declared.verdict.NoneVerdict.{NoneVerdict}
use Rattle.tl_cert.specs.declared.verdict.NoneVerdict.TheVariants.{Proved, BadLink, Accepts, Open}
use Rattle.tl_cert.proofs.GoodLinks.{lists-one, good-at, good-before}

module _ (p : PlainProblem) (bound : Option ℕ) (links : List Link) where
  -- where all links are good, none is bad
  bad-not-listed : (k : ℕ) (listed : List KeptPair) → IsFirstBad p bound links k → Lists p bound links listed → ⊥
  bad-not-listed k listed b l =
      let g = good-at p bound l.0 links listed b.before b.link l.2 b.is_link in
      let e : g.0 ≡ b.listed = lists-one p bound (take b.before links) g.0 b.listed (l.0, l.1, g.2) b.good in
      b.bad g.1 (subst (λ zs. IsGood p bound zs b.link g.1) e g.3)

  bad-before : (k j : ℕ) (b : IsFirstBad p bound links k) (d : IsFirstBad p bound links j) → b.before < d.before → ⊥
  bad-before k j b d less =
      let g = good-before p bound d.good.0 links d.before d.listed b.before b.link d.good.2 less b.is_link in
      let e : g.0 ≡ b.listed = lists-one p bound (take b.before links) g.0 b.listed (d.good.0, d.good.1, g.2) b.good in
      b.bad g.1 (subst (λ zs. IsGood p bound zs b.link g.1) e g.3)

  bad-one : (k j : ℕ) → IsFirstBad p bound links k → IsFirstBad p bound links j → k ≡ j
  bad-one k j b d = elim (dec_lt b.before d.before) [
    | yes h ↦ absurd (bad-before k j b d h)
    | no h ↦ elim (dec_lt d.before b.before) [
      | yes i ↦ absurd (bad-before j k d b i)
      | no i ↦ omega (arith, b.number, d.number)
    ]
  ]

  -- ---- the first node that is not right

  record IsWrong (k : ℕ) : Type 0 where
    listed : List KeptPair
    lists : Lists p bound links listed
    node : KeptPair
    comes : ComesTo p bound listed k node
    wrong : IsRightNode p bound listed node → ⊥

  accepted-wrong : (k : ℕ) → IsFirstAccepted p bound links k → IsWrong k
  accepted-wrong k h = record { listed = h.listed; lists = h.lists; node = h.node; comes = h.comes; wrong = λ r. r.unaccepted h.accepted }

  -- what leads out does not stay inside
  out-not-inside : (listed : List KeptPair) (x : KeptPair) (a : Action) → LeadsOut p bound listed x a → StaysInside p bound listed x a → ⊥
  out-not-inside listed x a o s = elim (s o.next o.leads) [ inl f ↦ o.unpruned f | inr m ↦ o.unlisted m ]

  open-wrong : (k : ℕ) (a : Action) → IsFirstOpen p bound links k a → IsWrong k
  open-wrong k a h = record {
    listed = h.listed;
    lists = h.lists;
    node = h.node;
    comes = h.comes;
    wrong = λ r.
        out-not-inside h.listed h.node a h.is_open.first_out.out (r.closed h.is_open.asked a);
  }

  wrong-listed : (k j : ℕ) (w : IsWrong k) (v : IsWrong j) → w.listed ≡ v.listed
  wrong-listed k j w v = lists-one p bound links w.listed v.listed w.lists v.lists

  wrong-before : (k j : ℕ) (w : IsWrong k) (v : IsWrong j) → k < j → ⊥
  wrong-before k j w v less =
      let e = wrong-listed k j w v in
      let at : slice_get v.listed k ≡ Some w.node = subst (λ zs. slice_get zs k ≡ Some w.node) e w.comes.node in
      w.wrong (subst (λ zs. IsRightNode p bound zs w.node) (sym e) (v.comes.right k w.node at less))

  wrong-one : (k j : ℕ) → IsWrong k → IsWrong j → k ≡ j
  wrong-one k j w v = elim (dec_lt k j) [
    | yes h ↦ absurd (wrong-before k j w v h)
    | no h ↦ elim (dec_lt j k) [ yes i ↦ absurd (wrong-before j k v w i) | no i ↦ omega arith ]
  ]

  wrong-node : (k j : ℕ) (w : IsWrong k) (v : IsWrong j) → w.node ≡ v.node
  wrong-node k j w v =
      let e = wrong-listed k j w v in
      let at : slice_get v.listed j ≡ Some w.node = subst (λ i. slice_get v.listed i ≡ Some w.node) (wrong-one k j w v)
      (subst (λ zs. slice_get zs k ≡ Some w.node) e w.comes.node) in
      get-one v.listed j w.node v.node at v.comes.node

  covers-not-wrong : (k : ℕ) (listed : List KeptPair) → Lists p bound links listed →
      ((i : ℕ) (x : KeptPair) → slice_get listed i ≡ Some x → IsRightNode p bound listed x) → IsWrong k → ⊥
  covers-not-wrong k listed l right w =
      let e : listed ≡ w.listed = lists-one p bound links listed w.listed l w.lists in
      w.wrong (subst (λ zs. IsRightNode p bound zs w.node) e (right k w.node
      (subst (λ zs. slice_get zs k ≡ Some w.node) (sym e) w.comes.node)))

  accepted-not-open : (k j : ℕ) (a : Action) → IsFirstAccepted p bound links k → IsFirstOpen p bound links j a → ⊥
  unfolding accepted-wrong open-wrong
  accepted-not-open k j a h o = o.is_open.unaccepted (subst (λ (z : KeptPair). IsPairAccepted p z.node)
      (wrong-node k j (accepted-wrong k h) (open-wrong j a o)) h.accepted)

  -- the action of one open node leads out at the other, which is the same
  open-out : (k j : ℕ) (a b : Action) (h : IsFirstOpen p bound links k a) (o : IsFirstOpen p bound links j b) → action_cmp a b ≡ Less → ⊥
  unfolding open-wrong
  open-out k j a b h o less =
      let e = wrong-listed k j (open-wrong k a h) (open-wrong j b o) in
      let f = wrong-node k j (open-wrong k a h) (open-wrong j b o) in
      out-not-inside o.listed o.node a (subst (λ (z : KeptPair). LeadsOut p bound o.listed z a) f
      (subst (λ zs. LeadsOut p bound zs h.node a) e h.is_open.first_out.out)) (o.is_open.first_out.first a less)

  open-one : (k j : ℕ) (a b : Action) → IsFirstOpen p bound links k a → IsFirstOpen p bound links j b → a ≡ b
  open-one k j a b h o = by_order (action_cmp a b) refl
    where
      by_order : (r : Ordering) → action_cmp a b ≡ r → a ≡ b
      by_order Less e = absurd (open-out k j a b h o e)
      by_order Equal e = actions-total.ties a b e
      by_order Greater e = absurd (open-out j k b a o h (actions-total.total.antisymm b a ∙ ap ordering_reverse e))

pub one-verdict : (p : PlainProblem) (proof : Proof) (v w : NoneVerdict) → IsNoneVerdict p proof v → IsNoneVerdict p proof w → v ≡ w
one-verdict p proof Proved Proved h k = refl
one-verdict p proof Proved (BadLink j) h k = absurd (bad-not-listed p proof.bound proof.links j h.listed k h.lists)
one-verdict p proof Proved (Accepts j) h k = absurd (covers-not-wrong p proof.bound proof.links j h.listed h.lists h.right
    (accepted-wrong p proof.bound proof.links j k))
one-verdict p proof Proved (Open j b) h k = absurd (covers-not-wrong p proof.bound proof.links j h.listed h.lists h.right
    (open-wrong p proof.bound proof.links j b k))
one-verdict p proof (BadLink i) Proved h k = absurd (bad-not-listed p proof.bound proof.links i k.listed h k.lists)
one-verdict p proof (BadLink i) (BadLink j) h k = ap BadLink (bad-one p proof.bound proof.links i j h k)
one-verdict p proof (BadLink i) (Accepts j) h k = absurd (bad-not-listed p proof.bound proof.links i k.listed h k.lists)
one-verdict p proof (BadLink i) (Open j b) h k = absurd (bad-not-listed p proof.bound proof.links i k.listed h k.lists)
one-verdict p proof (Accepts i) Proved h k = absurd (covers-not-wrong p proof.bound proof.links i k.listed k.lists k.right
    (accepted-wrong p proof.bound proof.links i h))
one-verdict p proof (Accepts i) (BadLink j) h k = absurd (bad-not-listed p proof.bound proof.links j h.listed k h.lists)
one-verdict p proof (Accepts i) (Accepts j) h k = ap Accepts (wrong-one p proof.bound proof.links i j
    (accepted-wrong p proof.bound proof.links i h) (accepted-wrong p proof.bound proof.links j k))
one-verdict p proof (Accepts i) (Open j b) h k = absurd (accepted-not-open p proof.bound proof.links i j b h k)
one-verdict p proof (Open i a) Proved h k = absurd (covers-not-wrong p proof.bound proof.links i k.listed k.lists k.right
    (open-wrong p proof.bound proof.links i a h))
one-verdict p proof (Open i a) (BadLink j) h k = absurd (bad-not-listed p proof.bound proof.links j h.listed k h.lists)
one-verdict p proof (Open i a) (Accepts j) h k = absurd (accepted-not-open p proof.bound proof.links j i a k h)
one-verdict p proof (Open i a) (Open j b) h k = ap₂ Open (wrong-one p proof.bound proof.links i j
    (open-wrong p proof.bound proof.links i a h) (open-wrong p proof.bound proof.links j b k))
    (open-one p proof.bound proof.links i j a b h k)
