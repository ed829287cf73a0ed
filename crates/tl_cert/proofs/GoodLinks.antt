-- What the links of a proof list: one list of nodes, each at the end of its path.
use Rattle.std.proofs.Common.{◌≡◌, ◌≢◌, ◌≤◌, ◌<◌, ◌⊎◌, ℕ, zero, suc, List, [], ◌∷◌, ◌++◌, length, take, slice_get, Option, Some, refl, sym}
use Rattle.std.proofs.Common.{ap, ap₂, ◌∙◌, subst, inl, inr, arith}
use Rattle.std.proofs.lemmas.Option.{slice_get_within}
use Rattle.tl_syntax.specs.declared.action.Action.{Action}
use Rattle.tl_syntax.specs.Trees.{falsum}
use Rattle.tl_terms.specs.Pairs.{Pair, pair_of}
use Rattle.tl_terms.specs.Problem.{PlainProblem}
use Rattle.tl_search.specs.KeptPairs.{KeptPair}
use Rattle.tl_search.specs.PairGraph.{next_pair, pair_graph}
use Rattle.tl_search.proofs.ListLaws.{get-old, get-one, get-single, get-either}
use Rattle.tl_search.proofs.PathLaws.{pair-onward, unless-pruned}
use Rattle.tl_search.proofs.WalkLaws.{length-snoc}
use Rattle.tl_cert.specs.declared.proof.Link.{Link}
use Rattle.tl_cert.specs.Checking.{AreShort}
use Rattle.tl_cert.specs.Links.{IsGood, ListsRoot, AreGood, Lists}

-- two nodes with one pair and one path are the same
same-node : (x y : KeptPair) → x.node ≡ y.node → x.path ≡ y.path → x ≡ y
same-node x y e f = let r : Pair → List Action → KeptPair = λ n q. record { node = n; path = q } in ap₂ r e f

module _ (p : PlainProblem) (bound : Option ℕ) where
  -- a good link lists one node
  pub good-one : (listed : List KeptPair) (link : Link) (x y : KeptPair) → IsGood p bound listed link x → IsGood p bound listed link y → x ≡
      y
  good-one listed link x y g h =
      let f : g.from ≡ h.from = get-one listed link.from g.from h.from g.is_from h.is_from in
      let n : Some x.node ≡ Some y.node = sym g.leads ∙ (ap (λ (z : KeptPair). next_pair p z.node link.action) f ∙ h.leads) in
      same-node x y (let d : x.node ≡ y.node = cc in d) (g.path ∙ (ap (λ (z : KeptPair). z.path ++ link.action ∷ []) f ∙ sym h.path))

  pub are-good-one : (old : List KeptPair) (links : List Link) (xs ys : List KeptPair) → AreGood p bound old links xs →
      AreGood p bound old links ys → xs ≡ ys
  are-good-one old [] xs ys g h = g ∙ sym h
  are-good-one old (link ∷ links) xs ys g h =
      let e : g.0 ≡ h.0 = good-one old link g.0 h.0 g.1 h.1 in
      are-good-one (old ++ h.0 ∷ []) links xs ys (subst (λ (z : KeptPair). AreGood p bound (old ++ z ∷ []) links xs) e g.2) h.2

  root-one : (xs ys : List KeptPair) → ListsRoot p xs → ListsRoot p ys → xs ≡ ys
  root-one xs ys g h = by_cases g.2 h.2
    where
      same : g.0 ≡ h.0
      same = let d : Some g.0 ≡ Some h.0 = sym g.1 ∙ h.1 in cc

      formulas : g.0.formula ≡ h.0.formula
      formulas = ap (λ (z : Pair). z.formula) same

      by_cases : ((g.0.formula ≡ falsum) × (xs ≡ [])) ⊎ ((g.0.formula ≢ falsum) × (xs ≡ record { node = g.0; path = [] } ∷ [])) →
          ((h.0.formula ≡ falsum) × (ys ≡ [])) ⊎ ((h.0.formula ≢ falsum) × (ys ≡ record { node = h.0; path = [] } ∷ [])) → xs ≡ ys
      by_cases (inl a) (inl b) = a.1 ∙ sym b.1
      by_cases (inl a) (inr b) = absurd (b.0 (sym formulas ∙ a.0))
      by_cases (inr a) (inl b) = absurd (a.0 (formulas ∙ b.0))
      by_cases (inr a) (inr b) = let r : Pair → List KeptPair = λ n. record { node = n; path = [] } ∷ [] in a.1 ∙ (ap r same ∙ sym b.1)

  -- links list one list of nodes
  pub lists-one : (links : List Link) (xs ys : List KeptPair) → Lists p bound links xs → Lists p bound links ys → xs ≡ ys
  lists-one links xs ys g h = are-good-one h.0 links xs ys (subst (λ zs. AreGood p bound zs links xs) (root-one g.0 h.0 g.1 h.1) g.2) h.2

  -- listed nodes keep their numbers
  pub good-stay : (old : List KeptPair) (links : List Link) (new : List KeptPair) (i : ℕ) (x : KeptPair) → AreGood p bound old links new →
      slice_get old i ≡ Some x → slice_get new i ≡ Some x
  good-stay old [] new i x g e = subst (λ zs. slice_get zs i ≡ Some x) (sym g) e
  good-stay old (link ∷ links) new i x g e = good-stay (old ++ g.0 ∷ []) links new i x g.2 (get-old old (g.0 ∷ []) i x e)

  -- one good link more at the end
  pub good-more : (old : List KeptPair) (links : List Link) (mid : List KeptPair) (link : Link) (next : KeptPair) →
      AreGood p bound old links mid → IsGood p bound mid link next → AreGood p bound old (links ++ link ∷ []) (mid ++ next ∷ [])
  good-more old [] mid link next g h = (next, subst (λ zs. IsGood p bound zs link next) g h, ap (λ zs. zs ++ next ∷ []) g)
  good-more old (l ∷ links) mid link next g h = (g.0, g.1, good-more (old ++ g.0 ∷ []) links mid link next g.2 h)

  -- of good links, each is good after those before it
  pub good-at : (old : List KeptPair) (links : List Link) (new : List KeptPair) (k : ℕ) (link : Link) → AreGood p bound old links new →
      slice_get links k ≡ Some link → (mid : List KeptPair) × (next : KeptPair) × AreGood p bound old (take k links) mid ×
      IsGood p bound mid link next
  good-at old [] new k link g e = let b : ⊥ = cc in absurd b
  good-at old (l ∷ links) new zero link g e = let d : l ≡ link = cc in
      (old, g.0, refl, subst (λ (z : Link). IsGood p bound old z g.0) d g.1)
  good-at old (l ∷ links) new (suc k) link g e = let h = good-at (old ++ g.0 ∷ []) links new k link g.2 e in
      (h.0, h.1, (g.0, g.1, h.2), h.3)

  -- so are those of the first n links
  pub good-before : (old : List KeptPair) (links : List Link) (n : ℕ) (new : List KeptPair) (k : ℕ) (link : Link) →
      AreGood p bound old (take n links) new → k < n → slice_get links k ≡ Some link → (mid : List KeptPair) × (next : KeptPair) ×
      AreGood p bound old (take k links) mid × IsGood p bound mid link next
  good-before old [] n new k link g less e = let b : ⊥ = cc in absurd b
  good-before old (l ∷ links) zero new k link g less e = let b : ⊥ = omega arith in absurd b
  good-before old (l ∷ links) (suc n) new zero link g less e = let d : l ≡ link = cc in
      (old, g.0, refl, subst (λ (z : Link). IsGood p bound old z g.0) d g.1)
  good-before old (l ∷ links) (suc n) new (suc k) link g less e = let h =
      good-before (old ++ g.0 ∷ []) links n new k link g.2 (omega arith) e in (h.0, h.1, (g.0, g.1, h.2), h.3)

  -- ---- the paths of listed nodes

  -- the node is at the end of its path, and its formula is not FALSE
  abbrev pub IsAtEnd : KeptPair → Type 0
  IsAtEnd x = (pair_of p x.path ≡ Some x.node) × (x.node.formula ≢ falsum)

  good-end : (old : List KeptPair) (links : List Link) (new : List KeptPair) → AreGood p bound old links new →
      ((i : ℕ) (x : KeptPair) → slice_get old i ≡ Some x → IsAtEnd x) → (i : ℕ) (x : KeptPair) → slice_get new i ≡ Some x → IsAtEnd x
  good-end old [] new g h i x e = h i x (subst (λ zs. slice_get zs i ≡ Some x) g e)
  good-end old (link ∷ links) new g h i x e = good-end (old ++ g.0 ∷ []) links new g.2 more i x e
    where
      last : IsAtEnd g.0
      last = (
        subst (λ q. pair_of p q ≡ Some g.0.node) (sym g.1.path) (pair-onward p g.1.from.path link.action g.1.from.node
            (h link.from g.1.from g.1.is_from).0 ∙ g.1.leads),
        g.1.unpruned,
      )

      more : (j : ℕ) (y : KeptPair) → slice_get (old ++ g.0 ∷ []) j ≡ Some y → IsAtEnd y
      more j y f = elim (get-either old g.0 j y f) [ inl k ↦ h j y k | inr k ↦ subst IsAtEnd k.1 last ]

  root-end : (first : List KeptPair) → ListsRoot p first → (i : ℕ) (x : KeptPair) → slice_get first i ≡ Some x → IsAtEnd x
  root-end first r i x e = by_cases r.2
    where
      by_cases : ((r.0.formula ≡ falsum) × (first ≡ [])) ⊎ ((r.0.formula ≢ falsum) × (first ≡ record { node = r.0; path = [] } ∷ [])) →
          IsAtEnd x
      by_cases (inl a) = let d : slice_get [] i ≡ Some x = subst (λ zs. slice_get zs i ≡ Some x) a.1 e in let b : ⊥ = cc in absurd b
      by_cases (inr a) =
          let node : KeptPair = record { node = r.0; path = [] } in
          let d : slice_get (node ∷ []) i ≡ Some x = subst (λ zs. slice_get zs i ≡ Some x) a.1 e in
          subst IsAtEnd (get-single node i x d).1 (r.1, a.0)

  pub lists-end : (links : List Link) (listed : List KeptPair) → Lists p bound links listed → (i : ℕ) (x : KeptPair) → slice_get listed i ≡
      Some x → IsAtEnd x
  lists-end links listed h = good-end h.0 links listed h.2 (root-end h.0 h.1)

  -- paths stay short
  pub short-more : (listed : List KeptPair) (link : Link) (next : KeptPair) → IsGood p bound listed link next → AreShort listed →
      AreShort (listed ++ next ∷ [])
  short-more listed link next g h i x e = elim (get-either listed next i x e) [
    | inl k ↦ h i x k
    | inr k ↦ (
        let q : length next.path ≡ suc (length g.from.path) = ap length g.path ∙ length-snoc g.from.path link.action in
        let r : length g.from.path ≤ link.from = h link.from g.from g.is_from in
        let s : link.from < length listed = slice_get_within listed link.from g.from g.is_from in
        let t : length x.path ≡ length next.path = ap (λ (z : KeptPair). length z.path) (sym k.1) in
        omega (arith, q, r, s, t, k.0))
  ]

  -- ---- the root

  -- the root of the graph of pairs is listed first
  pub root-listed : (links : List Link) (listed : List KeptPair) (v : Pair) → Lists p bound links listed → (pair_graph p).root ≡ Some v →
      slice_get listed 0 ≡ Some (record { node = v; path = [] })
  unfolding pair_graph
  root-listed links listed v h e = good-stay h.0 links listed 0 (record { node = v; path = [] }) h.2 (by_cases h.1.2)
    where
      is_root : (pair_of p [] ≡ Some v) × (v.formula ≢ falsum)
      is_root = (unless-pruned (pair_of p []) v).0 e

      same : h.1.0 ≡ v
      same = let d : Some h.1.0 ≡ Some v = sym h.1.1 ∙ is_root.0 in cc

      by_cases : ((h.1.0.formula ≡ falsum) × (h.0 ≡ [])) ⊎ ((h.1.0.formula ≢ falsum) × (h.0 ≡ record { node = h.1.0; path = [] } ∷ [])) →
          slice_get h.0 0 ≡ Some (record { node = v; path = [] })
      by_cases (inl a) = absurd (is_root.1 (ap (λ (z : Pair). z.formula) (sym same) ∙ a.0))
      by_cases (inr a) = let r : Pair → Option KeptPair = λ n. Some (record { node = n; path = [] }) in ap (λ zs. slice_get zs 0) a.1 ∙
          ap r same
