-- Kept pairs as lists: worlds and trees that stay, paths, and one more pair at the end.
use Rattle.std.proofs.Common.{◌≡◌, ◌<◌, ℕ, zero, suc, ◌+◌, List, [], ◌∷◌, ◌++◌, fold, length, slice_get, slice_index_or, Some, inl, inr}
use Rattle.std.proofs.Common.{refl, sym, ap, ap₂, subst, ◌∙◌, arith, length-append}
use Rattle.std.proofs.lemmas.List.Sums.{fold-append}
use Rattle.std.proofs.lemmas.Option.{slice_get_within, slice_get-get_or, get_or_from_slice_get}
use Rattle.tl_syntax.specs.declared.action.Action.{Action}
use Rattle.tl_syntax.specs.Lists.{Each}
use Rattle.tl_syntax.specs.Named.{IsNamed}
use Rattle.tl_syntax.specs.Signature.{Signature}
use Rattle.tl_syntax.specs.Trees.{FormulaTree, verum}
use Rattle.tl_syntax.proofs.ListLaws.{Each-append}
use Rattle.tl_terms.specs.Pairs.{Pair}
use Rattle.tl_terms.specs.Problem.{PlainProblem}
use Rattle.tl_terms.specs.ProblemMeaning.{world_of}
use Rattle.tl_terms.specs.World.{World}
use Rattle.tl_nodes.specs.NodeTrees.{tree_at}
use Rattle.tl_progress.specs.Sentences.{IsSentence}
use Rattle.tl_search.specs.KeptPairs.{KeptPair}
use Rattle.tl_search.specs.Kept.{AreKept}
use Rattle.tl_search.specs.Graphs.{walk}
use Rattle.tl_search.specs.PairGraph.{pair_graph}
use Rattle.tl_search.proofs.ListLaws.{get-old, get-new, get-either, get-inside}
use Rattle.tl_search.proofs.WalkLaws.{by_last, length-snoc}
use Rattle.tl_space.specs.declared.numbers.Numbers.{Numbers}
use Rattle.tl_space.specs.declared.numbers.Met.{Met}
use Rattle.tl_space.specs.declared.numbers.Met.TheVariants as met
use Rattle.tl_space.specs.Kept.{world_at, node_at, nodes_at, path_by, paths_of, kept_over, IsLabel, AreNumbers, ComeFromEarlier}
use Rattle.tl_space.specs.Kept.{BeginsEmpty, AreWalks, IsNamedMet, MayMeet, AreKeptBy}
use Rattle.tl_known.specs.NumberedLists.{Stay, IsOnce, IsAdded}

-- ---- the lists

pub kept-snoc : (ws : List World) (ts : List FormulaTree) (ns : List Numbers) (ps : List (List Action)) (n : Numbers) (q : List Action) →
    length ns ≡ length ps
    → kept_over ws ts (ns ++ n ∷ []) (ps ++ q ∷ []) ≡ kept_over ws ts ns ps ++ record { node = node_at ws ts n; path = q } ∷ []
unfolding kept_over
kept-snoc ws ts [] [] n q h = refl
kept-snoc ws ts [] (p ∷ ps) n q h = let b : ⊥ = omega (arith, h) in absurd b
kept-snoc ws ts (m ∷ ns) [] n q h = let b : ⊥ = omega (arith, h) in absurd b
kept-snoc ws ts (m ∷ ns) (p ∷ ps) n q h = ap (λ xs. record { node = node_at ws ts m; path = p } ∷ xs)
    (kept-snoc ws ts ns ps n q (omega (arith, h)))

pub kept-length : (ws : List World) (ts : List FormulaTree) (ns : List Numbers) (ps : List (List Action)) → length ns ≡ length ps →
    length (kept_over ws ts ns ps) ≡ length ns
unfolding kept_over
kept-length ws ts [] ps h = refl
kept-length ws ts (m ∷ ns) [] h = let b : ⊥ = omega (arith, h) in absurd b
kept-length ws ts (m ∷ ns) (p ∷ ps) h = ap suc (kept-length ws ts ns ps (omega (arith, h)))

pub record IsKeptAt (ws : List World) (ts : List FormulaTree) (ns : List Numbers) (ps : List (List Action)) (i : ℕ)
    (x : KeptPair) : Type 0 where
  pub numbers : Numbers
  pub is_there : slice_get ns i ≡ Some numbers
  pub is_node : x.node ≡ node_at ws ts numbers
  pub is_path : slice_get ps i ≡ Some x.path

pub kept-get : (ws : List World) (ts : List FormulaTree) (ns : List Numbers) (ps : List (List Action)) (i : ℕ) (x : KeptPair) →
    slice_get (kept_over ws ts ns ps) i ≡ Some x → IsKeptAt ws ts ns ps i x
unfolding kept_over
kept-get ws ts [] ps i x e = cc
kept-get ws ts (m ∷ ns) [] i x e = cc
kept-get ws ts (m ∷ ns) (p ∷ ps) zero x e =
    let d : record { node = node_at ws ts m; path = p } ≡ x = cc in
    record { numbers = m; is_there = refl; is_node = ap (λ (z : KeptPair). z.node) (sym d); is_path = ap (λ (z : KeptPair). Some z.path) d }
kept-get ws ts (m ∷ ns) (p ∷ ps) (suc i) x e =
    let k = kept-get ws ts ns ps i x e in
    record { numbers = k.numbers; is_there = k.is_there; is_node = k.is_node; is_path = k.is_path }

pub kept-at : (ws : List World) (ts : List FormulaTree) (ns : List Numbers) (ps : List (List Action)) (i : ℕ) (n : Numbers)
    (q : List Action) → slice_get ns i ≡ Some n → slice_get ps i ≡ Some q
    → slice_get (kept_over ws ts ns ps) i ≡ Some (record { node = node_at ws ts n; path = q })
unfolding kept_over
kept-at ws ts [] ps i n q e f = cc
kept-at ws ts (m ∷ ns) [] i n q e f = cc
kept-at ws ts (m ∷ ns) (p ∷ ps) zero n q e f =
    let d : m ≡ n = cc in let c : p ≡ q = cc in ap₂ (λ (a : Numbers) (b : List Action). Some (record { node = node_at ws ts a; path = b }))
    d c
kept-at ws ts (m ∷ ns) (p ∷ ps) (suc i) n q e f = kept-at ws ts ns ps i n q e f

-- ---- worlds and trees that stay

stay-at : {A : Type 0} (xs ys : List A) (d : A) (i : ℕ) → Stay xs ys → i < length xs → slice_index_or ys i d ≡ slice_index_or xs i d
stay-at xs ys d i s h = get_or_from_slice_get ys i (slice_index_or xs i d) d (s i (slice_index_or xs i d) (slice_get-get_or xs i d h))

pub stay-longer : {A : Type 0} (xs ys : List A) (i : ℕ) → Stay xs ys → i < length xs → i < length ys
stay-longer xs ys i s h = let k = get-inside xs i h in slice_get_within ys i k.0 (s i k.0 k.1)

pub added-stay : {A : Type 0} (xs : List A) (x : A) (ys : List A) → IsAdded xs x ys → Stay xs ys
added-stay xs x ys (inl e) i y h = subst (λ zs. slice_get zs i ≡ Some y) (sym e) h
added-stay xs x ys (inr e) i y h = subst (λ zs. slice_get zs i ≡ Some y) (sym e) (get-old xs (x ∷ []) i y h)

pub each-more : {A : Type 0} (P : A → Type 0) (xs : List A) (x : A) → Each P xs → P x → Each P (xs ++ x ∷ [])
each-more P xs x h p = (Each-append P xs (x ∷ [])).1 (h, (p, tt))

pub each-added : {A : Type 0} (P : A → Type 0) (xs : List A) (x : A) (ys : List A) → IsAdded xs x ys → Each P xs → P x → Each P ys
each-added P xs x ys (inl e) h p = subst (Each P) (sym e) h
each-added P xs x ys (inr e) h p = subst (Each P) (sym e) (each-more P xs x h p)

-- the numbers are given
abbrev pub IsGiven : List World → List FormulaTree → Numbers → Type 0
IsGiven ws ts n = (n.world < length ws) × (n.label < length ts)

abbrev pub AreGiven : List World → List FormulaTree → List Numbers → Type 0
AreGiven ws ts ns = (i : ℕ) (n : Numbers) → slice_get ns i ≡ Some n → IsGiven ws ts n

pub label-stays : (g : Signature) (c : ℕ) (ts us : List FormulaTree) (l : ℕ) → Stay ts us → IsLabel g c ts l → IsLabel g c us l
label-stays g c ts us l t h = record {
  inside = stay-longer ts us l t h.inside;
  sentence = subst (IsSentence g) (sym (stay-at ts us verum l t h.inside)) h.sentence;
  named = subst (IsNamed c) (sym (stay-at ts us verum l t h.inside)) h.named;
}

pub numbers-stay : (g : Signature) (c : ℕ) (ws vs : List World) (ts us : List FormulaTree) (n : Numbers) → Stay ws vs → Stay ts us →
    AreNumbers g c ws ts n → AreNumbers g c vs us n
numbers-stay g c ws vs ts us n s t h = record {
  world = stay-longer ws vs n.world s h.world;
  label =
      label-stays g c ts us n.label t h.label;
}

pub world-stays : (ws vs : List World) (i : ℕ) → Stay ws vs → i < length ws → world_at vs i ≡ world_at ws i
world-stays ws vs i s h = stay-at ws vs (world_of [] []) i s h

pub tree-stays : (ts us : List FormulaTree) (i : ℕ) → Stay ts us → i < length ts → tree_at us i ≡ tree_at ts i
tree-stays ts us i t h = stay-at ts us verum i t h

pub node-stays : (ws vs : List World) (ts us : List FormulaTree) (n : Numbers) → IsGiven ws ts n → Stay ws vs → Stay ts us →
    node_at vs us n ≡ node_at ws ts n
unfolding node_at
node-stays ws vs ts us n h s t =
    let p = world-stays ws vs n.world s h.0 in
    let q = tree-stays ts us n.label t h.1 in
    λ i. record { world = p i; formula = q i }

pub kept-stays : (ws vs : List World) (ts us : List FormulaTree) (ns : List Numbers) (ps : List (List Action)) → AreGiven ws ts ns →
    Stay ws vs → Stay ts us → kept_over vs us ns ps ≡ kept_over ws ts ns ps
unfolding kept_over
kept-stays ws vs ts us [] ps h s t = refl
kept-stays ws vs ts us (n ∷ ns) [] h s t = refl
kept-stays ws vs ts us (n ∷ ns) (p ∷ ps) h s t =
    ap₂ (λ (x : Pair) (xs : List KeptPair). record { node = x; path = p } ∷ xs) (node-stays ws vs ts us n (h 0 n refl) s t)
    (kept-stays ws vs ts us ns ps (λ i m e. h (suc i) m e) s t)

pub nodes-stay : (ws vs : List World) (ts us : List FormulaTree) (ns : List Numbers) → AreGiven ws ts ns → Stay ws vs → Stay ts us →
    nodes_at vs us ns ≡ nodes_at ws ts ns
nodes-stay ws vs ts us [] h s t = refl
nodes-stay ws vs ts us (n ∷ ns) h s t = ap₂ (λ (x : Pair) (xs : List Pair). x ∷ xs) (node-stays ws vs ts us n (h 0 n refl) s t)
    (nodes-stay ws vs ts us ns (λ i m e. h (suc i) m e) s t)

pub are-given : (g : Signature) (c : ℕ) (p : PlainProblem) (ws : List World) (ts : List FormulaTree) (ns : List Numbers) (ms : List Met) →
    AreKeptBy g c p ws ts ns ms → AreGiven ws ts ns
are-given g c p ws ts ns ms h i n e = let k = h.numbers i n e in (k.world, k.label.inside)

-- what is kept stays so where worlds and trees keep their numbers
pub kept-by-stays : (g : Signature) (c : ℕ) (p : PlainProblem) (ws vs : List World) (ts us : List FormulaTree) (ns : List Numbers)
    (ms : List Met) → Stay ws vs → Stay ts us → AreKeptBy g c p ws ts ns ms → AreKeptBy g c p vs us ns ms
kept-by-stays g c p ws vs ts us ns ms s t h = record {
  all_met = h.all_met;
  once = h.once;
  numbers = λ i n e. numbers-stay g c ws vs ts us n s t (h.numbers i n e);
  earlier = h.earlier;
  begins = h.begins;
  walks = subst (AreWalks p) (sym (kept-stays ws vs ts us ns (paths_of ms) (are-given g c p ws ts ns ms h) s t)) h.walks;
  named = h.named;
}

-- ---- paths

pub paths-snoc : (ms : List Met) (m : Met) → paths_of (ms ++ m ∷ []) ≡ paths_of ms ++ path_by (paths_of ms) m ∷ []
unfolding paths_of
paths-snoc ms m = fold-append (λ ps m. ps ++ path_by ps m ∷ []) [] ms (m ∷ [])

folded-length : (ms : List Met) (ps : List (List Action)) → length (fold (λ qs m. qs ++ path_by qs m ∷ []) ps ms) ≡ length ps + length ms
folded-length [] ps = omega arith
folded-length (m ∷ ms) ps = folded-length ms (ps ++ path_by ps m ∷ []) ∙ simp length-append (omega arith)

pub paths-length : (ms : List Met) → length (paths_of ms) ≡ length ms
unfolding paths_of
paths-length ms = folded-length ms [] ∙ omega arith

pub begins-more : (ms : List Met) (m : Met) → BeginsEmpty ms → MayMeet ms m → BeginsEmpty (ms ++ m ∷ [])
unfolding path_by
begins-more ms m b h q e =
    elim (get-either (paths_of ms) (path_by (paths_of ms) m) 0 q (subst (λ ps. slice_get ps 0 ≡ Some q) (paths-snoc ms m) e)) [
      | inl k ↦ b q k
      | inr k ↦ at_end m h (k.0 ∙ paths-length ms) k.1
    ]
  where
    at_end : (m : Met) → MayMeet ms m → 0 ≡ length ms → path_by (paths_of ms) m ≡ q → length q ≡ 0
    at_end met.First h z e = ap length (sym e)
    at_end (met.After j a) h z e = let b : ⊥ = omega (arith, z, h) in absurd b

pub earlier-more : (ms : List Met) (m : Met) → ComeFromEarlier ms → MayMeet ms m → ComeFromEarlier (ms ++ m ∷ [])
earlier-more ms m c h i j a e =
    elim (get-either ms m i (met.After j a) e) [
      | inl k ↦ c i j a k
      | inr k ↦ at_end m h k.1 k.0
    ]
  where
    at_end : (m : Met) → MayMeet ms m → m ≡ met.After j a → i ≡ length ms → j < i
    at_end met.First h e l = cc
    at_end (met.After k b) h e l = let d : k ≡ j = cc in omega (arith, d, l, h)

-- the path of a pair goes by that of the pair before it
pub path-is : (ms : List Met) → ComeFromEarlier ms → (i : ℕ) (m : Met) → slice_get ms i ≡ Some m → slice_get (paths_of ms) i ≡
    Some (path_by (paths_of ms) m)
unfolding path_by
path-is = by_last (λ ms. ComeFromEarlier ms → (i : ℕ) (m : Met) → slice_get ms i ≡ Some m → slice_get (paths_of ms) i ≡
    Some (path_by (paths_of ms) m)) (λ c i m e. cc) more
  where
    reads : (ps : List (List Action)) (q : List Action) (i : ℕ) (m : Met) → ((j : ℕ) (a : Action) → m ≡ met.After j a → j < length ps) →
        path_by (ps ++ q ∷ []) m ≡ path_by ps m
    reads ps q i met.First h = refl
    reads ps q i (met.After j a) h = let k = get-inside ps j (h j a refl) in
        ap (λ (p : List Action). p ++ a ∷ []) (get_or_from_slice_get (ps ++ q ∷ []) j k.0 [] (get-old ps (q ∷ []) j k.0 k.1) ∙
        sym (get_or_from_slice_get ps j k.0 [] k.1))

    more : (ms : List Met) (n : Met) → (ComeFromEarlier ms → (i : ℕ) (m : Met) → slice_get ms i ≡ Some m → slice_get (paths_of ms) i ≡
        Some (path_by (paths_of ms) m))
        → ComeFromEarlier (ms ++ n ∷ []) → (i : ℕ) (m : Met) → slice_get (ms ++ n ∷ []) i ≡ Some m → slice_get (paths_of (ms ++ n ∷ [])) i ≡
        Some (path_by (paths_of (ms ++ n ∷ [])) m)
    more ms n earlier c i m e =
        let old : ComeFromEarlier ms = λ k j a f. c k j a (get-old ms (n ∷ []) k (met.After j a) f) in
        let ps = paths_of ms in
        let q = path_by ps n in
        let inside : i < length ms + 1 = subst (λ l. i < l) (length-append ms (n ∷ [])) (slice_get_within (ms ++ n ∷ []) i m e) in
        let len : length ps ≡ length ms = paths-length ms in
        let r = reads ps q i m (λ j a f. let l : j < i = c i j a (e ∙ ap (λ z. Some z) f) in omega (arith, len, l, inside)) in
        let at : slice_get (ps ++ q ∷ []) i ≡ Some (path_by ps m) = elim (get-either ms n i m e) [
          | inl k ↦ get-old ps (q ∷ []) i (path_by ps m) (earlier old i m k)
          | inr k ↦ subst (λ l. slice_get (ps ++ q ∷ []) l ≡ Some (path_by ps m)) (len ∙ sym k.0)
              (get-new ps q ∙ ap (λ z. Some (path_by ps z)) k.1)
        ] in
        subst (λ zs. slice_get zs i ≡ Some (path_by zs m)) (sym (paths-snoc ms n)) (at ∙ ap (λ z. Some z) (sym r))

-- ---- what is kept

-- numbers that are given and are of the same pair are the same
same-numbers : (ws : List World) (ts : List FormulaTree) (n m : Numbers) → IsOnce ws → IsOnce ts → IsGiven ws ts n → IsGiven ws ts m →
    node_at ws ts n ≡ node_at ws ts m → n ≡ m
unfolding node_at
same-numbers ws ts n m ow ot h k e =
    let e_world : world_at ws n.world ≡ world_at ws m.world = ap (λ (z : Pair). z.world) e in
    let e_tree : tree_at ts n.label ≡ tree_at ts m.label = ap (λ (z : Pair). z.formula) e in
    let p : n.world ≡ m.world = ow n.world m.world (world_at ws n.world) (slice_get-get_or ws n.world (world_of [] []) h.0)
    (slice_get-get_or ws m.world (world_of [] []) k.0 ∙ ap (λ z. Some z) (sym e_world)) in
    let q : n.label ≡ m.label = ot n.label m.label (tree_at ts n.label) (slice_get-get_or ts n.label verum h.1)
    (slice_get-get_or ts m.label verum k.1 ∙ ap (λ z. Some z) (sym e_tree)) in
    λ i. record { world = p i; label = q i }

pub empty-length : {A : Type 0} (xs : List A) → length xs ≡ 0 → xs ≡ []
empty-length [] h = refl
empty-length (x ∷ xs) h = let b : ⊥ = omega (arith, h) in absurd b

pub are-kept : (g : Signature) (c : ℕ) (p : PlainProblem) (ws : List World) (ts : List FormulaTree) (ns : List Numbers) (ms : List Met) →
    IsOnce ws → IsOnce ts → AreKeptBy g c p ws ts ns ms → AreKept (pair_graph p) (kept_over ws ts ns (paths_of ms))
are-kept g c p ws ts ns ms ow ot h = record {
  begins = λ x e. empty-length x.path (h.begins x.path (kept-get ws ts ns (paths_of ms) 0 x e).is_path);
  walks = h.walks;
  differ = λ i j x y e f s.
      let k = kept-get ws ts ns (paths_of ms) i x e in
      let l = kept-get ws ts ns (paths_of ms) j y f in
      let given = are-given g c p ws ts ns ms h in
      let same : k.numbers ≡ l.numbers = same-numbers ws ts k.numbers l.numbers ow ot (given i k.numbers k.is_there)
      (given j l.numbers l.is_there) (sym k.is_node ∙ (s ∙ l.is_node)) in
      h.once i j k.numbers k.is_there (l.is_there ∙ ap (λ z. Some z) (sym same));
}

-- ---- one more pair

once-more : {A : Type 0} (xs : List A) (x : A) → IsOnce xs → ((i : ℕ) → slice_get xs i ≡ Some x → ⊥) → IsOnce (xs ++ x ∷ [])
once-more xs x one new i j u h k =
    elim (get-either xs x i u h) [
      | inl a ↦ elim (get-either xs x j u k) [ inl b ↦ one i j u a b | inr b ↦ absurd (new i (a ∙ ap (λ z. Some z) (sym b.1))) ]
      | inr a ↦ elim (get-either xs x j u k) [ inl b ↦ absurd (new j (b ∙ ap (λ z. Some z) (sym a.1))) | inr b ↦ a.0 ∙ sym b.0 ]
    ]

walks-more : (p : PlainProblem) (kept : List KeptPair) (y : KeptPair) → AreWalks p kept → walk (pair_graph p) y.path ≡ Some y.node →
    AreWalks p (kept ++ y ∷ [])
walks-more p kept y h k i x e = elim (get-either kept y i x e) [
  | inl a ↦ h i x a
  | inr a ↦ subst
      (λ (z : KeptPair). walk (pair_graph p) z.path ≡ Some z.node) a.1 k
]

module _ (g : Signature) (c : ℕ) (p : PlainProblem) (ws : List World) (ts : List FormulaTree) (ns : List Numbers) (ms : List Met)
    (n : Numbers) (m : Met) (h : AreKeptBy g c p ws ts ns ms) where
  pub kept-with : kept_over ws ts (ns ++ n ∷ []) (paths_of (ms ++ m ∷ [])) ≡ kept_over ws ts ns (paths_of ms) ++
      record { node = node_at ws ts n; path = path_by (paths_of ms) m } ∷ []
  kept-with =
      ap (kept_over ws ts (ns ++ n ∷ [])) (paths-snoc ms m)
      ∙ kept-snoc ws ts ns (paths_of ms) n (path_by (paths_of ms) m) (sym (paths-length ms ∙ h.all_met))

  pub kept-by-more : AreNumbers g c ws ts n → ((i : ℕ) → slice_get ns i ≡ Some n → ⊥) → MayMeet ms m → IsNamedMet c m →
      walk (pair_graph p) (path_by (paths_of ms) m) ≡ Some (node_at ws ts n) → AreKeptBy g c p ws ts (ns ++ n ∷ []) (ms ++ m ∷ [])
  kept-by-more numbers absent may named reaches = record {
    all_met = length-snoc ms m ∙ (ap suc h.all_met ∙ sym (length-snoc ns n));
    once = once-more ns n h.once absent;
    numbers = λ i k e. elim (get-either ns n i k e) [ inl a ↦ h.numbers i k a | inr a ↦ subst (AreNumbers g c ws ts) a.1 numbers ];
    earlier = earlier-more ms m h.earlier may;
    begins = begins-more ms m h.begins may;
    walks = subst (AreWalks p) (sym kept-with) (walks-more p (kept_over ws ts ns (paths_of ms))
        (record { node = node_at ws ts n; path = path_by (paths_of ms) m }) h.walks reaches);
    named = each-more (IsNamedMet c) ms m h.named named;
  }

-- ---- nothing at first

pub nothing : {A : Type 0} (xs : List A) (i : ℕ) (x : A) → xs ≡ [] → slice_get xs i ≡ Some x → ⊥
nothing xs i x e f = let g : slice_get [] i ≡ Some x = subst (λ zs. slice_get zs i ≡ Some x) e f in cc

no-paths : (ms : List Met) → ms ≡ [] → paths_of ms ≡ []
unfolding paths_of
no-paths ms e = ap paths_of e

pub none-kept : (ws : List World) (ts : List FormulaTree) (ns : List Numbers) (ps : List (List Action)) → ns ≡ [] →
    kept_over ws ts ns ps ≡ []
unfolding kept_over
none-kept ws ts ns ps e = ap (λ ms. kept_over ws ts ms ps) e

pub kept-by-none : (g : Signature) (c : ℕ) (p : PlainProblem) (ws : List World) (ts : List FormulaTree) (ns : List Numbers)
    (ms : List Met) → ns ≡ [] → ms ≡ [] → AreKeptBy g c p ws ts ns ms
kept-by-none g c p ws ts ns ms e f = record {
  all_met = ap length f ∙ sym (ap length e);
  once = λ i j x q r. absurd (nothing ns i x e q);
  numbers = λ i n q. absurd (nothing ns i n e q);
  earlier = λ i j a q. absurd (nothing ms i (met.After j a) f q);
  begins = λ q r. absurd (nothing (paths_of ms) 0 q (no-paths ms f) r);
  walks = λ i x q. absurd (nothing (kept_over ws ts ns (paths_of ms)) i x (none-kept ws ts ns (paths_of ms) e) q);
  named = subst (Each (IsNamedMet c)) (sym f) tt;
}
